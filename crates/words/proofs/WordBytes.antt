-- What searches over a word's bytes find.
use Rattle.std.proofs.Common.{◌≡◌, ◌≢◌, Bool, true, false, not, true≢false, ℕ, ◌+◌, ◌-◌, ◌*◌, ◌≤◌, ◌<◌, nat_eq, nat_le}
use Rattle.std.proofs.Common.{length, take, drop, get_or, refl, sym, ap, ◌∙◌, arith, length-drop, length-take-le}
use Rattle.std.proofs.Common.{take-take, get_or-take, get_or-drop, eq-eqb, eqb-true, le-leb, ◌⊎◌, inl, inr, Option}
use Rattle.std.proofs.Common.{Some, None, IfSome, MatchOption, MatchBool, unwrap_or}
use Rattle.std.proofs.Math.Seq.{ext_get_or}
use Rattle.std.specs.Bool.{one_answer, Decides}
use Rattle.std.specs.List.{AllWithin, HoldsAt}
use Rattle.std.proofs.lemmas.Bool.{lt-leb, cases_lt}
use Rattle.std.proofs.Math.Option as math
use Rattle.rules.specs.Answer.{Bytes, first_below, ◌⇒◌}
use Rattle.rules.specs.Limits.{word_width, word_limit, words_length}
use Rattle.rules.specs.Words.{word_byte, is_letter, or_12, letters, word, zeros_from, same_word, ok33}
use Rattle.rules.proofs.Search.{from_none, from_some, all_below_true, all_below_all, found}

-- x is word i of a whole table.
pub record IsWord (w : Bytes) (i : ℕ) (x : Bytes) : Type 0 where
  pub whole : length w ≡ words_length
  pub there : i < word_limit
  pub is : x ≡ take word_width (drop (word_width * i) w)

module _ {w : Bytes} {i : ℕ} {x : Bytes} where
  pub word_length : IsWord w i x → length x ≡ word_width
  word_length h =
      let l = h.there in
      let e = h.whole in
      ap length h.is ∙ length-take-le word_width (drop (word_width * i) w) (simp length-drop (omega arith))

  byte_is : IsWord w i x → (k : ℕ) → k < word_width → word_byte w i k ≡ get_or x k 0
  byte_is h k l =
      sym (ap (λ (b : Bytes). get_or b k 0) h.is ∙ get_or-take word_width (drop (word_width * i) w) k 0 l ∙ get_or-drop (word_width * i) w k 0)

  pub letters_within : IsWord w i x → (o : Option ℕ) → IfSome o (λ n. n < length x) → unwrap_or o word_width ≤ length x
  letters_within h None f = omega (arith, word_length h)
  letters_within h (Some n) f = omega arith

  -- the place of the first byte that is no letter, or 12
  pub letters_are : IsWord w i x → (o : Option ℕ)
      → MatchOption o (AllWithin (λ c. is_letter c ≡ true) x 0 (length x)) (λ n. (n < length x) × HoldsAt (λ c. is_letter c ≡ false) x n × AllWithin (λ c. is_letter c ≡ true) x 0 n)
      → (unwrap_or o word_width ≡ letters w i) × (unwrap_or o word_width ≤ word_width)
  unfolding letters
  letters_are h None f = (
    sym (ap or_12 (from_none (λ j. not (is_letter (word_byte w i j))) word_width 0 (λ k a b. ap not (ap is_letter (byte_is h k (omega arith)) ∙ f k 0 (omega arith) (omega (arith, word_length h)))))),
    omega arith,
  )
  letters_are h (Some n) f =
      let l : n < word_width = omega (arith, f.0, word_length h) in (
        sym
            (ap or_12
            (from_some (λ j. not (is_letter (word_byte w i j))) word_width 0 n (omega arith) (omega arith)
            (λ k a b. ap not (ap is_letter (byte_is h k (omega arith)) ∙ f.2 k 0 (omega arith) b))
            (ap not (ap is_letter (byte_is h n l) ∙ f.1 0)))),
        omega arith,
      )

  -- the bytes before that place
  pub letters_word : IsWord w i x → (n : ℕ) → n ≡ letters w i → n ≤ word_width
      → (take n x ≡ word w i) × (length (take n x) ≡ letters w i) × (length (take n x) ≤ word_width)
  unfolding word
  letters_word h n e l =
      let k : length (take n x) ≡ n = length-take-le n x (omega (arith, word_length h)) in (
        ap (take n) h.is ∙ take-take n word_width (drop (word_width * i) w) l ∙ ap (λ (m : ℕ). take m (drop (word_width * i) w)) e,
        k ∙ e,
        omega (arith, k),
      )

  -- byte k of what follows the first n
  rest_is : IsWord w i x → (n k : ℕ) → n + k < word_width → word_byte w i (n + k) ≡ get_or (drop n x) k 0
  rest_is h n k l = byte_is h (n + k) l ∙ sym (get_or-drop n x k 0)

  pub zeros_are : IsWord w i x → (n : ℕ) → n ≤ word_width → (b : Bool)
      → MatchBool b (AllWithin (λ c. c ≡ 0) (drop n x) 0 (length (drop n x))) ((k : ℕ) × (k < length (drop n x)) × HoldsAt (λ c. c ≢ 0) (drop n x) k)
      → b ≡ zeros_from w i n
  zeros_are h n l b f = one_answer b (zeros_from w i n) (told b f) (all_below_all word_width asked, all_below_true word_width asked)
    where
      asked : ℕ → Bool
      asked k = nat_le n k ⇒ nat_eq (word_byte w i k) 0

      zero : AllWithin (λ c. c ≡ 0) (drop n x) 0 (length (drop n x)) → (k : ℕ) → k < word_width → (k < n) ⊎ (n ≤ k) → asked k ≡ true
      zero f k a (inl m) = rw (lt-leb n k m)
      zero f k a (inr m) =
          let e : k ≡ n + (k - n) = omega arith in
          rw (le-leb n k m)
          (eq-eqb _ 0 (ap (word_byte w i) e ∙ rest_is h n (k - n) (omega arith) ∙ f (k - n) 0 (omega arith) (omega (arith, word_length h, length-drop n x))))

      told : (b : Bool) → MatchBool b (AllWithin (λ c. c ≡ 0) (drop n x) 0 (length (drop n x))) ((k : ℕ) × (k < length (drop n x)) × HoldsAt (λ c. c ≢ 0) (drop n x) k)
          → Decides b ((k : ℕ) → k < word_width → asked k ≡ true)
      told true f = (λ e k a. zero f k a (cases_lt k n), λ g. refl)
      told false (k, a, f) = (
        λ e. absurd (true≢false (sym e)),
        λ g.
            let m : n + k < word_width = omega (arith, word_length h, length-drop n x) in
            absurd (f 0 (sym (rest_is h n k m) ∙ eqb-true _ 0 (rw (le-leb n (n + k) (omega arith)) at (g (n + k) m)))),
      )

-- no word has more than 12
pub letters_few : (w : Bytes) (i : ℕ) → letters w i ≤ word_width
unfolding letters
letters_few w i = go (first_below (λ j. not (is_letter (word_byte w i j))) word_width) refl
  where
    go : (o : math.Option ℕ) → first_below (λ j. not (is_letter (word_byte w i j))) word_width ≡ o → or_12 o ≤ word_width
    go math.none e = omega arith
    go (math.some j) e = omega (arith, (found (λ j. not (is_letter (word_byte w i j))) word_width 0 j e).high)

-- question 33 of a word that starts with n letters
pub formed : (w : Bytes) (i n : ℕ) (a : Bool) → n ≡ letters w i → 1 ≤ n → a ≡ zeros_from w i n → a ≡ ok33 w i
unfolding ok33
formed w i n a e l h = rw (← e, le-leb 1 n l) h

pub no_letters : (w : Bytes) (i n : ℕ) → n ≡ letters w i → n < 1 → nat_le 1 n ≡ ok33 w i
unfolding ok33
no_letters w i n e l = rw (← e, lt-leb 1 n l)

-- two words are the same where their bytes are
pub words_same : {w : Bytes} {i j : ℕ} {x y : Bytes} → IsWord w i x → IsWord w j y → (b : Bool) → Decides b (x ≡ y) → b ≡ same_word w i j
unfolding same_word
words_same {w} {i} {j} {x} {y} h g b d =
    one_answer b _ d (
      λ a. ext_get_or 0 x y (word_length h ∙ sym (word_length g)) (λ k l.
          let m : k < word_width = omega (arith, word_length h) in sym (byte_is h k m) ∙ eqb-true _ _ (all_below_all word_width (λ n. nat_eq (word_byte w i n) (word_byte w j n)) a k m) ∙ byte_is g k m),
      λ e. all_below_true word_width (λ n. nat_eq (word_byte w i n) (word_byte w j n)) (λ k l. eq-eqb _ _ (byte_is h k l ∙ ap (λ (b : Bytes). get_or b k 0) e ∙ sym (byte_is g k l))),
    )
