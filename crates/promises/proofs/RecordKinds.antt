-- The kinds of a term's records, and the numbers of its literals, are those of its bytes, record by record.
use Rattle.std.proofs.Common.{◌≡◌, refl, ap, ap₂, sym, subst, ◌∙◌, cond, ◌↔◌, List, [], ◌∷◌, ◌++◌, append_assoc, ℕ}
use Rattle.std.proofs.Common.{zero, suc, ◌+◌, ◌*◌, ◌<◌, arith, eq-eqb, nat_eq, length, drop}
use Rattle.calculus.specs.Terms.{Term}
use Rattle.noninterference.specs.Places.{Shown, shown_literal}
use Rattle.noninterference.specs.Places as places
use Rattle.rules.specs.Answer.{Bytes}
use Rattle.rules.specs.Limits.{script_width}
use Rattle.rules.specs.Script.{encode, size, records, kind, number}
use Rattle.rules.proofs.Prefix.{All, joined, total}
use Rattle.rules.proofs.PrefixLaws.{after_head, past_tree, record_is, alone}
use Rattle.rules.proofs.TermCode.{term_shape, term_code, term_operands, term_head, term_size_is}
use Rattle.rules.proofs.RecordFields.{kind_is, number_is}
use Rattle.rules.proofs.Scripts.{records_encode}
use Rattle.promises.specs.Noninterference.{SameRecords}
use Rattle.std.proofs.lemmas.Grind.{common_steps}

-- what is compared of a record of this kind and number
abbrev shown : ℕ → ℕ → Shown
shown k n = cond (nat_eq k 12) (shown_literal n) (places.shown_kind k)

-- of n records of s, from record i on
unfoldable listed : Bytes → ℕ → ℕ → List Shown
listed s zero i = []
listed s (suc n) i = shown (kind s i) (number s i) ∷ listed s n (suc i)

listed_append : (s : Bytes) (n m i : ℕ) → listed s (n + m) i ≡ listed s n i ++ listed s m (i + n)
unfolding listed
listed_append s zero m i =
    let y : 0 + m ≡ m = omega arith in
    let z : i ≡ i + 0 = omega arith in
    ap (λ n. listed s n i) y ∙ ap (listed s m) z
listed_append s (suc n) m i =
    let y : suc n + m ≡ suc (n + m) = omega arith in
    let z : suc i + n ≡ i + suc n = omega arith in
    ap (λ k. listed s k i) y ∙ ap (λ x. shown (kind s i) (number s i) ∷ x) (listed_append s n m (suc i))
    ∙ ap (λ j. listed s (suc n) i ++ listed s m j) z

abbrev together : List Term → List Shown
together [] = []
together (e ∷ es) = places.shown_records e ++ together es

-- a node's record and those of its operands
node_records : (e : Term) → places.shown_records e ≡ shown (kind (term_head e) 0) (number (term_head e) 0) ∷ together (term_operands e)
unfolding places.shown_records
node_records e = grind (arith, common_steps)

abbrev Listed : Term → Type 0
Listed e = (s : Bytes) (i : ℕ) (rest : Bytes) → drop (script_width * i) s ≡ encode e ++ rest → listed s (size e) i ≡ places.shown_records e

listed_all : (es : List Term) → All Listed es → (s : Bytes) (i : ℕ) (rest : Bytes) → drop (script_width * i) s ≡ joined encode es ++ rest
    → listed s (total size es) i ≡ together es
unfolding listed
listed_all [] h s i rest p = refl
listed_all (e ∷ es) h s i rest p =
    let q = p ∙ append_assoc (encode e) (joined encode es) rest in
    listed_append s (size e) (total size es) i
    ∙ ap₂ (λ x y. x ++ y) (h.0 s i (joined encode es ++ rest) q) (listed_all es h.1 s (i + size e) rest (past_tree term_code s i e _ q))

listed_node : (e : Term) → All Listed (term_operands e) → Listed e
unfolding listed
listed_node e h s i rest p =
    let r = record_is term_code s i e rest p in
    ap (λ n. listed s n i) (term_size_is e)
    ∙ ap₂ (λ k n. shown k n ∷ listed s (total size (term_operands e)) (suc i)) (sym (kind_is s i) ∙ ap (λ b. kind b 0) r)
    (sym (number_is s i) ∙ ap (λ b. number b 0) r)
    ∙ ap (λ x. shown (kind (term_head e) 0) (number (term_head e) 0) ∷ x) (listed_all (term_operands e) h s (suc i) rest (after_head term_code s i e rest p))
    ∙ sym (node_records e)

listed_term : (e : Term) → listed (encode e) (size e) 0 ≡ places.shown_records e
listed_term e = term_shape.induction Listed listed_node e (encode e) 0 [] (alone term_code e)

-- what is compared, taken apart
abbrev kind_of : Shown → ℕ
kind_of (places.shown_kind k) = k
kind_of (shown_literal n) = 12

abbrev number_of : Shown → ℕ
number_of (places.shown_kind k) = 0
number_of (shown_literal n) = n

kind_shown : (k n : ℕ) → kind_of (shown k n) ≡ k
kind_shown k n = grind arith

number_shown : (k n : ℕ) → k ≡ 12 → number_of (shown k n) ≡ n
number_shown k n h = rw (eq-eqb k 12 h) refl

shown_same : (k k' n n' : ℕ) → k ≡ k' → (k ≡ 12 → n ≡ n') → shown k n ≡ shown k' n'
shown_same k k' n n' p q = grind arith

first_shown : {x y : Shown} {xs ys : List Shown} → x ∷ xs ≡ y ∷ ys → x ≡ y
first_shown h = cc

rest_shown : {x y : Shown} {xs ys : List Shown} → x ∷ xs ≡ y ∷ ys → xs ≡ ys
rest_shown h = cc

module _ (u v : Bytes) where
  abbrev Alike : ℕ → Type 0
  Alike j = shown (kind u j) (number u j) ≡ shown (kind v j) (number v j)

  listed_alike : (n i : ℕ) → ((d : ℕ) → d < n → Alike (i + d)) → listed u n i ≡ listed v n i
  unfolding listed
  listed_alike zero i h = refl
  listed_alike (suc n) i h =
      ap₂ (λ x xs. x ∷ xs) (let z : i + 0 ≡ i = omega arith in subst Alike z (h 0 (omega arith)))
      (listed_alike n (suc i) (λ d l. let z : i + suc d ≡ suc i + d = omega arith in subst Alike z (h (suc d) (omega arith))))

  alike_listed : (n i : ℕ) → listed u n i ≡ listed v n i → (d : ℕ) → d < n → Alike (i + d)
  unfolding listed
  alike_listed zero i h d l = absurd (omega arith)
  alike_listed (suc n) i h zero l = let z : i ≡ i + 0 = omega arith in subst Alike z (first_shown h)
  alike_listed (suc n) i h (suc d) l =
      let z : suc i + d ≡ i + suc d = omega arith in
      subst Alike z (alike_listed n (suc i) (rest_shown h) d (omega arith))

listed_length : (s : Bytes) (n i : ℕ) → length (listed s n i) ≡ n
unfolding listed
listed_length s zero i = refl
listed_length s (suc n) i = ap suc (listed_length s n (suc i))

records_length : (e : Term) → length (places.shown_records e) ≡ size e
records_length e = ap length (sym (listed_term e)) ∙ listed_length (encode e) (size e) 0

module _ (e e' : Term) where
  of_same : SameRecords (encode e) (encode e') → places.shown_records e ≡ places.shown_records e'
  of_same S =
      let u = encode e in
      let v = encode e' in
      let n : size e ≡ size e' = sym (records_encode e) ∙ S.count ∙ records_encode e' in
      sym (listed_term e)
      ∙ listed_alike u v (size e) 0
      (λ d l. let b : 0 + d < records u = omega (arith, records_encode e) in shown_same (kind u (0 + d)) (kind v (0 + d)) (number u (0 + d)) (number v (0 + d)) (S.kinds (0 + d) b) (S.literals (0 + d) b))
      ∙ ap (λ k. listed v k 0) n ∙ listed_term e'

  of_list : places.shown_records e ≡ places.shown_records e' → SameRecords (encode e) (encode e')
  of_list h =
      let u = encode e in
      let v = encode e' in
      let n : size e ≡ size e' = sym (records_length e) ∙ ap length h ∙ records_length e' in
      let l : listed u (size e) 0 ≡ listed v (size e) 0 = listed_term e ∙ h ∙ sym (listed_term e') ∙ ap (λ k. listed v k 0) (sym n) in
      record {
        count = records_encode e ∙ n ∙ sym (records_encode e');
        kinds = λ i b. kinds i (at l i b);
        literals = λ i b q.
            sym (number_shown (kind u i) (number u i) q) ∙ ap number_of (at l i b) ∙ number_shown (kind v i) (number v i) (sym (kinds i (at l i b)) ∙ q);
      }
    where
      at : listed (encode e) (size e) 0 ≡ listed (encode e') (size e) 0 → (i : ℕ) → i < records (encode e) → Alike (encode e) (encode e') i
      at l i b =
          let z : 0 + i ≡ i = omega arith in
          subst (Alike (encode e) (encode e')) z (alike_listed (encode e) (encode e') (size e) 0 l i (omega (arith, records_encode e)))

      kinds : (i : ℕ) → Alike (encode e) (encode e') i → kind (encode e) i ≡ kind (encode e') i
      kinds i a =
          sym (kind_shown (kind (encode e) i) (number (encode e) i)) ∙ ap kind_of a ∙ kind_shown (kind (encode e') i) (number (encode e') i)

  pub same_records : SameRecords (encode e) (encode e') ↔ (places.shown_records e ≡ places.shown_records e')
  same_records = (of_same, of_list)
