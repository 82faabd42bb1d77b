-- The questions of one row, said of whole words.
use Rattle.std.proofs.Common.{◌≡◌, refl, sym, ap, ◌∙◌, Bool, true, false, ◌&&◌, ℕ, ◌+◌, ◌-◌, ◌/◌, ◌^◌, ◌≤◌, ◌<◌, arith}
use Rattle.std.proofs.Common.{eq-eqb, ne_eqb, eqb-true, ltb-false, le-ltb, nat_eq, nat_lt, shr_lt, pow_pos, bit_and}
use Rattle.std.proofs.Math.Bool.{beq, false≢true}
use Rattle.std.proofs.Math.Decide.{ℕ_discrete}
use Rattle.std.proofs.Math.Option.{Option}
use lib.Bits.{and_lt}
use lib.Count.{count_trailing_zeros, trailing_le}
use Rattle.std.specs.Bool.{one_answer}
use Rattle.rules.specs.Answer.{Bytes, first_below, all_below, ◌⇒◌}
use Rattle.rules.specs.Limits.{group_limit}
use Rattle.rules.specs.Groups.{row, bit, in_both_rows, is_row_within, holds_number, row_of_lowest}
use Rattle.rules.proofs.Search.{all_below_true, all_below_all}
use Rattle.rules.proofs.Asked.{implied}
use Rattle.calculus.proofs.Booleans.{same_bits}
use Rattle.lattice.proofs.Bits.{bit_of_and, bit_shr, bits_same}
use Rattle.lattice.proofs.Words.{bit_of_zero, lowest_some, lowest_none, lowest_zero, common_word, common_some}
use Rattle.groups_table.specs.Pairs.{pair5, pair6}

implies : (a b : Bool) → (a ≡ true → b ≡ true) → (a ⇒ b) ≡ true
implies true b f = f refl
implies false b f = refl

no_implied : (a : Bool) → (a ⇒ false) ≡ true → a ≡ false
no_implied true e = sym e
no_implied false e = refl

both_first : (a b : Bool) → (a ≡ true → b ≡ true) → (a && b) ≡ a
both_first true b f = f refl
both_first false b f = refl

both_second : (a b : Bool) → (a && b) ≡ a → a ≡ true → b ≡ true
both_second true b e h = e
both_second false b e h = absurd (false≢true h)

equal_self : (a : Bool) → beq a a ≡ true
equal_self true = refl
equal_self false = refl

-- a test that says of all numbers below n what another says of each
all_same : (n : ℕ) (ok : ℕ → Bool) (b : Bool)
    → (b ≡ true → (k : ℕ) → k < n → ok k ≡ true)
    → (((k : ℕ) → k < n → ok k ≡ true) → b ≡ true)
    → b ≡ all_below ok n
all_same n ok b f g = one_answer b (all_below ok n) (f, g) (all_below_all n ok, all_below_true n ok)

-- question 3 of a word: nothing is left above its n lowest bits
pub bits_below : (w n : ℕ) → w < 2 ^ 32 → n ≤ group_limit → nat_eq (w / 2 ^ n) 0 ≡ all_below (λ h. bit w h ⇒ nat_lt h n) group_limit
bits_below w n l m =
    all_same group_limit (λ h. bit w h ⇒ nat_lt h n) _ (λ e k a. implies _ _ (clear (eqb-true _ _ e) k)) (λ f. eq-eqb _ _ (zero_above f))
  where
    above : (k : ℕ) → n ≤ k → bit (w / 2 ^ n) (k - n) ≡ bit w k
    above k a = bit_shr w n (k - n) ∙ ap (bit w) (omega arith)

    clear : w / 2 ^ n ≡ 0 → (k : ℕ) → bit w k ≡ true → nat_lt k n ≡ true
    clear e k h = go (nat_lt k n) refl
      where
        go : (b : Bool) → nat_lt k n ≡ b → b ≡ true
        go true d = refl
        go false d = sym (bit_of_zero (k - n)) ∙ ap (λ (x : ℕ). bit x (k - n)) (sym e) ∙ above k (ltb-false k n d) ∙ h

    zero_above : ((k : ℕ) → k < group_limit → (bit w k ⇒ nat_lt k n) ≡ true) → w / 2 ^ n ≡ 0
    zero_above f =
        bits_same (32 - n) (w / 2 ^ n) 0 (shr_lt (32 - n) n (rw width l)) (pow_pos (32 - n))
        (λ i a. bit_shr w n i ∙ off (n + i) (omega arith) (omega arith) ∙ sym (bit_of_zero i))
      where
        width : (32 - n) + n ≡ 32
        width = omega arith

        off : (k : ℕ) → n ≤ k → k < group_limit → bit w k ≡ false
        off k a b = no_implied _ (rw (le-ltb k n a) at (f k b))

-- question 4 of a word
pub lowest_is : (w g : ℕ) → g < group_limit → nat_eq (count_trailing_zeros 32 w) g ≡ holds_number (first_below (bit w) group_limit) g
lowest_is w g l =
    elim (ℕ_discrete (count_trailing_zeros 32 w) 32) [
      | yes e ↦ ne_eqb _ _ (λ (d : count_trailing_zeros 32 w ≡ g). omega arith) ∙ sym (number (lowest_none (bit w) w (λ k. refl) (omega arith)))
      | no ne ↦ sym (number (lowest_some (bit w) w (λ k. refl) (omega (arith, trailing_le 32 w))))
    ]
  where
    number : {o : Option ℕ} → first_below (bit w) group_limit ≡ o → holds_number (first_below (bit w) group_limit) g ≡ holds_number o g
    number e = ap (λ (o : Option ℕ). holds_number o g) e

-- question 5 of two words: the first is within the second
pub within_word : (v w : ℕ) → v < 2 ^ 32 → w < 2 ^ 32 → nat_eq (bit_and v w) v ≡ is_row_within v w
within_word v w l m = all_same group_limit (λ k. bit v k ⇒ bit w k) _ (λ e k a. implies _ _ (have k (eqb-true _ _ e))) (λ f. eq-eqb _ _ (kept f))
  where
    have : (k : ℕ) → bit_and v w ≡ v → bit v k ≡ true → bit w k ≡ true
    have k e = both_second _ _ (sym (bit_of_and v w k) ∙ ap (λ (n : ℕ). bit n k) e)

    kept : ((k : ℕ) → k < group_limit → (bit v k ⇒ bit w k) ≡ true) → bit_and v w ≡ v
    kept f = bits_same 32 _ _ (and_lt 32 v w l m) l (λ k a. bit_of_and v w k ∙ both_first _ _ (implied _ _ (f k a)))

-- a word has exactly the bits that a test gives
equal_word : (set : ℕ → Bool) (w z : ℕ) → ((k : ℕ) → set k ≡ bit w k) → w < 2 ^ 32 → z < 2 ^ 32
    → nat_eq z w ≡ all_below (λ k. beq (set k) (bit z k)) group_limit
equal_word set w z is l m =
    all_same group_limit (λ k. beq (set k) (bit z k)) _ (λ e k a. agree k (eqb-true _ _ e))
    (λ f. eq-eqb _ _ (bits_same 32 z w m l (λ k a. sym (same_bits _ _ (f k a)) ∙ is k)))
  where
    agree : (k : ℕ) → z ≡ w → beq (set k) (bit z k) ≡ true
    agree k e = rw (is k, e) (equal_self (bit w k))

-- rows g and h of a table, as words
module _ (t : Bytes) (g h x y : ℕ) (ex : x ≡ row t g) (ey : y ≡ row t h) where
  -- question 5: row g has bit h
  pub pair5_on : bit x h ≡ true → x < 2 ^ 32 → y < 2 ^ 32 → nat_eq (bit_and y x) y ≡ pair5 t g h
  pair5_on e lx ly = rw (← ex, ← ey, e) (within_word y x ly lx)

  -- question 6: no bit in common
  pub common_none : bit_and x y ≡ 0 → false ≡ pair6 t g h
  common_none e =
      sym (ap (row_of_lowest t (in_both_rows t g h)) (lowest_zero (in_both_rows t g h) (bit_and x y) (common_word t g h x y ex ey) e))

  -- question 6: the common bits are the word z, the row of the lowest
  pub common_row : (lx : x < 2 ^ 32) (ly : y < 2 ^ 32) (ne : bit_and x y ≡ 0 → ⊥) (z : ℕ) → z ≡ row t (count_trailing_zeros 32 (bit_and x y))
      → z < 2 ^ 32 → nat_eq z (bit_and x y) ≡ pair6 t g h
  common_row lx ly ne z ez lz =
      equal_word (in_both_rows t g h) (bit_and x y) z (common_word t g h x y ex ey) (and_lt 32 x y lx ly) lz
      ∙ ap (λ (n : ℕ). all_below (λ k. beq (in_both_rows t g h k) (bit n k)) group_limit) ez
      ∙ sym (ap (row_of_lowest t (in_both_rows t g h)) (common_some t g h x y ex ey lx ly ne))
