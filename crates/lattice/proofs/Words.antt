-- Rows as words: past the table, the lowest bit, the bits that two have in common.
use Rattle.std.proofs.Common.{◌≡◌, refl, sym, ap, ◌∙◌, Bool, true, false, ℕ, ◌+◌, ◌*◌, ◌/◌, ◌%◌, ◌^◌, ◌≤◌, ◌<◌, arith}
use Rattle.std.proofs.Common.{lt_of_lt_of_le, mod-lt, mod-eq_of_lt, one-mul, zero-lt-suc, ltb-true, ltb-false, ne_eqb}
use Rattle.std.proofs.Common.{nat_eq, nat_lt, pow_mono, bit_and}
use Rattle.std.proofs.Math.Nat.{div-eq_of_lt, zero-div}
use Rattle.std.proofs.Math.Option.{none, some}
use Rattle.std.proofs.Math.Pow.{pow-lt}
use lib.Bits.{and_lt}
use lib.Count.{count_trailing_zeros, trailing_of_zero}
use Rattle.rules.specs.Answer.{Bytes, first_below}
use Rattle.rules.specs.Limits.{group_limit}
use Rattle.rules.specs.Groups.{row, bit, in_both_rows, join, or_zero}
use Rattle.rules.proofs.Search.{from_none, from_some}
use Rattle.lattice.proofs.Bits.{bit_of_and, trailing_set, trailing_clear, trailing_lt}

-- a word has 32 bits
pub bit_past : (w h : ℕ) → w < 2 ^ 32 → 32 ≤ h → false ≡ bit w h
bit_past w h l m = sym (ap (λ (n : ℕ). nat_eq (n % 2) 1) (div-eq_of_lt (lt_of_lt_of_le l (pow_mono m))))

-- a power of two below the 32nd, as a word
power_word : (h : ℕ) → (1 * 2 ^ (h % 32)) % 2 ^ 32 ≡ 2 ^ (h % 32)
power_word h = rw one-mul (mod-eq_of_lt (pow-lt (mod-lt h (zero-lt-suc 31))))

-- The test that the code makes: the digit of weight 2 ^ (h % 32), held against 1 + h / 32, is bit h.
pub bit_by_division : (w h : ℕ) → w < 2 ^ 32 → nat_eq (w / ((1 * 2 ^ (h % 32)) % 2 ^ 32) % 2) (1 + h / 32) ≡ bit w h
bit_by_division w h l = rw (power_word h) (go (nat_lt h 32) refl)
  where
    go : (b : Bool) → nat_lt h 32 ≡ b → nat_eq (w / 2 ^ (h % 32) % 2) (1 + h / 32) ≡ bit w h
    go true e = let m = ltb-true h 32 e in rw (mod-eq_of_lt m, div-eq_of_lt m)
    go false e =
        let m = ltb-false h 32 e in
        ne_eqb (w / 2 ^ (h % 32) % 2) (1 + h / 32) (λ x. omega (arith, mod-lt (w / 2 ^ (h % 32)) (zero-lt-suc 1))) ∙ bit_past w h l (omega arith)

pub bit_of_zero : (k : ℕ) → bit 0 k ≡ false
bit_of_zero k = ap (λ (n : ℕ). nat_eq (n % 2) 1) (zero-div (2 ^ k))

-- the lowest of the bits that a test gives, where they are those of a word
module _ (test : ℕ → Bool) (w : ℕ) (is : (k : ℕ) → test k ≡ bit w k) where
  pub lowest_some : count_trailing_zeros 32 w < 32 → first_below test group_limit ≡ some (count_trailing_zeros 32 w)
  lowest_some l =
      from_some test 32 0 (count_trailing_zeros 32 w) (omega arith) (omega arith) (λ k a b. is k ∙ trailing_clear 32 w k b)
      (is (count_trailing_zeros 32 w) ∙ trailing_set 32 w l)

  pub lowest_none : 32 ≤ count_trailing_zeros 32 w → first_below test group_limit ≡ none
  lowest_none l = from_none test 32 0 (λ k a b. is k ∙ trailing_clear 32 w k (omega arith))

  pub lowest_zero : w ≡ 0 → first_below test group_limit ≡ none
  lowest_zero e = lowest_none (omega (arith, ap (count_trailing_zeros 32) e, trailing_of_zero 32))

-- rows g and h of a table, as words
module _ (t : Bytes) (g h x y : ℕ) (ex : x ≡ row t g) (ey : y ≡ row t h) where
  pub common_word : (k : ℕ) → in_both_rows t g h k ≡ bit (bit_and x y) k
  common_word k = rw (← ex, ← ey) (sym (bit_of_and x y k))

  pub join_none : bit_and x y ≡ 0 → 0 ≡ join t g h
  unfolding join
  join_none e = sym (ap or_zero (lowest_zero (in_both_rows t g h) (bit_and x y) common_word e))

  module _ (lx : x < 2 ^ 32) (ly : y < 2 ^ 32) (ne : bit_and x y ≡ 0 → ⊥) where
    pub common_some : first_below (in_both_rows t g h) group_limit ≡ some (count_trailing_zeros 32 (bit_and x y))
    common_some = lowest_some (in_both_rows t g h) (bit_and x y) common_word (trailing_lt 32 (bit_and x y) (and_lt 32 x y lx ly) ne)

    pub join_some : count_trailing_zeros 32 (bit_and x y) ≡ join t g h
    unfolding join
    join_some = sym (ap or_zero common_some)
