-- Bits of a number: those of its half, those common to two numbers, and the zeros below the lowest set one.
use Rattle.std.proofs.Common.{◌≡◌, refl, sym, ap, ◌∙◌, true, false, ◌&&◌, ℕ, zero, suc, ◌+◌, ◌/◌, ◌%◌, ◌^◌, ◌<◌, min}
use Rattle.std.proofs.Common.{arith, div-one, mod-lt, zero-lt-suc, one-add, add-one, eq-eqb, nat_eq, shr-shr, shr_lt}
use Rattle.std.proofs.Common.{bit_and}
use Rattle.std.proofs.Math.Bool.{false≢true}
use lib.Bits.{and_shr, and_step}
use lib.Count.{count_trailing_zeros, under}
use Rattle.rules.specs.Groups.{bit}

pub digit_lt : (x : ℕ) → x % 2 < 2
digit_lt x = mod-lt x (zero-lt-suc 1)

digit_same : (a b : ℕ) → a < 2 → b < 2 → nat_eq a 1 ≡ nat_eq b 1 → a ≡ b
digit_same zero zero l m e = refl
digit_same zero (suc zero) l m e = absurd (false≢true e)
digit_same (suc zero) zero l m e = absurd (false≢true (sym e))
digit_same (suc zero) (suc zero) l m e = refl
digit_same zero (suc (suc b)) l m e = absurd (omega arith)
digit_same (suc zero) (suc (suc b)) l m e = absurd (omega arith)
digit_same (suc (suc a)) b l m e = absurd (omega arith)

digit_both : (a b : ℕ) → a < 2 → b < 2 → nat_eq (min a b) 1 ≡ (nat_eq a 1 && nat_eq b 1)
digit_both zero zero l m = refl
digit_both zero (suc zero) l m = refl
digit_both (suc zero) zero l m = refl
digit_both (suc zero) (suc zero) l m = refl
digit_both zero (suc (suc b)) l m = absurd (omega arith)
digit_both (suc zero) (suc (suc b)) l m = absurd (omega arith)
digit_both (suc (suc a)) b l m = absurd (omega arith)

-- the common bits of two numbers
pub bit_of_and : (a b h : ℕ) → bit (bit_and a b) h ≡ (bit a h && bit b h)
bit_of_and a b h =
    rw and_shr
    (ap (λ (n : ℕ). nat_eq n 1) (low (a / 2 ^ h) (b / 2 ^ h)) ∙ digit_both _ _ (digit_lt (a / 2 ^ h)) (digit_lt (b / 2 ^ h)))
  where
    low : (x y : ℕ) → bit_and x y % 2 ≡ min (x % 2) (y % 2)
    low x y = omega (arith, and_step x y)

-- bit h + 1 of a number is bit h of its half
pub bit_suc : (x h : ℕ) → bit x (suc h) ≡ bit (x / 2) h
bit_suc x h = ap (λ (n : ℕ). nat_eq (n % 2) 1) (ap (λ (n : ℕ). x / 2 ^ n) (sym (one-add h)) ∙ sym (shr-shr x 1 h))

pub bit_zero : (x : ℕ) → bit x 0 ≡ nat_eq (x % 2) 1
bit_zero x = ap (λ (n : ℕ). nat_eq (n % 2) 1) (div-one x)

-- bit h of a number that is shifted by n is bit n + h
pub bit_shr : (x n h : ℕ) → bit (x / 2 ^ n) h ≡ bit x (n + h)
bit_shr x n h = ap (λ (m : ℕ). nat_eq (m % 2) 1) (shr-shr x n h)

pub half_lt : {n : ℕ} (k : ℕ) → n < 2 ^ suc k → n / 2 < 2 ^ k
half_lt {n} k l = shr_lt k 1 (rw add-one l)

-- numbers of k bits are equal where their bits are
pub bits_same : (k x y : ℕ) → x < 2 ^ k → y < 2 ^ k → ((i : ℕ) → i < k → bit x i ≡ bit y i) → x ≡ y
bits_same zero x y l m e = omega arith
bits_same (suc k) x y l m e =
    omega (
      arith,
      digit_same (x % 2) (y % 2) (digit_lt x) (digit_lt y) (sym (bit_zero x) ∙ e 0 (omega arith) ∙ bit_zero y),
      bits_same k (x / 2) (y / 2) (half_lt k l) (half_lt k m) (λ i j. sym (bit_suc x i) ∙ e (suc i) (omega arith) ∙ bit_suc y i),
    )

-- the counted bit is set, where it is one of the k
pub trailing_set : (k n : ℕ) → count_trailing_zeros k n < k → bit n (count_trailing_zeros k n) ≡ true
unfolding count_trailing_zeros
trailing_set zero n l = absurd (omega arith)
trailing_set (suc k) n l = go (n % 2) refl (digit_lt n) (trailing_set k (n / 2)) l
  where
    go : (d : ℕ) → n % 2 ≡ d → d < 2 → (count_trailing_zeros k (n / 2) < k → bit (n / 2) (count_trailing_zeros k (n / 2)) ≡ true)
        → under d (count_trailing_zeros k (n / 2)) < suc k → bit n (under d (count_trailing_zeros k (n / 2))) ≡ true
    go zero e s ih l = bit_suc n (count_trailing_zeros k (n / 2)) ∙ ih (omega arith)
    go (suc d) e s ih l = bit_zero n ∙ eq-eqb (n % 2) 1 (omega arith)

-- no bit below it is set
pub trailing_clear : (k n i : ℕ) → i < count_trailing_zeros k n → bit n i ≡ false
unfolding count_trailing_zeros
trailing_clear zero n i l = absurd (omega arith)
trailing_clear (suc k) n i l = go (n % 2) refl i (trailing_clear k (n / 2)) l
  where
    go : (d : ℕ) → n % 2 ≡ d → (i : ℕ) → ((j : ℕ) → j < count_trailing_zeros k (n / 2) → bit (n / 2) j ≡ false)
        → i < under d (count_trailing_zeros k (n / 2)) → bit n i ≡ false
    go zero e zero ih l = bit_zero n ∙ ap (λ (m : ℕ). nat_eq m 1) e
    go zero e (suc i) ih l = bit_suc n i ∙ ih i (omega arith)
    go (suc d) e i ih l = absurd (omega arith)

-- a number of k bits that is not 0 has one of them set
pub trailing_lt : (k n : ℕ) → n < 2 ^ k → (n ≡ 0 → ⊥) → count_trailing_zeros k n < k
unfolding count_trailing_zeros
trailing_lt zero n l ne = absurd (ne (omega arith))
trailing_lt (suc k) n l ne = go (n % 2) refl (λ h. trailing_lt k (n / 2) (half_lt k l) h)
  where
    go : (d : ℕ) → n % 2 ≡ d → ((n / 2 ≡ 0 → ⊥) → count_trailing_zeros k (n / 2) < k) → under d (count_trailing_zeros k (n / 2)) < suc k
    go zero e ih = let l = ih (λ h. ne (omega arith)) in omega arith
    go (suc d) e ih = omega arith
