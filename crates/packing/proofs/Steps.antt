-- The lowest bytes of a step count, as many as a slice has.
use Rattle.std.proofs.Common.{◌≡◌, ℕ, zero, suc, ◌/◌, ◌%◌, ◌^◌, ◌≤◌, ◌<◌, [], ◌∷◌, ◌++◌, refl, sym, ap, ap₂, ◌∙◌, arith}
use Rattle.std.proofs.Common.{div-one, pow-suc, w64, length, take, drop, take_all}
use Rattle.std.proofs.Math.Nat.{div-div-eq-div-mul}
use Rattle.std.specs.Int.{to_le_bytes, from_le_bytes, bytes_low_first, byte_at}
use Rattle.rules.specs.Answer.{Bytes, Octets}
use Rattle.memory.specs.Splice.{splice}
use Rattle.packing.specs.Packed.{low_bytes, low_number, steps_width, steps_in, steps_of}

byte_is : (i n : ℕ) → byte_at i n ≡ n / 256 ^ i % 256
byte_is zero n = ap (λ (m : ℕ). m % 256) (sym (div-one n))
byte_is (suc i) n = refl

low_first : (k i n : ℕ) → bytes_low_first i k n ≡ low_bytes k (n / 256 ^ i)
unfolding low_bytes
low_first zero i n = refl
low_first (suc k) i n = ap₂ (λ (b : ℕ) (s : Bytes). b ∷ s) (byte_is i n) (low_first k (suc i) n ∙ ap (low_bytes k) (ap (λ (p : ℕ). n / p) (pow-suc 256 i) ∙ sym (div-div-eq-div-mul n (256 ^ i) 256)))

pub steps_bytes : (n : ℕ) → to_le_bytes w64 n ≡ low_bytes steps_width n
steps_bytes n = low_first steps_width 0 n ∙ ap (low_bytes steps_width) (div-one n)

-- the first 8 bytes of a slice over 8 zeros, read as a number
abbrev over_zeros : Bytes → Bytes
over_zeros s = splice 0 (take 8 s) (0 ∷ 0 ∷ 0 ∷ 0 ∷ 0 ∷ 0 ∷ 0 ∷ 0 ∷ [])

pub number_read : (s : Bytes) → from_le_bytes w64 (over_zeros s) ≡ steps_of s
unfolding low_number
number_read [] = refl
number_read (a ∷ []) = omega arith
number_read (a ∷ b ∷ []) = omega arith
number_read (a ∷ b ∷ c ∷ []) = omega arith
number_read (a ∷ b ∷ c ∷ d ∷ []) = omega arith
number_read (a ∷ b ∷ c ∷ d ∷ e ∷ []) = omega arith
number_read (a ∷ b ∷ c ∷ d ∷ e ∷ f ∷ []) = omega arith
number_read (a ∷ b ∷ c ∷ d ∷ e ∷ f ∷ g ∷ []) = omega arith
number_read (a ∷ b ∷ c ∷ d ∷ e ∷ f ∷ g ∷ h ∷ s) = omega arith

-- what is written is read again, where there is room for all of it
written_read : (k n : ℕ) (rest : Bytes) → n < 256 ^ k → low_number k (low_bytes k n ++ rest) ≡ n
unfolding low_bytes low_number
written_read zero n rest l = omega (arith, l)
written_read (suc k) n rest l = omega (arith, written_read k (n / 256) rest (omega (arith, l, pow-suc 256 k)))

low_length : (k n : ℕ) → length (low_bytes k n) ≡ k
unfolding low_bytes
low_length zero n = refl
low_length (suc k) n = omega (arith, low_length k (n / 256))

pub read_again : (n : ℕ) (old : Bytes) → n < 2 ^ 64 → steps_width ≤ length old → steps_of (steps_in n old) ≡ n
read_again n old l m =
    ap (λ (b : Bytes). steps_of (b ++ drop (length b) old)) (take_all (length old) (low_bytes steps_width n) (omega (arith, low_length steps_width n, m)))
    ∙ written_read steps_width n (drop (length (low_bytes steps_width n)) old) (omega (arith, l))

take-nil : (n : ℕ) → take {A = ℕ} n [] ≡ []
take-nil zero = refl
take-nil (suc n) = refl

-- a number that was read is written as it stood
kept_front : (k : ℕ) (s : Bytes) → Octets s → take (length s) (low_bytes k (low_number k s)) ≡ take k s
unfolding low_bytes low_number
kept_front zero s o = take-nil (length s)
kept_front (suc k) [] o = refl
kept_front (suc k) (b ∷ s) o =
    let l : b < 256 = o 0 in
    ap₂ (λ (x : ℕ) (y : Bytes). x ∷ y) (omega arith)
    (ap (λ (m : ℕ). take (length s) (low_bytes k m)) (omega arith) ∙ kept_front k s (λ i. o (suc i)))

take_drop : (k : ℕ) (s : Bytes) → take k s ++ drop (length (take k s)) s ≡ s
take_drop zero s = refl
take_drop (suc k) [] = refl
take_drop (suc k) (b ∷ s) = ap (λ (x : Bytes). b ∷ x) (take_drop k s)

pub kept : (s : Bytes) → Octets s → steps_in (steps_of s) s ≡ s
kept s o = ap (λ (b : Bytes). b ++ drop (length b) s) (kept_front steps_width s o) ∙ take_drop steps_width s
