-- A set as bits: the empty one, and one with a number more.
use Rattle.std.proofs.Common.{◌≡◌, refl, sym, ap, ◌∙◌, Bool, false, ◌||◌, ℕ, ◌*◌, ◌/◌, ◌%◌, ◌^◌, ◌<◌, arith, nat_eq}
use Rattle.std.proofs.Common.{eq-eqb, ne_eqb, length, set, replicate, bit_or, w8}
use Rattle.std.proofs.Math.Decide.{ℕ_discrete}
use Rattle.std.proofs.lemmas.List.{get_or-replicate, get_or-set_same, get_or-set_other}
use Rattle.std.proofs.lemmas.Nat.Bits.{bit_at_set_same, bit_at_set_other}
use Rattle.rules.specs.Answer.{Bytes, byte}
use Rattle.rules.specs.Groups.{bit}
use Rattle.lattice.proofs.Words.{bit_of_zero}
use Rattle.amendments.specs.Marked.{number_count, is_marked}

pub none_marked : (i : ℕ) → i < number_count → is_marked (replicate 8192 0) i ≡ false
none_marked i l = ap (λ (b : ℕ). bit b (i % 8)) (get_or-replicate 8192 (i / 8) 0 0 (omega arith)) ∙ bit_of_zero (i % 8)

-- bit k is set, and the others are as they were
set_bit : (x k h : ℕ) → k < 8 → bit (bit_or x (1 * 2 ^ k % 256)) h ≡ (nat_eq k h || bit x h)
set_bit x k h l =
    elim (ℕ_discrete h k) [
      | yes e ↦ rw (e, eq-eqb k k refl) (eq-eqb (bit_or x (1 * 2 ^ k % 256) / 2 ^ k % 2) 1 (bit_at_set_same w8 x k l))
      | no d ↦ rw (ne_eqb k h (λ e. d (sym e))) (ap (λ (n : ℕ). nat_eq n 1) (bit_at_set_other w8 x k l h d))
    ]

pub one_marked : (s : Bytes) (i j : ℕ) → i / 8 < length s
    → is_marked (set s (i / 8) (bit_or (byte s (i / 8)) (1 * 2 ^ (i % 8) % 256))) j ≡ (nat_eq i j || is_marked s j)
one_marked s i j l =
    elim (ℕ_discrete (j / 8) (i / 8)) [
      | yes e ↦
          ap (λ (n : ℕ). marked_in n) (ap (λ (k : ℕ). byte (set s (i / 8) v) k) e ∙ get_or-set_same s (i / 8) v 0 l)
          ∙ set_bit (byte s (i / 8)) (i % 8) (j % 8) (omega arith)
          ∙ same_byte e
      | no d ↦
          rw (ne_eqb i j (λ e. d (ap (λ (n : ℕ). n / 8) (sym e))))
          (ap (λ (n : ℕ). marked_in n) (get_or-set_other s (i / 8) (j / 8) v 0 d))
    ]
  where
    v : ℕ
    v = bit_or (byte s (i / 8)) (1 * 2 ^ (i % 8) % 256)

    marked_in : ℕ → Bool
    marked_in n = bit n (j % 8)

    same_number : j / 8 ≡ i / 8 → nat_eq (i % 8) (j % 8) ≡ nat_eq i j
    same_number e =
        elim (ℕ_discrete i j) [
          | yes p ↦ rw (eq-eqb i j p) (eq-eqb (i % 8) (j % 8) (ap (λ (n : ℕ). n % 8) p))
          | no d ↦ rw (ne_eqb i j d) (ne_eqb (i % 8) (j % 8) (λ p. d (omega arith)))
        ]

    same_byte : j / 8 ≡ i / 8 → (nat_eq (i % 8) (j % 8) || bit (byte s (i / 8)) (j % 8)) ≡ (nat_eq i j || is_marked s j)
    same_byte e = rw (same_number e, e) refl
