-- A caller reads off an exported number the answer that was packed.
use Rattle.std.proofs.Common.{◌≡◌, sym, ap, ap₂, subst, ◌∙◌, ℕ, ◌+◌, ◌*◌, ◌/◌, ◌%◌, ◌≤◌, arith, eq-eqb, ne_eqb}
use Rattle.rules.specs.Answer.{Answer, accepted, refused}
use Rattle.rules.specs.Limits.{script_limit}
use Rattle.packing.specs.Packed.{half, packed_number, unpacked_answer, end_and_count, end_of, count_of, Holds, holds_yes}
use Rattle.packing.specs.Packed.{holds_no}

pub unpack : (a : Answer ℕ) → Holds a → unpacked_answer (packed_number a) ≡ a
unpack (accepted n) (holds_yes l) =
    let z : n / half ≡ 0 = omega arith in
    let m : n % half ≡ n = omega arith in
    rw (eq-eqb (n / half) 0 z) (ap (λ (x : ℕ). accepted x) m)
unpack (refused q p) (holds_no a b l) =
    let z : (q * half + p) / half ≡ q = omega arith in
    let m : (q * half + p) % half ≡ p = omega arith in
    rw (ne_eqb ((q * half + p) / half) 0 (λ e. omega arith)) (ap₂ (λ (x y : ℕ). refused x y) z m)

-- what holds of an answer holds of the one that is read off its number
pub read_off : (P : Answer ℕ → Type 0) {a : Answer ℕ} {n : ℕ} → n ≡ packed_number a → Holds a → P a → P (unpacked_answer n)
read_off P {a} e h p = subst P (sym (ap unpacked_answer e ∙ unpack a h)) p

-- the end and the record count that are read off a number
pub record Reads (n end count : ℕ) : Type 0 where
  pub end_is : end_of n ≡ end
  pub count_is : count_of n ≡ count

-- are those that it was made of, since no count is past 8,192
pub unended : (end count : ℕ) → count ≤ script_limit → Reads (end_and_count end count) end count
unended end count l = record { end_is = omega arith; count_is = omega arith }
