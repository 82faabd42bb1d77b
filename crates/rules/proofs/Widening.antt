-- What widening does to a table's records: as many, each with its own bytes and two zeros after them.
use Rattle.std.proofs.Common.{◌≡◌, refl, ap, sym, ◌∙◌, [], ◌∷◌, ◌++◌, ℕ, zero, suc, ◌+◌, ◌*◌, ◌-◌, ◌≤◌, ◌<◌, arith}
use Rattle.std.proofs.Common.{length, take, drop, drop_of_length-le}
use Rattle.std.proofs.Math.Decide.{dec_lt}
use Rattle.std.proofs.Math.ListN.{get_or-eq_default}
use Rattle.rules.specs.Answer.{Bytes, byte, Octets}
use Rattle.rules.specs.Limits.{type_width, script_width, old_type_width, old_script_width}
use Rattle.rules.specs.Types.{type_count}
use Rattle.rules.specs.Script.{records}
use Rattle.rules.specs.Callers.{old_records, write_callers}
use Rattle.rules.specs.Rewriting.{widen_types, widen_script}
use Rattle.rules.proofs.Callers.{callers_length, callers_byte}
use Rattle.rules.proofs.OldTables.{old_type_count}
use Rattle.std.proofs.lemmas.Grind.{common_steps}

pub widen_script_first : (s : Bytes) → old_script_width ≤ length s
    → widen_script s ≡ take old_script_width s ++ (0 ∷ 0 ∷ widen_script (drop old_script_width s))
unfolding widen_script
widen_script_first (k ∷ r ∷ ir ∷ z ∷ lo ∷ hi ∷ s) l = refl
widen_script_first _ l = absurd (omega arith)

-- The lengths.
pub widen_types_length : (t : Bytes) → length (widen_types t) ≡ type_width * old_type_count t
unfolding widen_types
widen_types_length (k ∷ r ∷ ir ∷ z ∷ t) = omega (arith, widen_types_length t)
widen_types_length _ = refl

pub widen_types_count : (t : Bytes) → type_count (widen_types t) ≡ old_type_count t
widen_types_count t = omega (arith, widen_types_length t)

pub widen_script_length : (s : Bytes) → length (widen_script s) ≡ script_width * old_records s
unfolding widen_script
widen_script_length (k ∷ r ∷ ir ∷ z ∷ lo ∷ hi ∷ s) = omega (arith, widen_script_length s)
widen_script_length _ = refl

pub widen_script_records : (s : Bytes) → records (widen_script s) ≡ old_records s
widen_script_records s = omega (arith, widen_script_length s)

-- The bytes of a whole record.
pub widen_types_byte : (t : Bytes) (i n : ℕ) → i < old_type_count t → n < old_type_width
    → byte (widen_types t) (type_width * i + n) ≡ byte t (old_type_width * i + n)
unfolding widen_types
widen_types_byte [] i n l m = absurd (omega arith)
widen_types_byte (k ∷ []) i n l m = absurd (omega arith)
widen_types_byte (k ∷ r ∷ []) i n l m = absurd (omega arith)
widen_types_byte (k ∷ r ∷ ir ∷ []) i n l m = absurd (omega arith)
widen_types_byte (k ∷ r ∷ ir ∷ z ∷ t) (suc i) n l m =
    let p : 6 * suc i + n ≡ suc (suc (suc (suc (suc (suc (6 * i + n)))))) = omega arith in
    let q : 4 * suc i + n ≡ suc (suc (suc (suc (4 * i + n)))) = omega arith in
    ap (byte (k ∷ r ∷ ir ∷ z ∷ 0 ∷ 0 ∷ widen_types t)) p ∙ widen_types_byte t i n (omega arith) m ∙ ap (byte (k ∷ r ∷ ir ∷ z ∷ t)) (sym q)
widen_types_byte (k ∷ r ∷ ir ∷ z ∷ t) zero zero l m = refl
widen_types_byte (k ∷ r ∷ ir ∷ z ∷ t) zero (suc zero) l m = refl
widen_types_byte (k ∷ r ∷ ir ∷ z ∷ t) zero (suc (suc zero)) l m = refl
widen_types_byte (k ∷ r ∷ ir ∷ z ∷ t) zero (suc (suc (suc zero))) l m = refl
widen_types_byte (k ∷ r ∷ ir ∷ z ∷ t) zero (suc (suc (suc (suc n)))) l m = absurd (omega arith)

pub widen_script_byte : (s : Bytes) (i n : ℕ) → i < old_records s → n < old_script_width
    → byte (widen_script s) (script_width * i + n) ≡ byte s (old_script_width * i + n)
unfolding widen_script
widen_script_byte [] i n l m = absurd (omega arith)
widen_script_byte (k ∷ []) i n l m = absurd (omega arith)
widen_script_byte (k ∷ r ∷ []) i n l m = absurd (omega arith)
widen_script_byte (k ∷ r ∷ ir ∷ []) i n l m = absurd (omega arith)
widen_script_byte (k ∷ r ∷ ir ∷ z ∷ []) i n l m = absurd (omega arith)
widen_script_byte (k ∷ r ∷ ir ∷ z ∷ lo ∷ []) i n l m = absurd (omega arith)
widen_script_byte (k ∷ r ∷ ir ∷ z ∷ lo ∷ hi ∷ s) (suc i) n l m =
    let p : 8 * suc i + n ≡ suc (suc (suc (suc (suc (suc (suc (suc (8 * i + n)))))))) = omega arith in
    let q : 6 * suc i + n ≡ suc (suc (suc (suc (suc (suc (6 * i + n)))))) = omega arith in
    cc (p, widen_script_byte s i n (omega arith) m, q)
widen_script_byte (k ∷ r ∷ ir ∷ z ∷ lo ∷ hi ∷ s) zero zero l m = refl
widen_script_byte (k ∷ r ∷ ir ∷ z ∷ lo ∷ hi ∷ s) zero (suc zero) l m = refl
widen_script_byte (k ∷ r ∷ ir ∷ z ∷ lo ∷ hi ∷ s) zero (suc (suc zero)) l m = refl
widen_script_byte (k ∷ r ∷ ir ∷ z ∷ lo ∷ hi ∷ s) zero (suc (suc (suc zero))) l m = refl
widen_script_byte (k ∷ r ∷ ir ∷ z ∷ lo ∷ hi ∷ s) zero (suc (suc (suc (suc zero)))) l m = refl
widen_script_byte (k ∷ r ∷ ir ∷ z ∷ lo ∷ hi ∷ s) zero (suc (suc (suc (suc (suc zero))))) l m = refl
widen_script_byte (k ∷ r ∷ ir ∷ z ∷ lo ∷ hi ∷ s) zero (suc (suc (suc (suc (suc (suc n)))))) l m = absurd (omega arith)

pub widen_script_zero : (s : Bytes) (i n : ℕ) → n < 2 → byte (widen_script s) (script_width * i + (old_script_width + n)) ≡ 0
unfolding widen_script
widen_script_zero [] i n m = refl
widen_script_zero (k ∷ []) i n m = refl
widen_script_zero (k ∷ r ∷ []) i n m = refl
widen_script_zero (k ∷ r ∷ ir ∷ []) i n m = refl
widen_script_zero (k ∷ r ∷ ir ∷ z ∷ []) i n m = refl
widen_script_zero (k ∷ r ∷ ir ∷ z ∷ lo ∷ []) i n m = refl
widen_script_zero (k ∷ r ∷ ir ∷ z ∷ lo ∷ hi ∷ s) (suc i) n m =
    let p : 8 * suc i + (6 + n) ≡ suc (suc (suc (suc (suc (suc (suc (suc (8 * i + (6 + n))))))))) = omega arith in
    ap (byte (k ∷ r ∷ ir ∷ z ∷ lo ∷ hi ∷ 0 ∷ 0 ∷ widen_script s)) p ∙ widen_script_zero s i n m
widen_script_zero (k ∷ r ∷ ir ∷ z ∷ lo ∷ hi ∷ s) zero zero m = refl
widen_script_zero (k ∷ r ∷ ir ∷ z ∷ lo ∷ hi ∷ s) zero (suc zero) m = refl
widen_script_zero (k ∷ r ∷ ir ∷ z ∷ lo ∷ hi ∷ s) zero (suc (suc n)) m = absurd (omega arith)

-- bytes are below 256
pub widen_script_octets : (s : Bytes) → Octets s → Octets (widen_script s)
unfolding widen_script
widen_script_octets [] o j = omega arith
widen_script_octets (k ∷ []) o j = omega arith
widen_script_octets (k ∷ r ∷ []) o j = omega arith
widen_script_octets (k ∷ r ∷ ir ∷ []) o j = omega arith
widen_script_octets (k ∷ r ∷ ir ∷ z ∷ []) o j = omega arith
widen_script_octets (k ∷ r ∷ ir ∷ z ∷ lo ∷ []) o j = omega arith
widen_script_octets (k ∷ r ∷ ir ∷ z ∷ lo ∷ hi ∷ s) o zero = o 0
widen_script_octets (k ∷ r ∷ ir ∷ z ∷ lo ∷ hi ∷ s) o (suc zero) = o 1
widen_script_octets (k ∷ r ∷ ir ∷ z ∷ lo ∷ hi ∷ s) o (suc (suc zero)) = o 2
widen_script_octets (k ∷ r ∷ ir ∷ z ∷ lo ∷ hi ∷ s) o (suc (suc (suc zero))) = o 3
widen_script_octets (k ∷ r ∷ ir ∷ z ∷ lo ∷ hi ∷ s) o (suc (suc (suc (suc zero)))) = o 4
widen_script_octets (k ∷ r ∷ ir ∷ z ∷ lo ∷ hi ∷ s) o (suc (suc (suc (suc (suc zero))))) = o 5
widen_script_octets (k ∷ r ∷ ir ∷ z ∷ lo ∷ hi ∷ s) o (suc (suc (suc (suc (suc (suc zero)))))) = omega arith
widen_script_octets (k ∷ r ∷ ir ∷ z ∷ lo ∷ hi ∷ s) o (suc (suc (suc (suc (suc (suc (suc zero))))))) = omega arith
widen_script_octets (k ∷ r ∷ ir ∷ z ∷ lo ∷ hi ∷ s) o (suc (suc (suc (suc (suc (suc (suc (suc j)))))))) =
    widen_script_octets s (λ n. o (suc (suc (suc (suc (suc (suc n))))))) j

-- nothing is left of a record that is cut short
none : (t : Bytes) (i : ℕ) → length t < old_type_width → drop (type_width * suc i) (widen_types t) ≡ widen_types (drop (old_type_width * suc i) t)
unfolding widen_types
none t i l = grind (arith, common_steps)

-- the records from record i on
pub widen_types_drop : (t : Bytes) (i : ℕ) → drop (type_width * i) (widen_types t) ≡ widen_types (drop (old_type_width * i) t)
unfolding widen_types
widen_types_drop t zero = refl
widen_types_drop [] (suc i) = none [] i (omega arith)
widen_types_drop (k ∷ []) (suc i) = none (k ∷ []) i (omega arith)
widen_types_drop (k ∷ r ∷ []) (suc i) = none (k ∷ r ∷ []) i (omega arith)
widen_types_drop (k ∷ r ∷ ir ∷ []) (suc i) = none (k ∷ r ∷ ir ∷ []) i (omega arith)
widen_types_drop (k ∷ r ∷ ir ∷ z ∷ t) (suc i) =
    let p : 6 * suc i ≡ suc (suc (suc (suc (suc (suc (6 * i)))))) = omega arith in
    let q : 4 * suc i ≡ suc (suc (suc (suc (4 * i)))) = omega arith in
    cc (p, widen_types_drop t i, q)

-- With the callers written before it, widening differs in r only.
pub widened_callers_byte : (t s : Bytes) (i n : ℕ) → n < script_width → (n ≡ 1 → ⊥)
    → byte (widen_script (write_callers t s)) (script_width * i + n) ≡ byte (widen_script s) (script_width * i + n)
widened_callers_byte t s i n m d = go (dec_lt i (old_records s)) (dec_lt n old_script_width)
  where
    new : Bytes
    new = write_callers t s

    go : Dec (i < old_records s) → Dec (n < old_script_width) → byte (widen_script new) (script_width * i + n) ≡ byte (widen_script s) (script_width * i + n)
    go (yes l) (yes o) =
        widen_script_byte new i n (omega (arith, callers_length t s)) o ∙ callers_byte t s i n o d ∙ sym (widen_script_byte s i n l o)
    go (yes l) (no o) =
        let x = n - 6 in
        let p : 8 * i + n ≡ 8 * i + (6 + x) = omega arith in
        ap (byte (widen_script new)) p ∙ widen_script_zero new i x (omega arith)
        ∙ sym (ap (byte (widen_script s)) p ∙ widen_script_zero s i x (omega arith))
    go (no l) o =
        get_or-eq_default (widen_script new) 0 {n = script_width * i + n} (omega (arith, widen_script_length new, callers_length t s))
        ∙ sym (get_or-eq_default (widen_script s) 0 {n = script_width * i + n} (omega (arith, widen_script_length s)))
