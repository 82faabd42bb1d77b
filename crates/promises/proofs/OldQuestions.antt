-- What the rewriting calls ask, each question once: after the old table's own questions, those that are put again to
-- the widened one are answered yes.
use Rattle.std.proofs.Common.{◌≡◌, true, ◌&&◌, [], ℕ, ◌/◌, ◌%◌, arith, nat_eq, nat_le, length}
use Rattle.rules.specs.Answer.{Bytes, Answer, accepted, ◌>>◌, ask, first_from}
use Rattle.rules.specs.Limits.{script_limit, old_type_width, old_script_width}
use Rattle.rules.specs.Types.{q8_of, q8, q9, q10, q36_types, q11, q12}
use Rattle.rules.specs.Script.{q13_of, q13, q19}
use Rattle.rules.specs.Calls.{groups_check, types_check, form_check, own_check, script_check}
use Rattle.rules.specs.Rewriting.{widen_types, widen_script, old_types_check, old_script_check}
use Rattle.rules.proofs.Asked.{and_then}
use Rattle.rules.proofs.Widening.{widen_types_length, widen_script_length}

abbrev pub after_8 : Bytes → Bytes → Answer (Unit {0})
after_8 g t = do
  q9 g t
  q10 g t
  q36_types g t
  q11 t
  q12 t

-- two questions whose yes is known from two earlier ones
known : (a b c d : Answer (Unit {0})) (e : Answer (Unit {0})) → (a ≡ accepted tt → c ≡ accepted tt) → (b ≡ accepted tt → d ≡ accepted tt)
    → ◌>>◌ a (◌>>◌ b (◌>>◌ c (◌>>◌ d e))) ≡ ◌>>◌ a (◌>>◌ b e)
known a b c d e h k = grind arith

types_counted : (t : Bytes) → q8_of old_type_width t ≡ accepted tt → q8 (widen_types t) ≡ accepted tt
types_counted t q = grind (arith, widen_types_length)

pub old_types_asked : (g t : Bytes) → old_types_check g t ≡ ◌>>◌ (groups_check g) (◌>>◌ (q8_of old_type_width t) (after_8 g (widen_types t)))
unfolding old_types_check types_check
old_types_asked g t = grind (arith, after_8, types_counted)

-- 13 of no buffers asks of the length alone
length_alone : (width : ℕ) (s : Bytes) → q13_of width [] s ≡ ask 13 0 (nat_eq (length s % width) 0 && (nat_le 1 (length s / width) && nat_le (length s / width) script_limit))
unfolding first_from
length_alone width s = grind arith

script_counted : (s : Bytes) → q13_of old_script_width [] s ≡ accepted tt → q13 [] (widen_script s) ≡ accepted tt
script_counted s q = grind (arith, widen_script_length, length_alone)

types_passed : (g t : Bytes) → old_types_check g t ≡ accepted tt → types_check g (widen_types t) ≡ accepted tt
unfolding old_types_check
types_passed g t q = (and_then (q8_of old_type_width t) _ (and_then (groups_check g) _ q).1).1

pub old_script_asked : (g t s : Bytes)
    → old_script_check g t s ≡ ◌>>◌ (old_types_check g t) (◌>>◌ (q13_of old_script_width [] s) (◌>>◌ (form_check g (widen_types t) (widen_script s)) (q19 (widen_script s))))
unfolding old_script_check own_check script_check
old_script_asked g t s =
    known (old_types_check g t) (q13_of old_script_width [] s) (types_check g (widen_types t)) (q13 [] (widen_script s))
    (◌>>◌ (form_check g (widen_types t) (widen_script s)) (q19 (widen_script s))) (types_passed g t) (script_counted s)
