-- Examples of a case whose number is 65,535, which finds its own type.
use Rattle.std.specs.Prelude.{◌≡◌, true, false, [], ◌∷◌, ◌++◌, ℕ, zero, suc}
use Rattle.calculus.specs.Terms as terms
use Rattle.rules.specs.Answer.{Bytes, Answer, accepted, refused}
use Rattle.rules.specs.Groups.{meet}
use Rattle.rules.specs.Script.{script_record, no_term, q18}
use Rattle.rules.specs.Step.{exceeds}
use Rattle.rules.specs.Strip.{strip_script}
use Rattle.rules.specs.Calls.{type_bytes, work_after, step_call, written_after}
use Rattle.rules.specs.Reach.{verdict}
use Rattle.rules.specs.Cases.{ty, groups, types, check}
use Rattle.rules.specs.Examples.{var, unit, pair, proj, protect, diamond}
use Rattle.rules.specs.CallExamples.{around}

-- a first injection of a unit, with these groups, tested by a case of r that finds its own type
abbrev pub finds : ℕ → ℕ → ℕ → Bytes → Bytes → Bytes
finds w r ir a b = script_record 9 w 0 65535 ++ (script_record 4 r ir 0 ++ unit 0 0) ++ a ++ b

-- what checking reports over the four groups of case J
abbrev pub check_in_diamond : Bytes → Bytes → Answer Bytes
check_in_diamond t s = type_bytes (verdict diamond t s)

-- a sum of units, and units (1,1) and (2,2)
abbrev pub parameters : Bytes
parameters = ty 1 0 0 ++ ty 0 0 0 ++ ty 0 0 0 ++ ty 0 1 1 ++ ty 0 2 2

-- n protects around a case that finds its own type, whose tested unit is its deepest record
abbrev pub deep : ℕ → Bytes
deep zero = finds 0 0 0 (var 0) (var 0)
deep (suc n) = protect 0 ++ deep n

-- the same case as a term
abbrev pub found_case : terms.Term
found_case = terms.case 0 65535 (terms.inj terms.first (record { r = 0; ir = 0; c = 0; ic = 0 }) 0 no_term) no_term no_term

-- Each field is one input with its answer, computed.
pub record FoundExamples : Type 0 where
  -- the join of the branches' groups, raised by ir of the tested operand
  pub found : check types (finds 0 0 0 (unit 1 0) (unit 0 0)) ≡ accepted (ty 0 1 0)
  pub found_raised : check types (finds 1 1 1 (unit 0 0) (unit 1 0)) ≡ accepted (ty 0 1 1)
  pub joined_not_larger : check_in_diamond types (finds 0 0 0 (unit 1 1) (unit 2 2)) ≡ accepted (ty 0 3 3)
  -- of a parameter's groups the meet, which is no smaller number
  pub met : check_in_diamond parameters (finds 0 0 0 (script_record 2 0 0 3 ++ unit 0 0) (script_record 2 0 0 4 ++ unit 1 0))
      ≡ accepted (ty 3 0 0 ++ ty 0 0 0 ++ ty 0 1 0)
  pub meet_not_smaller : meet diamond 1 2 ≡ 0
  -- 31 where the kinds differ, at the case; after what the second branch refuses
  pub no_common_type : check types (protect 0 ++ finds 0 0 0 (unit 0 0) (pair 0 0 ++ unit 0 0 ++ unit 0 0)) ≡ refused 31 1
  pub second_branch_first : check types (protect 0 ++ finds 0 0 0 (unit 0 0) (pair 0 0 ++ unit 0 0 ++ (proj 0 ++ unit 0 0))) ≡ refused 20 7
  pub first_branch_first : check types (finds 0 0 0 (proj 0 ++ unit 0 0) (pair 0 0 ++ unit 0 0 ++ unit 0 0)) ≡ refused 20 3
  pub reader_as_ever : check types (finds 0 1 1 (unit 0 0) (unit 0 0)) ≡ refused 21 0
  pub work_cleared_at_31 : work_after (verdict groups types (finds 0 0 0 (unit 0 0) (pair 0 0 ++ unit 0 0 ++ unit 0 0))) (9 ∷ 9 ∷ []) ≡ 0 ∷ 0 ∷ []
  -- 16 passes the number at a case alone
  pub no_own_function : check types (script_record 2 0 0 65535 ++ unit 0 0) ≡ refused 16 0
  pub no_own_injection : check types (script_record 4 0 0 65535 ++ unit 0 0) ≡ refused 16 0
  pub no_own_recursion : check types (script_record 11 0 0 65535 ++ unit 0 0) ≡ refused 16 0
  -- all three operands have the case's depth plus two, in 18
  pub own_256 : q18 (deep 252) ≡ accepted tt
  pub own_257 : q18 (deep 253) ≡ refused 18 255
  -- and in too big
  pub own_fits : exceeds 70000 (around 252 found_case) ≡ false
  pub own_exceeds : exceeds 70000 (around 253 found_case) ≡ true
  -- it steps as any other, and stripping keeps its number
  pub own_steps : written_after (step_call groups types (finds 1 1 1 (var 0) (unit 1 1)) 16) [] ≡ protect 1 ++ unit 0 0
  pub own_stripped : strip_script (script_record 9 1 0 65535) ≡ script_record 9 0 0 65535
