-- Examples of literals, sums and less than.
use Rattle.std.specs.Prelude.{◌≡◌, [], ◌∷◌, ◌++◌, ℕ}
use Rattle.std.proofs.Math.Option.{none}
use Rattle.rules.specs.Answer.{Bytes, accepted, refused}
use Rattle.rules.specs.Comparison.{strictly_below, neither}
use Rattle.rules.specs.Script.{full_record, script_record}
use Rattle.rules.specs.Strip.{strip_script}
use Rattle.rules.specs.Calls.{types_check, compare_call, step_call, written_after, sheet_call}
use Rattle.rules.specs.Sheet.{shown_record}
use Rattle.rules.specs.Rewriting.{rewriting_script}
use Rattle.rules.specs.Report.{text, report}
use Rattle.rules.specs.Cases.{ty, groups, types, check, ran, ends}
use Rattle.rules.specs.Examples.{unit, pair, proj, protect}
use Rattle.rules.specs.CallExamples.{stepped, step_ends}
use Rattle.rules.specs.FoundExamples.{finds}
use Rattle.rules.specs.CreatorExamples.{created, check_over, old_record, old_types}

-- a literal's record with these readers
abbrev pub literal : ℕ → ℕ → ℕ → Bytes
literal r ir n = script_record 12 r ir n

-- the record of a sum of two, made as w
abbrev pub plus : ℕ → Bytes
plus w = script_record 13 w 0 0

-- a less than's record, made as w
abbrev pub less : ℕ → ℕ → Bytes
less w i = script_record 14 w 0 i

-- a sum of units whose three records have other groups
abbrev pub flags : Bytes
flags = ty 1 1 1 ++ ty 0 0 0 ++ ty 0 1 0

-- Each field is one input with its answer, computed.
pub record NumberExamples : Type 0 where
  -- type kind 4 has no sides, and is neither below nor above a unit
  pub number_type : types_check groups (ty 4 0 0) ≡ accepted tt
  pub number_in_pair : types_check groups (ty 2 0 0 ++ ty 4 0 0 ++ ty 0 0 0) ≡ accepted tt
  pub pair_unfinished : types_check groups (ty 0 0 0 ++ ty 2 0 0 ++ ty 4 0 0) ≡ refused 11 1
  pub number_below : compare_call groups (ty 4 0 0 ++ ty 4 1 0) 0 1 ≡ accepted strictly_below
  pub number_no_unit : compare_call groups (ty 4 0 0 ++ ty 0 0 0) 0 1 ≡ accepted neither
  pub unit_no_number : compare_call groups (ty 4 0 0 ++ ty 0 0 0) 1 0 ≡ accepted neither
  -- 14: kinds up to 14; a sum names no number, neither names ir
  pub kind_past_14 : check types (script_record 15 0 0 0) ≡ refused 14 0
  pub numbered_sum : check types (script_record 13 0 0 1 ++ literal 0 0 3 ++ literal 0 0 4) ≡ refused 14 0
  pub indirect_sum : check types (script_record 13 0 1 0 ++ literal 0 0 3 ++ literal 0 0 4) ≡ refused 14 0
  pub created_less : check types (full_record 14 0 0 0 1 0 ++ literal 0 0 3 ++ literal 0 0 4) ≡ refused 14 0
  -- 15 and 36 take a literal like a unit
  pub largest_literal : check types (literal 1 0 65535) ≡ accepted (ty 4 1 0)
  pub literal_past_rows : check types (literal 2 0 3) ≡ refused 15 0
  pub literal_indirect : check types (literal 0 1 3) ≡ refused 15 0
  pub literal_created : check types (full_record 12 0 0 3 0 1) ≡ refused 36 0
  pub sum_past_rows : check types (plus 2 ++ literal 0 0 3 ++ literal 0 0 4) ≡ refused 15 0
  -- 16: less than names a sum of two units
  pub less_past_types : check types (less 0 6 ++ literal 0 0 3 ++ literal 0 0 4) ≡ refused 16 0
  pub less_of_function : check types (less 0 3 ++ literal 0 0 3 ++ literal 0 0 4) ≡ refused 16 0
  pub less_of_own : check types (less 0 65535 ++ literal 0 0 3 ++ literal 0 0 4) ≡ refused 16 0
  pub first_no_unit : check (ty 1 0 0 ++ ty 4 0 0 ++ ty 0 0 0) (less 0 0 ++ literal 0 0 3 ++ literal 0 0 4) ≡ refused 16 0
  pub second_no_unit : check (ty 1 0 0 ++ ty 0 0 0 ++ ty 4 0 0) (less 0 0 ++ literal 0 0 3 ++ literal 0 0 4) ≡ refused 16 0
  -- typing: 20 and 21 of the left operand before the right has its type, then 20 and 21 of the right, all at the node
  pub left_kind : check types (protect 0 ++ plus 0 ++ unit 1 1 ++ proj 0 ++ unit 0 0) ≡ refused 20 1
  pub left_reader : check types (protect 0 ++ plus 0 ++ literal 1 0 3 ++ proj 0 ++ unit 0 0) ≡ refused 21 1
  pub right_typed : check types (protect 0 ++ plus 0 ++ literal 0 0 3 ++ proj 0 ++ unit 0 0) ≡ refused 20 3
  pub right_kind : check types (protect 0 ++ less 0 0 ++ literal 0 0 3 ++ unit 1 1) ≡ refused 20 1
  pub right_reader : check types (protect 0 ++ less 0 0 ++ literal 0 0 3 ++ literal 1 0 4) ≡ refused 21 1
  -- the result has neither operand's r nor c; it is raised by each one's ir, and by ic and the node's group: over J, 1
  -- ⊔ 2 is 3
  pub readers_apart : check types (plus 1 ++ literal 1 0 3 ++ literal 1 0 4) ≡ accepted (ty 4 0 0)
  pub node_creates : check_over types (plus 2 ++ full_record 12 0 0 3 3 3 ++ full_record 12 0 0 4 3 3) ≡ accepted (created 4 0 0 2 2)
  pub left_raises : check_over types (plus 3 ++ full_record 12 1 1 3 3 1 ++ full_record 12 0 0 4 3 3) ≡ accepted (created 4 1 1 1 1)
  pub both_raise : check_over types (plus 3 ++ full_record 12 1 1 3 3 3 ++ full_record 12 2 2 4 3 1) ≡ accepted (created 4 3 3 1 1)
  -- less than has the named sum's sides, and its own groups
  pub less_found : check flags (less 0 0 ++ literal 0 0 3 ++ literal 0 0 4) ≡ accepted (ty 1 0 0 ++ ty 0 0 0 ++ ty 0 1 0)
  -- common types: of two numbers, and none of a number and a unit
  pub found_number : check types (finds 0 0 0 (literal 1 0 3) (literal 0 0 4)) ≡ accepted (ty 4 1 0)
  pub no_common_type : check types (finds 0 0 0 (literal 0 0 3) (unit 0 0)) ≡ refused 31 0
  -- one step, to no more than 65,535
  pub summed : written_after (step_call groups types (plus 0 ++ literal 0 0 65000 ++ literal 0 0 534) 8) [] ≡ literal 0 0 65534
  pub held : written_after (step_call groups types (plus 0 ++ literal 0 0 65000 ++ literal 0 0 536) 8) [] ≡ literal 0 0 65535
  pub largest_held : written_after (step_call groups types (plus 0 ++ literal 0 0 65535 ++ literal 0 0 65535) 8) [] ≡ literal 0 0 65535
  -- less than: the side's unit with all of its groups, the injection's from the operands
  pub is_less : written_after (step_call groups flags (less 1 0 ++ literal 1 0 3 ++ literal 1 0 4) 16) [] ≡ script_record 4 0 0 0 ++ unit 0 0
  pub is_equal : written_after (step_call groups flags (less 1 0 ++ literal 1 1 4 ++ literal 1 0 4) 16) [] ≡ script_record 5 1 1 0 ++ unit 1 0
  pub is_more : written_after (step_call groups flags (less 1 0 ++ literal 0 0 256 ++ literal 0 0 4) 16) [] ≡ script_record 5 0 0 0 ++ unit 1 0
  pub sum_creates : written_after (step_call groups types (plus 1 ++ full_record 12 0 0 3 1 1 ++ full_record 12 0 0 4 1 1) 8) [] ≡ full_record 12 0 0 7 1 1
  pub raised_literal : written_after (step_call groups types (protect 1 ++ literal 0 0 7) 8) [] ≡ literal 1 1 7
  -- the left operand moves first; any value lets the right one move; both kinds come before either reader
  pub left_first : written_after (step_call groups types (plus 0 ++ protect 0 ++ literal 0 0 3 ++ protect 0 ++ literal 0 0 4) 32) []
      ≡ plus 0 ++ literal 0 0 3 ++ protect 0 ++ literal 0 0 4
  pub right_moves : ran 9 65536 (plus 0 ++ unit 0 0 ++ protect 0 ++ literal 0 0 4) ≡ ends 3 1 3
  pub right_kind_first : ran 9 65536 (plus 0 ++ literal 1 1 3 ++ unit 0 0) ≡ ends 3 0 3
  pub left_may_not : ran 9 65536 (plus 0 ++ literal 1 1 3 ++ literal 0 0 4) ≡ ends 2 0 3
  pub right_may_not : ran 9 65536 (plus 0 ++ literal 0 0 3 ++ literal 1 1 4) ≡ ends 2 0 3
  pub two_records : stepped 8 (less 0 0 ++ literal 0 0 3 ++ literal 0 0 4) ≡ step_ends 4 3
  -- a number is no function, pair or injection
  pub number_projected : ran 9 65536 (proj 0 ++ literal 0 0 3) ≡ ends 3 0 2
  -- the sheet: kind 6 and the number; a closed literal has number 0; it is printed after ir, 0 too
  pub shown : sheet_call groups types (literal 1 1 513) 1 6 ≡ accepted (6 ∷ 1 ∷ 1 ∷ 0 ∷ 1 ∷ 2 ∷ [])
  pub closed : sheet_call groups types (literal 1 1 513) 0 6 ≡ accepted (shown_record 5 0 0 0)
  pub printed : report none groups types (pair 0 0 ++ literal 0 0 0 ++ pair 0 0 ++ literal 1 0 9 ++ literal 0 0 65535)
      ≡ text "accepted 5\nend 0 steps 0 records 5\npair 0 0\nnumber 0 0 0\npair 0 0\nclosed 0 0\nnumber 0 0 65535\n"
  -- stripping keeps the number, and rewriting from form 2 passes the new kinds
  pub stripped : strip_script (full_record 12 1 1 513 1 1) ≡ full_record 12 0 0 513 0 0
  pub rewritten : rewriting_script groups (old_types 0) (old_record 14 1 0 0 ++ old_record 12 0 0 3 ++ old_record 12 1 0 4) 24
      ≡ accepted (less 1 0 ++ literal 0 0 3 ++ literal 1 0 4)
