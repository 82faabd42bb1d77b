-- Examples of creators and indirect creators, and of the rewriting of forms 1 and 2, which had none.
use Rattle.std.specs.Prelude.{◌≡◌, [], ◌∷◌, ◌++◌, ℕ, ◌/◌, ◌%◌}
use Rattle.rules.specs.Answer.{Bytes, Answer, accepted, refused}
use Rattle.rules.specs.Limits.{type_width, script_width}
use Rattle.rules.specs.Types.{type_record}
use Rattle.rules.specs.Comparison.{strictly_below, neither}
use Rattle.rules.specs.Script.{full_record, script_record}
use Rattle.rules.specs.Strip.{strip_script, strip_types}
use Rattle.rules.specs.Callers.{write_callers, callers_written}
use Rattle.rules.specs.Calls.{types_check, compare_call, work_after, step_call, written_after, type_bytes}
use Rattle.rules.specs.Rewriting.{rewriting_types, rewriting_script, rewritten_records, rewritten_after}
use Rattle.rules.specs.Reach.{verdict}
use Rattle.rules.specs.Cases.{ty, groups, types_with, types, loop, check}
use Rattle.rules.specs.Examples.{unit, pair, proj, diamond}

-- a type record by all of its groups
abbrev pub created : ℕ → ℕ → ℕ → ℕ → ℕ → Bytes
created kind r ir c ic = type_record kind (record { r = r; ir = ir; c = c; ic = ic })

-- a unit's record with these creators, readers and indirect readers 0
abbrev pub unit_by : ℕ → ℕ → Bytes
unit_by c ic = full_record 1 0 0 0 c ic

-- a pair's record with these creators, readers and indirect readers 0
abbrev pub pair_by : ℕ → ℕ → Bytes
pair_by c ic = full_record 3 0 0 0 c ic

-- a function of the creators of its own record and of its result's
abbrev pub function_by : ℕ → ℕ → ℕ → ℕ → Bytes
function_by c ic c' ic' = created 3 0 0 c ic ++ created 0 0 0 0 0 ++ created 0 0 0 c' ic'

-- a recursion of type 0, called as w, and of no term that has it: 23 comes before the body
abbrev pub recursion_by : ℕ → Bytes
recursion_by w = script_record 11 w 0 0 ++ (proj 0 ++ unit 0 0)

-- what checking answers over the four groups of case J
abbrev pub check_over : Bytes → Bytes → Answer Bytes
check_over t s = type_bytes (verdict diamond t s)

-- a type record of forms 1 and 2
abbrev pub old_type : ℕ → ℕ → ℕ → Bytes
old_type kind r ir = kind ∷ r ∷ ir ∷ 0 ∷ []

-- a script record of these forms
abbrev pub old_record : ℕ → ℕ → ℕ → ℕ → Bytes
old_record k r ir n = k ∷ r ∷ ir ∷ 0 ∷ n % 256 ∷ n / 256 ∷ []

-- the types of cases G to I in these forms
abbrev pub old_types : ℕ → Bytes
old_types r = old_type 1 0 0 ++ old_type 0 0 0 ++ old_type 0 0 0 ++ old_type 3 r r ++ old_type 0 0 0 ++ old_type 0 0 0

-- the loop of those cases in these forms
abbrev pub old_loop : ℕ → ℕ → Bytes
old_loop w caller =
    old_record 6 w 0 0
    ++ old_record 11 caller 0 3
    ++ old_record 2 0 0 4
    ++ old_record 6 0 0 0
    ++ old_record 0 0 0 1
    ++ old_record 0 0 0 0
    ++ old_record 1 0 0 0

-- Each field is one input with its answer, computed.
pub record CreatorExamples : Type 0 where
  -- 9, and 36 of types: after the whole of 10, before 11
  pub creator_past_rows : types_check groups (ty 0 0 0 ++ created 0 0 0 2 0) ≡ refused 9 1
  pub indirect_creator_past_rows : types_check groups (ty 0 0 0 ++ created 0 0 0 0 2) ≡ refused 9 1
  pub creators_below : types_check groups (ty 0 0 0 ++ created 0 0 0 0 1) ≡ refused 36 1
  pub readers_first : types_check groups (created 0 0 0 0 1 ++ ty 0 0 1) ≡ refused 10 1
  pub creators_before_end : types_check groups (ty 1 0 0 ++ created 0 0 0 0 1) ≡ refused 36 1
  -- below turns creators round: made by more is below
  pub fewer_creators : compare_call groups (created 0 0 0 1 0 ++ created 0 0 0 0 0) 0 1 ≡ accepted strictly_below
  pub more_creators : compare_call groups (created 0 0 0 1 0 ++ created 0 0 0 0 0) 1 0 ≡ accepted neither
  pub fewer_indirect : compare_call groups (created 0 0 0 1 1 ++ created 0 0 0 1 0) 0 1 ≡ accepted strictly_below
  -- 14: objects name c and ic, a protect ic alone
  pub variable_created : check types (full_record 0 0 0 0 1 0) ≡ refused 14 0
  pub application_created : check types (full_record 6 0 0 0 0 1 ++ unit 0 0 ++ unit 0 0) ≡ refused 14 0
  pub protect_created : check types (full_record 10 0 0 0 1 0 ++ unit 0 0) ≡ refused 14 0
  pub protect_indirect : check types (full_record 10 0 0 0 0 1 ++ unit_by 1 1) ≡ accepted (created 0 0 0 1 1)
  -- 15, and 36 of objects: after the whole of 15, before 16; the work buffer is not yet in use
  pub object_past_rows : check types (pair 0 0 ++ unit_by 0 1 ++ unit_by 2 0) ≡ refused 15 2
  pub protect_past_rows : check types (full_record 10 0 0 0 0 2 ++ unit 0 0) ≡ refused 15 0
  pub object_created_below : check types (pair 0 0 ++ unit 0 0 ++ unit_by 0 1) ≡ refused 36 2
  pub groups_first : check types (pair_by 0 1 ++ unit 0 0 ++ unit 0 1) ≡ refused 15 2
  pub before_types : check types (script_record 2 0 0 6 ++ unit_by 0 1) ≡ refused 36 1
  pub work_unchanged_at_36 : work_after (verdict groups types (unit_by 0 1)) (9 ∷ 9 ∷ []) ≡ 9 ∷ 9 ∷ []
  -- reading meets ic of what is read, and the group that reads, into c and ic: over J, 1 ⊓ 3 is 1 and 1 ⊓ 2 is 0
  pub read_by_3 : check_over types (script_record 7 3 0 0 ++ pair_by 1 1 ++ unit_by 3 3 ++ unit 0 0) ≡ accepted (created 0 0 0 1 1)
  pub read_by_2 : check_over types (script_record 7 2 0 0 ++ pair_by 1 1 ++ unit_by 3 3 ++ unit 0 0) ≡ accepted (created 0 0 0 0 0)
  pub read_by_ic : check_over types (script_record 7 3 0 0 ++ pair_by 3 1 ++ unit_by 3 2 ++ unit 0 0) ≡ accepted (created 0 0 0 1 0)
  -- and a step's protect carries just that
  pub protect_by_2 : written_after (step_call diamond types (script_record 7 2 0 0 ++ pair_by 3 3 ++ unit_by 3 3 ++ unit 0 0) 16) []
      ≡ full_record 10 0 0 0 0 2 ++ unit_by 3 3
  pub protected : written_after (step_call diamond types (full_record 10 0 0 0 0 2 ++ unit_by 3 1) 8) [] ≡ unit_by 2 0
  -- 23: c of the result ⊑ ic of the function ⊓ the group written, none of them another
  pub created_result : check_over (function_by 3 1 1 0) (recursion_by 3) ≡ refused 20 1
  pub created_above : check_over (function_by 3 1 3 0) (recursion_by 3) ≡ refused 23 0
  pub created_by_written : check_over (function_by 3 3 1 0) (recursion_by 2) ≡ refused 23 0
  -- common types: creators meet where readers join, and join where they meet
  pub found_creators : check_over types (script_record 9 0 0 65535 ++ (full_record 4 0 0 0 3 3 ++ unit 0 0) ++ unit_by 3 1 ++ unit_by 1 1)
      ≡ accepted (created 0 0 0 0 0)
  -- unrolled: the function has all four groups of the type's record
  pub unrolled_created : written_after (step_call diamond (function_by 3 1 1 0) (script_record 11 0 0 0 ++ script_record 0 0 0 0) 40) []
      ≡ full_record 2 0 0 1 3 1 ++ script_record 6 0 0 0 ++ script_record 11 0 0 0 ++ script_record 0 0 0 0 ++ script_record 0 0 0 0
  -- stripping clears all four groups, and no other byte
  pub object_stripped : strip_script (full_record 4 1 1 65535 1 1) ≡ full_record 4 0 0 65535 0 0
  pub type_stripped : strip_types (created 3 1 1 1 1) ≡ created 3 0 0 0 0
  -- Writing the callers of form 1: r of the type in byte 1 of a recursion, and in no other record; not where the type
  -- doesn't exist, nor in a record that is cut short.
  pub caller_written : write_callers (old_types 1) (old_loop 1 0) ≡ old_loop 1 1
  pub caller_replaced : write_callers (old_types 0) (old_loop 1 1) ≡ old_loop 1 0
  pub no_such_caller : write_callers (old_types 1) (old_record 11 0 0 6 ++ old_record 1 0 0 0) ≡ old_record 11 0 0 6 ++ old_record 1 0 0 0
  pub caller_cut_short : write_callers (old_types 1) (old_record 11 0 0 3 ++ (11 ∷ 0 ∷ 0 ∷ 0 ∷ 3 ∷ [])) ≡ old_record 11 1 0 3 ++ (11 ∷ 0 ∷ 0 ∷ 0 ∷ 3 ∷ [])
  pub one_written : callers_written (old_types 0) (old_loop 0 0) ≡ 1
  pub none_written : callers_written (old_types 0) (old_record 11 0 0 6 ++ old_record 9 0 0 0 ++ (11 ∷ 0 ∷ 0 ∷ 0 ∷ 3 ∷ [])) ≡ 0
  -- the rewriting: c and ic as group 0; the record count; 8 and 13 of the old lengths, the other questions with their
  -- places; 27 last; later bytes are kept, and all of them on a refusal
  pub rewritten_types : rewriting_types groups (old_types 1) 36 ≡ accepted (types_with 1 1)
  pub rewritten_script : rewriting_script groups (old_types 1) (old_loop 1 1) 56 ≡ accepted (loop 1 1)
  pub types_counted : rewritten_records type_width (rewriting_types groups (old_types 0) 36) ≡ accepted 6
  pub script_counted : rewritten_records script_width (rewriting_script groups (old_types 0) (old_loop 0 0) 56) ≡ accepted 7
  pub types_cut_short : rewriting_types groups (old_types 0 ++ (0 ∷ 0 ∷ [])) 99 ≡ refused 8 0
  pub script_cut_short : rewriting_script groups (old_types 0) (old_loop 0 0 ++ (1 ∷ 0 ∷ [])) 99 ≡ refused 13 0
  pub types_refused : rewriting_types groups (old_type 0 0 0 ++ old_type 0 0 1) 0 ≡ refused 10 1
  pub script_refused : rewriting_script groups (old_types 0) (old_record 0 0 0 0) 0 ≡ refused 19 0
  pub types_in_35 : rewriting_types groups (old_types 0) 35 ≡ refused 27 0
  pub script_in_55 : rewriting_script groups (old_types 0) (old_loop 0 0) 55 ≡ refused 27 0
  pub rewritten_kept : rewritten_after (rewriting_types groups (old_type 0 1 0) 7) (9 ∷ 9 ∷ 9 ∷ 9 ∷ 9 ∷ 9 ∷ 9 ∷ []) ≡ ty 0 1 0 ++ (9 ∷ [])
  pub rewritten_unchanged : rewritten_after (rewriting_types groups (old_type 0 1 0) 5) (9 ∷ 9 ∷ 9 ∷ 9 ∷ 9 ∷ []) ≡ 9 ∷ 9 ∷ 9 ∷ 9 ∷ 9 ∷ []
