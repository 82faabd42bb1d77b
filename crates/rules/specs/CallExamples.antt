-- Further examples: what the calls report, write and print.
use Rattle.std.specs.Prelude.{◌≡◌, true, false, [], ◌∷◌, ◌++◌, ℕ, zero, suc}
use Rattle.std.proofs.Math.Option.{none}
use Rattle.calculus.specs.Terms.{Term}
use Rattle.calculus.specs.Terms as terms
use Rattle.rules.specs.Answer.{Bytes, Answer, accepted, refused}
use Rattle.rules.specs.Script.{script_record, no_term, subterm}
use Rattle.rules.specs.Step.{exceeds}
use Rattle.rules.specs.Strip.{strip_script, strip_types}
use Rattle.rules.specs.Calls.{type_records, answer_after, work_after, step_call, StepReport, step_report, written_after}
use Rattle.rules.specs.Calls.{run_call, run_report, first_after, scratch_after, sheet_call, sheet_records, sheet_after}
use Rattle.rules.specs.Sheet.{shown_record}
use Rattle.rules.specs.Reach.{verdict}
use Rattle.rules.specs.Report.{text, decimal_digits, our_words, run_text, report}
use Rattle.rules.specs.Cases.{ty, groups, types_with, types, case_term, loop, ran, ends}
use Rattle.rules.specs.Examples.{var, unit, pair, app, proj, protect, diamond}

-- what a step reports that writes to a buffer of so many bytes
abbrev pub stepped : ℕ → Bytes → Answer StepReport
stepped room s = step_report s (step_call groups types s room)

-- a step's end and record count
abbrev pub step_ends : ℕ → ℕ → Answer StepReport
step_ends end count = accepted (record { end = end; count = count })

-- what a report prints of a run with this budget, in two buffers of so many bytes
abbrev pub printed_run : ℕ → ℕ → Bytes → Bytes
printed_run budget room s = run_text our_words groups types (run_call groups types s budget room room)

-- a projection (7 first, 8 second) of a pair (1,1) of units (0,0) and (1,0)
abbrev pub projection : ℕ → Bytes
projection kind = script_record kind 1 0 0 ++ pair 1 1 ++ unit 0 0 ++ unit 1 0

-- a recursion over type 3, called as w, of a function
abbrev pub recursion : ℕ → Bytes
recursion w = script_record 11 w 0 3 ++ script_record 2 0 0 4 ++ var 1

-- the same unrolled once, where record 3 has groups (r,0)
abbrev pub unrolling : ℕ → ℕ → Bytes
unrolling r w =
    script_record 2 0 0 4
    ++ script_record 2 r 0 4
    ++ script_record 6 w 0 0
    ++ script_record 11 w 0 3
    ++ script_record 2 0 0 4
    ++ var 1
    ++ var 0

-- a sheet record with number 0
abbrev pub shown : ℕ → ℕ → ℕ → Bytes
shown kind r ir = shown_record kind r ir 0

-- A term of pairs whose parts don't matter: 2^(n + 1) - 1 records.
abbrev pub full : ℕ → Term
full zero = no_term
full (suc n) = terms.pair (record { r = 0; ir = 0; c = 0; ic = 0 }) (full n) (full n)

-- n protects around a term
abbrev pub around : ℕ → Term → Term
around zero e = e
around (suc n) e = terms.protect (record { ir = 0; ic = 0 }) (around n e)

-- Each field is one call with what it answers, leaves or prints, computed.
pub record CallExamples : Type 0 where
  -- checking reports the found type's records
  pub records_found : type_records (verdict groups types (case_term 1 1 1)) ≡ accepted 3
  pub none_found : type_records (verdict groups types (case_term 1 1 0)) ≡ refused 21 0
  -- checking's buffers: later answer bytes are kept; the work is all zeros once typing has begun, over its whole length
  pub answer_kept : answer_after (verdict groups types (unit 1 0)) (9 ∷ 9 ∷ 9 ∷ 9 ∷ 9 ∷ 9 ∷ 9 ∷ []) ≡ ty 0 1 0 ++ (9 ∷ [])
  pub answer_unchanged : answer_after (verdict groups types (case_term 1 1 0)) (9 ∷ 9 ∷ []) ≡ 9 ∷ 9 ∷ []
  pub work_cleared : work_after (verdict groups types (unit 1 0)) (9 ∷ 9 ∷ []) ≡ 0 ∷ 0 ∷ []
  pub work_cleared_at_21 : work_after (verdict groups types (case_term 1 1 0)) (9 ∷ 9 ∷ []) ≡ 0 ∷ 0 ∷ []
  pub work_unchanged_at_19 : work_after (verdict groups types (var 0)) (9 ∷ 9 ∷ []) ≡ 9 ∷ 9 ∷ []
  -- a step reports its end and the script's own count, or the new term's if it moved
  pub value_reports : stepped 24 (pair 0 0 ++ unit 0 0 ++ unit 0 0) ≡ step_ends 0 3
  pub moved_reports : stepped 104 (loop 0 0) ≡ step_ends 1 13
  pub may_not_reports : stepped 56 (case_term 1 1 0) ≡ step_ends 2 7
  pub wrong_kind_reports : stepped 16 (proj 0 ++ unit 0 0) ≡ step_ends 3 2
  pub too_big_reports : stepped 96 (loop 0 0) ≡ step_ends 4 7
  pub refusal_reports : stepped 8 (var 0) ≡ refused 19 0
  -- it writes the new term, and nothing unless it moved
  pub joined_value : written_after (step_call diamond types (protect 2 ++ unit 1 1) 8) (9 ∷ 9 ∷ 9 ∷ 9 ∷ 9 ∷ 9 ∷ 9 ∷ 9 ∷ 9 ∷ []) ≡ unit 3 3 ++ (9 ∷ [])
  pub too_big_unwritten : written_after (step_call groups types (loop 0 0) 96) (9 ∷ 9 ∷ []) ≡ 9 ∷ 9 ∷ []
  pub refusal_unwritten : written_after (step_call groups types (var 0) 8) (9 ∷ 9 ∷ []) ≡ 9 ∷ 9 ∷ []
  -- either projection moves, to a protect by the pair's ir
  pub first_projected : written_after (step_call groups types (projection 7) 16) [] ≡ protect 1 ++ unit 0 0
  pub second_projected : written_after (step_call groups types (projection 8) 16) [] ≡ protect 1 ++ unit 1 0
  -- unrolling: the function's property is that of the recursion's type, its parameter type the next index, its
  -- application made as the written group
  pub unrolled : written_after (step_call groups (types_with 1 0) (recursion 0) 56) [] ≡ unrolling 1 0
  pub unrolled_as_1 : written_after (step_call groups (types_with 0 0) (recursion 1) 56) [] ≡ unrolling 0 1
  -- too big is more than 8,192 records, more than the buffer holds, or a depth over 256
  pub 8192-fit : exceeds 70000 (around 1 (full 12)) ≡ false
  pub 8193-exceed : exceeds 70000 (around 2 (full 12)) ≡ true
  pub buffer_fits : exceeds 16 (around 1 (full 0)) ≡ false
  pub buffer_exceeded : exceeds 15 (around 1 (full 0)) ≡ true
  pub depth_256_fits : exceeds 70000 (around 255 (full 0)) ≡ false
  pub depth_257_exceeds : exceeds 70000 (around 256 (full 0)) ≡ true
  -- at the budget a value ends 0 and any other term 1, whatever its next step would say; the largest budget costs
  -- nothing
  pub value_at_budget : ran 2 65536 (case_term 1 1 1) ≡ ends 0 2 2
  pub denied_at_budget : ran 0 65536 (case_term 1 1 0) ≡ ends 1 0 7
  pub big_at_budget : ran 0 96 (loop 0 0) ≡ ends 1 0 7
  pub largest_budget : ran 18446744073709551615 65536 (case_term 1 1 1) ≡ ends 0 2 2
  -- wrong kind before the reader; any value lets its argument move first
  pub kind_before_reader : ran 9 65536 (proj 0 ++ unit 1 1) ≡ ends 3 0 2
  pub argument_moves : ran 9 65536 (app 0 ++ unit 0 0 ++ protect 0 ++ unit 0 0) ≡ ends 3 1 3
  -- the shorter buffer decides
  pub short_scratch : run_report (run_call groups types (loop 0 0) 1 65536 96) ≡ ends 4 0 7
  pub short_first : run_report (run_call groups types (loop 0 0) 1 96 65536) ≡ ends 4 0 7
  -- a run's buffers: the last term and then zeros, all zeros, over their whole lengths
  pub first_filled : first_after (run_call groups types (protect 1 ++ unit 0 0) 1 17 17) (9 ∷ 9 ∷ 9 ∷ 9 ∷ 9 ∷ 9 ∷ 9 ∷ 9 ∷ 9 ∷ 9 ∷ 9 ∷ 9 ∷ 9 ∷ 9 ∷ 9 ∷ 9 ∷ 9 ∷ [])
      ≡ unit 1 1 ++ (0 ∷ 0 ∷ 0 ∷ 0 ∷ 0 ∷ 0 ∷ 0 ∷ 0 ∷ 0 ∷ [])
  pub scratch_cleared : scratch_after (run_call groups types (unit 0 0) 0 8 9) (9 ∷ 9 ∷ 9 ∷ 9 ∷ 9 ∷ 9 ∷ 9 ∷ 9 ∷ 9 ∷ []) ≡ 0 ∷ 0 ∷ 0 ∷ 0 ∷ 0 ∷ 0 ∷ 0 ∷ 0 ∷ 0 ∷ []
  pub first_unchanged : first_after (run_call groups types (var 0) 1 8 8) (9 ∷ []) ≡ 9 ∷ []
  -- the look-up
  pub part : subterm (loop 0 0) 3 ≡ app 0 ++ var 1 ++ var 0
  pub no_part : subterm (loop 0 0) 7 ≡ []
  pub no_term : subterm (pair 0 0 ++ unit 0 0) 1 ≡ []
  -- stripping, with a last record that is cut short
  pub stripped_script : strip_script (4 ∷ 1 ∷ 1 ∷ 7 ∷ 3 ∷ 2 ∷ 1 ∷ 1 ∷ 1 ∷ 1 ∷ []) ≡ 4 ∷ 0 ∷ 0 ∷ 7 ∷ 3 ∷ 2 ∷ 0 ∷ 0 ∷ 1 ∷ 0 ∷ []
  pub stripped_types : strip_types (3 ∷ 1 ∷ 1 ∷ 7 ∷ 1 ∷ 1 ∷ 2 ∷ 1 ∷ []) ≡ 3 ∷ 0 ∷ 0 ∷ 7 ∷ 0 ∷ 0 ∷ 2 ∷ 0 ∷ []
  -- the sheet: a closed object stands for its parts; neither they nor a function's body are shown; 25 to 27
  pub closed_with_parts : sheet_call groups types (pair 1 1 ++ unit 0 0 ++ unit 1 0) 0 6 ≡ accepted (shown 5 0 0)
  pub closed_inside : sheet_call groups types (pair 0 0 ++ pair 1 1 ++ unit 0 0 ++ unit 0 0 ++ unit 0 0) 0 18 ≡ accepted (shown 3 0 0 ++ shown 5 0 0 ++ shown 0 0 0)
  pub open_to_1 : sheet_call groups types (pair 1 1 ++ unit 0 0 ++ unit 1 0) 1 18 ≡ accepted (shown 3 1 1 ++ shown 0 0 0 ++ shown 0 1 0)
  pub body_not_shown : sheet_call groups types (script_record 5 0 0 0 ++ script_record 2 0 0 4 ++ unit 0 0) 0 12 ≡ accepted (shown 2 0 0 ++ shown 4 0 0)
  pub wide_group : sheet_call groups types (unit 0 0) 256 6 ≡ refused 25 0
  pub no_value : sheet_call groups types (protect 0 ++ unit 0 0) 0 8 ≡ refused 26 0
  pub no_value_inside : sheet_call groups types (pair 1 1 ++ unit 0 0 ++ protect 0 ++ unit 0 0) 0 16 ≡ refused 26 0
  pub short_sheet : sheet_call groups types (unit 0 0) 0 5 ≡ refused 27 0
  -- its count of records; later bytes are kept, and all on a refusal
  pub sheet_counted : sheet_records (sheet_call groups types (pair 0 0 ++ unit 0 0 ++ unit 1 0) 0 18) ≡ accepted 3
  pub sheet_uncounted : sheet_records (sheet_call groups types (unit 0 0) 0 5) ≡ refused 27 0
  pub sheet_kept : sheet_after (sheet_call groups types (unit 1 0) 1 7) (9 ∷ 9 ∷ 9 ∷ 9 ∷ 9 ∷ 9 ∷ 9 ∷ []) ≡ shown 0 1 0 ++ (9 ∷ [])
  pub sheet_unchanged : sheet_after (sheet_call groups types (unit 0 0) 0 5) (9 ∷ 9 ∷ 9 ∷ []) ≡ 9 ∷ 9 ∷ 9 ∷ []
  -- texts: letters by their codes, numbers of up to 64 bits
  pub letters : text "unit 0\n" ≡ 117 ∷ 110 ∷ 105 ∷ 116 ∷ 32 ∷ 48 ∷ 10 ∷ []
  pub smallest : decimal_digits 0 ≡ text "0"
  pub three_digits : decimal_digits 256 ≡ text "256"
  pub largest : decimal_digits 18446744073709551615 ≡ text "18446744073709551615"
  -- the sheet only at end 0
  pub value_printed : printed_run 2 65536 (case_term 1 1 1) ≡ text "end 0 steps 2 records 2\nclosed 0 0\n"
  pub spent_printed : printed_run 1 65536 (case_term 1 1 1) ≡ text "end 1 steps 1 records 3\n"
  pub may_not_printed : printed_run 9 65536 (case_term 1 1 0) ≡ text "end 2 steps 0 records 7\n"
  pub too_big_printed : printed_run 9 96 (loop 0 0) ≡ text "end 4 steps 0 records 7\n"
  pub whole_report : report none groups types (pair 0 0 ++ unit 1 1 ++ script_record 5 0 0 0 ++ unit 0 0)
      ≡ text "accepted 5\nend 0 steps 0 records 4\npair 0 0\nclosed 0 0\nsecond 0 0\nunit 0 0\n"
