-- Every statement holds by computation.
use Rattle.std.proofs.Common.{refl}
use Rattle.rules.specs.CallExamples.{CallExamples}
use Rattle.rules.specs.Types.{encode_type}
use Rattle.rules.specs.Script.{encode, size, depth, subterm}
use Rattle.rules.specs.Step.{exceeds}
use Rattle.rules.specs.Strip.{strip_from}
use Rattle.rules.specs.Calls.{check_call, type_records, step_call, run_call, run_report, sheet_call, sheet_records}
use Rattle.rules.specs.Report.{text, decimal_digits, our_words, run_text, report}
use Rattle.rules.specs.Words.{word}

pub call_examples : CallExamples
unfolding encode_type encode size depth subterm exceeds strip_from check_call type_records step_call run_call run_report sheet_call sheet_records text decimal_digits our_words word run_text report
call_examples = record {
  records_found = refl;
  none_found = refl;
  answer_kept = refl;
  answer_unchanged = refl;
  work_cleared = refl;
  work_cleared_at_21 = refl;
  work_unchanged_at_19 = refl;
  value_reports = refl;
  moved_reports = refl;
  may_not_reports = refl;
  wrong_kind_reports = refl;
  too_big_reports = refl;
  refusal_reports = refl;
  joined_value = refl;
  too_big_unwritten = refl;
  refusal_unwritten = refl;
  first_projected = refl;
  second_projected = refl;
  unrolled = refl;
  unrolled_as_1 = refl;
  8192-fit = refl;
  8193-exceed = refl;
  buffer_fits = refl;
  buffer_exceeded = refl;
  depth_256_fits = refl;
  depth_257_exceeds = refl;
  value_at_budget = refl;
  denied_at_budget = refl;
  big_at_budget = refl;
  largest_budget = refl;
  kind_before_reader = refl;
  argument_moves = refl;
  short_scratch = refl;
  short_first = refl;
  first_filled = refl;
  scratch_cleared = refl;
  first_unchanged = refl;
  part = refl;
  no_part = refl;
  no_term = refl;
  stripped_script = refl;
  stripped_types = refl;
  closed_with_parts = refl;
  closed_inside = refl;
  open_to_1 = refl;
  body_not_shown = refl;
  wide_group = refl;
  no_value = refl;
  no_value_inside = refl;
  short_sheet = refl;
  sheet_counted = refl;
  sheet_uncounted = refl;
  sheet_kept = refl;
  sheet_unchanged = refl;
  letters = refl;
  smallest = refl;
  three_digits = refl;
  largest = refl;
  value_printed = refl;
  spent_printed = refl;
  may_not_printed = refl;
  too_big_printed = refl;
  whole_report = refl;
}
