-- Every statement holds by computation.
use Rattle.std.proofs.Common.{refl}
use Rattle.rules.specs.NumberExamples.{NumberExamples}
use Rattle.rules.specs.Answer.{first_from, last_below}
use Rattle.rules.specs.Types.{encode_type}
use Rattle.rules.specs.Script.{encode}
use Rattle.rules.specs.Strip.{strip_from}
use Rattle.rules.specs.Calls.{types_check, compare_call, check_call, type_bytes, step_call, run_call, run_report}
use Rattle.rules.specs.Calls.{sheet_call}
use Rattle.rules.specs.Rewriting.{rewriting_script}
use Rattle.rules.specs.Words.{word}
use Rattle.rules.specs.Report.{text, our_words, report}

pub number_examples : NumberExamples
unfolding first_from last_below encode_type encode strip_from types_check compare_call check_call type_bytes step_call run_call run_report sheet_call rewriting_script word text our_words report
number_examples = record {
  number_type = refl;
  number_in_pair = refl;
  pair_unfinished = refl;
  number_below = refl;
  number_no_unit = refl;
  unit_no_number = refl;
  kind_past_14 = refl;
  numbered_sum = refl;
  indirect_sum = refl;
  created_less = refl;
  largest_literal = refl;
  literal_past_rows = refl;
  literal_indirect = refl;
  literal_created = refl;
  sum_past_rows = refl;
  less_past_types = refl;
  less_of_function = refl;
  less_of_own = refl;
  first_no_unit = refl;
  second_no_unit = refl;
  left_kind = refl;
  left_reader = refl;
  right_typed = refl;
  right_kind = refl;
  right_reader = refl;
  readers_apart = refl;
  node_creates = refl;
  left_raises = refl;
  both_raise = refl;
  less_found = refl;
  found_number = refl;
  no_common_type = refl;
  summed = refl;
  held = refl;
  largest_held = refl;
  is_less = refl;
  is_equal = refl;
  is_more = refl;
  sum_creates = refl;
  raised_literal = refl;
  left_first = refl;
  right_moves = refl;
  right_kind_first = refl;
  left_may_not = refl;
  right_may_not = refl;
  two_records = refl;
  number_projected = refl;
  shown = refl;
  closed = refl;
  printed = refl;
  stripped = refl;
  rewritten = refl;
}
