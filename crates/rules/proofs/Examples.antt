-- Every statement holds by computation.
use Rattle.std.proofs.Common.{refl}
use Rattle.rules.specs.Examples.{Examples}
use Rattle.rules.specs.Answer.{first_from}
use Rattle.rules.specs.Script.{term, depths_from, binders_from, ok18}
use Rattle.rules.specs.Calls.{groups_check, types_check, compare_call, check_call, type_bytes, run_call, run_report}

pub examples : Examples
unfolding first_from term depths_from binders_from ok18 groups_check types_check compare_call check_call type_bytes run_call run_report
examples = record {
  row_and_bit = refl;
  not_transposed = refl;
  outside = refl;
  bit_past_rows = refl;
  not_lowest = refl;
  not_transitive = refl;
  no_groups = refl;
  row_bytes = refl;
  nine_groups = refl;
  ninth_above = refl;
  32-rows = refl;
  33-rows = refl;
  4096-types = refl;
  4097-types = refl;
  8192-records = refl;
  8193-records = refl;
  joined_type = refl;
  no_types = refl;
  kind_past_4 = refl;
  byte_3 = refl;
  group_past_rows = refl;
  indirect_above = refl;
  unfinished = refl;
  63-in-table = refl;
  65-in-table = refl;
  contravariant = refl;
  not_covariant = refl;
  first_index = refl;
  second_index = refl;
  same_apart = refl;
  only_below = refl;
  only_above = refl;
  other_kind = refl;
  one_side_below = refl;
  sides_mixed = refl;
  equal_sides = refl;
  no_room = refl;
  no_scratch = refl;
  unnamed_field = refl;
  label_past_rows = refl;
  case_past_rows = refl;
  recursion_past_rows = refl;
  protect_past_rows = refl;
  no_such_type = refl;
  no_result_type = refl;
  no_sum = refl;
  no_function = refl;
  cut_short = refl;
  left_over = refl;
  cut_shorter = refl;
  more_left_over = refl;
  depth_256 = refl;
  depth_257 = refl;
  depth_first = refl;
  number_bytes = refl;
  type_256 = refl;
  variable_256 = refl;
  branch_binder = refl;
  one_binder = refl;
  tested_unbound = refl;
  function_first = refl;
  argument_next = refl;
  argument_wanted = refl;
  reader_first = refl;
  condition_first = refl;
  called_above = refl;
  called_below = refl;
  left_first = refl;
  size_last = refl;
  projection_may_not = refl;
  injection_wanted = refl;
  branch_wanted = refl;
  second_branch_wanted = refl;
  body_wanted = refl;
  function_of_65 = refl;
  63-found = refl;
  65-found = refl;
  short_work = refl;
  short_answer = refl;
  long_enough = refl;
}
