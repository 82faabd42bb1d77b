-- Every statement holds by computation.
use Rattle.std.proofs.Common.{refl}
use Rattle.rules.specs.CreatorExamples.{CreatorExamples}
use Rattle.rules.specs.Answer.{first_from, last_below}
use Rattle.rules.specs.Types.{encode_type}
use Rattle.rules.specs.Script.{encode}
use Rattle.rules.specs.Strip.{strip_from}
use Rattle.rules.specs.Callers.{put_callers, count_callers}
use Rattle.rules.specs.Calls.{types_check, compare_call, check_call, type_bytes, step_call}
use Rattle.rules.specs.Rewriting.{rewriting_types, rewriting_script, rewritten_records}

pub creator_examples : CreatorExamples
unfolding first_from last_below encode_type encode strip_from put_callers count_callers types_check compare_call check_call type_bytes step_call rewriting_types rewriting_script rewritten_records
creator_examples = record {
  creator_past_rows = refl;
  indirect_creator_past_rows = refl;
  creators_below = refl;
  readers_first = refl;
  creators_before_end = refl;
  fewer_creators = refl;
  more_creators = refl;
  fewer_indirect = refl;
  variable_created = refl;
  application_created = refl;
  protect_created = refl;
  protect_indirect = refl;
  object_past_rows = refl;
  protect_past_rows = refl;
  object_created_below = refl;
  groups_first = refl;
  before_types = refl;
  work_unchanged_at_36 = refl;
  read_by_3 = refl;
  read_by_2 = refl;
  read_by_ic = refl;
  protect_by_2 = refl;
  protected = refl;
  created_result = refl;
  created_above = refl;
  created_by_written = refl;
  found_creators = refl;
  unrolled_created = refl;
  object_stripped = refl;
  type_stripped = refl;
  caller_written = refl;
  caller_replaced = refl;
  no_such_caller = refl;
  caller_cut_short = refl;
  one_written = refl;
  none_written = refl;
  rewritten_types = refl;
  rewritten_script = refl;
  types_counted = refl;
  script_counted = refl;
  types_cut_short = refl;
  script_cut_short = refl;
  types_refused = refl;
  script_refused = refl;
  types_in_35 = refl;
  script_in_55 = refl;
  rewritten_kept = refl;
  rewritten_unchanged = refl;
}
