-- Every statement holds by computation.
use Rattle.std.proofs.Common.{refl}
use Rattle.rules.specs.PacketExamples.{PacketExamples}
use Rattle.rules.specs.Script.{encode, size, depth, term}
use Rattle.rules.specs.Calls.{own_check, script_check}
use Rattle.rules.specs.Packet.{q39_if, before_typing, application_check, desk_check, desk_run, packet_call}
use Rattle.rules.specs.Packet.{packet_report}

pub packet_examples : PacketExamples
unfolding encode size depth term own_check script_check q39_if before_typing application_check desk_check desk_run packet_call packet_report
packet_examples = record {
  packet = refl;
  page = refl;
  as_group_1 = refl;
  page_for_1 = refl;
  spent = refl;
  no_budget = refl;
  too_big = refl;
  no_page_spent = refl;
  no_page_too_big = refl;
  short_work = refl;
  work_first = refl;
  groups_next = refl;
  script_first = refl;
  typing_first = refl;
  entry_empty = refl;
  entry_creators = refl;
  entry_unbound = refl;
  entry_untyped = refl;
  recursion_taken = refl;
  script_39 = refl;
  any_profile = refl;
  script_39_first = refl;
  entry_39 = refl;
  entry_39_first = refl;
  in_profile = refl;
  no_value = refl;
  value_before_group = refl;
  no_group = refl;
  wide_group = refl;
  group_before_37 = refl;
  no_function = refl;
  may_not_call = refl;
  reader_before_38 = refl;
  other_entry = refl;
  entry_above = refl;
  left_side = refl;
  other_before_13 = refl;
  short_first = refl;
  short_scratch = refl;
  just_long = refl;
  deep = refl;
  just_shallow = refl;
  long_before_deep = refl;
  no_room = refl;
  page_kept = refl;
  spent_before_27 = refl;
  work_unchanged_at_19 = refl;
  work_unchanged_at_39 = refl;
  work_cleared = refl;
  first_unchanged = refl;
  scratch_unchanged = refl;
  first_run = refl;
  scratch_run = refl;
}
