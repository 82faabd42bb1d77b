-- The examples of old office scripts, computed.
use Rattle.std.proofs.Common.{refl}
use Rattle.rules.specs.Answer.{first_from}
use Rattle.rules.specs.Callers.{put_callers, count_callers}
use Rattle.rules.specs.Rewriting.{rewritten_records}
use Rattle.rules.specs.Office.{ok29, import_call, export_call}
use Rattle.rules.specs.OfficeExamples.{OfficeExamples}

pub office_examples : OfficeExamples
unfolding first_from put_callers count_callers rewritten_records ok29 import_call export_call
office_examples = record {
  own = refl;
  outer = refl;
  nearest = refl;
  both_bytes = refl;
  name_0 = refl;
  no_name_0 = refl;
  left_only = refl;
  branches = refl;
  second_in_first = refl;
  first_in_second = refl;
  in_tested = refl;
  not_in_tested = refl;
  recursive = refl;
  empty = refl;
  not_whole = refl;
  numbered = refl;
  unused_first = refl;
  unused_second = refl;
  first_unused = refl;
  second_unused = refl;
  fields_first = refl;
  term_first = refl;
  unused_before_unbound = refl;
  unbound_before_room = refl;
  no_room = refl;
  counted = refl;
  bytes_past = refl;
  kept = refl;
  exported = refl;
  exported_case = refl;
  uncreated = refl;
  export_checks = refl;
  export_room = refl;
  export_counted = refl;
  called = refl;
  not_called = refl;
  one_called = refl;
}
