-- One number holds what an exported call answers.
use Rattle.rules.specs.Words.{words_check}
use Rattle.rules.specs.Calls.{groups_check, types_check, compare_call}
use Rattle.packing.specs.Held.{OneNumberHolds}
use Rattle.packing.proofs.Bounds.{groups_bounded, types_bounded, words_bounded, compare_bounded}
use Rattle.packing.proofs.Unpacked.{unpack}
use Rattle.packing.proofs.Exported.{passed_holds, check_holds, profile_holds, run_holds, step_holds, preview_holds}
use Rattle.packing.proofs.Exported.{move_holds, page_holds, compare_holds, types_rewritten_hold}
use Rattle.packing.proofs.Exported.{script_rewritten_holds, importing_holds, exporting_holds}
use Rattle.packing.proofs.Lists.{in_force_holds}

pub one_number_holds : OneNumberHolds
one_number_holds = record {
  read = unpack;
  groups = λ g. passed_holds (groups_check g) (groups_bounded g);
  types = λ g t. passed_holds (types_check g t) (types_bounded g t);
  words = λ w. passed_holds (words_check w) (words_bounded w);
  check = check_holds;
  profile = profile_holds;
  run = run_holds;
  step = step_holds;
  preview = preview_holds;
  move_on = move_holds;
  page = page_holds;
  comparison = λ g t i j. compare_holds (compare_call g t i j) (compare_bounded g t i j);
  types_rewritten = types_rewritten_hold;
  script_rewritten = script_rewritten_holds;
  importing = importing_holds;
  exporting = exporting_holds;
  amended = in_force_holds;
}
