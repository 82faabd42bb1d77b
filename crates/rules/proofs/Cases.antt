-- Every statement holds by computation.
use Rattle.std.proofs.Common.{refl}
use Rattle.rules.specs.Cases.{Cases}
use Rattle.rules.specs.Groups.{join}
use Rattle.rules.specs.Calls.{groups_check, check_call, type_bytes, run_call, run_report}
use Rattle.rules.specs.Report.{text, report}

pub cases : Cases
unfolding groups_check join check_call type_bytes run_call run_report text report
cases = record {
  a_refused = refl;
  a_run = refl;
  a_report = refl;
  b_type = refl;
  b_run = refl;
  b_report = refl;
  c_type = refl;
  c_run = refl;
  D = refl;
  E = refl;
  F = refl;
  g_accepted = refl;
  g_run = refl;
  h_96 = refl;
  h_104 = refl;
  I = refl;
  J = refl;
  j_join = refl;
  K = refl;
  L = refl;
}
