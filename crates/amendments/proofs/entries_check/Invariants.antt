-- The entries before e pass, and the two sets hold what they name.
use Rattle.std.proofs.Common.{◌≡◌}
use Rattle.rules.specs.Answer.{accepted}
use Rattle.rules.specs.InForce.{entries_check}
use Rattle.amendments.specs.Seen.{Before}
use Rattle.amendments.proofs.entries_check.Given as goal

abbrev pub invariant-loop-e : goal.invariant-loop-e
invariant-loop-e l = (entries_check l.groups l.types l.scripts l.amendments l.e ≡ accepted tt) × Before l.amendments l.e l.seen
