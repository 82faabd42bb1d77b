-- The newest script after the entries before e.
use Rattle.std.proofs.Common.{◌≡◌}
use Rattle.promises.specs.InForce.{newest}
use Rattle.answer.specs.Said.{option_of}
use Rattle.amendments.proofs.newest.Given as goal

abbrev pub invariant-loop-e : goal.invariant-loop-e
invariant-loop-e l = option_of l.script ≡ newest l.amendments l.index l.e
