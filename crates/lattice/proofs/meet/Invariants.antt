-- No row from k on is below both.
use Rattle.std.proofs.Common.{◌≤◌}
use Rattle.rules.specs.Limits.{group_limit}
use Rattle.lattice.proofs.Meets.{Searched}
use Rattle.lattice.proofs.meet.Given as goal

abbrev pub invariant-loop-k : goal.invariant-loop-k
invariant-loop-k l = (l.k ≤ group_limit) × Searched l.groups l.g l.h l.k

abbrev pub decreases-loop-k : goal.decreases-loop-k
decreases-loop-k l = l.k
