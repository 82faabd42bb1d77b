-- The loop has scanned the first j operands. The measure is what is left of the script.
use Rattle.std.proofs.Common.{◌-◌, length}
use Rattle.calculus.specs.Terms.{Term}
use Rattle.records.specs.Place.{At}
use Rattle.scope.proofs.Walks.{Reached}
use Rattle.scope.proofs.+walk.Given as goal

abbrev pub decreases-walk : goal.decreases-walk
decreases-walk g l = length l.script.now - l.i

abbrev pub invariant-loop-j : goal.invariant-loop-j
invariant-loop-j g l = (u : Term) → At l.script l.i u → Reached g.C.Count.counted l.script l.i l.n u l.j l.next
