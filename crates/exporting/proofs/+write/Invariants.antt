-- The loop has written the first j operands. A call's record falls to the right in the script.
use Rattle.std.proofs.Common.{◌-◌, length}
use Rattle.calculus.specs.Terms.{Term}
use Rattle.records.specs.Place.{At}
use Rattle.exporting.proofs.Writing.{Copied}
use Rattle.exporting.proofs.+write.Given as goal

abbrev pub decreases-write : goal.decreases-write
decreases-write l = length l.script.now - l.i

abbrev pub invariant-loop-j : goal.invariant-loop-j
invariant-loop-j l = (e : Term) → At l.script l.i e → Copied l.i l.outside e l.fn.out l.j l.next l.out
