-- The loop has scanned and written the first j operands; the names over the record stay. A call's record falls to the
-- right in the script.
use Rattle.std.proofs.Common.{◌≡◌, ℕ, ◌-◌, ◌≤◌, length}
use Rattle.calculus.specs.Terms.{Term}
use Rattle.records.specs.Place.{At}
use Rattle.importing.specs.Scope.{scope}
use Rattle.importing.proofs.Walks.{Reached}
use Rattle.importing.proofs.Turns.{Kept}
use Rattle.importing.proofs.+resolve.Given as goal

abbrev pub decreases-resolve : goal.decreases-resolve
decreases-resolve l = length l.script.now - l.i

abbrev pub invariant-loop-j : goal.invariant-loop-j
invariant-loop-j l =
    ((e : Term) → At l.script l.i e → Reached l.old l.i (scope l.initial.names l.n) e l.fn.out l.j l.next l.out)
    × Kept l.initial.names l.n l.names
