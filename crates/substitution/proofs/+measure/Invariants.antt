-- The loop has counted the first j operands. A call's record falls to the right in the script.
use Rattle.std.proofs.Common.{◌≡◌, ◌-◌, length}
use Rattle.calculus.specs.Terms.{Term}
use Rattle.rules.specs.Script.{size, depth}
use Rattle.records.specs.Place.{At}
use Rattle.substitution.proofs.Counting.{Counted}
use Rattle.substitution.proofs.+measure.Given as goal

abbrev pub decreases-measure : goal.decreases-measure
decreases-measure l = length l.script.now - l.at

abbrev pub invariant-loop-j : goal.invariant-loop-j
invariant-loop-j l = (e v : Term) → At l.script l.at e → l.value.records ≡ size v → l.value.depth ≡ depth v → Counted l.at l.variable e v l.j l.next l.sum l.below
