-- The loop has written the first j operands. A call's record falls to the right in the script.
use Rattle.std.proofs.Common.{◌≡◌, ◌-◌, ◌++◌, length}
use Rattle.calculus.specs.Terms.{Term}
use Rattle.rules.specs.Script.{encode}
use Rattle.records.specs.Place.{At}
use Rattle.substitution.proofs.Writing.{Copied}
use Rattle.substitution.proofs.+write.Given as goal

abbrev pub decreases-write : goal.decreases-write
decreases-write l = length l.script.now - l.at

abbrev pub invariant-loop-j : goal.invariant-loop-j
invariant-loop-j l =
    (e v : Term) → At l.script l.at e → l.front ++ (l.mid ++ l.back) ≡ encode v
    → Copied l.at l.variable e v l.initial.out l.j l.next l.out
