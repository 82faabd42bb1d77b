-- The first i records stand widened in front.
use Rattle.rewriting.proofs.Widened.{Widens}
use Rattle.rewriting.proofs.widen.Given as goal

abbrev pub invariant-loop-i : goal.invariant-loop-i
invariant-loop-i l = Widens l.width l.kept l.old l.initial.wide l.i l.wide
