-- Every type that has ended passes, and the walk from the start of the one that hasn't goes on at i with as many sides
-- to come as are pending.
use Rattle.rules.specs.Types.{ok11}
use Rattle.types_table.proofs.OnePass.{Passing}
use Rattle.types_table.proofs.question_11.Given as goal

abbrev pub invariant-loop-i : goal.invariant-loop-i
invariant-loop-i l = Passing (ok11 l.types) l.types l.pass.start l.pass.pending l.i
