-- The invariant is that of question 11; a type is judged where it ends.
use Rattle.rules.specs.Types.{ok12}
use Rattle.types_table.proofs.OnePass.{Passing}
use Rattle.types_table.proofs.question_12.Given as goal

abbrev pub invariant-loop-i : goal.invariant-loop-i
invariant-loop-i l = Passing (ok12 l.types) l.types l.pass.start l.pass.pending l.i
