-- The first k names from the last on are passed.
use Rattle.importing.proofs.Names.{Sought}
use Rattle.importing.proofs.nearest.Given as goal

abbrev pub invariant-loop-k : goal.invariant-loop-k
invariant-loop-k l = Sought l.names l.n l.name l.k
