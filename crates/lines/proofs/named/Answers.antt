use Rattle.memory.proofs.Placed.{then}
use Rattle.lines.proofs.named.Goals as goal

pub returns : goal.returns
returns c = then c.put.ensures c.decimal.ensures
