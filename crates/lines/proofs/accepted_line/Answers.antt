use Rattle.rules.specs.Report.{text, accepted_line}
use Rattle.memory.proofs.Placed.{then}
use Rattle.lines.proofs.accepted_line.Goals as goal

pub returns : goal.returns
unfolding text accepted_line
returns c = then c.named.ensures c.put.ensures
