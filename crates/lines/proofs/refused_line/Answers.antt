use Rattle.rules.specs.Report.{text, refusal_line}
use Rattle.memory.proofs.Placed.{then}
use Rattle.lines.proofs.refused_line.Goals as goal

pub returns : goal.returns
unfolding text refusal_line
returns c = then (then c.named.ensures c.named-2.ensures) c.put.ensures
