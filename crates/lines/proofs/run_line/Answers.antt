use Rattle.rules.specs.Report.{text, run_line}
use Rattle.memory.proofs.Placed.{then}
use Rattle.lines.proofs.run_line.Goals as goal

pub returns : goal.returns
unfolding text run_line
returns c = then (then (then c.named.ensures c.named-2.ensures) c.named-3.ensures) c.put.ensures
