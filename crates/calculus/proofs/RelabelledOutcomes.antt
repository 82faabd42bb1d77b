-- The labels of what a step gives.
use Rattle.calculus.specs.Relabelling.{Labels, relabel}
use Rattle.calculus.specs.Reduction.{Outcome, denied, moved, stuck, value}

abbrev pub relabel_o : Labels → Outcome → Outcome
relabel_o R value = value
relabel_o R (moved e) = moved (relabel R e)
relabel_o R denied = denied
relabel_o R stuck = stuck
