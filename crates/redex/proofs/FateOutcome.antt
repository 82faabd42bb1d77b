-- The step that a fate makes.
use Rattle.redex.specs.Fates.{Fate, no_rule, not_permitted, reduces}
use Rattle.calculus.specs.Reduction.{Outcome, denied, moved, stuck}
use Rattle.calculus.specs.Terms.{Term}

-- the step of a node whose own turn it is
abbrev pub fate_outcome : Fate → Term → Outcome
fate_outcome reduces e = moved e
fate_outcome not_permitted e = denied
fate_outcome no_rule e = stuck
