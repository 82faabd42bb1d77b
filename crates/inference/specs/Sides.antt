-- The sides of the calculus.
use Rattle.calculus.specs.Terms as calculus
use Rattle.records.specs.declared.Kind.{Kind}
use Rattle.records.specs.declared.Kind.TheVariants.{FirstInjection, FirstProjection}
use Rattle.inference.specs.declared.Side.{Side}
use Rattle.inference.specs.declared.Side.TheVariants.{First, Second}

-- a side, as the calculus has it
abbrev pub said_side : Side → calculus.Side
said_side First = calculus.first
said_side Second = calculus.second

-- the side that an injection or a projection of this kind names
abbrev pub named_side : Kind → calculus.Side
named_side FirstInjection = calculus.first
named_side FirstProjection = calculus.first
named_side k = calculus.second
