-- The directions of the calculus.
use Rattle.calculus.specs.Subtyping as calculus
use Rattle.common_types.specs.declared.Direction.{Direction}
use Rattle.common_types.specs.declared.Direction.TheVariants.{Below, Above}

-- a direction, as the calculus has it
abbrev pub said_direction : Direction → calculus.Direction
said_direction Below = calculus.below
said_direction Above = calculus.above
