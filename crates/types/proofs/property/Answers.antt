-- The first record of a type has its property.
use Rattle.std.proofs.Common.{arith, ◌∙◌}
use Rattle.types.proofs.Parts.{starts_long, property_is}
use Rattle.types.proofs.property.Goals as goal

pub property_at-requires : goal.property_at-requires
property_at-requires c = omega (arith, starts_long c.requires)

pub returns : goal.returns
returns c t h = c.property_at.ensures ∙ property_is t h
