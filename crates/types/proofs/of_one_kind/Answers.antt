-- Types are of one kind where their first bytes are equal.
use Rattle.std.proofs.Common.{◌∙◌, ap₂, arith, nat_eq}
use Rattle.types.proofs.Parts.{starts_long, kind_is}
use Rattle.types.proofs.of_one_kind.Goals as goal

pub kind_number_at-requires : goal.kind_number_at-requires
kind_number_at-requires c = omega (arith, starts_long c.requires.first)

pub kind_number_at-requires-2 : goal.kind_number_at-requires-2
kind_number_at-requires-2 c = omega (arith, starts_long c.requires.second)

pub returns : goal.returns
returns c t u h k = ap₂ nat_eq (c.kind_number_at.ensures ∙ kind_is t h) (c.kind_number_at-2.ensures ∙ kind_is u k)
