use Rattle.rules.specs.Typing.{left}
use Rattle.types.proofs.Parts.{to_end}
use Rattle.inference.proofs.argument_fits.Goals as goal

pub is_subtype-requires : goal.is_subtype-requires
is_subtype-requires c =
    let p = c.requires.function in
    record { first = rw to_end c.requires.argument; second = record { type = left p.type; held = c.side_of.ensures p.type p.held } }

pub returns : goal.returns
returns c = λ s t h k. c.is_subtype.ensures t (left s) (rw to_end k) (c.side_of.ensures s h)
