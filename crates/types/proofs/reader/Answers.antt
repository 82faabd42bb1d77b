-- The second byte of a type is its r.
use Rattle.std.proofs.Common.{arith, ◌∙◌}
use Rattle.types.proofs.Parts.{starts_long, reader_is}
use Rattle.types.proofs.reader.Goals as goal

pub reader_at-requires : goal.reader_at-requires
reader_at-requires c = omega (arith, starts_long c.requires)

pub returns : goal.returns
returns c t h = c.reader_at.ensures ∙ reader_is t h
