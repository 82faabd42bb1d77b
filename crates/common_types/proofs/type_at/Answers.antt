-- The part from record i on starts with its type.
use Rattle.std.proofs.Common.{arith}
use Rattle.common_types.proofs.Places.{room}
use Rattle.common_types.proofs.type_at.Goals as goal

pub part_from-requires : goal.part_from-requires
part_from-requires c = omega (arith, room c.requires.1)

pub returns : goal.returns
returns c t h = rw c.part_from.ensures h.held
