use Rattle.std.proofs.Common.{◌*◌}
use Rattle.rules.specs.Limits.{type_width}
use Rattle.types.proofs.Parts.{to_end}
use Rattle.types.proofs.part_from.Goals as goal

pub returns : goal.returns
returns c = to_end (type_width * c.args.index) c.args.types.now
