use Rattle.std.proofs.Common.{◌≡◌, ◌+◌, ◌-◌, arith}
use Rattle.substitution.proofs.write_record.Goals as goal

-- a record has its width
pub put-requires : goal.put-requires
put-requires c = let z : c.args.i + 1 - c.args.i ≡ 1 = omega arith in rw (c.part.ensures, z) c.requires.room

pub returns : goal.returns
returns c = let z : c.args.i + 1 - c.args.i ≡ 1 = omega arith in rw (c.part.ensures, z) at c.put.ensures
