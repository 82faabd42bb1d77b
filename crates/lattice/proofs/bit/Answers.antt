-- The power is that of the bit, and no remainder passes for a bit past the 32nd.
use Rattle.std.proofs.Common.{arith}
use Rattle.lattice.proofs.Words.{bit_by_division}
use Rattle.lattice.proofs.bit.Goals as goal

pub returns : goal.returns
returns c = bit_by_division c.args.word c.args.group (omega arith)
