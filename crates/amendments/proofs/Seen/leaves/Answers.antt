use Rattle.std.proofs.Common.{arith}
use Rattle.amendments.proofs.Entries.{left}
use Rattle.amendments.proofs.Seen.leaves.Goals as goal

pub returns : goal.returns
returns c a e is before = rw c.has.ensures (left a e c.args.entry c.args.self.now (omega arith) is before)
