use Rattle.std.proofs.Common.{arith}
use Rattle.amendments.proofs.Marked.{one_marked}
use Rattle.amendments.proofs.Set.put.Goals as goal

pub returns : goal.returns
returns c j l = rw c.from-i.ensures (one_marked c.args.self.now.0 c.args.i j (omega arith))
