use Rattle.std.proofs.Common.{arith}
use Rattle.amendments.proofs.Entries.{allowed}
use Rattle.amendments.proofs.Seen.allows.Goals as goal

pub returns : goal.returns
returns c l a e counted is before =
    rw (c.from.ensures, c.from-2.ensures, c.has.ensures, c.has-2.ensures)
    (allowed l a e c.args.count c.args.entry c.args.self.now (omega arith) (omega arith) counted is before)
