use Rattle.amendments.proofs.Entries.{one_seen}
use Rattle.amendments.proofs.Seen.put.Goals as goal

pub returns : goal.returns
returns c a e is before = one_seen a e c.args.entry is before c.put.ensures c.put-2.ensures
