use Rattle.amendments.proofs.Entries.{nothing_seen}
use Rattle.amendments.proofs.Seen.nothing.Goals as goal

pub returns : goal.returns
returns c a = nothing_seen a c.empty-listed.ensures c.empty-replaced.ensures
