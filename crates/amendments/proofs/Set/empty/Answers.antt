use Rattle.amendments.proofs.Marked.{none_marked}
use Rattle.amendments.proofs.Set.empty.Goals as goal

pub returns : goal.returns
returns c = none_marked
