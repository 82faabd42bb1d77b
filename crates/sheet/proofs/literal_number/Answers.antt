use Rattle.records.proofs.Stands.{there}
use Rattle.sheet.proofs.literal_number.Goals as goal

pub number-requires : goal.number-requires
number-requires c = there _ _ _ c.requires.at
