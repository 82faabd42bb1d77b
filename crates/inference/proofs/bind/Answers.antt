-- The type is copied to the next slot.
use Rattle.std.proofs.Common.{refl}
use Rattle.inference.proofs.Regions.{slot_written}
use Rattle.inference.proofs.bind.Goals as goal

pub returns : goal.returns
returns c = λ Γ t q l h.
    slot_written q.small refl c.requires.room (c.copy_type.ensures.work t q.held) l h
