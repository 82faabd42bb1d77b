-- The left side's bytes start with the left side.
use Rattle.types.specs.Held.{left_of}
use Rattle.packet.proofs.ask_entry.Goals as goal

pub is_subtype-fits-requires : goal.is_subtype-fits-requires
is_subtype-fits-requires c =
    let s = c.requires.function in
    record {
      first = c.requires.entry_type;
      second = record { type = left_of s.0; held = c.left_side-wanted.ensures.side s.0 s.1 };
    }
