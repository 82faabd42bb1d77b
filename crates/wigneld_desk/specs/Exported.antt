-- What the exported packet tells of its steps.
use Rattle.rules.specs.Answer.{Bytes, Answer, accepted, refused}
use Rattle.rules.specs.Calls.{Report}
use Rattle.packing.specs.Packed.{steps_in}

-- the steps of a report, in a lent slice; nothing on a refusal
abbrev pub steps_told : Answer Report → Bytes → Bytes
steps_told (accepted x) old = steps_in x.steps old
steps_told (refused q p) old = old
