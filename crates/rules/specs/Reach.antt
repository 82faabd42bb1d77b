-- What it means that a script is accepted.
use Rattle.std.specs.Prelude.{◌≡◌}
use Rattle.calculus.specs.Types.{Ty}
use Rattle.rules.specs.Answer.{Bytes, Answer, accepted}
use Rattle.rules.specs.Limits.{work_length, answer_length}
use Rattle.rules.specs.Calls.{check_call}

-- the answer of a check whose buffers are as long as question 1 asks
abbrev pub verdict : Bytes → Bytes → Bytes → Answer Ty
verdict g t s = check_call work_length answer_length g t s

-- A script is accepted with this type where such a check answers it. A term that a run reaches is accepted in the same
-- sense: by the same rules and limits, over the same two tables.
abbrev pub Accepted : Bytes → Bytes → Bytes → Ty → Type 0
Accepted g t s type = verdict g t s ≡ accepted type
