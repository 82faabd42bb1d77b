-- The questions that are asked before the value is looked at.
use Rattle.std.specs.Prelude.{[], ℕ}
use Rattle.rules.specs.Answer.{Bytes, Answer, ◌>>◌}
use Rattle.rules.specs.Groups.{rows}
use Rattle.rules.specs.Calls.{script_check, q25}

-- questions 2 to 19 and 25
unfoldable pub before_26 : Bytes → Bytes → Bytes → ℕ → Answer (Unit {0})
unfolding script_check
before_26 g t s group = do
  script_check [] g t s
  q25 0 group (rows g)
