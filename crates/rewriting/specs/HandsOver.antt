-- What a call that writes records in another form tells its caller.
use Rattle.std.specs.Prelude.{◌≡◌, ℕ}
use Rattle.rules.specs.Answer.{Bytes, Answer}
use Rattle.rules.specs.Rewriting.{rewritten_records, rewritten_after}

-- Of what the rules give, in records of this width: how many they are, or the refusal, and the lent buffer after the
-- call, which a refusal leaves as it was.
pub record HandsOver (width : ℕ) (given : Answer Bytes) (before : Bytes) (told : Answer ℕ) (after : Bytes)
    : Type 0 where
  pub answer : told ≡ rewritten_records width given
  pub written : after ≡ rewritten_after given before
