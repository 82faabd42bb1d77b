-- What a found type hands over.
use Rattle.std.specs.Prelude.{ℕ, Result}
use Rattle.calculus.specs.Types.{Ty}
use Rattle.rules.specs.Answer.{Bytes, Answer}
use Rattle.answer.specs.declared.Refusal.{Refusal}
use Rattle.inference.specs.Memory.{Meets}

-- the answer of the rules that x and the work buffer w report
pub record Answers (x : Result ℕ Refusal) (w : Bytes) : Type 0 where
  pub old : Bytes
  pub answer : Answer Ty
  pub meets : Meets answer 0 old x w
