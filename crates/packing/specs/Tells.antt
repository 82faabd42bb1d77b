-- What an exported check leaves: its number, and what each buffer that it is lent holds.
use Rattle.std.specs.Prelude.{◌≡◌, ℕ}
use Rattle.calculus.specs.Types.{Ty}
use Rattle.rules.specs.Answer.{Bytes, Answer}
use Rattle.rules.specs.Calls.{type_records, work_after, answer_after}
use Rattle.packing.specs.Packed.{packed_number}

-- The check that finds this: `work` and `answer` as they are lent, the number and the buffers as it leaves them.
pub record TellsCheck (found : Answer Ty) (work answer : Bytes) (n : ℕ) (work' answer' : Bytes) : Type 0 where
  pub number : n ≡ packed_number (type_records found)
  pub work_is : work' ≡ work_after found work
  pub answer_is : answer' ≡ answer_after found answer
