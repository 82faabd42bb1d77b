-- What a call that checks leaves, and what it promises.
use Rattle.std.specs.Prelude.{◌≡◌, ◌↔◌, ℕ}
use Rattle.calculus.specs.Types.{Ty, size_t}
use Rattle.rules.specs.Answer.{Bytes, Answer, accepted}
use Rattle.rules.specs.Types.{encode_type}
use Rattle.rules.specs.Calls.{type_records, work_after, answer_after, fill_front}
use Rattle.rules.specs.Reach.{Accepted}
use Rattle.rules.specs.Profile.{AcceptedInProfile}
use Rattle.promises.specs.Promises.{AcceptedByTheRules}
use Rattle.promises.specs.Profile.{InProfile}

-- What a check leaves where the rules give `found`: its answer, a record count or what was refused; the work buffer,
-- all zeros once typing has begun; and the found type in front of the answer buffer.
pub record HandsOver (found : Answer Ty) (a : Answer ℕ) (work work' answer answer' : Bytes) : Type 0 where
  pub says : a ≡ type_records found
  pub clears : work' ≡ work_after found work
  pub writes : answer' ≡ answer_after found answer

-- The answer `a` and the answer buffer report a verdict: a record count exactly when the script is accepted with a type
-- of so many records, which then fills the buffer's front.
pub record Reports (AcceptedWith : Ty → Type 0) (answer : Bytes) (a : Answer ℕ) (answer' : Bytes) : Type 0 where
  pub counts_when : (n : ℕ) → (a ≡ accepted n) ↔ ((type : Ty) × AcceptedWith type × (n ≡ size_t type))
  pub writes : (type : Ty) → AcceptedWith type → answer' ≡ fill_front (encode_type type) answer

-- What is promised of a check, and that the call reports what that speaks of.
pub record Judged (g t s answer : Bytes) (a : Answer ℕ) (answer' : Bytes) : Type 0 where
  pub promise : AcceptedByTheRules g t s
  pub reports : Reports (Accepted g t s) answer a answer'

-- What the profile promises, and that its check reports what that speaks of.
pub record JudgedInProfile (g t s answer : Bytes) (a : Answer ℕ) (answer' : Bytes) : Type 0 where
  pub promise : InProfile g t s
  pub reports : Reports (AcceptedInProfile g t s) answer a answer'
