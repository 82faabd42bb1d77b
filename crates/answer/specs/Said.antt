-- A check's answer as the rules have it, with a refusal's number and place.
use Rattle.std.specs.Prelude.{Option, Some, None, Result, Ok, Err}
use Rattle.std.proofs.Math.Option as math
use Rattle.rules.specs.Answer.{Answer, accepted, refused}
use Rattle.answer.specs.declared.Refusal.{Refusal}
use Rattle.answer.specs.Numbers.{question_number}

-- an answer, as the rules have it
abbrev pub answer_of : {A : Type 0} → Result A Refusal → Answer A
answer_of (Ok a) = accepted a
answer_of (Err e) = refused (question_number e.question) e.place

-- a number that may be missing, in the words of the rules
abbrev pub option_of : {A : Type 0} → Option A → math.Option A
option_of None = math.none
option_of (Some a) = math.some a
