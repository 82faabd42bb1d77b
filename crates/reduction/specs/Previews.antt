-- A preview and the move that takes it back, in the words of the rules.
use Rattle.std.specs.Prelude.{◌≡◌, if◌then◌else◌, ◌&&◌, ℕ, ◌+◌, min, nat_eq, length, Result, Ok, Err}
use Rattle.rules.specs.Answer.{Bytes, Answer, accepted, refused, ask}
use Rattle.rules.specs.Step.{End}
use Rattle.rules.specs.Calls.{StepReport, step_call, step_report, written_after}
use Rattle.rules.specs.Preview.{Preview, preview_call, largest_steps, moved_steps}
use Rattle.promises.specs.Preview.{PreviewThenMove}
use Rattle.answer.specs.Numbers.{question_number}
use Rattle.answer.specs.declared.Refusal.{Refusal}
use Rattle.reduction.specs.Steps.{reported_end}
use Rattle.reduction.specs.declared.StepReport.{StepReport as Reported}
use Rattle.reduction.specs.declared.Previewed.{Previewed}
use Rattle.reduction.specs.declared.Moved.{Moved}

-- a preview, as the rules have it
abbrev pub preview_of : Previewed → Preview
preview_of v = record { end = v.end; count = v.records; steps = v.steps }

-- a preview's answer, as the rules have it
abbrev pub said_preview : Result Previewed Refusal → Answer Preview
said_preview (Ok v) = accepted (preview_of v)
said_preview (Err e) = refused (question_number e.question) e.place

-- what a move's step reports, and the number of steps after it
abbrev pub said_move : Result Moved Refusal → Answer StepReport
said_move (Ok m) = accepted (record { end = reported_end m.report.stop; count = m.report.records })
said_move (Err e) = refused (question_number e.question) e.place

-- the number of steps after a move
abbrev pub said_steps : Result Moved Refusal → Answer ℕ
said_steps (Ok m) = accepted m.steps
said_steps (Err e) = refused (question_number e.question) e.place

-- question 35, of what a step reports
abbrev pub same_as : Previewed → Reported → Answer (Unit {0})
same_as v x = ask 35 0 (nat_eq v.end (reported_end x.stop) && nat_eq v.records x.records)

-- The move `ended` of a script s by the preview v is what is answered and left: a reports it and the number of steps
-- after it, and the buffer `old` ends as `new`.
pub record AnswersMove (s : Bytes) (v : Preview) (ended : Answer End) (old : Bytes) (a : Result Moved Refusal)
    (new : Bytes) : Type 0 where
  pub answer : said_move a ≡ step_report s ended
  pub steps_is : said_steps a ≡ moved_steps v ended
  pub written_is : new ≡ written_after ended old

-- What a preview promises the move that takes it back, which answers a and leaves the bytes `new`: where v is what
-- the preview of this script and this buffer gave, the move reports what the single step does, leaves its bytes, and
-- counts it.
pub record Promised (g t s old : Bytes) (v : Preview) (a : Result Moved Refusal) (new : Bytes) : Type 0 where
  pub promise : PreviewThenMove g t s old v.steps
  pub reports : preview_call g t s (length old) v.steps ≡ accepted v
      → said_move a ≡ step_report s (step_call g t s (length old))
  pub leaves : preview_call g t s (length old) v.steps ≡ accepted v
      → new ≡ written_after (step_call g t s (length old)) old
  pub counts : preview_call g t s (length old) v.steps ≡ accepted v
      → said_steps a ≡ accepted (if nat_eq v.end 1 then min (v.steps + 1) largest_steps else v.steps)
