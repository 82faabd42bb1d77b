-- A run: what it is given, and what it reports.
use Rattle.std.specs.Prelude.{◌≡◌, ℕ, ◌*◌, ◌≤◌, take, Some, Result, Ok, Err, MatchResult}
use Rattle.calculus.specs.Types.{Ty}
use Rattle.calculus.specs.Terms.{Term}
use Rattle.rules.specs.Answer.{Bytes, Answer, accepted, refused}
use Rattle.rules.specs.Limits.{script_width}
use Rattle.rules.specs.Script.{encode, term, size}
use Rattle.rules.specs.Run.{Ran}
use Rattle.rules.specs.Calls.{Report, run_report, first_after, scratch_after}
use Rattle.promises.specs.Promises.{AcceptedRun}
use Rattle.refocusing.specs.declared.Point.{Point}
use Rattle.refocusing.specs.declared.Ended.{Ended}
use Rattle.evaluation.specs.declared.Halt.{Halt}
use Rattle.reduction.specs.declared.Stop.TheVariants.{Value}
use Rattle.reduction.specs.Steps.{Startable, reported_end}
use Rattle.answer.specs.Numbers.{question_number}
use Rattle.answer.specs.declared.Refusal.{Refusal}

-- the term of the first n records of a buffer
abbrev pub front_term : Bytes → ℕ → Term
front_term a n = term (take (script_width * n) a)

-- a buffer starts with a script of n records that can be stepped, within `room` bytes
pub record Loaded (g t a : Bytes) (n room : ℕ) : Type 0 where
  pub start : Startable g t (take (script_width * n) a)
  pub fits : script_width * n ≤ room

-- the end of a run of a whole term, which settles to a value or has ended before
abbrev pub run_end : Result Point Ended → Ended
run_end (Ok p) = record { stop = Some Value; point = p }
run_end (Err x) = x

-- a tells the run's end, steps and record count
pub record Told (x : Ran) (a : Halt) : Type 0 where
  pub end : reported_end a.stop ≡ x.end
  pub steps : a.steps ≡ x.steps
  pub records : a.records ≡ size x.last

-- a tells the run, whose last term stands at the front of a buffer
pub record Halted (x : Ran) (room : ℕ) (a : Halt) (first' : Bytes) : Type 0 where
  pub told : Told x a
  pub holds : take (script_width * a.records) first' ≡ encode x.last
  pub fits : script_width * a.records ≤ room

-- a tells the run, which leaves both buffers as the rules say
pub record ReportsRun (x : Ran) (first scratch : Bytes) (a : Halt) (first' scratch' : Bytes) : Type 0 where
  pub told : Told x a
  pub first_is : first' ≡ first_after (accepted x) first
  pub scratch_is : scratch' ≡ scratch_after (accepted x) scratch

-- what a run answers: its end, the steps made and a record count
abbrev pub said_run : Result Halt Refusal → Answer Report
said_run (Ok halt) = accepted (record { end = reported_end halt.stop; steps = halt.steps; count = halt.records })
said_run (Err e) = refused (question_number e.question) e.place

-- A run, or a refusal, is what is answered and left: a reports it, and the buffers `first` and `scratch` end as the
-- rules say.
pub record AnswersRun (ran : Answer Ran) (first scratch : Bytes) (a : Result Halt Refusal)
    (first' scratch' : Bytes) : Type 0 where
  pub answer : said_run a ≡ run_report ran
  pub first_is : first' ≡ first_after ran first
  pub scratch_is : scratch' ≡ scratch_after ran scratch

-- The promise of an accepted script's run, and that the run in it is the one that this answer reports: it isn't
-- refused, and its end is neither 2 nor 3.
pub record PromisedRun (g t s : Bytes) (type : Ty) (budget : ℕ) (first scratch : Bytes) (a : Result Halt Refusal)
    (first' scratch' : Bytes) : Type 0 where
  pub promise : AcceptedRun g t s type budget first scratch
  pub reports : said_run a ≡ run_report (accepted promise.ran)
  pub first_is : first' ≡ first_after (accepted promise.ran) first
  pub scratch_is : scratch' ≡ scratch_after (accepted promise.ran) scratch
  pub ended : MatchResult a (λ halt. Told promise.ran halt) (λ e. ⊥)
  pub not_2 : promise.ran.end ≡ 2 → ⊥
  pub not_3 : promise.ran.end ≡ 3 → ⊥
