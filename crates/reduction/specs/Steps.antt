-- One step: what it is given, and what it reports.
use Rattle.std.specs.Prelude.{◌≡◌, [], ℕ, ◌+◌, ◌*◌, ◌≤◌, Option, None, Some, Result, Ok, Err}
use Rattle.calculus.specs.Terms.{Term}
use Rattle.calculus.specs.Reduction.{plug}
use Rattle.rules.specs.Answer.{Bytes, Octets, Answer, accepted, refused}
use Rattle.rules.specs.Limits.{script_width}
use Rattle.rules.specs.Groups.{properties_of}
use Rattle.rules.specs.Types.{type_at}
use Rattle.rules.specs.Script.{term, size}
use Rattle.rules.specs.Step.{End, at_value, moves, may_not, wrong_kind, too_big, step_in}
use Rattle.rules.specs.Calls.{StepReport, script_check}
use Rattle.answer.specs.Numbers.{question_number}
use Rattle.answer.specs.declared.Refusal.{Refusal}
use Rattle.redex.specs.Fates.{contractum}
use Rattle.redex.specs.Found.{Site}
use Rattle.contraction.specs.Plans.{Planned}
use Rattle.reduction.specs.declared.NextStep.{NextStep}
use Rattle.reduction.specs.declared.Stop.{Stop}
use Rattle.reduction.specs.declared.Stop.TheVariants.{Value, MayNot, WrongKind, TooBig}
use Rattle.reduction.specs.declared.StepReport.{StepReport as Reported}

-- The script and its tables pass questions 2 to 19 and 36. Every script that a run reaches does.
pub record Startable (g t s : Bytes) : Type 0 where
  pub groups : Octets g
  pub script : Octets s
  pub passed : script_check [] g t s ≡ accepted tt

-- The term can be stepped: its redex stands at record `at` with `around` records around it.
pub record Sited (g t s : Bytes) (at around : ℕ) : Type 0 where
  pub start : Startable g t s
  pub site : Site (properties_of g) (type_at t) 0 0 (term s) at around

-- That holds over some groups and types.
pub record SomewhereSited (s : Bytes) (at around : ℕ) : Type 0 where
  pub groups : Bytes
  pub types : Bytes
  pub sited : Sited groups types s at around

-- A planned step is the one that moves the term, into a buffer of `room` bytes: its redex has this plan and ends before
-- record `end`, and the new term has as many records as are told and fits.
pub record Placing (g t s : Bytes) (room : ℕ) (n : NextStep) : Type 0 where
  pub start : Startable g t s
  pub around : ℕ
  pub site : Site (properties_of g) (type_at t) 0 0 (term s) n.place around
  pub planned : Planned s site.redex n.plan
  pub end_is : n.end ≡ n.place + size site.redex
  pub whole : Term
  pub whole_is : whole ≡ plug site.context (contractum (properties_of g) (type_at t) site.redex)
  pub count_is : n.records ≡ size whole
  pub fits : script_width * size whole ≤ room
  pub moves_to : step_in (properties_of g) (type_at t) room (term s) ≡ moves whole

-- the number of an end: of a step that doesn't move the term, and 1 where nothing stops it
abbrev pub stop_number : Stop → ℕ
stop_number Value = 0
stop_number MayNot = 2
stop_number WrongKind = 3
stop_number TooBig = 4

-- the number of a reported end: 1 where nothing stops the step
abbrev pub reported_end : Option Stop → ℕ
reported_end None = 1
reported_end (Some stop) = stop_number stop

-- a step's end, as the code tells it: the new term's record count, or why it stops
abbrev pub step_records : End → Result ℕ Stop
step_records at_value = Err Value
step_records (moves e) = Ok (size e)
step_records may_not = Err MayNot
step_records wrong_kind = Err WrongKind
step_records too_big = Err TooBig

-- a plan is that of the step: it moves the term, or tells why it doesn't
pub data Foresees (g t s : Bytes) (room : ℕ) : Result NextStep Stop → Type 0 where
  foresees_step : {n : NextStep} → Placing g t s room n → Foresees g t s room (Ok n)
  foresees_stop : {stop : Stop} → step_records (step_in (properties_of g) (type_at t) room (term s)) ≡ Err stop
      → Foresees g t s room (Err stop)

-- the record count of a planned step, or why there is none
abbrev pub next_step_records : Result NextStep Stop → Result ℕ Stop
next_step_records (Ok n) = Ok n.records
next_step_records (Err stop) = Err stop

-- what is reported of a step, with the script's own count where it didn't move
abbrev pub report_of_step : ℕ → Result ℕ Stop → Reported
report_of_step own (Ok count) = record { stop = None; records = count }
report_of_step own (Err stop) = record { stop = Some stop; records = own }

-- what a step answers: its end and a record count
abbrev pub said_step : Result Reported Refusal → Answer StepReport
said_step (Ok report) = accepted (record { end = reported_end report.stop; count = report.records })
said_step (Err e) = refused (question_number e.question) e.place
