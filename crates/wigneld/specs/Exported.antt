-- What the exported run and move leave; what is promised of a run, in the exported run's words; what the exported
-- preview tells, and what it promises its move.
use Rattle.std.specs.Prelude.{◌≡◌, false, if◌then◌else◌, ℕ, ◌+◌, min, nat_eq, length}
use Rattle.calculus.specs.Types.{Ty}
use Rattle.rules.specs.Answer.{Bytes, Answer, accepted, refused}
use Rattle.rules.specs.Step.{End}
use Rattle.rules.specs.Run.{Ran}
use Rattle.rules.specs.Calls.{Report, step_call, step_report, written_after, run_report, first_after, scratch_after}
use Rattle.rules.specs.Preview.{Preview, preview_call, largest_steps, moved_steps}
use Rattle.promises.specs.Promises.{AcceptedRun}
use Rattle.promises.specs.Preview.{PreviewThenMove}
use Rattle.packing.specs.Packed.{packed_number, step_lower, run_lower, end_of, count_of, steps_in, steps_of, steps_left}
use Rattle.packing.specs.Packed.{steps_after}

-- the steps of a report, in a lent slice
abbrev pub steps_told : Answer Report → Bytes → Bytes
steps_told (accepted x) old = steps_in x.steps old
steps_told (refused q p) old = old

-- A run, or a refusal, is what the exported run leaves: its number, and the buffers `first`, `scratch` and `steps`.
pub record TellsRun (ran : Answer Ran) (first scratch steps : Bytes) (n : ℕ)
    (first' scratch' steps' : Bytes) : Type 0 where
  pub number : n ≡ packed_number (run_lower (run_report ran))
  pub first_is : first' ≡ first_after ran first
  pub scratch_is : scratch' ≡ scratch_after ran scratch
  pub steps_is : steps' ≡ steps_after ran steps

-- What is promised of the run of an accepted script, and that the run in it is the one that the number and the lent
-- bytes report.
pub record PromisedRun (g t s : Bytes) (type : Ty) (budget : ℕ) (first scratch steps : Bytes) (n : ℕ)
    (first' scratch' steps' : Bytes) : Type 0 where
  pub promise : AcceptedRun g t s type budget first scratch
  pub number : n ≡ packed_number (run_lower (run_report (accepted promise.ran)))
  pub first_is : first' ≡ first_after (accepted promise.ran) first
  pub scratch_is : scratch' ≡ scratch_after (accepted promise.ran) scratch
  pub steps_is : steps' ≡ steps_in promise.ran.steps steps

-- the preview that a caller reads off a number, with the number of steps so far
abbrev pub read_off : ℕ → ℕ → Preview
read_off n steps = record { end = end_of n; count = count_of n; steps = steps }

-- the preview that a move is given: its end and its count as numbers, the steps in a lent slice
abbrev pub handed_back : ℕ → ℕ → Bytes → Preview
handed_back end count steps = record { end = end; count = count; steps = steps_of steps }

-- The move `ended` of a script s by the preview v is what the exported move leaves: its number, and the buffers
-- `written` and `steps`.
pub record TellsMove (s : Bytes) (v : Preview) (ended : Answer End) (written steps : Bytes) (n : ℕ)
    (written' steps' : Bytes) : Type 0 where
  pub number : n ≡ packed_number (step_lower (step_report s ended))
  pub written_is : written' ≡ written_after ended written
  pub steps_is : steps' ≡ steps_left (moved_steps v ended) steps

-- A move with what the preview of this script and this buffer gave answers and writes what the single step does, and
-- counts it. Unless it was given end 1, it writes nothing, whatever else it was given.
pub record Followed (g t s : Bytes) (end count : ℕ) (written steps : Bytes) (n : ℕ)
    (written' steps' : Bytes) : Type 0 where
  pub promise : PreviewThenMove g t s written (steps_of steps)
  pub number : preview_call g t s (length written) (steps_of steps) ≡ accepted (handed_back end count steps)
      → n ≡ packed_number (step_lower (step_report s (step_call g t s (length written))))
  pub written_is : preview_call g t s (length written) (steps_of steps) ≡ accepted (handed_back end count steps)
      → written' ≡ written_after (step_call g t s (length written)) written
  pub steps_is : preview_call g t s (length written) (steps_of steps) ≡ accepted (handed_back end count steps)
      → steps' ≡ steps_in (if nat_eq end 1 then min (steps_of steps + 1) largest_steps else steps_of steps) steps
  pub keeps : nat_eq end 1 ≡ false → (written' ≡ written) × (steps' ≡ steps)
