-- How a step ends, from what the search and the count say; and a step's answer to the questions.
use Rattle.std.proofs.Common.{◌≡◌, refl, sym, ◌∙◌, Result, Ok, Err, ap, true, false, [], ℕ, subst as transport, arith}
use Rattle.calculus.specs.Security.{Security}
use Rattle.calculus.specs.Types.{Ty}
use Rattle.calculus.specs.Terms.{Term}
use Rattle.calculus.specs.Reduction.{moved, step}
use Rattle.rules.specs.Answer.{Bytes, Answer, accepted, refused, ◌>>◌}
use Rattle.rules.specs.Groups.{properties_of}
use Rattle.rules.specs.Types.{type_at}
use Rattle.rules.specs.Script.{records, term}
use Rattle.rules.specs.Step.{End, at_value, moves, may_not, wrong_kind, too_big, exceeds, end_of_outcome, step_in}
use Rattle.rules.specs.Calls.{step_report, script_check, step_call, front_after, written_after}
use Rattle.redex.specs.Found.{Site, Finds, finds_redex}
use Rattle.redex.specs.declared.Found.TheVariants.{Value, Redex, Denied, Stuck}
use Rattle.redex.proofs.Searches.{finds_step}
use Rattle.answer.specs.Numbers.{question_number}
use Rattle.answer.specs.declared.Refusal.{Refusal}
use Rattle.reduction.specs.Steps.{step_records, Foresees, foresees_step, foresees_stop, next_step_records, report_of_step, said_step}
use Rattle.reduction.specs.declared.NextStep.{NextStep}
use Rattle.reduction.specs.declared.Stop.{Stop}

module _ {S : Security} {tab : ℕ → Ty} {e : Term} where
  pub ends_value : (room : ℕ) {n : ℕ} → Finds S tab 0 0 e (Value n) → step_in S tab room e ≡ at_value
  unfolding step_in
  ends_value room h = ap (end_of_outcome room) (finds_step h)

  pub ends_denied : (room : ℕ) → Finds S tab 0 0 e Denied → step_in S tab room e ≡ may_not
  unfolding step_in
  ends_denied room h = ap (end_of_outcome room) (finds_step h)

  pub ends_stuck : (room : ℕ) → Finds S tab 0 0 e Stuck → step_in S tab room e ≡ wrong_kind
  unfolding step_in
  ends_stuck room h = ap (end_of_outcome room) (finds_step h)

  pub found_site : {i d : ℕ} → Finds S tab 0 0 e (Redex i d) → Site S tab 0 0 e i d
  found_site (finds_redex x) = x

module _ (S : Security) (tab : ℕ → Ty) (e : Term) where
  pub ends_moved : (room : ℕ) (e' : Term) → step S tab e ≡ moved e' → exceeds room e' ≡ false → step_in S tab room e ≡ moves e'
  unfolding step_in
  ends_moved room e' h k = rw (h, k)

  pub ends_too_big : (room : ℕ) (e' : Term) → step S tab e ≡ moved e' → exceeds room e' ≡ true → step_in S tab room e ≡ too_big
  unfolding step_in
  ends_too_big room e' h k = rw (h, k)

pub made_report : (s : Bytes) {x : End} {r : Result ℕ Stop} {o : Answer End} → r ≡ step_records x → o ≡ accepted x → said_step (Ok (report_of_step (records s) r)) ≡ step_report s o
made_report s {x} h k = grind arith

-- a refusal, and the buffer as it was
abbrev Keeps : Bytes → Bytes → Refusal → Answer End → Type 0
Keeps s old e o = (said_step (Err e) ≡ step_report s o) × (old ≡ written_after o old)

pub refused_keeps : (g t s old : Bytes) (room : ℕ) (e : Refusal) → refused (question_number e.question) e.place ≡ script_check [] g t s → Keeps s old e (step_call g t s room)
unfolding step_call
refused_keeps g t s old room e h =
    transport (λ (c : Answer (Unit {0})). Keeps s old e (◌>>◌ c (accepted (step_in (properties_of g) (type_at t) room (term s))))) h (refl, refl)

pub passed_step : (g t s : Bytes) (room : ℕ) → script_check [] g t s ≡ accepted tt
    → step_call g t s room ≡ accepted (step_in (properties_of g) (type_at t) room (term s))
unfolding step_call
passed_step g t s room h = grind arith
