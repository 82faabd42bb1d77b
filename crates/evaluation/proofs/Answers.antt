-- A run's answer: to the questions, and of the run. What is promised of an accepted script's run holds, and its run is
-- the one that is reported.
use Rattle.std.proofs.Common.{◌≡◌, refl, sym, ap, ◌∙◌, List, [], ◌∷◌, ◌++◌, ℕ, ◌-◌, ◌≤◌, min, arith, length, Result, Ok}
use Rattle.std.proofs.Common.{Err, MatchResult, subst as transport}
use Rattle.calculus.specs.Types.{Ty}
use Rattle.calculus.specs.Terms.{Term}
use Rattle.rules.specs.Answer.{refused, Bytes, Octets, Answer, accepted, ◌>>◌}
use Rattle.rules.specs.Groups.{properties_of}
use Rattle.rules.specs.Types.{type_at}
use Rattle.rules.specs.Script.{term, encode, size}
use Rattle.rules.specs.Run.{Ran, run}
use Rattle.rules.specs.Reach.{Accepted}
use Rattle.rules.specs.Calls.{zeros, script_check, run_call, Report, run_report, first_after, scratch_after}
use Rattle.promises.proofs.Answers.{accepted_inj}
use Rattle.promises.proofs.AcceptedRun.{accepted_run}
use Rattle.evaluation.specs.declared.Halt.{Halt}
use Rattle.answer.specs.Numbers.{question_number}
use Rattle.answer.specs.declared.Refusal.{Refusal}
use Rattle.reduction.specs.Steps.{reported_end}
use Rattle.evaluation.specs.Runs.{Told, ReportsRun, said_run, PromisedRun}

-- the answer and both buffers are those of o
abbrev pub Says : Bytes → Bytes → Answer Ran → Result Halt Refusal → Bytes → Bytes → Type 0
Says first scratch o a first' scratch' =
    (said_run a ≡ run_report o) × (first' ≡ first_after o first) × (scratch' ≡ scratch_after o scratch)

module _ (g t s : Bytes) (budget : ℕ) (first scratch : Bytes) where
  abbrev rooms : List ℕ
  rooms = length first ∷ length scratch ∷ []

  abbrev answered : Answer Ran
  answered = run_call g t s budget (length first) (length scratch)

  abbrev pub ran : Ran
  ran = run (properties_of g) (type_at t) (min (length first) (length scratch)) budget (term s)

  -- a refusal leaves all lent memory unchanged
  pub refused_keeps : (e : Refusal) → refused (question_number e.question) e.place ≡ script_check rooms g t s → Says first scratch answered (Err e) first scratch
  unfolding run_call run_report
  refused_keeps e h =
      transport (λ (c : Answer (Unit {0})). Says first scratch (◌>>◌ c (accepted ran)) (Err e) first scratch) h (refl, refl, refl)

  -- the run of the script's term, where it stands in the first buffer
  pub ran_so : script_check rooms g t s ≡ accepted tt → (first₁ first' scratch' : Bytes) (e : Term) (a : Halt) → length first₁ ≡ length first → e ≡ term s
      → ReportsRun (run (properties_of g) (type_at t) (min (length first₁) (length scratch)) budget e) first₁ scratch a first' scratch'
      → Says first scratch answered (Ok a) first' scratch'
  unfolding run_call run_report
  ran_so h first₁ first' scratch' e a l m q =
      let z : run (properties_of g) (type_at t) (min (length first₁) (length scratch)) budget e ≡ ran =
      ap (λ (n : ℕ). run (properties_of g) (type_at t) (min n (length scratch)) budget e) l
      ∙ ap (run (properties_of g) (type_at t) (min (length first) (length scratch)) budget) m in
      let o : answered ≡ accepted ran = ap (λ (c : Answer (Unit {0})). ◌>>◌ c (accepted ran)) h in
      transport (λ (c : Answer Ran). Says first scratch c (Ok a) first' scratch') (sym o) (
        same_report a ran (transport (λ (x : Ran). Told x a) z q.told),
        q.first_is ∙ ap (λ (x : Ran). first_after (accepted x) first₁) z ∙ ap (λ (n : ℕ). encode ran.last ++ zeros (n - length (encode ran.last))) l,
        q.scratch_is,
      )
    where
      same_report : (a : Halt) (x : Ran) → Told x a
          → ◌≡◌ {A = Answer Report} (accepted (record { end = reported_end a.stop; steps = a.steps; count = a.records })) (accepted (record { end = x.end; steps = x.steps; count = size x.last }))
      same_report a x t =
          ap (λ (n : ℕ). accepted (record { end = n; steps = a.steps; count = a.records })) t.end
          ∙ ap (λ (n : ℕ). accepted (record { end = x.end; steps = n; count = a.records })) t.steps
          ∙ ap (λ (n : ℕ). accepted (record { end = x.end; steps = x.steps; count = n })) t.records

  -- an answer that reports a run is that run's
  ended : (a : Result Halt Refusal) (x : Ran) → said_run a ≡ run_report (accepted x) → MatchResult a (λ halt. Told x halt) (λ e. ⊥)
  unfolding run_report
  ended (Ok halt) x h =
      let e = accepted_inj h in
      record { end = ap (λ (r : Report). r.end) e; steps = ap (λ (r : Report). r.steps) e; records = ap (λ (r : Report). r.count) e }
  ended (Err e) x h = let z : ◌≡◌ {A = ℕ} 0 1 = cc in absurd (omega arith)

  pub promised : Octets g → Octets s → (a : Result Halt Refusal) (first' scratch' : Bytes) → Says first scratch answered a first' scratch' → (type : Ty)
      → Accepted g t s type → length s ≤ length first → length s ≤ length scratch → PromisedRun g t s type budget first scratch a first' scratch'
  promised G O a first' scratch' h type k l m =
      let d = accepted_run g t s type budget first scratch G O k l m in
      record {
        promise = d;
        reports = h.0 ∙ ap run_report d.runs;
        first_is = h.1 ∙ ap (λ (o : Answer Ran). first_after o first) d.runs;
        scratch_is = h.2 ∙ ap (λ (o : Answer Ran). scratch_after o scratch) d.runs;
        ended = ended a d.ran (h.0 ∙ ap run_report d.runs);
        not_2 = d.not_2;
        not_3 = d.not_3;
      }
