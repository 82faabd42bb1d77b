-- A preview's answer and a move's: to the questions, 35 among them, and of the planned step.
use Rattle.std.proofs.Common.{◌≡◌, refl, sym, ap, ◌∙◌, cond, [], ℕ, ◌+◌, min, nat_eq, length, Result, Ok, Err}
use Rattle.std.proofs.Common.{subst as transport, arith}
use Rattle.rules.specs.Answer.{Bytes, Answer, accepted, refused, ◌>>=◌, ◌>>◌}
use Rattle.rules.specs.Groups.{properties_of}
use Rattle.rules.specs.Types.{type_at}
use Rattle.rules.specs.Script.{records, term}
use Rattle.rules.specs.Step as rules
use Rattle.rules.specs.Step.{End, at_value, end_count, step_in}
use Rattle.rules.specs.Calls.{StepReport, script_check, step_call, step_report, written_after}
use Rattle.rules.specs.Preview.{Preview, q35, preview_call, move_call, largest_steps, steps_with, moved_steps}
use Rattle.promises.proofs.Answers.{accepted_inj}
use Rattle.promises.proofs.Preview.{preview_then_move}
use Rattle.answer.specs.Numbers.{question_number}
use Rattle.answer.specs.declared.Refusal.{Refusal}
use Rattle.reduction.specs.Steps.{reported_end, said_step, Foresees, next_step_records, report_of_step}
use Rattle.reduction.specs.declared.NextStep.{NextStep}
use Rattle.reduction.specs.declared.Stop.{Stop}
use Rattle.reduction.specs.Previews.{preview_of, said_preview, said_move, said_steps, same_as, Promised}
use Rattle.reduction.specs.declared.StepReport.{StepReport as Reported}
use Rattle.reduction.specs.declared.Previewed.{Previewed}
use Rattle.reduction.specs.declared.Moved.{Moved}
use Rattle.reduction.proofs.Ends.{made_report, passed_step}
use Rattle.std.proofs.Common.{arith}

-- a reports the step that ended x, in a script of `own` records
record Tells (own : ℕ) (x : End) (a : Reported) : Type 0 where
  end : reported_end a.stop ≡ rules.end_number x
  count : a.records ≡ end_count own x

tells : (s : Bytes) (x : End) (a : Reported) → said_step (Ok a) ≡ step_report s (accepted x) → Tells (records s) x a
tells s x a h =
    let e = accepted_inj h in
    record { end = ap (λ (r : StepReport). r.end) e; count = ap (λ (r : StepReport). r.count) e }

-- the answer and the bytes of a move that answers o
abbrev pub Says : Bytes → Preview → Bytes → Answer End → Result Moved Refusal → Bytes → Type 0
Says s v old o a new = (said_move a ≡ step_report s o) × (said_steps a ≡ moved_steps v o) × (new ≡ written_after o old)

-- what every move says is what its preview promised it
pub promised : (g t s old : Bytes) (v : Preview) (a : Result Moved Refusal) (new : Bytes) → Says s v old (move_call g t s (length old) v) a new
    → Promised g t s old v a new
promised g t s old v a new h =
    let p = preview_then_move g t s old v.steps in
    record {
      promise = p;
      reports = λ e. h.0 ∙ ap (step_report s) (p.same_answer v e);
      leaves = λ e. h.2 ∙ p.same_bytes v e;
      counts = λ e. h.1 ∙ (p.counts v e).1;
    }

module _ (g t s : Bytes) where
  abbrev ended : ℕ → End
  ended room = step_in (properties_of g) (type_at t) room (term s)

  -- what is reported of a plan
  pub reports : (room : ℕ) {next : Result NextStep Stop} {own : ℕ} {moved : Result ℕ Stop} {a : Reported} → Foresees g t s room next → own ≡ records s
      → moved ≡ next_step_records next → a ≡ report_of_step own moved → said_step (Ok a) ≡ step_report s (accepted (ended room))
  reports room f n m e = grind arith

  -- refused by 2 to 19
  pub preview_refused : (room steps : ℕ) (e : Refusal) → refused (question_number e.question) e.place ≡ script_check [] g t s
      → said_preview (Err e) ≡ preview_call g t s room steps
  unfolding preview_call step_call
  preview_refused room steps e h = grind arith

  pub move_refused : (old : Bytes) (v : Preview) (e : Refusal) → refused (question_number e.question) e.place ≡ script_check [] g t s
      → Says s v old (move_call g t s (length old) v) (Err e) old
  unfolding move_call moved_steps step_call
  move_refused old v e h =
      transport (λ (c : Answer (Unit {0})). Says s v old (◌>>=◌ (◌>>◌ c (accepted (ended (length old)))) (λ x. ◌>>◌ (q35 v (records s) x) (accepted x))) (Err e) old)
      h (refl, refl, refl)

  module _ (passed : script_check [] g t s ≡ accepted tt) where
    -- a preview of the reported step
    pub previewed : (room : ℕ) (v : Previewed) (a : Reported) → said_step (Ok a) ≡ step_report s (accepted (ended room)) → v.end ≡ reported_end a.stop
        → v.records ≡ a.records → said_preview (Ok v) ≡ preview_call g t s room v.steps
    unfolding preview_call
    previewed room v a h e n = grind arith

    asks_35 : (room : ℕ) (v : Previewed) (a : Reported) → said_step (Ok a) ≡ step_report s (accepted (ended room))
        → move_call g t s room (preview_of v) ≡ ◌>>◌ (same_as v a) (accepted (ended room))
    unfolding move_call
    asks_35 room v a h = grind arith

    -- refused by 35
    pub move_unlike : (old : Bytes) (v : Previewed) (a : Reported) (e : Refusal) → said_step (Ok a) ≡ step_report s (accepted (ended (length old)))
        → refused (question_number e.question) e.place ≡ same_as v a → Says s (preview_of v) old (move_call g t s (length old) (preview_of v)) (Err e) old
    unfolding moved_steps
    move_unlike old v a e h k =
        let o = asks_35 (length old) v a h ∙ ap (λ (c : Answer (Unit {0})). ◌>>◌ c (accepted (ended (length old)))) (sym k) in
        transport (λ (o : Answer End). Says s (preview_of v) old o (Err e) old) (sym o) (refl, refl, refl)

    -- and made
    pub move_made : (old new : Bytes) (v : Previewed) (m : Moved) → said_step (Ok m.report) ≡ step_report s (accepted (ended (length old)))
        → accepted tt ≡ same_as v m.report → m.steps ≡ cond (nat_eq (reported_end m.report.stop) 1) (min (v.steps + 1) largest_steps) v.steps
        → new ≡ written_after (accepted (ended (length old))) old → Says s (preview_of v) old (move_call g t s (length old) (preview_of v)) (Ok m) new
    unfolding moved_steps
    move_made old new v m h k n w =
        let q = tells s (ended (length old)) m.report h in
        let o = asks_35 (length old) v m.report h ∙ ap (λ (c : Answer (Unit {0})). ◌>>◌ c (accepted (ended (length old)))) (sym k) in
        transport (λ (o : Answer End). Says s (preview_of v) old o (Ok m) new) (sym o)
        (h, ap accepted (n ∙ ap (λ (x : ℕ). cond (nat_eq x 1) (min (v.steps + 1) largest_steps) v.steps) q.end ∙ counted_once v.steps (ended (length old))), w)
      where
        counted_once : (steps : ℕ) (x : End) → cond (nat_eq (rules.end_number x) 1) (min (steps + 1) largest_steps) steps ≡ steps_with steps x
        counted_once steps at_value = refl
        counted_once steps _ = refl
