use Rattle.std.proofs.Common.{ℕ, sym, ap, subst, ◌∙◌, length}
use Rattle.rules.specs.Answer.{Bytes, Answer}
use Rattle.rules.specs.Step.{End}
use Rattle.rules.specs.Calls.{StepReport, step_report, written_after}
use Rattle.rules.specs.Preview.{Preview, move_call, moved_steps}
use Rattle.packing.specs.Packed.{packed_number, step_lower, steps_in, steps_left, StepCounted}
use Rattle.packing.proofs.Exported.{move_counted}
use Rattle.wigneld.proofs.Previews.{followed}
use Rattle.wigneld.proofs.wigneld_move.Goals as goal

-- the preview that was given, with a number of steps, and what a move with it answers
abbrev with_steps : ℕ → ℕ → ℕ → Preview
with_steps end count steps = record { end = end; count = count; steps = steps }

abbrev answer : Bytes → Bytes → Bytes → ℕ → ℕ → Bytes → ℕ → Answer End
answer g t s end count written steps = move_call g t s (length written) (with_steps end count steps)

pub move_number-requires : goal.move_number-requires
move_number-requires c =
    let a = c.args in
    subst StepCounted (sym c.move_on.ensures.outcome.answer)
    (move_counted a.groups.now a.types.now a.script.now (length a.written.now) (with_steps a.end a.records c.steps_of.result))

pub returns : goal.returns
returns c =
    let a = c.args in
    let s = a.script.now in
    let old = a.written.now in
    let lent = a.steps.now in
    let x = c.move_on.ensures.outcome in
    let y = c.move_number.ensures in
    let z = c.steps_of.ensures.value in
    let same = ap (λ (k : ℕ). steps_in k lent) (sym z) ∙ c.steps_of.ensures.kept in
    let n = y.answer
    ∙ ap (λ (r : Answer StepReport). packed_number (step_lower r))
    (x.answer ∙ ap (λ (k : ℕ). step_report s (answer a.groups.now a.types.now s a.end a.records old k)) z) in
    let w = x.written_is ∙ ap (λ (k : ℕ). written_after (answer a.groups.now a.types.now s a.end a.records old k) old) z in
    let m = y.steps
    ∙ ap (λ (r : Answer ℕ). steps_left r lent)
    (x.steps_is ∙ ap (λ (k : ℕ). moved_steps (with_steps a.end a.records k) (answer a.groups.now a.types.now s a.end a.records old k)) z) in
    record {
      outcome = record { number = n; written_is = w; steps_is = m };
      promise = followed a.groups.now a.types.now s a.end a.records old lent same _ _ _ n w m;
    }
