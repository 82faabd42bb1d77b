-- Question 1, 2 to 19, and typing.
use Rattle.std.proofs.Common.{arith}
use Rattle.typing.proofs.Outcome.{checked_goes_on, short, script_refused, asked_19, as_typed, judged}
use Rattle.typing.proofs.checking.Goals as goal

pub returns-in_err-question_1 : goal.returns-in_err-question_1
returns-in_err-question_1 c =
    let a = c.args in
    let h = short a.groups.now a.types.now a.script.now a.work.now a.answer.now _ _ (checked_goes_on a.groups.now a.types.now a.script.now a.work.now a.answer.now) _ _ c.in_err-question_1.ensures c.from_residual.ensures.1 in
    record {
      outcome = h;
      promise = judged a.groups.now a.types.now a.script.now a.work.now a.answer.now (λ k. omega (arith, c.type_inv.groups k)) (λ k. omega (arith, c.type_inv.script k)) c.from_residual.result _ _ h;
    }

pub returns-in_err-script_check : goal.returns-in_err-script_check
returns-in_err-script_check c =
    let a = c.args in
    let h = script_refused a.groups.now a.types.now a.script.now a.work.now a.answer.now _ _ (checked_goes_on a.groups.now a.types.now a.script.now a.work.now a.answer.now) c.in_ok-question_1.ensures _ _ c.in_err-script_check.ensures c.from_residual-in_err-script_check.ensures.1 in
    record {
      outcome = h;
      promise = judged a.groups.now a.types.now a.script.now a.work.now a.answer.now (λ k. omega (arith, c.type_inv.groups k)) (λ k. omega (arith, c.type_inv.script k)) c.from_residual-in_err-script_check.result _ _ h;
    }

pub returns : goal.returns
returns c =
    let a = c.args in
    let h = as_typed c.give_type.result a.work.now c.give_type.new.work a.answer.now c.give_type.new.answer (asked_19 a.groups.now a.types.now a.script.now a.work.now a.answer.now _ _ (checked_goes_on a.groups.now a.types.now a.script.now a.work.now a.answer.now) c.in_ok-question_1.ensures c.in_ok-script_check.ensures) c.give_type.ensures in
    record {
      outcome = h;
      promise = judged a.groups.now a.types.now a.script.now a.work.now a.answer.now (λ k. omega (arith, c.type_inv.groups k)) (λ k. omega (arith, c.type_inv.script k)) c.give_type.result _ _ h;
    }
