use Rattle.std.proofs.Common.{sym, ap, ◌∙◌, [], arith, length}
use Rattle.std.proofs.lemmas.Result.{err_from_is_err_and}
use Rattle.rules.specs.Answer.{Answer}
use Rattle.rules.specs.Step.{End}
use Rattle.rules.specs.Calls.{written_after}
use Rattle.reduction.proofs.Starts.{startable}
use Rattle.reduction.proofs.Ends.{made_report, refused_keeps, passed_step}
use Rattle.reduction.proofs.step.Goals as goal

pub returns-in_err-script_check : goal.returns-in_err-script_check
returns-in_err-script_check c =
    let e = err_from_is_err_and c.from_residual.result c.from_residual.ensures.1 in
    let h = refused_keeps c.args.groups.now c.args.types.now c.args.script.now c.args.written.now (length c.args.written.now) _ c.in_err-script_check.ensures in
    rw (e.1, e.2) (record { answer = h.0; written = h.1 })

pub step_term-requires : goal.step_term-requires
step_term-requires c =
    startable [] c.args.groups.now c.args.types.now c.args.script.now (λ k. omega (arith, c.type_inv.groups k)) (λ k. omega (arith, c.type_inv.script k)) (sym c.in_ok-script_check.ensures)

pub returns : goal.returns
returns c =
    let h = passed_step c.args.groups.now c.args.types.now c.args.script.now (length c.args.written.now) (sym c.in_ok-script_check.ensures) in
    record {
      answer = rw (c.report.ensures, c.record_count-own.ensures) (made_report c.args.script.now c.step_term.ensures.answer h);
      written = c.step_term.ensures.written ∙ sym (ap (λ (o : Answer End). written_after o c.args.written.now) h);
    }
