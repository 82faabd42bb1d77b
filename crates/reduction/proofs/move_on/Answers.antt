use Rattle.std.proofs.Common.{sym, [], arith, length}
use Rattle.std.proofs.lemmas.Result.{err_from_is_err_and}
use Rattle.reduction.proofs.Starts.{startable}
use Rattle.reduction.proofs.Moves.{reports, move_refused, move_unlike, move_made, promised}
use Rattle.reduction.specs.Previews.{preview_of}
use Rattle.reduction.proofs.move_on.Goals as goal

pub returns-in_err-script_check : goal.returns-in_err-script_check
returns-in_err-script_check c =
    let a = c.args in
    let e = err_from_is_err_and c.from_residual.result c.from_residual.ensures.1 in
    let h = move_refused a.groups.now a.types.now a.script.now a.written.now (preview_of a.preview) _ c.in_err-script_check.ensures in
    rw (e.1, e.2) (record {
      outcome = record { answer = h.0; steps_is = h.1; written_is = h.2 };
      promise = promised a.groups.now a.types.now a.script.now a.written.now (preview_of a.preview) _ a.written.now h;
    })

pub plan_step-next-requires : goal.plan_step-next-requires
plan_step-next-requires c =
    startable [] c.args.groups.now c.args.types.now c.args.script.now (λ k. omega (arith, c.type_inv.groups k)) (λ k. omega (arith, c.type_inv.script k)) (sym c.in_ok-script_check.ensures)

pub returns-in_err-ask_preview : goal.returns-in_err-ask_preview
returns-in_err-ask_preview c =
    let a = c.args in
    let e = err_from_is_err_and c.from_residual-in_err-ask_preview.result c.from_residual-in_err-ask_preview.ensures.1 in
    let h = move_unlike a.groups.now a.types.now a.script.now (sym c.in_ok-script_check.ensures) a.written.now a.preview c.report-report.result _
    (reports a.groups.now a.types.now a.script.now (length a.written.now) c.plan_step-next.ensures c.record_count.ensures c.counted.ensures c.report-report.ensures)
    c.in_err-ask_preview.ensures in
    rw (e.1, e.2) (record {
      outcome = record { answer = h.0; steps_is = h.1; written_is = h.2 };
      promise = promised a.groups.now a.types.now a.script.now a.written.now (preview_of a.preview) _ a.written.now h;
    })

pub take_step-requires : goal.take_step-requires
take_step-requires c = c.plan_step-next.ensures

pub returns : goal.returns
returns c =
    let a = c.args in
    let h = move_made a.groups.now a.types.now a.script.now (sym c.in_ok-script_check.ensures) a.written.now c.take_step.new.written a.preview
    (record { report = c.report-report.result; steps = c.raised.result })
    (reports a.groups.now a.types.now a.script.now (length a.written.now) c.plan_step-next.ensures c.record_count.ensures c.counted.ensures c.report-report.ensures)
    c.in_ok-ask_preview.ensures c.raised.ensures c.take_step.ensures in
    record {
      outcome = record { answer = h.0; steps_is = h.1; written_is = h.2 };
      promise = promised a.groups.now a.types.now a.script.now a.written.now (preview_of a.preview) _ c.take_step.new.written h;
    }
