use Rattle.std.proofs.Common.{refl, sym, ◌∙◌, [], arith}
use Rattle.std.proofs.lemmas.Result.{err_from_is_err_and}
use Rattle.reduction.proofs.Starts.{startable}
use Rattle.reduction.proofs.Moves.{reports, preview_refused, previewed}
use Rattle.reduction.proofs.preview.Goals as goal

pub returns-in_err-script_check : goal.returns-in_err-script_check
returns-in_err-script_check c =
    let a = c.args in
    let e = err_from_is_err_and c.from_residual.result c.from_residual.ensures.1 in
    rw (e.1, e.2) (preview_refused a.groups.now a.types.now a.script.now a.room a.steps _ c.in_err-script_check.ensures)

pub plan_step-next-requires : goal.plan_step-next-requires
plan_step-next-requires c =
    startable [] c.args.groups.now c.args.types.now c.args.script.now (λ k. omega (arith, c.type_inv.groups k)) (λ k. omega (arith, c.type_inv.script k)) (sym c.in_ok-script_check.ensures)

pub returns : goal.returns
returns c =
    let a = c.args in
    let x = c.report-report.result in
    previewed a.groups.now a.types.now a.script.now (sym c.in_ok-script_check.ensures) a.room
    (record { end = c.from.result; records = x.records; steps = a.steps }) x
    (reports a.groups.now a.types.now a.script.now a.room c.plan_step-next.ensures c.record_count.ensures c.counted.ensures c.report-report.ensures)
    (c.from.ensures ∙ c.end_number.ensures) refl
