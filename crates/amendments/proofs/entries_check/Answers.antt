use Rattle.std.proofs.Common.{refl, sym, ap, ◌∙◌, arith}
use Rattle.rules.specs.InForce.{entry_count, entries_check}
use Rattle.rules.proofs.InForce.{one_passes, stopped_at}
use Rattle.answer.specs.Said.{answer_of}
use Rattle.answer.proofs.Passed.{returned}
use Rattle.amendments.proofs.entries_check.Goals as goal

pub loop-e-init : goal.loop-e-init
unfolding entries_check
loop-e-init c = (refl, c.nothing-seen.ensures c.args.amendments.now)

pub returns-in_err-entry_check : goal.returns-in_err-entry_check
returns-in_err-entry_check c =
    let a = c.args.amendments.now in
    ap answer_of (returned _ c.from_residual.ensures.1)
    ∙ sym
    (stopped_at c.args.groups.now c.args.types.now c.args.scripts.now a (entry_count a) c.loop-e.e (omega arith) c.loop-e.invariant.0
    (sym c.in_err-entry_check.ensures))

pub loop-e-preserved : goal.loop-e-preserved
loop-e-preserved c =
    let a = c.args.amendments.now in
    let before = c.loop-e.invariant in (
      one_passes c.args.groups.now c.args.types.now c.args.scripts.now a c.loop-e.e before.0 (sym c.in_ok-entry_check.ensures),
      c.put.ensures a c.loop-e.e c.entry_at.ensures before.1,
    )
