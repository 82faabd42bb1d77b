use Rattle.std.proofs.Common.{arith, ◌∙◌}
use Rattle.types_table.proofs.OnePass.{nothing_read, read, again, skips_11, ends_11, asked_11}
use Rattle.types_table.proofs.question_11.Goals as goal

pub loop-i-init : goal.loop-i-init
loop-i-init c = nothing_read _ _ _ c.default-pass.ensures.1

pub loop-i-preserved : goal.loop-i-preserved
loop-i-preserved c =
    let w = c.loop-i in
    let h = read _ _ w.pass.start w.pass.pending w.i (omega arith) w.invariant _ _ c.after-pass.ensures.start c.after-pass.ensures.pending in
    again _ _ _ _ _ (skips_11 _) h (ends_11 _ _ _ _ h)

pub returns : goal.returns
returns c = c.ask.ensures ∙ asked_11 _ _ _ _ c.loop-i.invariant (omega arith) (omega arith)
