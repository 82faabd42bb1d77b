use Rattle.std.proofs.Common.{sym, ap, ◌∙◌, arith}
use Rattle.rules.specs.Answer.{ask}
use Rattle.rules.proofs.Search.{each_accepted}
use Rattle.answer.proofs.Passed.{left_by}
use Rattle.types_table.proofs.OnePass.{nothing_read, read, again, skips_12, short_12, asked_12, accepted_12}
use Rattle.types_table.proofs.question_12.Goals as goal

pub loop-i-init : goal.loop-i-init
loop-i-init c = nothing_read _ _ _ c.default-pass.ensures.1

pub returns-in_err-ask : goal.returns-in_err-ask
returns-in_err-ask c =
    let w = c.loop-i in
    let h = read _ _ w.pass.start w.pass.pending w.i (omega arith) w.invariant _ _ c.after-pass.ensures.start c.after-pass.ensures.pending in
    left_by _ _ _ _ (c.in_err-ask.ensures ∙ ap (ask 12 _) c.is_short.ensures) c.from_residual.ensures.1 ∙ asked_12 _ _ _ _ h (omega arith)

pub loop-i-preserved : goal.loop-i-preserved
loop-i-preserved c =
    let w = c.loop-i in
    let h = read _ _ w.pass.start w.pass.pending w.i (omega arith) w.invariant _ _ c.after-pass.ensures.start c.after-pass.ensures.pending in
    again _ _ _ _ _ (skips_12 _) h (short_12 _ _ _ _ h (c.in_ok-ask.ensures ∙ ap (ask 12 _) c.is_short.ensures))

pub returns : goal.returns
returns c = sym (each_accepted 12 _ _ (λ k l. accepted_12 _ _ _ _ c.loop-i.invariant (omega arith) k (omega arith)))
