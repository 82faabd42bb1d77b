-- A refusal is the answer; after a yes the records are handed over.
use Rattle.std.proofs.Common.{length, length-take-le, refl, sym, ap, arith}
use Rattle.rules.specs.Answer.{Bytes}
use Rattle.rules.specs.Limits.{script_width}
use Rattle.rules.specs.Rewriting.{widen_script, old_script_check}
use Rattle.answer.specs.Said.{answer_of}
use Rattle.answer.proofs.Passed.{returned}
use Rattle.rewriting.specs.Widened.{after_27}
use Rattle.rewriting.proofs.Asked.{refused_delivered, delivered, rewriting_script_is, few_records, script_front}
use Rattle.rewriting.proofs.rewrite_script.Goals as goal

pub returns-in_err-old_script_check : goal.returns-in_err-old_script_check
returns-in_err-old_script_check c =
    let g = c.args.groups.now in
    let t = c.args.types.now in
    let s = c.args.script.now in
    let w = c.args.rewritten.now in
    refused_delivered script_width (old_script_check g t s) (after_27 (widen_script s) (length w)) w c.in_err-old_script_check.ensures.asked (rewriting_script_is g t s (length w)) (ap answer_of (returned _ c.from_residual.ensures.1))

pub slice_bounds-wide-end : goal.slice_bounds-wide-end
slice_bounds-wide-end c = omega (arith, few_records c.args.groups.now c.args.types.now c.args.script.now (sym c.in_ok-old_script_check.ensures.asked), c.old_script_check.auto.wide)

pub slice_bounds-hand_over-end : goal.slice_bounds-hand_over-end
slice_bounds-hand_over-end c =
    sym (length-take-le _ c.old_script_check.new.wide (omega (arith, few_records c.args.groups.now c.args.types.now c.args.script.now (sym c.in_ok-old_script_check.ensures.asked), c.old_script_check.auto.wide)))

pub returns : goal.returns
returns c =
    let g = c.args.groups.now in
    let t = c.args.types.now in
    let s = c.args.script.now in
    let w = c.args.rewritten.now in
    delivered script_width (old_script_check g t s) (after_27 (widen_script s) (length w)) w _ c.in_ok-old_script_check.ensures.asked
    (rewriting_script_is g t s (length w)) (ap (λ (b : Bytes). after_27 b (length w)) (script_front s _ (c.in_ok-old_script_check.ensures.written refl))) c.hand_over.ensures
