-- A refusal is the answer; after a yes the records are handed over.
use Rattle.std.proofs.Common.{length, length-take-le, refl, sym, ap, arith}
use Rattle.rules.specs.Answer.{Bytes}
use Rattle.rules.specs.Limits.{type_width}
use Rattle.rules.specs.Rewriting.{widen_types, old_types_check}
use Rattle.answer.specs.Said.{answer_of}
use Rattle.answer.proofs.Passed.{returned}
use Rattle.rewriting.specs.Widened.{after_27}
use Rattle.rewriting.proofs.Asked.{refused_delivered, delivered, rewriting_types_is, few_types, types_front}
use Rattle.rewriting.proofs.rewrite_types.Goals as goal

pub returns-in_err-old_types_check : goal.returns-in_err-old_types_check
returns-in_err-old_types_check c =
    let g = c.args.groups.now in
    let t = c.args.types.now in
    let w = c.args.rewritten.now in
    refused_delivered type_width (old_types_check g t) (after_27 (widen_types t) (length w)) w c.in_err-old_types_check.ensures.asked (rewriting_types_is g t (length w)) (ap answer_of (returned _ c.from_residual.ensures.1))

pub slice_bounds-wide-end : goal.slice_bounds-wide-end
slice_bounds-wide-end c = omega (arith, few_types c.args.groups.now c.args.types.now (sym c.in_ok-old_types_check.ensures.asked), c.old_types_check.auto.wide)

pub slice_bounds-hand_over-end : goal.slice_bounds-hand_over-end
slice_bounds-hand_over-end c =
    sym (length-take-le _ c.old_types_check.new.wide (omega (arith, few_types c.args.groups.now c.args.types.now (sym c.in_ok-old_types_check.ensures.asked), c.old_types_check.auto.wide)))

pub returns : goal.returns
returns c =
    let g = c.args.groups.now in
    let t = c.args.types.now in
    let w = c.args.rewritten.now in
    delivered type_width (old_types_check g t) (after_27 (widen_types t) (length w)) w _ c.in_ok-old_types_check.ensures.asked
    (rewriting_types_is g t (length w)) (ap (λ (b : Bytes). after_27 b (length w)) (types_front t _ (c.in_ok-old_types_check.ensures.written refl))) c.hand_over.ensures
