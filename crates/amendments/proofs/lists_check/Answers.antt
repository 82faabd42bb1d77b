-- The questions in order: a refusal is the answer, and after a yes the next is asked.
use Rattle.rules.specs.Answer.{◌>>◌}
use Rattle.rules.specs.Calls.{types_check}
use Rattle.rules.specs.InForce.{entry_count, q40_lengths, q25_scripts, entries_check, lists_check}
use Rattle.answer.proofs.Passed.{then_asked, left_by}
use Rattle.amendments.proofs.lists_check.Goals as goal

pub returns-in_err-types_check : goal.returns-in_err-types_check
unfolding lists_check
returns-in_err-types_check c = left_by _ _ _ _ c.in_err-types_check.ensures c.from_residual.ensures.1

pub returns-in_err-lengths_check : goal.returns-in_err-lengths_check
unfolding lists_check
returns-in_err-lengths_check c =
    then_asked _ _ c.in_ok-types_check.ensures
    (left_by _ _ _ _ c.in_err-lengths_check.ensures c.from_residual-in_err-lengths_check.ensures.1)

pub returns-in_err-question_25 : goal.returns-in_err-question_25
unfolding lists_check
returns-in_err-question_25 c =
    then_asked _ _ c.in_ok-types_check.ensures
    (then_asked _ _ c.in_ok-lengths_check.ensures
    (left_by _ _ _ _ c.in_err-question_25.ensures c.from_residual-in_err-question_25.ensures.1))

pub returns : goal.returns
unfolding lists_check
returns c =
    let g = c.args.groups.now in
    let t = c.args.types.now in
    let l = c.args.scripts.now in
    let a = c.args.amendments.now in
    let entries = entries_check g t l a (entry_count a) in
    then_asked (types_check g t) (◌>>◌ (q40_lengths l a) (◌>>◌ (q25_scripts t l) entries)) c.in_ok-types_check.ensures
    (then_asked (q40_lengths l a) (◌>>◌ (q25_scripts t l) entries) c.in_ok-lengths_check.ensures
    (then_asked (q25_scripts t l) entries c.in_ok-question_25.ensures c.entries_check.ensures))
