use Rattle.std.proofs.Common.{sym, ◌∙◌, true, false}
use Rattle.redex.proofs.Answers.{recursion_answer}
use Rattle.redex.proofs.unrolling.Goals as goal

pub returns-then-not-unrolls : goal.returns-then-not-unrolls
returns-then-not-unrolls c S e a h = recursion_answer a S _ _ _ false h
    (c.from-named.ensures ∙ c.number.ensures)
    (sym c.unrolls.ensures ∙ c.if-not-unrolls.true)

pub returns : goal.returns
returns c S e a h = recursion_answer a S _ _ _ true h
    (c.from-named.ensures ∙ c.number.ensures)
    (sym c.unrolls.ensures ∙ c.if-not-unrolls.false)
