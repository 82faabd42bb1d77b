-- The questions in order, each asked after a yes to those before it.
use Rattle.std.proofs.Common.{◌≡◌, length, ap, ◌∙◌, sym, ne_eqb, eq-eqb}
use Rattle.rules.specs.Answer.{Bytes, Answer, ask, ◌>>◌, first_from}
use Rattle.rules.specs.Limits.{words_length}
use Rattle.rules.specs.Words.{q33, q34, ok33, ok34, words_check}
use Rattle.answer.proofs.Passed.{returned}
use Rattle.words.proofs.words_check.Goals as goal

pub returns-in_default-clause-refused : goal.returns-in_default-clause-refused
unfolding words_check first_from ok33 ok34
returns-in_default-clause-refused c =
    let w = c.args.words.now in ap (λ b. ◌>>◌ (ask 32 0 b) (◌>>◌ (q33 w) (q34 w))) (ne_eqb (length w) words_length c.in_default.ensures.1)

-- the words w make a table t, of which 33 was answered
asked_33 : (w t : Bytes) {a : Answer (Unit {0})} → length w ≡ words_length → t ≡ w → a ≡ q33 t → words_check w ≡ ◌>>◌ a (q34 w)
unfolding words_check first_from ok33 ok34
asked_33 w t l e h =
    ap (λ b. ◌>>◌ (ask 32 0 b) (◌>>◌ (q33 w) (q34 w))) (eq-eqb (length w) words_length l) ∙ ap (λ (o : Answer (Unit {0})). ◌>>◌ o (q34 w)) (sym (h ∙ ap q33 e))

pub returns-in_err-question_33-clause-refused : goal.returns-in_err-question_33-clause-refused
returns-in_err-question_33-clause-refused c =
    let t = c.in-Ok.ensures.1 in
    rw (returned _ c.from_residual.ensures.1) (asked_33 c.args.words.now _ t.long t.same c.in_err-question_33.ensures)

pub returns-in_err-question_34-clause-refused : goal.returns-in_err-question_34-clause-refused
returns-in_err-question_34-clause-refused c =
    let t = c.in-Ok.ensures.1 in
    rw (returned _ c.from_residual-in_err-question_34.ensures.1)
    (asked_33 c.args.words.now _ t.long t.same c.in_ok-question_33.ensures ∙ sym (c.in_err-question_34.ensures ∙ ap q34 t.same))

pub returns-clause-accepted : goal.returns-clause-accepted
returns-clause-accepted c =
    let t = c.in-Ok.ensures.1 in
    asked_33 c.args.words.now _ t.long t.same c.in_ok-question_33.ensures ∙ sym (c.in_ok-question_34.ensures ∙ ap q34 t.same)

pub returns-clause-table : goal.returns-clause-table
returns-clause-table c = c.in-Ok.ensures.1.same
