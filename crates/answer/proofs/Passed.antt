-- An answer taken apart by let-else or `?`: after a yes the next question is asked, and a refusal is passed on.
use Rattle.std.proofs.Common.{◌≡◌, ap, ◌∙◌, Result, Err}
use Rattle.std.specs.Result.{IsErrAnd}
use Rattle.std.proofs.lemmas.Result.{err_from_is_err_and}
use Rattle.rules.specs.Answer.{Answer, accepted, ◌>>◌}
use Rattle.answer.specs.declared.Refusal.{Refusal}
use Rattle.answer.specs.Said.{answer_of}

pub then_asked : {B : Type 0} (a : Answer (Unit {0})) (b : Answer B) {c : Answer B} → accepted tt ≡ a → c ≡ b → c ≡ ◌>>◌ a b
then_asked a b e f = f ∙ ap (λ (o : Answer (Unit {0})). ◌>>◌ o b) e

pub stopped : (a b : Answer (Unit {0})) {x : Result (Unit {0}) Refusal} {e : Refusal} → x ≡ Err e → answer_of {A = Unit {0}} (Err e) ≡ a → answer_of x ≡ ◌>>◌ a b
stopped a b i e = ap answer_of i ∙ ap (λ (o : Answer (Unit {0})). ◌>>◌ o b) e

-- what `?` returns
pub returned : {A : Type 0} (r : Result A Refusal) {e : Refusal} → IsErrAnd r (λ y. y ≡ e) → r ≡ Err e
returned r h = let p = err_from_is_err_and r h in p.1 ∙ ap Err p.2

-- It is the answer of the questions in order, where the one asked is answered no.
pub left_by : {A B : Type 0} (a : Answer A) (b : Answer B) (r : Result B Refusal) (e : Refusal) → answer_of {A = A} (Err e) ≡ a → IsErrAnd r (λ y. y ≡ e)
    → answer_of r ≡ ◌>>◌ a b
left_by {A = A} a b r e h p = ap answer_of (returned r p) ∙ ap (λ (o : Answer A). ◌>>◌ o b) h
