-- A found type's records, at the front of the work buffer, are copied.
use Rattle.std.proofs.Common.{◌≡◌, ℕ, Result, Ok, sym, ap, ◌∙◌, subst, arith}
use Rattle.rules.specs.Answer.{Bytes}
use Rattle.rules.specs.Types.{encode_type}
use Rattle.rules.specs.Calls.{answer_after}
use Rattle.answer.specs.declared.Refusal.{Refusal}
use Rattle.memory.specs.Splice.{splice}
use Rattle.memory.proofs.Laws.{splice_front}
use Rattle.inference.specs.Memory.{Meets}
use Rattle.inference.proofs.Front.{held_bytes, taken_length}
use Rattle.inference.proofs.Rules.{TypedAs, typed_as, refused_as}
use Rattle.typing.specs.Answers.{Answers}
use Rattle.typing.proofs.hand_over.Goals as goal

-- the found type
type_of : {x : Result ℕ Refusal} {w : Bytes} {n : ℕ} (v : Answers x w) → x ≡ Ok n → TypedAs v.answer 0 v.old n w
type_of {w = w} v e = typed_as (subst (λ y. Meets v.answer 0 v.old y w) e v.meets)

pub slice_bounds-put-end : goal.slice_bounds-put-end
slice_bounds-put-end c =
    let a = (type_of c.requires.found c.in-Ok.is).wrote.sized in
    sym (taken_length a.held _ a.count)

pub put-requires : goal.put-requires
put-requires c =
    let a = (type_of c.requires.found c.in-Ok.is).wrote.sized in
    omega (arith, taken_length a.held _ a.count, a.count, a.small, c.requires.room)

pub returns-in-Ok : goal.returns-in-Ok
returns-in-Ok c v =
    let old = c.args.answer.now in
    let a = type_of v c.in-Ok.is in
    c.put.ensures ∙ ap (λ x. splice 0 x old) (held_bytes a.wrote.sized.held _ a.wrote.sized.count)
    ∙ splice_front (encode_type a.type) old
    ∙ sym (ap (λ o. answer_after o old) a.is)

pub returns-in_default : goal.returns-in_default
returns-in_default c v =
    let m = subst (λ y. Meets v.answer 0 v.old y c.args.work.now) c.in_default.is v.meets in
    sym (ap (λ o. answer_after o c.args.answer.now) (refused_as m))
