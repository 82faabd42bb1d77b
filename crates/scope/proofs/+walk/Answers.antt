use Rattle.std.proofs.Common.{◌≡◌, ℕ, Bool, ◌+◌, ◌<◌, sym, ap, ap₂, ◌∙◌, arith}
use Rattle.calculus.specs.Terms.{Term}
use Rattle.rules.specs.Answer.{Bytes, Answer, ask}
use Rattle.rules.specs.Script.{arity, kind}
use Rattle.records.specs.Place.{At}
use Rattle.records.specs.Weight.{weight_at}
use Rattle.records.proofs.Weights.{stands_weight}
use Rattle.records.proofs.Passing.{Ahead, ahead, operand_here}
use Rattle.records.proofs.Stands.{operands, kind_of, here, there, stands_kind, stands_arity}
use Rattle.records.proofs.WeightOf.{weight_of}
use Rattle.answer.specs.Said.{answer_of}
use Rattle.answer.proofs.Passed.{returned, left_by}
use Rattle.scope.specs.Walk.{WalkCount, question_of_count, count_within, increment}
use Rattle.scope.proofs.Walks.{asked_first, Reached, reach, end, stop, pass}
use Rattle.scope.proofs.+walk.Goals as goal

arity_is : {s : Bytes} {i : ℕ} {u : Term} (w : At s i u) {k m : ℕ} → m ≡ arity k → k ≡ kind s i → m ≡ operands u
arity_is w h hk = h ∙ ap arity hk ∙ stands_arity _ _ _ w

number_is : {s : Bytes} {i : ℕ} {u : Term} (w : At s i u) (q : WalkCount) (n m k j r : ℕ) → m ≡ weight_at s i → k ≡ kind s i → r ≡ increment q m k j
    → n + r ≡ n + increment q (weight_of u) (kind_of u) j
number_is w q n m k j r hm hk hr =
    ap (λ b. n + b) (hr ∙ ap₂ (λ a b. increment q a b j) (hm ∙ stands_weight w) (hk ∙ stands_kind _ _ _ w))

asked_is : (q : WalkCount) (s : Bytes) (i n : ℕ) {x : ℕ} {b : Bool} {o : Answer (Unit {0})} → x ≡ question_of_count q → b ≡ count_within q s i n → o ≡ ask x i b → o ≡ ask (question_of_count q) i (count_within q s i n)
asked_is q s i n hx hb h = rw (← hx, ← hb) h

ahead_of : {q : WalkCount} {s : Bytes} {i n : ℕ} {u : Term} {j next : ℕ} (w : At s i u) (p : Reached q s i n u j next) {k m : ℕ} → m ≡ arity k → k ≡ kind s i → j < m → Ahead p.passed
ahead_of w p h hk l = ahead p.passed (omega (arith, arity_is w h hk))

pub passes-requires : goal.passes-requires
passes-requires g t c = there _ _ _ c.requires.here.at

pub returns-in_err-ask : goal.returns-in_err-ask
returns-in_err-ask g t c u w =
    left_by _ _ _ _ (asked_is _ _ _ _ c.question.ensures c.passes.ensures c.in_err-ask.ensures) c.from_residual.ensures.1 ∙ sym (asked_first _ _ _ _ u)

pub weight-weight-requires : goal.weight-weight-requires
weight-weight-requires g t c = there _ _ _ c.requires.here.at

pub overflow_add-next : goal.overflow_add-next
overflow_add-next g t c = omega (arith, there _ _ _ c.requires.here.at)

pub loop-j-init : goal.loop-j-init
loop-j-init g t c u w = reach _ _ _ _ u (asked_is _ _ _ _ c.question.ensures c.passes.ensures c.in_ok-ask.ensures)

pub overflow_add-n : goal.overflow_add-n
overflow_add-n g t c = omega (arith, there _ _ _ c.requires.here.at)

pub walk-requires : goal.walk-requires
walk-requires g t c κs within =
    let w = c.requires.here.at in
    let p = c.loop-j.invariant _ w in
    let a = ahead_of w p c.arity-j-end.ensures.value c.kind_of-kind.ensures c.loop-j-test.true in (
      omega (arith, there _ _ _ w, p.passed.next_is),
      (within, (here (operand_here p.passed a w), omega (arith, p.passed.next_is))),
    )

pub returns-in_err-next : goal.returns-in_err-next
returns-in_err-next g t c u w =
    let p = c.loop-j.invariant u w in
    let a = ahead_of w p c.arity-j-end.ensures.value c.kind_of-kind.ensures c.loop-j-test.true in
    ap answer_of (returned _ c.from_residual-in_err-next.ensures.1)
    ∙ stop p a (c.args.n + c.increment.result) (number_is w _ _ _ _ _ _ c.weight-weight.ensures.value c.kind_of-kind.ensures c.increment.ensures.value)
    (c.in_err-next.ensures a.operand (operand_here p.passed a w))

pub loop-j-preserved : goal.loop-j-preserved
loop-j-preserved g t c u w =
    let p = c.loop-j.invariant u w in
    let a = ahead_of w p c.arity-j-end.ensures.value c.kind_of-kind.ensures c.loop-j-test.true in
    pass p a _ (number_is w _ _ _ _ _ _ c.weight-weight.ensures.value c.kind_of-kind.ensures c.increment.ensures.value) _
    (c.in_ok-next.ensures _ (operand_here p.passed a w))

pub returns : goal.returns
returns g t c u w =
    let m = arity_is w c.arity-j-end.ensures.value c.kind_of-kind.ensures in
    end (c.loop-j.invariant u w) (omega arith)
