-- The loop has counted the first j operands.
use Rattle.std.proofs.Common.{ℕ, ◌+◌, ◌≤◌, ◌∙◌, arith}
use Rattle.rules.specs.Script.{size}
use Rattle.rules.specs.Answer.{Bytes}
use Rattle.records.proofs.Passing.{ahead, operand_here}
use Rattle.records.proofs.Weights.{stands_weight}
use Rattle.records.proofs.Stands.{there}
use Rattle.substitution.specs.declared.Size.{Size}
use Rattle.substitution.specs.Substituted.{value_limit, Sizes}
use Rattle.substitution.proofs.Reading.{variable_kind, other_kind, count_is, level_is}
use Rattle.substitution.proofs.Counting.{operand_sizes, counted_none, counted_more, counted_bound, counted_all}
use Rattle.substitution.proofs.Counting.{measured_variable}
use Rattle.substitution.proofs.+measure.Goals as goal

small_value : {s : Bytes} {i n : ℕ} {m : Size} (q : Sizes s i n m) → size q.value ≤ value_limit
small_value q = omega (arith, q.records_of, q.small_value)

pub measure_variable-requires : goal.measure_variable-requires
measure_variable-requires t c = there _ _ _ c.requires.at

pub returns-then-eq : goal.returns-then-eq
returns-then-eq t c u v a e f =
    measured_variable _ _ _ u v a (variable_kind _ c.if-eq.ensures c.kind_of-kind.ensures) _ _ e f _ c.measure_variable.ensures.next
    c.measure_variable.ensures.records c.measure_variable.ensures.depth

pub loop-j-init : goal.loop-j-init
loop-j-init t c = λ u v a e f. counted_none _ _ u v

pub measure-x-requires : goal.measure-x-requires
measure-x-requires t c =
    let q = c.requires in
    let p = c.loop-j.invariant _ _ q.at q.records_of q.depth_of in
    let n = ahead p.passed (omega (arith, c.loop-j-test.true, count_is c.kind_of-kind.ensures q.at c.arity-j-end.ensures.value)) in
    let z = operand_sizes q p.passed n (c.args.variable + c.from.result) (omega (arith, c.from.ensures, c.binders.ensures.small)) in
    (omega (arith, c.decreases, p.passed.next_is, there _ _ _ z.at), z)

pub overflow_add-sum : goal.overflow_add-sum
overflow_add-sum t c =
    let q = c.requires in
    let p = c.loop-j.invariant _ _ q.at q.records_of q.depth_of in
    let n = ahead p.passed (omega (arith, c.loop-j-test.true, count_is c.kind_of-kind.ensures q.at c.arity-j-end.ensures.value)) in
    let x = counted_more p n _ (level_is c.kind_of-kind.ensures q.at c.args.variable c.loop-j.j (c.from.ensures ∙ c.binders.ensures.value)) c.measure-x.result
    (c.measure-x.ensures n.operand _ (operand_here p.passed n q.at) q.records_of q.depth_of) in
    omega (arith, (counted_bound x (small_value q)).0, q.small)

pub loop-j-preserved : goal.loop-j-preserved
loop-j-preserved t c u v a e f =
    let p = c.loop-j.invariant u v a e f in
    let n = ahead p.passed (omega (arith, c.loop-j-test.true, count_is c.kind_of-kind.ensures a c.arity-j-end.ensures.value)) in
    rw c.max-below.ensures
    (counted_more p n _ (level_is c.kind_of-kind.ensures a c.args.variable c.loop-j.j (c.from.ensures ∙ c.binders.ensures.value)) c.measure-x.result
    (c.measure-x.ensures n.operand v (operand_here p.passed n a) e f))

pub weight-requires : goal.weight-requires
weight-requires t c = there _ _ _ c.requires.at

pub overflow_add-size : goal.overflow_add-size
overflow_add-size t c =
    let q = c.requires in
    let b = counted_bound (c.loop-j.invariant _ _ q.at q.records_of q.depth_of) (small_value q) in
    omega (arith, b.0, b.1, q.small, c.weight.ensures.small)

pub returns : goal.returns
returns t c u v a e f =
    counted_all (c.loop-j.invariant u v a e f) (other_kind _ c.if-eq.ensures c.kind_of-kind.ensures a)
    (omega (arith, c.loop-j-test.false, count_is c.kind_of-kind.ensures a c.arity-j-end.ensures.value)) c.weight.result
    (c.weight.ensures.value ∙ stands_weight a)
