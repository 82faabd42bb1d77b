-- The loop has scanned and written the first j operands.
use Rattle.std.proofs.Common.{◌≡◌, refl, sym, ap, ◌∙◌, ℕ, ◌+◌, ◌-◌, length, arith, subst as transport}
use Rattle.rules.specs.Answer.{Bytes}
use Rattle.answer.specs.Said.{answer_of}
use Rattle.answer.proofs.Passed.{returned}
use Rattle.rules.proofs.TermCode.{term_operands, term_head, term_head_length}
use Rattle.memory.specs.Written.{Written}
use Rattle.memory.specs.declared.Writer.{Writer}
use Rattle.records.specs.Kinds as kinds
use Rattle.records.specs.Place.{At}
use Rattle.records.proofs.Made.{own_record}
use Rattle.records.proofs.Passing.{ahead, operand_here}
use Rattle.records.proofs.Stands.{kind_of, stands_kind, there}
use Rattle.substitution.proofs.Reading.{variable_kind, other_kind, count_is, size_from}
use Rattle.importing.specs.Scope.{scope}
use Rattle.importing.proofs.Walks.{reach, end, all_written}
use Rattle.importing.proofs.Turns.{kept_all, level_here, operand_ready, turn_refused, turn_passed}
use Rattle.importing.proofs.+resolve.Goals as goal

pub resolve_variable-requires : goal.resolve_variable-requires
resolve_variable-requires t c =
    let q = c.requires.ready in
    let k = variable_kind _ c.if-eq.ensures c.kind_of-kind.ensures in
    record { ready = (c.args.script.now, q, k); variable = c.requires.same_kinds c.args.i (omega (arith, there _ _ _ q.at, q.old)) ∙ k }

pub returns-then-eq : goal.returns-then-eq
returns-then-eq t c e a = c.resolve_variable.ensures c.args.script.now e a (variable_kind _ c.if-eq.ensures c.kind_of-kind.ensures)

pub part-requires : goal.part-requires
part-requires t c = record { order = omega arith; there = omega (arith, there _ _ _ c.requires.ready.at) }

pub put-requires : goal.put-requires
put-requires t c =
    let q = c.requires.ready in
    let one : c.args.i + 1 - c.args.i ≡ 1 = omega arith in
    rw (c.part.ensures, one, own_record q.at) (omega (arith, q.room, size_from q.tree, term_head_length q.tree))

pub loop-j-init : goal.loop-j-init
loop-j-init t c = (
  λ e a.
      let q = c.requires.ready in
      let one : c.args.i + 1 - c.args.i ≡ 1 = omega arith in
      reach c.args.old.now c.args.i (scope c.args.names.now c.args.n) e
      (c.requires.same_kinds c.args.i (omega (arith, there _ _ _ q.at, q.old)) ∙ stands_kind _ _ _ a)
      (other_kind _ c.if-eq.ensures c.kind_of-kind.ensures a)
      (transport (λ (b : Bytes). Written b c.args.out.now c.put.new.self) (own_record a) (rw (c.part.ensures, one) at c.put.ensures)),
  kept_all _ _,
)

pub name_over-requires : goal.name_over-requires
name_over-requires t c = let q = c.requires.ready in omega (arith, there _ _ _ q.at, q.old)

pub bounds-names-n : goal.bounds-names-n
bounds-names-n t c =
    let q = c.requires.ready in
    let p = c.loop-j.invariant.0 _ q.at in
    let n = ahead p.passed (omega (arith, c.loop-j-test.true, count_is c.kind_of-kind.ensures q.at c.arity-j-end.ensures.value)) in
    omega (arith, level_here q p n, c.loop-j.invariant.1.levels)

pub resolve-requires : goal.resolve-requires
resolve-requires t c =
    let q = c.requires.ready in
    let p = c.loop-j.invariant.0 _ q.at in
    let n = ahead p.passed (omega (arith, c.loop-j-test.true, count_is c.kind_of-kind.ensures q.at c.arity-j-end.ensures.value)) in
    let z = operand_ready q p n c.loop-j.names c.from.result c.name_over.result (omega (arith, c.from.ensures, c.binders.ensures.small)) c.loop-j.invariant.1.levels in
    (omega (arith, c.decreases, p.passed.next_is, there _ _ _ z.at), (z, c.requires.same_kinds))

pub returns-in_err-next : goal.returns-in_err-next
returns-in_err-next t c e a =
    let q = c.requires.ready in
    let own = c.loop-j.invariant.0 _ q.at in
    let m = ahead own.passed (omega (arith, c.loop-j-test.true, count_is c.kind_of-kind.ensures q.at c.arity-j-end.ensures.value)) in
    let p = c.loop-j.invariant.0 e a in
    let n = ahead p.passed (omega (arith, c.loop-j-test.true, count_is c.kind_of-kind.ensures a c.arity-j-end.ensures.value)) in
    turn_refused p n c.loop-j.invariant.1 (level_here q own m) c.name_over.ensures (c.kind_of-kind.ensures ∙ stands_kind _ _ _ a)
    (c.from.ensures ∙ c.binders.ensures.value) (c.in_err-next.ensures n.operand (operand_here p.passed n a)) (ap answer_of (returned _ c.from_residual.ensures.1))

pub loop-j-preserved : goal.loop-j-preserved
loop-j-preserved t c =
    let q = c.requires.ready in
    let own = c.loop-j.invariant.0 _ q.at in
    let m = ahead own.passed (omega (arith, c.loop-j-test.true, count_is c.kind_of-kind.ensures q.at c.arity-j-end.ensures.value)) in
    let level = level_here q own m in
    let b = c.from.ensures ∙ c.binders.ensures.value in
    let mine = turn_passed own m c.loop-j.invariant.1 level c.name_over.ensures (c.kind_of-kind.ensures ∙ stands_kind _ _ _ q.at) b
    (c.in_ok-next.ensures m.operand (operand_here own.passed m q.at)) in (
      λ e a.
          let p = c.loop-j.invariant.0 e a in
          let n = ahead p.passed (omega (arith, c.loop-j-test.true, count_is c.kind_of-kind.ensures a c.arity-j-end.ensures.value)) in
          (turn_passed p n c.loop-j.invariant.1 level c.name_over.ensures (c.kind_of-kind.ensures ∙ stands_kind _ _ _ a) b
          (c.in_ok-next.ensures n.operand (operand_here p.passed n a))).0,
      mine.1,
    )

pub returns : goal.returns
returns t c e a =
    let p = c.loop-j.invariant.0 e a in
    let d = other_kind _ c.if-eq.ensures c.kind_of-kind.ensures a in
    let l : c.loop-j.j ≡ length (term_operands e) =
    omega (arith, c.loop-j-test.false, c.loop-j.auto.j-end, count_is c.kind_of-kind.ensures a c.arity-j-end.ensures.value) in
    record {
      asked = end p l;
      written = λ m g. all_written p l d;
      kept = c.loop-j.invariant.1.same;
      levels = c.loop-j.invariant.1.levels;
    }
