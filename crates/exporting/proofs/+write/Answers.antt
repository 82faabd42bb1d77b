-- The record is written, and the first j operands.
use Rattle.std.proofs.Common.{◌≡◌, ℕ, ◌+◌, ◌∙◌, sym, arith, length, subst as transport}
use Rattle.rules.specs.Answer.{Bytes}
use Rattle.rules.specs.Limits.{office_width}
use Rattle.rules.proofs.TermCode.{term_operands}
use Rattle.memory.specs.Written.{Written}
use Rattle.records.specs.Place.{At}
use Rattle.records.proofs.Passing.{ahead, operand_here}
use Rattle.records.proofs.Stands.{there}
use Rattle.substitution.proofs.Reading.{count_is, level_is, size_from}
use Rattle.exporting.proofs.Nodes.{record_here}
use Rattle.exporting.proofs.Writing.{copied_none, copied_more, copied_all, operand_ready}
use Rattle.exporting.proofs.+write.Goals as goal

pub office_record-requires : goal.office_record-requires
office_record-requires t c = record { there = there _ _ _ c.requires.at; kind = c.kind_of-kind.ensures }

pub put-requires : goal.put-requires
put-requires t c = let q = c.requires in rw c.office_record.ensures (omega (arith, q.room, size_from q.tree))

pub overflow_add-next : goal.overflow_add-next
overflow_add-next t c = omega (arith, there _ _ _ c.requires.at)

pub loop-j-init : goal.loop-j-init
loop-j-init t c e a =
    copied_none c.args.i c.args.outside e
    (transport (λ (b : Bytes). Written b c.args.out.now c.put.new.self) (c.office_record.ensures ∙ record_here c.args.outside a) c.put.ensures)

pub write-next-requires : goal.write-next-requires
write-next-requires t c =
    let q = c.requires in
    let p = c.loop-j.invariant _ q.at in
    let n = ahead p.passed (omega (arith, c.loop-j-test.true, count_is c.kind_of-kind.ensures q.at c.arity-j-end.ensures.value)) in
    let z = operand_ready q p n (c.args.outside + c.from.result) (omega (arith, c.from.ensures, c.binders.ensures.small)) in
    (omega (arith, c.decreases, p.passed.next_is, there _ _ _ z.at), z)

pub loop-j-preserved : goal.loop-j-preserved
loop-j-preserved t c e a =
    let p = c.loop-j.invariant e a in
    let n = ahead p.passed (omega (arith, c.loop-j-test.true, count_is c.kind_of-kind.ensures a c.arity-j-end.ensures.value)) in
    copied_more p n _ (level_is c.kind_of-kind.ensures a c.args.outside c.loop-j.j (c.from.ensures ∙ c.binders.ensures.value))
    (c.write-next.ensures n.operand (operand_here p.passed n a))

pub returns : goal.returns
returns t c e a =
    let l : c.loop-j.j ≡ length (term_operands e) =
    omega (arith, c.loop-j-test.false, c.loop-j.auto.j-end, count_is c.kind_of-kind.ensures a c.arity-j-end.ensures.value) in
    copied_all (c.loop-j.invariant e a) l
