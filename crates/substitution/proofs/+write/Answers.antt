-- The loop has written the first j operands.
use Rattle.std.proofs.Common.{◌≡◌, ℕ, ◌+◌, ◌∙◌, arith, subst as transport}
use Rattle.calculus.specs.Terms.{Term}
use Rattle.rules.specs.Answer.{Bytes}
use Rattle.rules.proofs.Prefix.{joined}
use Rattle.rules.specs.Script.{encode}
use Rattle.records.proofs.Made.{own_record}
use Rattle.records.proofs.Passing.{ahead, operand_here}
use Rattle.records.proofs.Stands.{kind_of, there}
use Rattle.records.specs.Kinds as kinds
use Rattle.records.specs.Place.{At}
use Rattle.rules.proofs.TermCode.{term_operands, term_head}
use Rattle.memory.specs.Written.{Room, Written}
use Rattle.memory.specs.declared.Writer.{Writer}
use Rattle.memory.proofs.Placed.{room_first}
use Rattle.substitution.specs.Substituted.{record_at, Substitution}
use Rattle.substitution.proofs.Nodes.{under, subst_encode}
use Rattle.substitution.proofs.Reading.{other_kind, count_is, level_is}
use Rattle.substitution.proofs.Writing.{copied_none, copied_more, copied_all, operand_given}
use Rattle.substitution.proofs.+write.Goals as goal

-- room for the node's own record
record_room : {s front mid back : Bytes} {i n : ℕ} {out : Writer} (q : Substitution s i front mid back n out) → (kind_of q.tree ≡ kinds.variable → ⊥)
    → Room (record_at s i) out
record_room {n = n} {out = out} q h =
    rw (own_record q.at)
    (room_first (term_head q.tree) (joined encode (under (kind_of q.tree) n q.value 0 (term_operands q.tree))) out
    (transport (λ (b : Bytes). Room b out) (subst_encode n q.value q.tree h) q.room))

-- the record, as the term that stands there tells it
head_written : {s : Bytes} {i : ℕ} {e : Term} {w w' : Writer} → At s i e → Written (record_at s i) w w' → Written (term_head e) w w'
head_written {w = w} {w' = w'} a m = transport (λ (b : Bytes). Written b w w') (own_record a) m

pub write_record-requires : goal.write_record-requires
write_record-requires t c =
    let q = c.requires in
    record { inside = there _ _ _ q.at; room = record_room q (other_kind _ c.if-eq.ensures c.kind_of-kind.ensures q.at) }

pub loop-j-init : goal.loop-j-init
loop-j-init t c = λ u v a e. copied_none _ _ u v c.write_record.new.out (omega (arith, c.write_record.new.out.within))

pub write-next-requires : goal.write-next-requires
write-next-requires t c =
    let q = c.requires in
    let p = c.loop-j.invariant _ _ q.at q.pieces in
    let n = ahead p.passed (omega (arith, c.loop-j-test.true, count_is c.kind_of-kind.ensures q.at c.arity-j-end.ensures.value)) in
    let z = operand_given q p n (c.args.variable + c.from.result) (head_written q.at c.write_record.ensures) (other_kind _ c.if-eq.ensures c.kind_of-kind.ensures q.at)
    (level_is c.kind_of-kind.ensures q.at c.args.variable c.loop-j.j (c.from.ensures ∙ c.binders.ensures.value)) (omega (arith, c.from.ensures, c.binders.ensures.small)) in
    (omega (arith, c.decreases, p.passed.next_is, there _ _ _ z.at), z)

pub loop-j-preserved : goal.loop-j-preserved
loop-j-preserved t c u v a e =
    let p = c.loop-j.invariant u v a e in
    let n = ahead p.passed (omega (arith, c.loop-j-test.true, count_is c.kind_of-kind.ensures a c.arity-j-end.ensures.value)) in
    copied_more p n _ (level_is c.kind_of-kind.ensures a c.args.variable c.loop-j.j (c.from.ensures ∙ c.binders.ensures.value))
    (c.write-next.ensures n.operand v (operand_here p.passed n a) e)

pub returns : goal.returns
returns t c u v a e =
    copied_all (c.loop-j.invariant u v a e) (other_kind _ c.if-eq.ensures c.kind_of-kind.ensures a)
    (omega (arith, c.loop-j-test.false, count_is c.kind_of-kind.ensures a c.arity-j-end.ensures.value)) (head_written a c.write_record.ensures)
