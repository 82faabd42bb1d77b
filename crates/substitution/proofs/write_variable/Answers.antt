use Rattle.std.proofs.Common.{◌≡◌, ◌++◌, ℕ, sym, ap, ◌∙◌, arith, subst as transport, eqb-true}
use borrow.Author.Tests.{eqb-false}
use Rattle.rules.specs.Answer.{Bytes}
use Rattle.records.proofs.Stands.{there}
use Rattle.records.proofs.Made.{own_record}
use Rattle.memory.specs.Written.{Room, Written}
use Rattle.memory.proofs.Placed.{then, room_first, room_next}
use Rattle.memory.specs.declared.Writer.{Writer}
use Rattle.rules.specs.Script.{encode, kind, number}
use Rattle.substitution.specs.Substituted.{record_at, Substitution}
use Rattle.substitution.proofs.Writing.{variable_here, variable_else, written_here, written_else}
use Rattle.substitution.proofs.write_variable.Goals as goal
use Rattle.substitution.proofs.write_variable.Goals.{then-is_variable, else-is_variable}

-- room for the value, in its pieces, or for the variable's own record
module _ {s front mid back : Bytes} {i n : ℕ} {out : Writer} (q : Substitution s i front mid back n out) (k : kind s i ≡ 0) where
  room_here : number s i ≡ n → Room (front ++ (mid ++ back)) out
  room_here h = transport (λ (b : Bytes). Room b out) (ap encode (variable_here q.at k n q.value h).0 ∙ sym q.pieces) q.room

  room_else : (number s i ≡ n → ⊥) → Room (record_at s i) out
  room_else h =
      let z = variable_else q.at k n q.value h in
      transport (λ (b : Bytes). Room b out) (ap encode z.0 ∙ z.1 ∙ sym (own_record q.at)) q.room

pub is_variable-requires : goal.is_variable-requires
is_variable-requires c = there _ _ _ c.requires.given.at

pub put-requires : goal.put-requires
put-requires c =
    room_first c.args.front.now _ c.args.out.now
    (room_here c.requires.given c.requires.variable (eqb-true _ _ (sym c.is_variable.ensures ∙ c.if-is_variable.true)))

pub put-requires-then-is_variable : goal.put-requires-then-is_variable
put-requires-then-is_variable c =
    room_first c.args.mid.now c.args.back.now c.put.new.self
    (room_next _ c.put.ensures (room_here c.requires.given c.requires.variable (eqb-true _ _ (sym c.is_variable.ensures ∙ c.if-is_variable.true))))

pub put-requires-then-is_variable-2 : goal.put-requires-then-is_variable-2
put-requires-then-is_variable-2 c =
    room_next _ c.put-then-is_variable.ensures
    (room_next _ c.put.ensures (room_here c.requires.given c.requires.variable (eqb-true _ _ (sym c.is_variable.ensures ∙ c.if-is_variable.true))))

pub write_record-requires : goal.write_record-requires
write_record-requires c =
    record {
      inside = there _ _ _ c.requires.given.at;
      room = room_else c.requires.given c.requires.variable (eqb-false _ _ (sym c.is_variable.ensures ∙ c.if-is_variable.false));
    }

pub overflow_add-result : goal.overflow_add-result
overflow_add-result c = omega (arith, there _ _ _ c.requires.given.at)

pub returns : goal.returns
returns c u v a e =
    elim c.if-is_variable.branch [
      | then-is_variable w ↦ rw w.out-is
          (written_here a c.requires.variable _ v (eqb-true _ _ (sym c.is_variable.ensures ∙ w.if-is_variable.true)) e
          (then w.put.ensures (then w.put-then-is_variable.ensures w.put-then-is_variable-2.ensures)))
      | else-is_variable w ↦ rw w.out-is
          (written_else a c.requires.variable _ v (eqb-false _ _ (sym c.is_variable.ensures ∙ w.if-is_variable.false))
          (transport (λ (b : Bytes). Written b c.args.out.now w.write_record.new.out) (own_record a) w.write_record.ensures))
    ]
