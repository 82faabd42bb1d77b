-- The two records are the injection's and its unit's.
use Rattle.std.proofs.Common.{◌≡◌, refl, sym, ap, ◌∙◌, Bool, cond, ◌++◌, ℕ, ◌+◌, subst as transport}
use Rattle.calculus.specs.Security.{Property}
use Rattle.rules.specs.Answer.{Bytes}
use Rattle.rules.specs.Types.{type_at}
use Rattle.rules.specs.Script.{object_record, encode}
use Rattle.lattice.specs.Said.{said_property}
use Rattle.records.specs.Kinds as kinds
use Rattle.types.specs.Held.{type_property}
use Rattle.memory.specs.Written.{Room, Written}
use Rattle.memory.specs.declared.Writer.{Writer}
use Rattle.memory.proofs.Placed.{then, room_first, room_next}
use Rattle.contraction.specs.Plans.{flag, FlagRoom}
use Rattle.contraction.proofs.Plans.{side_groups, flag_bytes}
use Rattle.contraction.proofs.write_flag.Goals as goal

module _ {t : Bytes} {i : ℕ} {k : Property} {is_less : Bool} {out : Writer} (q : FlagRoom t i k is_less out) where
  pieces : {kind n m : ℕ} {u : Property} {own unit : Bytes} → own ≡ object_record kind k i → kind ≡ cond is_less kinds.first_injection kinds.second_injection
      → unit ≡ object_record kinds.unit u 0 → u ≡ type_property t n → n ≡ cond is_less (m + 1) (m + 2) → m ≡ i
      → own ++ unit ≡ encode (flag (type_at t) i k is_less)
  pieces o kind v u n m =
      rw (o, v, kind, u ∙ side_groups q.sides is_less (n ∙ ap (λ j. cond is_less (j + 1) (j + 2)) m)) (flag_bytes (type_at t) i k is_less)

  both_room : (own unit : Bytes) → own ++ unit ≡ encode (flag (type_at t) i k is_less) → Room (own ++ unit) out
  both_room own unit h = transport (λ (b : Bytes). Room b out) (sym h) q.room

pub put-requires : goal.put-requires
put-requires c =
    let unit = object_record kinds.unit (said_property c.property_at-side.result) 0 in
    let h = pieces c.requires c.record.ensures c.flag_kind.ensures refl c.property_at-side.ensures c.flag_side.ensures c.from.ensures in
    room_first c.record.result unit c.args.out.now (both_room c.requires c.record.result unit h)

pub put-requires-2 : goal.put-requires-2
put-requires-2 c =
    let h = pieces c.requires c.record.ensures c.flag_kind.ensures c.record-2.ensures c.property_at-side.ensures c.flag_side.ensures c.from.ensures in
    room_next c.record-2.result c.put.ensures (both_room c.requires c.record.result c.record-2.result h)

pub returns : goal.returns
returns c =
    let h = pieces c.requires c.record.ensures c.flag_kind.ensures c.record-2.ensures c.property_at-side.ensures c.flag_side.ensures c.from.ensures in
    transport (λ (b : Bytes). Written b c.args.out.now c.put-2.new.self) h (then c.put.ensures c.put-2.ensures)
