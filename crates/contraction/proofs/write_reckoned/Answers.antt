-- The two literals stand after the node, and the result has its groups from theirs and the node's.
use Rattle.std.proofs.Common.{◌≡◌, sym, ap, ap₂, ◌∙◌, ℕ, ◌+◌, ◌<◌, arith, min, nat_lt, subst as transport}
use Rattle.calculus.specs.Security.{Property}
use Rattle.calculus.specs.Terms.{plus, less}
use Rattle.calculus.specs.Numbers.{of_both, number_limit, reckon_result}
use Rattle.rules.specs.Answer.{Bytes}
use Rattle.rules.specs.Groups.{properties_of}
use Rattle.rules.specs.Types.{type_at}
use Rattle.rules.specs.Script.{records, r, number, object_record, encode}
use Rattle.records.specs.Kinds as kinds
use Rattle.records.specs.Labels.{property_at}
use Rattle.records.proofs.Stands.{there, here}
use Rattle.redex.proofs.Places.{groups_at, reader_at}
use Rattle.memory.specs.Written.{Room, Written}
use Rattle.memory.specs.declared.Writer.{Writer}
use Rattle.contraction.specs.Plans.{Literals, Sides, reckon_contractum, flag, ReckonedRoom}
use Rattle.contraction.proofs.Plans.{is_plus, is_less, left_at, right_at, left_number, right_number, flag_number}
use Rattle.contraction.proofs.Plans.{renamed}
use Rattle.contraction.proofs.Rooms.{room_for}
use Rattle.contraction.proofs.write_reckoned.Goals as goal

module _ {g t s : Bytes} {at : ℕ} {out : Writer} (q : ReckonedRoom g t s at out) where
  abbrev own : Property
  own = of_both (properties_of g) q.literals.label q.literals.left.own q.literals.right.own

  own_is : {w : ℕ} {k l p : Property} → w ≡ r s at → k ≡ property_at s (at + 1) → l ≡ property_at s (at + 2) → p ≡ of_both (properties_of g) w k l → p ≡ own
  own_is a b c d =
      let S = properties_of g in
      d ∙ ap₂ (λ k l. of_both S _ k l) (b ∙ groups_at (left_at q.literals)) (c ∙ groups_at (right_at q.literals))
      ∙ ap (λ w. of_both S w q.literals.left.own q.literals.right.own) (a ∙ reader_at q.literals.stands)

  total_bytes : q.literals.operation ≡ plus → {p : Property} {m n k : ℕ} {b : Bytes} → b ≡ object_record kinds.literal p k → k ≡ min (m + n) number_limit
      → p ≡ own → m ≡ number s (at + 1) → n ≡ number s (at + 2) → encode (reckon_contractum g t q.literals) ≡ b
  unfolding reckon_result encode
  total_bytes h b k p m n = rw (h, b, k, p, m, n, left_number q.literals, right_number q.literals)

  flag_is : {i : ℕ} → q.literals.operation ≡ less i → {p : Property} {m n k : ℕ} → k ≡ number s at → p ≡ own → m ≡ number s (at + 1) → n ≡ number s (at + 2)
      → reckon_contractum g t q.literals ≡ flag (type_at t) k p (nat_lt m n)
  unfolding reckon_result
  flag_is h k p m n = rw (k, p, m, n, flag_number q.literals h, left_number q.literals, right_number q.literals, h)

-- the records of the three are there
module _ {s : Bytes} {at : ℕ} (q : Literals s at) where
  node_there : at < records s
  node_there = there s at _ q.stands

  left_there : at + 1 < records s
  left_there = there s (at + 1) _ (left_at q)

  right_there : at + 2 < records s
  right_there = there s (at + 2) _ (right_at q)

pub overflow_add-first : goal.overflow_add-first
overflow_add-first c = omega (arith, left_there c.requires.literals)

pub overflow_add-second : goal.overflow_add-second
overflow_add-second c = omega (arith, right_there c.requires.literals)

pub reader-reader-requires : goal.reader-reader-requires
reader-reader-requires c = node_there c.requires.literals

pub property-left-requires : goal.property-left-requires
property-left-requires c = left_there c.requires.literals

pub property-right-requires : goal.property-right-requires
property-right-requires c = right_there c.requires.literals

pub number-m-requires : goal.number-m-requires
number-m-requires c = left_there c.requires.literals

pub number-n-requires : goal.number-n-requires
number-n-requires c = right_there c.requires.literals

pub kind_of-requires : goal.kind_of-requires
kind_of-requires c = here c.requires.literals.stands

pub put-requires : goal.put-requires
put-requires c =
    let q = c.requires in
    let own = own_is q c.reader-reader.ensures c.property-left.ensures c.property-right.ensures c.reckoned-property.ensures in
    let plus = is_plus q.literals.stands c.kind_of.ensures c.in-Sum.is in
    let h = total_bytes q plus c.record.ensures c.saturating_add.ensures own c.number-m.ensures c.number-n.ensures in
    transport (λ (b : Bytes). Room b c.args.out.now) h q.room

pub number-requires : goal.number-requires
number-requires c = node_there c.requires.literals

pub write_flag-requires : goal.write_flag-requires
write_flag-requires c =
    let q = c.requires in
    let own = own_is q c.reader-reader.ensures c.property-left.ensures c.property-right.ensures c.reckoned-property.ensures in
    let less = is_less q.literals.stands c.kind_of.ensures c.in_default.not-Sum in
    let h = flag_is q less.1 c.number.ensures own c.number-m.ensures c.number-n.ensures in
    record {
      sides = transport (λ (n : ℕ). Sides c.args.types.now n) (sym (c.number.ensures ∙ flag_number q.literals less.1)) (q.sides less.0 less.1);
      room = room_for c.args.out.now h q.room;
    }

pub returns-in-Sum : goal.returns-in-Sum
returns-in-Sum c q =
    let own = own_is q c.reader-reader.ensures c.property-left.ensures c.property-right.ensures c.reckoned-property.ensures in
    let plus = is_plus q.literals.stands c.kind_of.ensures c.in-Sum.is in
    let h = total_bytes q plus c.record.ensures c.saturating_add.ensures own c.number-m.ensures c.number-n.ensures in
    transport (λ (b : Bytes). Written b c.args.out.now c.put.new.self) (sym h) c.put.ensures

pub returns-in_default : goal.returns-in_default
returns-in_default c q =
    let own = own_is q c.reader-reader.ensures c.property-left.ensures c.property-right.ensures c.reckoned-property.ensures in
    let less = is_less q.literals.stands c.kind_of.ensures c.in_default.not-Sum in
    renamed (flag_is q less.1 c.number.ensures own c.number-m.ensures c.number-n.ensures) c.write_flag.ensures
