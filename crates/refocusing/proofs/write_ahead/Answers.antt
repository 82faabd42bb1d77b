use Rattle.std.proofs.Common.{◌≡◌, refl, sym, ap, ◌∙◌, ◌++◌, ℕ, ◌+◌, ◌-◌, ◌*◌, ◌≤◌, arith, length, take, drop}
use Rattle.std.proofs.Common.{length-drop, length-take-le, drop-drop}
use Rattle.rules.specs.Answer.{Bytes}
use Rattle.rules.specs.Limits.{script_width}
use Rattle.rules.specs.Groups.{properties_of}
use Rattle.rules.specs.Types.{type_at}
use Rattle.rules.specs.Script.{encode}
use Rattle.memory.specs.Splice.{splice}
use Rattle.substitution.proofs.Nodes.{depth_size}
use Rattle.substitution.proofs.Reading.{term_length}
use Rattle.refocusing.specs.Contracted.{comes_next, exceeds_room}
use Rattle.refocusing.proofs.Redexes.{part, ready, around_small, few, few_beside, too_big_is, makes_room}
use Rattle.refocusing.proofs.write_ahead.Goals as goal

-- the bytes from one place to another, and what is put there
part_length : (from to : ℕ) (w : Bytes) → from ≤ to → to ≤ length w → length (take (to - from) (drop from w)) ≡ to - from
part_length from to w l f = length-take-le (to - from) (drop from w) (omega (arith, length-drop from w))

part_put : (from to : ℕ) (w z x : Bytes) → z ≡ x → to ≡ from + length x → take from w ++ (z ++ drop (to - from) (drop from w)) ≡ splice from x w
part_put from to w z x h l =
    let n : from + (to - from) ≡ from + length x = omega (arith, l) in
    ap (λ (z : Bytes). take from w ++ (z ++ drop (to - from) (drop from w))) h
    ∙ ap (λ (z : Bytes). take from w ++ (x ++ z)) (drop-drop (to - from) from w ∙ ap (λ (n : ℕ). drop n w) n)

pub measure-size-requires : goal.measure-size-requires
measure-size-requires c = ready c.requires.foremost.2.contracts

pub overflow_add-at : goal.overflow_add-at
overflow_add-at c =
    let q = c.requires.foremost.2 in
    let m = c.measure-size.ensures (ready q.contracts) (properties_of c.args.groups.now) (type_at c.args.types.now) in
    omega (arith, few q m, few_beside q c.record_count.ensures)

pub overflow_add-at-2 : goal.overflow_add-at-2
overflow_add-at-2 c =
    let q = c.requires.foremost.2 in
    let m = c.measure-size.ensures (ready q.contracts) (properties_of c.args.groups.now) (type_at c.args.types.now) in
    omega (arith, few q m, few_beside q c.record_count.ensures)

pub overflow_add-around : goal.overflow_add-around
overflow_add-around c =
    let q = c.requires.foremost.2 in
    let m = c.measure-size.ensures (ready q.contracts) (properties_of c.args.groups.now) (type_at c.args.types.now) in
    omega (arith, few q m, m.records, m.deep, depth_size (part q.contracts), around_small q)

pub returns-then-exceeds : goal.returns-then-exceeds
returns-then-exceeds c E e q =
    let m = c.measure-size.ensures (ready q.contracts) (properties_of c.args.groups.now) (type_at c.args.types.now) in
    exceeds_room (sym (c.exceeds.ensures ∙ too_big_is q m c.record_count.ensures) ∙ c.if-exceeds.true) refl

pub write_over-requires : goal.write_over-requires
write_over-requires c =
    let q = c.requires.foremost.2 in
    let m = c.measure-size.ensures (ready q.contracts) (properties_of c.args.groups.now) (type_at c.args.types.now) in
    let r = makes_room q (sym (c.exceeds.ensures ∙ too_big_is q m c.record_count.ensures) ∙ c.if-exceeds.false) in
    let i = q.gap.inside_b in
    record {
      context = c.requires.foremost.0;
      redex = c.requires.foremost.1;
      contracts = q.contracts;
      fills = part_length (script_width * (c.args.point.right - c.measure-size.result.records)) (script_width * c.args.point.right) c.args.back.now (omega arith) i
          ∙ omega (arith, m.records, r);
    }

pub returns : goal.returns
returns c E e q =
    let m = c.measure-size.ensures (ready q.contracts) (properties_of c.args.groups.now) (type_at c.args.types.now) in
    let small = sym (c.exceeds.ensures ∙ too_big_is q m c.record_count.ensures) ∙ c.if-exceeds.false in
    let r = makes_room q small in
    let b = c.args.back.now in
    let start = c.args.point.right - c.measure-size.result.records in
    let l = part_length (script_width * start) (script_width * c.args.point.right) b (omega arith) q.gap.inside_b in
    comes_next small refl (omega (arith, m.records, r)) refl
    (part_put (script_width * start) (script_width * c.args.point.right) b c.write_over.new.room (encode (part q.contracts))
    (c.write_over.ensures (record { context = E; redex = e; contracts = q.contracts; fills = l ∙ omega (arith, m.records, r) })) (omega (arith, m.records, r, term_length (part q.contracts))))
