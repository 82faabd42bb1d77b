-- An operand's place, depth and answer come from its position in the term.
use Rattle.std.proofs.Common.{◌≡◌, ℕ, ◌+◌, refl, arith, IsTrue}
use Rattle.calculus.specs.Terms.{Term, is_value}
use Rattle.rules.specs.Groups.{properties_of}
use Rattle.rules.specs.Types.{type_at}
use Rattle.rules.specs.Script.{size}
use Rattle.records.specs.Place.{At}
use Rattle.records.specs.Operands.{first_operand, second_operand}
use Rattle.records.proofs.Weights.{weights, stands_weight}
use Rattle.records.proofs.Stands.{there}
use Rattle.redex.specs.Found.{finds_value}
use Rattle.redex.proofs.Forms.{Second, alone_value, function_value, pair_value, injection_value, one_turn, lone_turn}
use Rattle.redex.proofs.Searches.{position_shallow, lift, fired}
use Rattle.redex.proofs.Stages.{kind_read, alone_read, lone_read, Opened, opened, is_kind, injects, of_one, first_at}
use Rattle.redex.proofs.Stages.{first_of, FirstValue, first_value, second_of, second_at, both_turn, value_found}
use Rattle.redex.proofs.+find.Goals as goal
use Rattle.redex.proofs.+find.Goals.{In_default, In-Value, In_default-kind, In-Value-second, In_default-kind-2}

-- What the search knows of a node that stands there, arm by arm: its first operand comes next; that one is a value; the
-- second comes next, and is a value too.
module _ (t : ℕ) {e : Term} where
  evaluating : (c : In_default t) → At c.args.script.now c.args.at e → Opened c.args.script.now c.args.at c.kind_of-kind.result e
  evaluating c a = opened c.kind_of-kind.ensures c.in_default.not-Variable c.in_default.not-Unit c.in_default.not-Literal c.in_default.not-Function c.in_default.not-Recursion a

  first_is : (c : In-Value t) → Opened c.args.script.now c.args.at c.kind_of-kind.result e
      → FirstValue c.args.script.now c.args.at c.kind_of-kind.result e c.in-Value.next
  first_is c o = first_value o (c.find-first.ensures (first_operand e) (first_at o)) c.in-Value.is

  twofold : (c : In_default-kind t) → FirstValue c.args.script.now c.args.at c.kind_of-kind.result e c.in-Value.next → Second e
  twofold c f =
      let d = c.in_default-kind in
      second_of f d.not-FirstInjection d.not-SecondInjection d.not-FirstProjection d.not-SecondProjection d.not-Case d.not-Protect

  second_is : (c : In-Value-second t) → FirstValue c.args.script.now c.args.at c.kind_of-kind.result e c.in-Value.next → Second e
      → IsTrue (is_value (second_operand e)) × (c.in-Value-second.end ≡ c.in-Value.next + size (second_operand e))
  second_is c f x = value_found (c.find-second.ensures (second_operand e) (second_at f x)) c.in-Value-second.is

pub turn-requires : goal.turn-requires
turn-requires t c =
    let q = c.requires in
    record { tree = q.tree; stands = q.at; turn = lone_turn q.tree (lone_read c.kind_of-kind.ensures q.at c.in-Variable.is) }

pub returns-in-Variable : goal.returns-in-Variable
returns-in-Variable t c e a =
    let h = lone_turn e (lone_read c.kind_of-kind.ensures a c.in-Variable.is) in
    fired (properties_of c.args.groups.now) (type_at c.args.types.now) _ _ e h (c.turn.ensures e a h)

pub returns-in-Unit : goal.returns-in-Unit
returns-in-Unit t c e a =
    let v = alone_value e (alone_read c.kind_of-kind.ensures a c.in-Unit.is) in
    let n : c.args.at + 1 ≡ c.args.at + size e = omega (arith, v.1) in
    finds_value v.0 n

pub returns-in-Function : goal.returns-in-Function
returns-in-Function t c e a =
    finds_value (function_value e (kind_read c.kind_of-kind.ensures a c.in-Function.is)) (c.end_of.ensures e a)

pub weight-requires : goal.weight-requires
weight-requires t c = there _ _ _ c.requires.at

pub find-first-requires : goal.find-first-requires
find-first-requires t c =
    let q = c.requires in
    let o = evaluating t (goal.at.find-first-requires t c).In_default q.at in
    let h = position_shallow c.args.depth (first_of o c.weight.ensures.value) q.shallow in (
      omega (arith, c.decreases, h, c.weight.ensures.value, stands_weight q.at, (weights q.tree).0),
      record { tree = first_operand q.tree; at = first_at o; shallow = h },
    )

pub returns-in_default-first : goal.returns-in_default-first
returns-in_default-first t c e a =
    let o = evaluating t (goal.at.returns-in_default-first t c).In_default a in
    lift (properties_of c.args.groups.now) (type_at c.args.types.now) c.args.at c.args.depth e (c.args.at + 1) refl (first_of o c.weight.ensures.value)
    (c.find-first.ensures (first_operand e) (first_at o)) c.in_default-first.not-Value

pub returns-in-FirstInjection : goal.returns-in-FirstInjection
returns-in-FirstInjection t c e a =
    let r = goal.at.returns-in-FirstInjection t c in
    let f = first_is t r.In-Value (evaluating t r.In_default a) in
    let v = injection_value e (injects f.own c.in-FirstInjection.is) f.value in
    let n : c.in-Value.next ≡ c.args.at + size e = omega (arith, f.ends, v.1) in
    finds_value v.0 n

pub turn-requires-in-Protect : goal.turn-requires-in-Protect
turn-requires-in-Protect t c =
    let q = c.requires in
    let r = goal.at.turn-requires-in-Protect t c in
    let f = first_is t r.In-Value (evaluating t r.In_default q.at) in
    record { tree = q.tree; stands = q.at; turn = one_turn q.tree (of_one f.own c.in-Protect.is) f.value }

pub returns-in-Protect : goal.returns-in-Protect
returns-in-Protect t c e a =
    let r = goal.at.returns-in-Protect t c in
    let f = first_is t r.In-Value (evaluating t r.In_default a) in
    let h = one_turn e (of_one f.own c.in-Protect.is) f.value in
    fired (properties_of c.args.groups.now) (type_at c.args.types.now) _ _ e h (c.turn-in-Protect.ensures e a h)

pub find-second-requires : goal.find-second-requires
find-second-requires t c =
    let q = c.requires in
    let r = goal.at.find-second-requires t c in
    let f = first_is t r.In-Value (evaluating t r.In_default q.at) in
    let x = twofold t r.In_default-kind f in
    let h = position_shallow c.args.depth x.position q.shallow in
    (omega arith, record { tree = second_operand q.tree; at = second_at f x; shallow = h })

pub returns-in_default-second : goal.returns-in_default-second
returns-in_default-second t c e a =
    let r = goal.at.returns-in_default-second t c in
    let f = first_is t r.In-Value (evaluating t r.In_default a) in
    let x = twofold t r.In_default-kind f in
    lift (properties_of c.args.groups.now) (type_at c.args.types.now) c.args.at c.args.depth e c.in-Value.next (omega (arith, f.ends)) x.position
    (c.find-second.ensures (second_operand e) (second_at f x)) c.in_default-second.not-Value

pub returns-in-Pair : goal.returns-in-Pair
returns-in-Pair t c e a =
    let r = goal.at.returns-in-Pair t c in
    let f = first_is t r.In-Value (evaluating t r.In_default a) in
    let x = twofold t r.In_default-kind f in
    let v = second_is t r.In-Value-second f x in
    let n : c.in-Value-second.end ≡ c.args.at + size e = omega (arith, v.1, f.ends, x.sizes) in
    finds_value (pair_value e (is_kind f.own c.in-Pair.is) f.value v.0) n

pub turn-requires-in_default-kind-2 : goal.turn-requires-in_default-kind-2
turn-requires-in_default-kind-2 t c =
    let q = c.requires in
    let r = goal.at.turn-requires-in_default-kind-2 t c in
    let f = first_is t r.In-Value (evaluating t r.In_default q.at) in
    let x = twofold t r.In_default-kind f in
    record { tree = q.tree; stands = q.at; turn = both_turn f x c.in_default-kind-2.not-Pair (second_is t r.In-Value-second f x).0 }

pub returns-in_default-kind-2 : goal.returns-in_default-kind-2
returns-in_default-kind-2 t c e a =
    let r = goal.at.returns-in_default-kind-2 t c in
    let f = first_is t r.In-Value (evaluating t r.In_default a) in
    let x = twofold t r.In_default-kind f in
    let h = both_turn f x c.in_default-kind-2.not-Pair (second_is t r.In-Value-second f x).0 in
    fired (properties_of c.args.groups.now) (type_at c.args.types.now) _ _ e h (c.turn-in_default-kind-2.ensures e a h)
