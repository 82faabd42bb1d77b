-- The node's shape from its fields, then the callee's answer for that shape.
use Rattle.std.proofs.Common.{◌≡◌, ℕ, refl, sym, ap, ◌∙◌, arith}
use Rattle.calculus.specs.Security.{Security}
use Rattle.calculus.specs.Types.{Ty}
use Rattle.calculus.specs.Terms.{Term}
use Rattle.rules.specs.Answer.{Bytes}
use Rattle.rules.specs.Groups.{properties_of}
use Rattle.rules.specs.Script.{kind, r, number}
use Rattle.inference.specs.Operands.{operand_count}
use Rattle.inference.specs.Memory.{Sized, Beside}
use Rattle.inference.specs.Stages.{between, second_context, AfterFirst, Aside}
use Rattle.inference.proofs.Regions.{stayed}
use Rattle.inference.proofs.Shapes.{labelled, reckons, arity_of, case_left, of_fields, read_by}
use Rattle.inference.proofs.Rules.{enters_as, enters_for}
use Rattle.inference.proofs.between.Goals as goal

-- the first type stays in front
front_aside : {e : Term} {s : Ty} {b : ℕ} {w : Bytes} {n : ℕ} → operand_count e ≡ 2 → Sized w n s → Aside e s b w n
front_aside o h = record { front = λ z. h; slot = λ z. absurd (omega arith) }

-- its sides are in the slot
slot_aside : {e : Term} {s : Ty} {b : ℕ} {w : Bytes} {n : ℕ} → operand_count e ≡ 3 → Beside s b w → Aside e s b w n
slot_aside o h = record { front = λ z. absurd (omega arith); slot = λ z. h }

module _ {s : Bytes} {b : ℕ} {w : Bytes} {n : ℕ} (v : AfterFirst s b w n) where
  -- the questions and the context of a node of a shape
  module _ {e : Term} (q : v.tree ≡ e) where
    asked : (S : Security) (place : ℕ) → between S place v.tree v.type ≡ between S place e v.type
    asked S place = ap (λ e. between S place e v.type) q

    context : second_context v.ctx v.tree v.type ≡ second_context v.ctx e v.type
    context = ap (λ e. second_context v.ctx e v.type) q

  -- its form, with the reader as it was read
  shape : {k reader : ℕ} → k ≡ kind s 0 → reader ≡ r s 0 → v.tree ≡ labelled k (read_by s reader) (number s 0) v.tree
  shape {k} f e = of_fields s v.tree k v.is f (ap (read_by s) e) refl

pub returns-in-Pair : goal.returns-in-Pair
unfolding between second_context operand_count
returns-in-Pair c =
    let e = λ (v : AfterFirst c.args.part.now c.args.binders c.args.work.now c.args.count). shape v c.in-Pair.ensures refl in
    record {
      enters = λ v. enters_as (sym (asked v (e v) (properties_of c.args.groups.now) c.args.place)) (context v (e v)) (stayed v.binders v.holds);
      kept = λ v z. front_aside (ap operand_count (e v)) v.sized;
    }

pub returns-in-Application : goal.returns-in-Application
unfolding between second_context operand_count
returns-in-Application c =
    let e = λ (v : AfterFirst c.args.part.now c.args.binders c.args.work.now c.args.count). shape v c.in-Application.ensures c.reader.ensures in
    record {
      enters = λ v.
          enters_as (c.may_read.ensures v.type v.sized.held ∙ sym (asked v (e v) (properties_of c.args.groups.now) c.args.place)) (context v (e v))
          (stayed v.binders v.holds);
      kept = λ v z. front_aside (ap operand_count (e v)) v.sized;
    }

pub returns-in-Sum : goal.returns-in-Sum
unfolding between second_context operand_count
returns-in-Sum c =
    let e = λ (v : AfterFirst c.args.part.now c.args.binders c.args.work.now c.args.count). shape v c.kind_of.ensures c.reader-in-Sum.ensures ∙ (reckons _ _ v.tree c.in-Sum.is).1 in
    record {
      enters = λ v.
          enters_as (c.may_read-in-Sum.ensures v.type v.sized.held ∙ sym (asked v (e v) (properties_of c.args.groups.now) c.args.place))
          (context v (e v)) (stayed v.binders v.holds);
      kept = λ v z. front_aside (ap operand_count (e v)) v.sized;
    }

pub returns-in_default : goal.returns-in_default
unfolding between second_context operand_count
returns-in_default c =
    let f = c.kind_of.ensures in
    let e = λ (v : AfterFirst c.args.part.now c.args.binders c.args.work.now c.args.count).
    let a = arity_of v.tree v.is f in
    let z = case_left _ (omega (arith, a, v.some)) c.in_default.not-Pair c.in_default.not-Application c.in_default.not-Sum c.in_default.not-Less in
    shape v (sym z ∙ f) c.reader-in_default.ensures in
    let q = λ (v : AfterFirst c.args.part.now c.args.binders c.args.work.now c.args.count). asked v (e v) (properties_of c.args.groups.now) c.args.place in
    record {
      enters = λ v. enters_for (q v) (context v (e v)) (c.test.ensures.enters v.ctx v.type v.sized v.binders v.holds);
      kept = λ v y. slot_aside (ap operand_count (e v)) (c.test.ensures.kept v.ctx v.type v.sized v.binders v.holds (sym (q v) ∙ y));
    }
