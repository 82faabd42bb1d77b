-- The node's shape from its fields, then the callee's answer for that shape.
use Rattle.std.proofs.Common.{◌≡◌, ◌⊎◌, ℕ, ◌*◌, ◌<◌, drop, refl, sym, ap, ◌∙◌, subst}
use Rattle.calculus.specs.Security.{Property, Security}
use Rattle.calculus.specs.Terms.{Side, Term, inj}
use Rattle.calculus.specs.Types.{Ty}
use Rattle.rules.specs.Answer.{Bytes}
use Rattle.rules.specs.Limits.{type_width}
use Rattle.rules.specs.Types.{type_count}
use Rattle.rules.specs.Script.{kind, number}
use Rattle.types.specs.Held.{Held, Starts}
use Rattle.records.specs.Kinds as kinds
use Rattle.records.specs.Numbers.{kind_number}
use Rattle.records.specs.declared.Kind.{Kind}
use Rattle.records.specs.declared.Kind.TheVariants.{FirstInjection, SecondInjection}
use Rattle.records.specs.Labels.{property_at}
use Rattle.records.specs.Operands.{first_operand}
use Rattle.inference.specs.Memory.{Sized, SlotSided}
use Rattle.inference.specs.Sides.{named_side}
use Rattle.inference.specs.Stages.{kept_front, after_one, OneOperand}
use Rattle.inference.proofs.Shapes.{long, arity_of, recursion_left, labelled, of_fields, injected, projected, read_by}
use Rattle.inference.proofs.Shapes.{left_by}
use Rattle.inference.proofs.Regions.{slot_of}
use Rattle.inference.proofs.Rules.{gives_of}
use Rattle.inference.proofs.Names.{within, named_slot, named, named_sided, inj_index, function_index, recursion_index}
use Rattle.inference.proofs.after_one.Goals as goal
use Rattle.inference.proofs.after_one.Goals.{In_default}

module _ {types s w : Bytes} {n : ℕ} (v : OneOperand types s w n) where
  -- the rule for a node of a shape
  rule : (S : Security) (tab : ℕ → Ty) (place : ℕ) {e : Term} → v.tree ≡ e → after_one S tab place v.tree v.type ≡ after_one S tab place e v.type
  rule S tab place q = ap (λ e. after_one S tab place e v.type) q

  -- its form, with the groups as they were read
  shape : {k : ℕ} {p : Property} → k ≡ kind s 0 → p ≡ property_at s 0 → v.tree ≡ labelled k p (number s 0) v.tree
  shape {k} f e = of_fields s v.tree k v.is f e refl

  function_named : kinds.function ≡ kind s 0 → number s 0 < type_count types
  function_named = function_index types s v.binders v.tree v.is v.formed

  recursion_named : kinds.recursion ≡ kind s 0 → number s 0 < type_count types
  recursion_named k = (recursion_index types s v.binders v.tree v.is v.formed k).0

  -- an injection: its operand's type is behind the room of a record
  module _ {k : Kind} {d : Side} (f : kind_number k ≡ kind s 0) (z : (k ≡ FirstInjection) ⊎ (k ≡ SecondInjection)) (y : d ≡ named_side k) {p : Property} (e : p ≡ property_at s 0) where
    injection : v.tree ≡ inj d p (number s 0) (first_operand v.tree)
    injection = shape f e ∙ injected p _ v.tree z y

    behind : Held (drop type_width w) v.type
    unfolding kept_front
    behind = subst (λ j. Held (drop j w) v.type) (ap kept_front injection) v.sized.held

    injection_named : number s 0 < type_count types
    injection_named = (inj_index types v.binders _ v.tree v.formed injection).0

    sum_named : {l : Bytes} → l ≡ drop (type_width * number s 0) types → SlotSided l
    sum_named h = let m = inj_index types v.binders _ v.tree v.formed injection in named_sided v.table m.0 m.1 refl h

  -- no injection: the type is in front
  module _ {e : Term} (q : v.tree ≡ e) (z : kept_front e ≡ 0) where
    in_front : Sized w n v.type
    in_front = subst (λ j. Sized (drop j w) n v.type) (ap kept_front q ∙ z) v.sized

    starts : Starts w
    starts = record { type = v.type; held = in_front.held }

-- what is left is a recursion
is_recursion : (c : In_default) → kinds.recursion ≡ kind c.args.part.now 0
is_recursion c =
    let v = c.requires in
    let o = c.in_default in
    sym (recursion_left _ (arity_of v.tree v.is c.kind_of-kind.ensures ∙ v.one) o.not-Function o.not-FirstInjection o.not-SecondInjection o.not-FirstProjection o.not-SecondProjection o.not-Protect) ∙ c.kind_of-kind.ensures

pub named-requires : goal.named-requires
named-requires c =
    let v = c.requires in
    record { node = long v.tree v.is; in_table = within _ _ (function_named v c.in-Function.ensures) }

pub function-requires : goal.function-requires
unfolding kept_front
function-requires c =
    let v = c.requires in
    let f = c.in-Function.ensures in
    record {
      parameter = named v.table (function_named v f) c.named.ensures;
      body = record { type = v.type; sized = in_front v (shape v f refl) refl };
      room = v.room;
    }

pub returns-in-Function : goal.returns-in-Function
unfolding after_one kept_front
returns-in-Function c v =
    let f = c.in-Function.ensures in
    let e = shape v f c.property.ensures in
    gives_of (rule v _ _ _ e) (c.function.ensures _ v.type (named_slot v.table (function_named v f) c.named.ensures) (in_front v e refl))

pub named-t-requires : goal.named-t-requires
named-t-requires c =
    let v = c.requires in
    record { node = long v.tree v.is; in_table = within _ _ (injection_named v c.kind_of-kind.ensures c.in-FirstInjection.is refl refl) }

pub inject-requires : goal.inject-requires
inject-requires c =
    let v = c.requires in
    let f = c.kind_of-kind.ensures in
    let z = c.in-FirstInjection.is in
    record {
      sum = sum_named v f z refl refl c.named-t.ensures;
      operand = record { type = v.type; held = behind v f z refl refl };
      room = v.room;
    }

pub returns-in-FirstInjection : goal.returns-in-FirstInjection
unfolding after_one
returns-in-FirstInjection c v =
    let f = c.kind_of-kind.ensures in
    let z = c.in-FirstInjection.is in
    let e = c.property-in-FirstInjection.ensures in
    let y = c.of.ensures in
    gives_of (rule v _ _ _ (injection v f z y e)) (c.inject.ensures _ v.type (named_slot v.table (injection_named v f z y e) c.named-t.ensures) (behind v f z y e))

pub project-requires : goal.project-requires
unfolding kept_front
project-requires c =
    let v = c.requires in
    record {
      starts = starts v (shape v c.kind_of-kind.ensures refl ∙ projected _ _ v.tree c.in-FirstProjection.is refl) refl;
      room = v.room;
    }

pub returns-in-FirstProjection : goal.returns-in-FirstProjection
unfolding after_one kept_front
returns-in-FirstProjection c v =
    let e = shape v c.kind_of-kind.ensures (ap (read_by c.args.part.now) c.reader.ensures) ∙ projected _ _ v.tree c.in-FirstProjection.is c.of-in-FirstProjection.ensures in
    gives_of (rule v _ _ _ e) (c.project.ensures v.type (slot_of (in_front v e refl)))

pub protect-requires : goal.protect-requires
unfolding kept_front
protect-requires c =
    let v = c.requires in
    record { type = v.type; sized = in_front v (shape v c.in-Protect.ensures refl) refl }

pub returns-in-Protect : goal.returns-in-Protect
unfolding after_one kept_front
returns-in-Protect c v =
    let e = shape v c.in-Protect.ensures (ap (left_by c.args.part.now) c.influence.ensures) in
    gives_of (rule v _ _ _ e) (c.protect.ensures v.type (in_front v e refl))

pub named-requires-in_default : goal.named-requires-in_default
named-requires-in_default c =
    let v = c.requires in
    record { node = long v.tree v.is; in_table = within _ _ (recursion_named v (is_recursion (goal.at.named-requires-in_default c).In_default)) }

pub adopt-requires : goal.adopt-requires
unfolding kept_front
adopt-requires c =
    let v = c.requires in
    let q = is_recursion (goal.at.adopt-requires c).In_default in
    record {
      wanted = named v.table (recursion_named v q) c.named-in_default.ensures;
      starts = starts v (shape v q refl) refl;
      room = v.room;
    }

pub returns-in_default : goal.returns-in_default
unfolding after_one kept_front
returns-in_default c v =
    let q = is_recursion (goal.at.returns-in_default c).In_default in
    let e = shape v q refl in
    gives_of (rule v _ _ _ e)
    (c.adopt.ensures v.type _ (in_front v e refl).held (named_slot v.table (recursion_named v q) c.named-in_default.ensures))
