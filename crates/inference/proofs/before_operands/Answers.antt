-- A function and a recursion bind the named type, and the questions are a recursion's.
use Rattle.std.proofs.Common.{◌≡◌, ℕ, ◌+◌, ◌*◌, ◌≤◌, ◌<◌, length, refl, sym, ap, ◌∙◌, subst, arith}
use Rattle.calculus.specs.Security.{Security}
use Rattle.calculus.specs.Terms.{Term}
use Rattle.rules.specs.Limits.{answer_length}
use Rattle.rules.specs.Answer.{Bytes}
use Rattle.rules.specs.Groups.{properties_of}
use Rattle.rules.specs.Script.{kind, number}
use Rattle.calculus.specs.Types.{function}
use Rattle.rules.specs.Types.{former_kind, type_at, type_count, type_kind}
use Rattle.records.specs.Kinds as kinds
use Rattle.records.specs.Labels.{property_at}
use Rattle.inference.specs.Memory.{CheckerInput}
use Rattle.inference.specs.Stages.{may_recur, before_first, first_context}
use Rattle.inference.proofs.Regions.{stayed}
use Rattle.inference.proofs.Shapes.{long, Plain, plain, labelled, of_kind, depth_positive}
use Rattle.inference.proofs.Rules.{enters_as}
use Rattle.inference.proofs.Names.{within, named_slot, named, named_sided, function_index, recursion_index}
use Rattle.inference.proofs.before_operands.Goals as goal

module _ {types s : Bytes} {place b : ℕ} {w : Bytes} (v : CheckerInput types s place b w) where
  -- the room for one more binder
  level : answer_length * (b + 1) ≤ length w
  level = omega (arith, v.room, depth_positive v.tree)

  -- the questions and the context of a node of a shape
  module _ {e : Term} (q : v.tree ≡ e) where
    asks : (S : Security) → before_first S (type_at types) place v.tree ≡ before_first S (type_at types) place e
    asks S = ap (before_first S (type_at types) place) q

    context : first_context (type_at types) v.ctx v.tree ≡ first_context (type_at types) v.ctx e
    context = ap (first_context (type_at types) v.ctx) q

  -- its form
  shape : {k : ℕ} → k ≡ kind s 0 → v.tree ≡ labelled k (property_at s 0) (number s 0) v.tree
  shape {k} f = of_kind s v.tree k v.is f

  -- the number of a function's or a recursion's record
  function_named : kinds.function ≡ kind s 0 → number s 0 < type_count types
  function_named = function_index types s b v.tree v.is v.formed

  recursion_named : kinds.recursion ≡ kind s 0 → (number s 0 < type_count types) × (type_kind types (number s 0) ≡ former_kind function)
  recursion_named = recursion_index types s b v.tree v.is v.formed

pub named-requires : goal.named-requires
named-requires c =
    let v = c.requires in
    record { node = long v.tree v.is; in_table = within _ _ (function_named v c.in-Function.ensures) }

pub bind-requires : goal.bind-requires
bind-requires c =
    let v = c.requires in
    record { slot = named v.table (function_named v c.in-Function.ensures) c.named.ensures; room = level v }

pub returns-in-Function : goal.returns-in-Function
unfolding before_first first_context
returns-in-Function c v =
    let e = shape v c.in-Function.ensures in
    enters_as (sym (asks v e (properties_of c.args.groups.now))) (context v e)
    (c.bind.ensures v.ctx _ (named_slot v.table (function_named v c.in-Function.ensures) c.named.ensures) v.binders v.holds)

pub named-t-requires : goal.named-t-requires
named-t-requires c =
    let v = c.requires in
    record { node = long v.tree v.is; in_table = within _ _ (recursion_named v c.in-Recursion.ensures).0 }

pub may_recur-asked-requires : goal.may_recur-asked-requires
may_recur-asked-requires c =
    let v = c.requires in
    let m = recursion_named v c.in-Recursion.ensures in
    let p = named_sided v.table m.0 m.1 refl c.named-t.ensures in
    record { type = p.type; held = p.slot.held; two = p.two }

pub bind-requires-in-Recursion : goal.bind-requires-in-Recursion
bind-requires-in-Recursion c =
    let v = c.requires in
    record { slot = named v.table (recursion_named v c.in-Recursion.ensures).0 c.named-t.ensures; room = level v }

pub returns-in-Recursion : goal.returns-in-Recursion
unfolding first_context before_first
returns-in-Recursion c v =
    let e = shape v c.in-Recursion.ensures in
    let t = type_at c.args.types.now (number c.args.part.now 0) in
    let h = named_slot v.table (recursion_named v c.in-Recursion.ensures).0 c.named-t.ensures in
    let S = properties_of c.args.groups.now in
    enters_as
    (c.may_recur-asked.ensures t h.held ∙ ap (may_recur S c.args.place t) c.reader.ensures ∙ sym (asks v e S)) (context v e)
    (c.bind-in-Recursion.ensures v.ctx t h v.binders v.holds)

pub returns-in_default : goal.returns-in_default
returns-in_default c v =
    let S = properties_of c.args.groups.now in
    let tab = type_at c.args.types.now in
    let e = shape v c.kind_of.ensures in
    let p : Plain S tab v.ctx c.args.place v.tree = subst (Plain S tab v.ctx c.args.place) (sym e) (plain S tab v.ctx c.args.place _ _ _ v.tree c.in_default.not-Function c.in_default.not-Recursion) in
    enters_as (sym p.asked) p.context (stayed v.binders v.holds)
