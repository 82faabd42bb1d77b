-- The node's shape from its fields, then the callee's answer for that shape.
use Rattle.std.proofs.Common.{◌≡◌, ℕ, ◌<◌, refl, sym, ap, ◌∙◌, arith}
use Rattle.calculus.specs.Security.{Property}
use Rattle.calculus.specs.Types.{sum}
use Rattle.calculus.specs.Terms.{Term}
use Rattle.rules.specs.Answer.{Bytes}
use Rattle.rules.specs.Groups.{properties_of}
use Rattle.rules.specs.Types.{former_kind, type_at, type_count, type_kind, sides}
use Rattle.rules.specs.Script.{kind, r, number}
use Rattle.types.specs.Held.{kind_of_type}
use Rattle.types.specs.declared.Kind.TheVariants.{Function}
use Rattle.records.specs.Kinds as kinds
use Rattle.records.specs.Labels.{property_at}
use Rattle.types.proofs.Parts.{starts_of}
use Rattle.inference.specs.Stages.{between, after_two, TwoOperands}
use Rattle.inference.proofs.Regions.{slot_of}
use Rattle.inference.proofs.Shapes.{long, arity_of, less_left, labelled, of_fields, read_by}
use Rattle.inference.proofs.Names.{within, named_slot, named_sided, flag_index}
use Rattle.inference.proofs.Rules.{read_two, gives_of}
use Rattle.inference.proofs.after_two.Goals as goal
use Rattle.inference.proofs.after_two.Goals.{In_default}

module _ {g types s : Bytes} {place : ℕ} {w : Bytes} {n m : ℕ} (v : TwoOperands g types s place w n m) where
  -- the rule for a node of a shape
  rule : {e : Term} → v.tree ≡ e
      → after_two (properties_of g) (type_at types) place v.tree v.first v.second ≡ after_two (properties_of g) (type_at types) place e v.first v.second
  rule q = ap (λ e. after_two (properties_of g) (type_at types) place e v.first v.second) q

  -- its form, with the groups or the reader as they were read
  shape : {k : ℕ} {p : Property} → k ≡ kind s 0 → p ≡ property_at s 0 → v.tree ≡ labelled k p (number s 0) v.tree
  shape {k} f e = of_fields s v.tree k v.is f e refl

  read_shape : {k reader : ℕ} → k ≡ kind s 0 → reader ≡ r s 0 → v.tree ≡ labelled k (read_by s reader) (number s 0) v.tree
  read_shape f e = shape f (ap (read_by s) e)

  -- an application's function
  sided : kinds.application ≡ kind s 0 → sides (kind_of_type v.first) ≡ 2
  unfolding between
  sided f =
      read_two (properties_of g) place Function v.first (r s 0) refl
      (sym (ap (λ e. between (properties_of g) place e v.first) (shape f refl)) ∙ v.asked)

  -- the sum that a less than names
  flag_named : kinds.less ≡ kind s 0 → (number s 0 < type_count types) × (type_kind types (number s 0) ≡ former_kind sum)
  flag_named = flag_index types s v.binders v.tree v.is v.formed

-- what is left is a less than
is_less : (c : In_default) → kinds.less ≡ kind c.args.part.now 0
is_less c =
    let v = c.requires in
    let o = c.in_default in
    sym (less_left _ (arity_of v.tree v.is c.kind_of.ensures ∙ v.two) o.not-Pair o.not-Application o.not-Sum) ∙ c.kind_of.ensures

pub returns-in-Pair : goal.returns-in-Pair
unfolding after_two
returns-in-Pair c v =
    gives_of (rule v (shape v c.in-Pair.ensures c.property.ensures)) (c.pair.ensures v.first v.second v.sized v.other)

pub apply-requires : goal.apply-requires
apply-requires c =
    let v = c.requires in
    record {
      function = record { type = v.first; held = v.sized.held; two = sided v c.in-Application.ensures };
      argument = record { type = v.second; held = v.other.held };
      room = v.room;
    }

pub returns-in-Application : goal.returns-in-Application
unfolding after_two
returns-in-Application c v =
    gives_of (rule v (read_shape v c.in-Application.ensures c.reader.ensures)) (c.apply.ensures v.first v.second (slot_of v.sized) v.other.held)

pub total-requires : goal.total-requires
total-requires c =
    let v = c.requires in
    record { left = starts_of v.sized.held; right = starts_of v.other.held; room = omega (arith, v.room) }

pub returns-in-Sum : goal.returns-in-Sum
unfolding after_two
returns-in-Sum c v =
    gives_of (rule v (read_shape v c.in-Sum.ensures c.reader-in-Sum.ensures)) (c.total.ensures (type_at c.args.types.now) v.first v.second v.sized.held v.other.held)

pub named-requires : goal.named-requires
named-requires c =
    let v = c.requires in
    record { node = long v.tree v.is; in_table = within _ _ (flag_named v (is_less (goal.at.named-requires c).In_default)).0 }

pub comparison-requires : goal.comparison-requires
comparison-requires c =
    let v = c.requires in
    let m = flag_named v (is_less (goal.at.comparison-requires c).In_default) in
    record {
      flag = named_sided v.table m.0 m.1 refl c.named.ensures;
      left = starts_of v.sized.held;
      right = starts_of v.other.held;
      room = omega (arith, v.room);
    }

pub returns-in_default : goal.returns-in_default
unfolding after_two
returns-in_default c v =
    let q = is_less (goal.at.returns-in_default c).In_default in
    gives_of (rule v (read_shape v q c.reader-in_default.ensures))
    (c.comparison.ensures (type_at c.args.types.now) (number c.args.part.now 0) v.first v.second
    (named_slot v.table (flag_named v q).0 c.named.ensures) v.sized.held v.other.held)
