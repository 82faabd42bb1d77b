-- A planned redex whose contractum has room: the room that its plan's writer asks for, and what that writer leaves in
-- the buffer.
use Rattle.std.proofs.Common.{◌≡◌, sym, ap, ap₂, ◌∙◌, ℕ, ◌+◌, ◌≤◌, arith, subst as transport}
use Rattle.calculus.specs.Security.{Security}
use Rattle.calculus.specs.Types.{Ty, top}
use Rattle.calculus.specs.Terms.{Operation, Term, protect, literal, reckon, substitute, raise_value}
use Rattle.calculus.specs.Numbers.{of_both}
use Rattle.calculus.specs.Reduction.{unrolled_function}
use Rattle.rules.specs.Answer.{Bytes}
use Rattle.rules.specs.Groups.{properties_of}
use Rattle.rules.specs.Types.{type_at}
use Rattle.rules.specs.Script.{encode, size, depth}
use Rattle.records.specs.Place.{At}
use Rattle.records.specs.Labels.{influence_at}
use Rattle.records.proofs.Stands.{operands, at_first}
use Rattle.records.proofs.Made.{influence_of, influence_stands}
use Rattle.redex.specs.Fates.{fate, contractum}
use Rattle.redex.proofs.Places.{groups_at, reader_at}
use Rattle.memory.specs.Written.{Room}
use Rattle.memory.specs.declared.Writer.{Writer}
use Rattle.contraction.specs.declared.Plan.{Plan}
use Rattle.contraction.specs.declared.Plan.TheVariants.{Part, Body, Raised, Unrolled, Reckoned}
use Rattle.contraction.specs.Plans.{Planned, PlannedRedex, ContractumRoom, protection, PartRoom, BodyRoom, RaisedRoom}
use Rattle.contraction.specs.Plans.{UnrolledRoom, Literals, reckon_contractum, ReckonedRoom}
use Rattle.contraction.proofs.Plans.{PartPlan, part_plan, BodyPlan, body_plan, LiftPlan, lift_plan, RollPlan, roll_plan}
use Rattle.contraction.proofs.Plans.{ReckonPlan, reckon_plan, reckon_is, reckoned_records, reckoned_size, raise_size}
use Rattle.contraction.proofs.Plans.{protect_size, body_size, unrolled_size, few, operand_there, contractum_limit}
use Rattle.contraction.proofs.Plans.{goes_function, unroll_is, protection_of}

pub planned_as : {s : Bytes} {e : Term} {p p' : Plan} → p ≡ p' → Planned s e p → Planned s e p'
planned_as {s} {e} h q = transport (λ (x : Plan). Planned s e x) h q

-- room for a term is room for one equal to it
abbrev pub room_for : (out : Writer) {e f : Term} → e ≡ f → Room (encode e) out → Room (encode f) out
room_for out h r = transport (λ (x : Term). Room (encode x) out) h r

module _ {g t s : Bytes} {at : ℕ} {p : Plan} {out : Writer} (q : ContractumRoom g t s at p out) where
  abbrev S : Security
  S = properties_of g

  abbrev tab : ℕ → Ty
  tab = type_at t

  abbrev e : Term
  e = q.ready.tree

  -- the protection, as the records of the destructor and of what it takes apart tell it
  abbrev protection_at : 1 ≤ operands e → protection_of S e ≡ protection g s at
  protection_at h = sym (ap₂ S.influence (groups_at (at_first s at e q.ready.stands h)) (reader_at q.ready.stands))

  abbrev part_of : {x : ℕ} → p ≡ Part x → PartPlan s q.ready.tree x
  part_of h = part_plan (planned_as h q.ready.planned)

  abbrev pub part_is : {x : ℕ} (h : p ≡ Part x) → contractum S tab e ≡ protect (protection g s at) (part_of h).part
  part_is h = (part_of h).is S tab ∙ ap (λ m. protect m (part_of h).part) (protection_at (part_of h).operand)

  abbrev pub part_room : {x : ℕ} → p ≡ Part x → PartRoom g s at x out
  part_room h = record {
    order = q.order;
    part = (part_of h).part;
    stands = (part_of h).stands;
    operand = operand_there q.ready.stands (part_of h).operand;
    room = room_for out (part_is h) q.room;
  }

  abbrev body_of : {x y : ℕ} → p ≡ Body x y → BodyPlan s q.ready.tree x y
  body_of h = body_plan (planned_as h q.ready.planned)

  abbrev pub body_is : {x y : ℕ} (h : p ≡ Body x y) → contractum S tab e ≡ protect (protection g s at) (substitute 0 (body_of h).value (body_of h).body)
  body_is h =
      (body_of h).is S tab ∙ ap (λ m. protect m (substitute 0 (body_of h).value (body_of h).body)) (protection_at (body_of h).operand)

  abbrev pub body_room : {x y : ℕ} → p ≡ Body x y → BodyRoom g s at x y out
  body_room h = record {
    order = q.order;
    body = (body_of h).body;
    value = (body_of h).value;
    at_body = (body_of h).at_body;
    at_value = (body_of h).at_value;
    shallow = omega (arith, (body_of h).shallow_body, q.ready.shallow);
    operand = operand_there q.ready.stands (body_of h).operand;
    room = room_for out (body_is h) q.room;
  }

  abbrev lift_of : p ≡ Raised → LiftPlan s at q.ready.tree
  lift_of h = lift_plan q.ready.stands (planned_as h q.ready.planned)

  abbrev pub raised_is : (h : p ≡ Raised) → contractum S tab e ≡ raise_value S (lift_of h).value (influence_at s at)
  raised_is h = (lift_of h).is S tab ∙ ap (raise_value S (lift_of h).value) (sym (influence_stands q.ready.stands))

  abbrev pub raised_room : p ≡ Raised → RaisedRoom g s at out
  raised_room h = record {
    order = q.order;
    value = (lift_of h).value;
    stands = (lift_of h).stands;
    is_one = (lift_of h).is_one;
    room = room_for out (raised_is h) q.room;
  }

  abbrev roll_of : p ≡ Unrolled → RollPlan q.ready.tree
  roll_of h = roll_plan (planned_as h q.ready.planned)

  abbrev pub unrolled_is : (h : p ≡ Unrolled)
      → contractum S tab e ≡ substitute 0 (unrolled_function S (roll_of h).label (roll_of h).type (top (tab (roll_of h).type)) (roll_of h).body) (roll_of h).body
  unrolled_is h = ap (contractum S tab) (roll_of h).is ∙ unroll_is S tab (roll_of h).label (roll_of h).type (roll_of h).body

  abbrev pub unrolled_room : p ≡ Unrolled → UnrolledRoom t s at out
  unrolled_room h = record {
    label = (roll_of h).label;
    type = (roll_of h).type;
    body = (roll_of h).body;
    stands = transport (λ (x : Term). At s at x) (roll_of h).is q.ready.stands;
    shallow = omega (arith, q.ready.shallow, ap depth (roll_of h).is, (body_size (roll_of h).label (roll_of h).type (roll_of h).body).1);
    function = goes_function S tab (roll_of h).label (roll_of h).type (roll_of h).body (ap (fate S tab) (sym (roll_of h).is) ∙ q.contracts);
    table = q.table;
    groups = g;
    room = room_for out (unrolled_is h) q.room;
  }

  abbrev reckon_of : p ≡ Reckoned → ReckonPlan q.ready.tree
  reckon_of h = reckon_plan (planned_as h q.ready.planned)

  abbrev pub literals : p ≡ Reckoned → Literals s at
  literals h = record {
    operation = (reckon_of h).operation;
    label = (reckon_of h).label;
    left = (reckon_of h).left;
    right = (reckon_of h).right;
    stands = transport (λ (x : Term). At s at x) (reckon_of h).is q.ready.stands;
  }

  abbrev pub reckoned_is : (h : p ≡ Reckoned) → contractum S tab e ≡ reckon_contractum g t (literals h)
  reckoned_is h =
      ap (contractum S tab) (reckon_of h).is ∙ reckon_is S tab (reckon_of h).operation (reckon_of h).label (reckon_of h).left (reckon_of h).right

  abbrev pub reckoned_room : p ≡ Reckoned → ReckonedRoom g t s at out
  reckoned_room h = record {
    order = q.order;
    literals = literals h;
    sides = λ i o. q.sides i
        ((reckon_of h).is
        ∙ ap (λ o. reckon o (reckon_of h).label (literal (reckon_of h).left.own (reckon_of h).left.value) (literal (reckon_of h).right.own (reckon_of h).right.value)) o);
    room = room_for out (reckoned_is h) q.room;
  }

reckoned_few : (o : Operation) → reckoned_records o ≤ 2
reckoned_few o = grind arith

-- No plan makes more records than can be counted.
pub contractum_few : (S : Security) (tab : ℕ → Ty) {s : Bytes} {at : ℕ} (p : Plan) (q : PlannedRedex s at p) → size (contractum S tab q.tree) ≤ contractum_limit + 1
contractum_few S tab (Part x) q =
    let z = part_plan q.planned in
    omega (arith, ap size (z.is S tab), (protect_size (protection_of S q.tree) z.part).0, z.small, q.small)
contractum_few S tab (Body x y) q =
    let z = body_plan q.planned in
    omega (
      arith,
      ap size (z.is S tab),
      (protect_size (protection_of S q.tree) (substitute 0 z.value z.body)).0,
      few z.value z.body (omega (arith, z.small, q.small)) (omega (arith, z.small, q.small)),
    )
contractum_few S tab Raised q =
    let z = lift_plan q.stands q.planned in
    omega (arith, ap size (z.is S tab), (raise_size S z.value (influence_of q.tree)).0, z.small, q.small)
contractum_few S tab Unrolled q =
    let z = roll_plan q.planned in
    let k = top (tab z.type) in
    omega (
      arith,
      ap size (ap (contractum S tab) z.is ∙ unroll_is S tab z.label z.type z.body),
      few (unrolled_function S z.label z.type k z.body) z.body
          (omega (arith, (unrolled_size S z.label z.type k z.body).0, ap size z.is, q.small))
          (omega (arith, (body_size z.label z.type z.body).0, ap size z.is, q.small)),
    )
contractum_few S tab Reckoned q =
    let z = reckon_plan q.planned in
    omega (
      arith,
      ap size (ap (contractum S tab) z.is ∙ reckon_is S tab z.operation z.label z.left z.right),
      (reckoned_size tab z.operation (of_both S z.label z.left.own z.right.own) z.left.value z.right.value).0,
      reckoned_few z.operation,
    )
