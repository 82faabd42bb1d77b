use Rattle.std.proofs.Common.{◌≡◌, sym, ◌∙◌, arith, ℕ, ◌+◌, ◌≤◌, subst as transport}
use Rattle.calculus.specs.Terms.{Term, substitute}
use Rattle.rules.specs.Answer.{Bytes}
use Rattle.rules.specs.Limits.{script_limit, depth_limit}
use Rattle.rules.specs.Script.{size, depth}
use Rattle.records.specs.Place.{At}
use Rattle.records.proofs.Stands.{there}
use Rattle.records.proofs.Made.{influence_of}
use Rattle.redex.specs.Fates.{contractum}
use Rattle.contraction.specs.declared.Plan.{Plan}
use Rattle.contraction.specs.declared.Plan.TheVariants.{Part, Body, Raised, Unrolled, Reckoned}
use Rattle.contraction.specs.Plans.{Planned, PlannedRedex, Measures, BodyAndValue, Recursive, Literals}
use Rattle.substitution.specs.Substituted.{TermWithinLimits}
use Rattle.contraction.proofs.Plans.{part_plan, body_plan, LiftPlan, lift_plan, RollPlan, roll_plan, ReckonPlan}
use Rattle.contraction.proofs.Plans.{reckon_plan, protection_of, raise_size, contractum_limit, few, counted}
use Rattle.contraction.proofs.Plans.{protect_counted}
use Rattle.substitution.proofs.Nodes.{depth_size}
use Rattle.contraction.proofs.measure.Goals as goal

-- what each plan says of the term, and what its measure is asked for
module _ {s : Bytes} {at : ℕ} {plan : Plan} (q : PlannedRedex s at plan) where
  abbrev planned : {p : Plan} → plan ≡ p → Planned s q.tree p
  planned e = transport (λ (p : Plan). Planned s q.tree p) e q.planned

  abbrev part_ready : {x : ℕ} → plan ≡ Part x → TermWithinLimits s x
  part_ready e =
      let p = part_plan (planned e) in
      record { tree = p.part; at = p.stands; shallow = omega (arith, p.shallow, q.shallow); small = omega (arith, p.small, q.small) }

  abbrev body_ready : {x y : ℕ} → plan ≡ Body x y → BodyAndValue s x y
  body_ready e =
      let p = body_plan (planned e) in
      record {
        body = p.body;
        value = p.value;
        at_body = p.at_body;
        at_value = p.at_value;
        small = omega (arith, p.small, q.small);
        shallow_body = omega (arith, p.shallow_body, q.shallow);
        shallow_value = omega (arith, p.shallow_value, q.shallow);
      }

  abbrev lifted : plan ≡ Raised → LiftPlan s at q.tree
  lifted e = lift_plan q.stands (planned e)

  abbrev lift_ready : plan ≡ Raised → TermWithinLimits s (at + 1)
  lift_ready e =
      let p = lifted e in
      record { tree = p.value; at = p.stands; shallow = omega (arith, p.shallow, q.shallow); small = omega (arith, p.small, q.small) }

  abbrev rolled : plan ≡ Unrolled → RollPlan q.tree
  rolled e = roll_plan (planned e)

  abbrev roll_ready : plan ≡ Unrolled → Recursive s at
  roll_ready e =
      let p = rolled e in
      record {
        label = p.label;
        type = p.type;
        body = p.body;
        stands = transport (λ (e : Term). At s at e) p.is q.stands;
        small = transport (λ (e : Term). size e ≤ script_limit) p.is q.small;
        shallow = transport (λ (e : Term). depth e ≤ depth_limit) p.is q.shallow;
      }

  abbrev reckoned : plan ≡ Reckoned → ReckonPlan q.tree
  reckoned e = reckon_plan (planned e)

  abbrev reckon_ready : plan ≡ Reckoned → Literals s at
  reckon_ready e =
      let p = reckoned e in
      record {
        operation = p.operation;
        label = p.label;
        left = p.left;
        right = p.right;
        stands = transport (λ (e : Term). At s at e) p.is q.stands;
      }

  -- what is counted of a body with a value put in is few
  abbrev substituted_few : {x y : ℕ} (h : plan ≡ Body x y) → size (substitute 0 (body_ready h).value (body_ready h).body) ≤ contractum_limit
  substituted_few h = let b = body_ready h in few b.value b.body (omega (arith, b.small)) (omega (arith, b.small))

pub extent_at-requires : goal.extent_at-requires
extent_at-requires c = part_ready c.requires c.in-Part.is

pub protected-requires : goal.protected-requires
protected-requires c =
    let q = part_ready c.requires c.in-Part.is in
    let m = c.extent_at.ensures q.tree q.at in
    record { records_fit = omega (arith, m.records, q.small); depth_fits = omega (arith, m.deep, q.shallow) }

pub measure_body-requires : goal.measure_body-requires
measure_body-requires c = body_ready c.requires c.in-Body.is

pub protected-requires-in-Body : goal.protected-requires-in-Body
protected-requires-in-Body c =
    let q = body_ready c.requires c.in-Body.is in
    let m = c.measure_body.ensures q in
    let l = substituted_few c.requires c.in-Body.is in
    record {
      records_fit = omega (arith, m.records, l);
      depth_fits = omega (arith, m.deep, l, depth_size (substitute 0 q.value q.body));
    }

pub overflow_add-at : goal.overflow_add-at
overflow_add-at c = omega (arith, there _ _ _ (lifted c.requires c.in-Raised.is).stands)

pub extent_at-requires-in-Raised : goal.extent_at-requires-in-Raised
extent_at-requires-in-Raised c = lift_ready c.requires c.in-Raised.is

pub measure_unrolled-requires : goal.measure_unrolled-requires
measure_unrolled-requires c = roll_ready c.requires c.in-Unrolled.is

pub returns-in-Part : goal.returns-in-Part
returns-in-Part c q S tab =
    let p = part_ready q c.in-Part.is in
    let x = c.extent_at.ensures p.tree p.at in
    counted ((part_plan (planned q c.in-Part.is)).is S tab) (protect_counted (protection_of S q.tree) (record { records = x.records; deep = x.deep })
    (c.protected.ensures.records, c.protected.ensures.depth))

pub returns-in-Body : goal.returns-in-Body
returns-in-Body c q S tab =
    counted ((body_plan (planned q c.in-Body.is)).is S tab)
    (protect_counted (protection_of S q.tree) (c.measure_body.ensures (body_ready q c.in-Body.is))
    (c.protected-in-Body.ensures.records, c.protected-in-Body.ensures.depth))

pub returns-in-Raised : goal.returns-in-Raised
returns-in-Raised c q S tab =
    let p = lifted q c.in-Raised.is in
    let m = c.extent_at-in-Raised.ensures p.value p.stands in
    let z = raise_size S p.value (influence_of q.tree) in
    counted (p.is S tab) (record { records = m.records ∙ sym z.0; deep = m.deep ∙ sym z.1 })

pub returns-in-Unrolled : goal.returns-in-Unrolled
returns-in-Unrolled c q S tab =
    transport (λ (e : Term). Measures (contractum S tab e) c.measure_unrolled.result) (sym (rolled q c.in-Unrolled.is).is)
    (c.measure_unrolled.ensures (roll_ready q c.in-Unrolled.is) S tab)

pub measure_reckoned-requires : goal.measure_reckoned-requires
measure_reckoned-requires c = reckon_ready c.requires c.in-Reckoned.is

pub returns-in-Reckoned : goal.returns-in-Reckoned
returns-in-Reckoned c q S tab =
    transport (λ (e : Term). Measures (contractum S tab e) c.measure_reckoned.result) (sym (reckoned q c.in-Reckoned.is).is)
    (c.measure_reckoned.ensures (reckon_ready q c.in-Reckoned.is) S tab)
