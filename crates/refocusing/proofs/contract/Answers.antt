-- The search tells whether the node contracts, and its plan whether in place or ahead.
use Rattle.std.proofs.Common.{◌≡◌, refl, sym, ap, ◌∙◌, append-nil, ℕ, ◌+◌, ◌<◌, arith, length, Option, Some, None, true}
use Rattle.std.proofs.Common.{subst as transport, IsTrue}
use Rattle.calculus.specs.Terms.{Term}
use Rattle.calculus.specs.Reduction.{Context, hole, plug}
use Rattle.rules.specs.Answer.{Bytes}
use Rattle.rules.specs.Groups.{properties_of}
use Rattle.rules.specs.Types.{type_at}
use Rattle.rules.specs.Script.{encode}
use Rattle.rules.specs.Step.{exceeds}
use Rattle.reduction.specs.declared.Stop.TheVariants.{TooBig}
use Rattle.records.specs.Place.{At}
use Rattle.redex.specs.Fates.{reduces, is_potential_redex, fate}
use Rattle.contraction.proofs.Plans.{part_plan}
use Rattle.contraction.proofs.Rooms.{planned_as}
use Rattle.reduction.proofs.Starts.{started}
use Rattle.refocusing.specs.declared.Point.{Point}
use Rattle.refocusing.specs.Focus.{still_running, has_ended}
use Rattle.refocusing.specs.Contracted.{why_not, ContractumAhead, comes_next, exceeds_room}
use Rattle.refocusing.proofs.Runs.{run_stopped, run_at_budget, no_value, turn_told, turn_goes, turn_too_big, ended}
use Rattle.refocusing.proofs.Redexes.{lies_left}
use Rattle.refocusing.proofs.Contractions.{fires, foremost, lift, ends_at_gap, value_raised, part_projected}
use Rattle.refocusing.proofs.Contractions.{written_ahead}
use Rattle.refocusing.specs.Moves.{Component}
use Rattle.refocusing.proofs.contract.Goals as goal
use Rattle.refocusing.proofs.contract.Goals.{In_default}

-- the node contracts
contracts : (c : In_default) (e : Term) → At c.args.front.now c.args.at e → IsTrue (is_potential_redex e) → fate (properties_of c.args.groups.now) (type_at c.args.types.now) e ≡ reduces
contracts c e a r =
    turn_goes (properties_of c.args.groups.now) (type_at c.args.types.now) 0 hole e r c.args.at c.args.around
    (sym (ap why_not (c.turn.ensures e a r)) ∙ sym c.why_not.ensures ∙ c.in_default.is)

-- the outcome of the write, as the arm that was taken tells it
outcome : {at : ℕ} {p : Point} {E : Context} {n : Term} {b b' : Bytes} {x y : Option Point} → x ≡ y → ContractumAhead at p E n b x b' → ContractumAhead at p E n b y b'
outcome {at} {p} {E} {n} {b} {b'} h w = transport (λ (x : Option Point). ContractumAhead at p E n b x b') h w

one_step : {at : ℕ} {p p' : Point} {E : Context} {n : Term} {b b' : Bytes} → ContractumAhead at p E n b (Some p') b' → p'.steps ≡ p.steps + 1
one_step (comes_next s left right step w) = step

not_written : {at : ℕ} {p : Point} {E : Context} {n : Term} {b b' : Bytes} → ContractumAhead at p E n b None b' → (exceeds (length b) (plug E n) ≡ true) × (b' ≡ b)
not_written (exceeds_room s w) = (s, w)

pub returns-then-point-budget : goal.returns-then-point-budget
returns-then-point-budget c whole E e r q at_is around_is =
    has_ended
    (ended q (append-nil (encode e)) None
    (run_at_budget q.reached c.if-point-budget.true (no_value (properties_of c.args.groups.now) (type_at c.args.types.now) (length c.args.back.now) E e r)))

pub turn-requires : goal.turn-requires
turn-requires c = let q = c.requires in record { tree = q.term; stands = lies_left q.stands.gap q.at_is; turn = q.turn }

pub returns-in-Some : goal.returns-in-Some
returns-in-Some c whole E e r q at_is around_is =
    let l : c.args.point.steps < c.args.budget = omega (arith, q.reached.made, c.if-point-budget.false) in
    let k = sym (ap why_not (c.turn.ensures e (lies_left q.gap at_is) r)) ∙ sym c.why_not.ensures ∙ c.in-Some.is in
    has_ended
    (ended q (append-nil (encode e)) (Some c.in-Some.stop)
    (run_stopped q.reached c.in-Some.stop l
    (turn_told (properties_of c.args.groups.now) (type_at c.args.types.now) (length c.args.back.now) E e r c.args.at c.args.around k)))

pub plan_of-requires : goal.plan_of-requires
plan_of-requires c =
    let q = c.requires in
    let l : c.args.point.steps < c.args.budget = omega (arith, q.stands.reached.made, c.if-point-budget.false) in
    fires q.stands q.turn (contracts (goal.at.plan_of-requires c).In_default q.term (lies_left q.stands.gap q.at_is) q.turn) l q.at_is

pub raise-requires : goal.raise-requires
raise-requires c =
    let q = c.requires in
    let l : c.args.point.steps < c.args.budget = omega (arith, q.stands.reached.made, c.if-point-budget.false) in
    let f = contracts (goal.at.raise-requires c).In_default q.term (lies_left q.stands.gap q.at_is) q.turn in
    let v = lift q.stands q.turn f l q.at_is (planned_as c.in-Raised.is (c.plan_of.ensures (fires q.stands q.turn f l q.at_is))) in
    record {
      operand = record {
        value = v.value;
        stands = v.stands;
        is_one = v.is_one;
        ends = omega (arith, v.small, ends_at_gap q.stands q.turn f l q.at_is);
      };
      steps_fit = omega (arith, l);
      order = (started q.stands.reached.start).order;
    }

pub project-requires : goal.project-requires
project-requires c =
    let q = c.requires in
    let l : c.args.point.steps < c.args.budget = omega (arith, q.stands.reached.made, c.if-point-budget.false) in
    let f = contracts (goal.at.project-requires c).In_default q.term (lies_left q.stands.gap q.at_is) q.turn in
    let v = part_plan (planned_as c.in-Part.is (c.plan_of.ensures (fires q.stands q.turn f l q.at_is))) in
    record {
      component = record {
        term = v.part;
        stands = v.stands;
        room = omega (arith, v.small, ends_at_gap q.stands q.turn f l q.at_is, q.stands.gap.inside_a);
      };
      steps_fit = omega (arith, l);
      order = (started q.stands.reached.start).order;
    }

pub write_ahead-requires : goal.write_ahead-requires
write_ahead-requires c =
    let q = c.requires in
    let l : c.args.point.steps < c.args.budget = omega (arith, q.stands.reached.made, c.if-point-budget.false) in
    let f = contracts (goal.at.write_ahead-requires c).In_default q.term (lies_left q.stands.gap q.at_is) q.turn in
    record {
      foremost = (q.context, q.term, foremost q.stands q.turn f l q.at_is c.plan_of.ensures q.around_is);
      steps_fit = omega (arith, l);
    }

pub returns-in-Raised : goal.returns-in-Raised
returns-in-Raised c whole E e r q at_is around_is =
    let l : c.args.point.steps < c.args.budget = omega (arith, q.reached.made, c.if-point-budget.false) in
    let f = contracts (goal.at.returns-in-Raised c).In_default e (lies_left q.gap at_is) r in
    let plan = planned_as c.in-Raised.is (c.plan_of.ensures (fires q r f l at_is)) in
    let v = lift q r f l at_is plan in
    let w = c.raise.ensures in
    still_running
    (value_raised q r f l at_is w.right w.steps (λ k. omega (arith, c.type_inv.front k)) (λ k. omega (arith, c.type_inv.back k)) plan w.left
    (w.front
    (record {
      value = v.value;
      stands = v.stands;
      is_one = v.is_one;
      ends = omega (arith, v.small, ends_at_gap q r f l at_is);
    })))
    (omega (arith, w.steps, l))

pub returns-in-Part : goal.returns-in-Part
returns-in-Part c whole E e r q at_is around_is =
    let l : c.args.point.steps < c.args.budget = omega (arith, q.reached.made, c.if-point-budget.false) in
    let f = contracts (goal.at.returns-in-Part c).In_default e (lies_left q.gap at_is) r in
    let plan = planned_as c.in-Part.is (c.plan_of.ensures (fires q r f l at_is)) in
    let v = part_plan plan in
    let w = c.project.ensures in
    let p : Component c.args.front.now c.args.at c.in-Part.part = record {
      term = v.part;
      stands = v.stands;
      room = omega (arith, v.small, ends_at_gap q r f l at_is, q.gap.inside_a);
    } in
    still_running
    (part_projected q r f l at_is w.right w.steps (λ k. omega (arith, c.type_inv.front k)) (λ k. omega (arith, c.type_inv.back k)) plan (w.left p)
    (w.front p))
    (omega (arith, w.steps, l))

pub returns-in-Some-write_ahead : goal.returns-in-Some-write_ahead
returns-in-Some-write_ahead c whole E e r q at_is around_is =
    let l : c.args.point.steps < c.args.budget = omega (arith, q.reached.made, c.if-point-budget.false) in
    let f = contracts (goal.at.returns-in-Some-write_ahead c).In_default e (lies_left q.gap at_is) r in
    let w = outcome c.in-Some-write_ahead.is (c.write_ahead.ensures E e (foremost q r f l at_is c.plan_of.ensures around_is)) in
    still_running (written_ahead q r f l at_is w refl (λ k. omega (arith, c.type_inv.back k))) (omega (arith, l, one_step w))

pub returns-in-None : goal.returns-in-None
returns-in-None c whole E e r q at_is around_is =
    let S = properties_of c.args.groups.now in
    let tab = type_at c.args.types.now in
    let l : c.args.point.steps < c.args.budget = omega (arith, q.reached.made, c.if-point-budget.false) in
    let f = contracts (goal.at.returns-in-None c).In_default e (lies_left q.gap at_is) r in
    let w = not_written (outcome c.in-None.is (c.write_ahead.ensures E e (foremost q r f l at_is c.plan_of.ensures around_is))) in
    let ends = ended q (append-nil (encode e)) (Some TooBig) (run_stopped q.reached TooBig l (turn_too_big S tab (length c.args.back.now) E e r f w.0)) in
    rw w.1 (has_ended ends)
