use Rattle.std.proofs.Common.{◌≡◌, refl, sym, ap, ◌∙◌, false, ℕ, ◌+◌, ◌-◌, ◌≤◌, arith}
use Rattle.calculus.specs.Terms.{Term}
use Rattle.calculus.specs.Reduction.{plug}
use Rattle.rules.specs.Answer.{Bytes}
use Rattle.rules.specs.Limits.{script_limit}
use Rattle.rules.specs.Groups.{properties_of}
use Rattle.rules.specs.Types.{type_at}
use Rattle.rules.specs.Script.{records, term, size}
use Rattle.rules.specs.Step.{exceeds}
use Rattle.records.proofs.Stands.{here, start_records}
use Rattle.promises.proofs.Steps.{within_limits}
use Rattle.redex.specs.Fates.{contractum}
use Rattle.redex.proofs.Turns.{site_moves}
use Rattle.substitution.proofs.Nodes.{depth_size}
use Rattle.contraction.specs.declared.Plan.{Plan}
use Rattle.substitution.specs.declared.Size.{Size}
use Rattle.contraction.specs.Plans.{Fires, Planned, PlannedRedex, Measures}
use Rattle.reduction.specs.Steps.{Sited, Placing, foresees_step, foresees_stop, step_records}
use Rattle.contraction.proofs.Redexes.{left_side}
use Rattle.contraction.proofs.Plans.{contractum_limit}
use Rattle.contraction.proofs.Rooms.{contractum_few}
use Rattle.reduction.proofs.Starts.{started}
use Rattle.reduction.proofs.Splices.{redex_at, redex_small, redex_shallow, new_size, end_inside, exceeds_is}
use Rattle.reduction.proofs.Ends.{ends_moved, ends_too_big}
use Rattle.reduction.proofs.plan_at.Goals as goal

module _ {g t s : Bytes} {at around : ℕ} (q : Sited g t s at around) where
  -- the contractum, and the new term
  abbrev part : Term
  part = contractum (properties_of g) (type_at t) q.site.redex

  abbrev whole : Term
  whole = plug q.site.context part

  abbrev fires : Fires s at
  fires = record {
    tree = q.site.redex;
    stands = redex_at (started q.start) q.site;
    left = left_side (properties_of g) (type_at t) q.site.redex q.site.turn q.site.goes;
  }

  abbrev ready : {p : Plan} → ((f : Fires s at) → Planned s f.tree p) → PlannedRedex s at p
  ready plan = record {
    tree = q.site.redex;
    stands = redex_at (started q.start) q.site;
    planned = plan fires;
    small = redex_small (started q.start) q.site;
    shallow = omega (arith, redex_shallow (started q.start) q.site);
  }

  -- what is counted: the contractum's records, the records behind the redex, and the new term's
  few : {p : Plan} {m : Size} → ((f : Fires s at) → Planned s f.tree p) → Measures part m → m.records ≤ contractum_limit + 1
  few {p} plan m = omega (arith, m.records, contractum_few (properties_of g) (type_at t) p (ready plan))

  inside : {end : ℕ} → end ≡ at + size q.site.redex → end ≤ records s
  inside {end} e = end_inside (started q.start) q.site end e

  bytes : records s ≤ script_limit
  bytes = omega (arith, (started q.start).fit.small, start_records s (started q.start).encoded)

  total : {end n : ℕ} {m : Size} → end ≡ at + size q.site.redex → n ≡ records s → Measures part m → at + m.records + (n - end) ≡ size whole
  total {end} e n m = omega (arith, new_size (started q.start) q.site part end e, m.records, n)

  -- the planned step, where the new term isn't too big
  placing : (room : ℕ) {p : Plan} {end records : ℕ} → ((f : Fires s at) → Planned s f.tree p) → end ≡ at + size q.site.redex → records ≡ size whole
      → exceeds room whole ≡ false → Placing g t s room (record { place = at; end = end; plan = p; records = records })
  placing room plan e n small = record {
    start = q.start;
    around = around;
    site = q.site;
    planned = plan fires;
    end_is = e;
    whole = whole;
    whole_is = refl;
    count_is = n;
    fits = omega (arith, (within_limits room whole small).1);
    moves_to = ends_moved (properties_of g) (type_at t) (term s) room whole (site_moves (properties_of g) (type_at t) q.site) small;
  }

pub plan_of-plan-requires : goal.plan_of-plan-requires
plan_of-plan-requires c = fires c.requires.sited

pub measure-size-requires : goal.measure-size-requires
measure-size-requires c = ready c.requires.sited c.plan_of-plan.ensures

pub end_of-end-requires : goal.end_of-end-requires
end_of-end-requires c = let q = c.requires.sited in here (redex_at (started q.start) q.site)

pub overflow_add-total : goal.overflow_add-total
overflow_add-total c =
    let q = c.requires.sited in
    let plan = c.plan_of-plan.ensures in
    let m = c.measure-size.ensures (ready q plan) (properties_of c.requires.groups) (type_at c.requires.types) in
    let e = c.end_of-end.ensures _ (redex_at (started q.start) q.site) in
    omega (arith, few q plan m, inside q e, e, bytes q)

pub overflow_sub-total : goal.overflow_sub-total
overflow_sub-total c =
    let q = c.requires.sited in
    omega (arith, inside q (c.end_of-end.ensures _ (redex_at (started q.start) q.site)), c.record_count.ensures)

pub overflow_add-total-2 : goal.overflow_add-total-2
overflow_add-total-2 c =
    let q = c.requires.sited in
    let plan = c.plan_of-plan.ensures in
    let m = c.measure-size.ensures (ready q plan) (properties_of c.requires.groups) (type_at c.requires.types) in
    let e = c.end_of-end.ensures _ (redex_at (started q.start) q.site) in
    omega (arith, few q plan m, inside q e, e, bytes q, c.record_count.ensures)

pub overflow_add-around : goal.overflow_add-around
overflow_add-around c =
    let q = c.requires.sited in
    let plan = c.plan_of-plan.ensures in
    let m = c.measure-size.ensures (ready q plan) (properties_of c.requires.groups) (type_at c.requires.types) in
    omega (arith, few q plan m, m.records, m.deep, depth_size (part q), redex_shallow (started q.start) q.site)

pub returns-then-exceeds : goal.returns-then-exceeds
returns-then-exceeds c g t q =
    let S = properties_of g in
    let tab = type_at t in
    let m = c.measure-size.ensures (ready q c.plan_of-plan.ensures) S tab in
    let n = total q (c.end_of-end.ensures _ (redex_at (started q.start) q.site)) c.record_count.ensures m in
    let big = c.exceeds.ensures ∙ exceeds_is (started q.start) q.site c.args.room _ _ (part q) n m.deep in
    foresees_stop (ap step_records (ends_too_big S tab (term c.args.script.now) c.args.room (whole q) (site_moves S tab q.site) (sym big ∙ c.if-exceeds.true)))

pub returns : goal.returns
returns c g t q =
    let m = c.measure-size.ensures (ready q c.plan_of-plan.ensures) (properties_of g) (type_at t) in
    let e = c.end_of-end.ensures _ (redex_at (started q.start) q.site) in
    let n = total q e c.record_count.ensures m in
    let small = sym (c.exceeds.ensures ∙ exceeds_is (started q.start) q.site c.args.room _ _ (part q) n m.deep) ∙ c.if-exceeds.false in
    foresees_step (placing q c.args.room c.plan_of-plan.ensures e n small)
