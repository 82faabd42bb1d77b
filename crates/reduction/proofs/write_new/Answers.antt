use Rattle.std.proofs.Common.{rules, ◌≡◌, refl, ap, ap₂, ◌∙◌, ◌++◌, ℕ, ◌*◌, ◌-◌, ◌≤◌, arith, length, take, drop}
use Rattle.std.proofs.Common.{length-take-le, subst as transport}
use Rattle.calculus.specs.Terms.{Term}
use Rattle.rules.specs.Answer.{Bytes}
use Rattle.rules.specs.Limits.{script_width}
use Rattle.rules.specs.Groups.{properties_of}
use Rattle.rules.specs.Types.{type_at}
use Rattle.rules.specs.Script.{encode}
use Rattle.redex.specs.Contexts.{before, after}
use Rattle.redex.specs.Fates.{contractum}
use Rattle.redex.proofs.Plugs.{plug_bytes}
use Rattle.memory.specs.Splice.{splice}
use Rattle.memory.specs.Written.{Room, Written}
use Rattle.memory.specs.declared.Writer.{Writer}
use Rattle.memory.proofs.Placed.{then, room_first, room_next}
use Rattle.substitution.proofs.Reading.{term_length}
use Rattle.contraction.specs.Plans.{ContractumRoom}
use Rattle.reduction.specs.Steps.{Placing}
use Rattle.reduction.specs.declared.NextStep.{NextStep}
use Rattle.reduction.proofs.Starts.{started, named_sides}
use Rattle.reduction.proofs.Splices.{redex_at, redex_small, redex_shallow, length_is, end_inside, front_is, rest_is}
use Rattle.reduction.proofs.write_new.Goals as goal
use Rattle.std.specs.Borrow.{MutBor}

module _ {g t s : Bytes} {room : ℕ} {n : NextStep} (q : Placing g t s room n) where
  abbrev new : Term
  new = contractum (properties_of g) (type_at t) q.site.redex

  inside : script_width * n.end ≤ length s
  inside = omega (arith, end_inside (started q.start) q.site n.end q.end_is, length_is (started q.start) q.site)

  at_before : n.place ≤ n.end
  at_before = omega (arith, q.end_is)

  -- the new term's bytes: before the redex, the contractum, after it
  whole_bytes : encode q.whole ≡ before q.site.context ++ (encode new ++ after q.site.context)
  whole_bytes = ap encode q.whole_is ∙ plug_bytes q.site.context new

  begun_room : (out : Writer) {lent : MutBor Bytes} → (out.end ≡ 0) × (out.out ≡ lent) → length lent.now ≡ room
      → Room (before q.site.context ++ (encode new ++ after q.site.context)) out
  begun_room out e l =
      transport (λ (b : Bytes). Room b out) whole_bytes
      (omega (arith, e.0, ap (λ (o : MutBor Bytes). length o.now) e.1, l, q.fits, term_length q.whole))

  front_written : {out out' : Writer} → Written (take (script_width * n.place) s) out out' → Written (before q.site.context) out out'
  front_written {out} {out'} m = transport (λ (b : Bytes). Written b out out') (front_is (started q.start) q.site) m

  -- room for the contractum and what follows it, once the front is written
  next_room : (out : Writer) {out' : Writer} {lent : MutBor Bytes} → (out.end ≡ 0) × (out.out ≡ lent) → length lent.now ≡ room → Written (take (script_width * n.place) s) out out'
      → Room (encode new ++ after q.site.context) out'
  next_room out e l m = room_next (encode new ++ after q.site.context) (front_written m) (begun_room out e l)

  abbrev fit : (out : Writer) → Room (encode new ++ after q.site.context) out → ContractumRoom g t s n.place n.plan out
  fit out r = record {
    order = (started q.start).order;
    ready = record {
      tree = q.site.redex;
      stands = redex_at (started q.start) q.site;
      planned = q.planned;
      small = redex_small (started q.start) q.site;
      shallow = omega (arith, redex_shallow (started q.start) q.site);
    };
    contracts = q.site.goes;
    table = (started q.start).table;
    sides = named_sides (started q.start) (redex_at (started q.start) q.site);
    room = room_first (encode new) (after q.site.context) out r;
  }

  whole_written : {o o₁ o₂ o₃ : Writer} → Written (take (script_width * n.place) s) o o₁ → Written (encode new) o₁ o₂
      → Written (take (length s - script_width * n.end) (drop (script_width * n.end) s)) o₂ o₃ → Written (encode q.whole) o o₃
  whole_written {o₂ = o₂} {o₃ = o₃} m k r =
      rw whole_bytes (then (front_written m) (then k (transport (λ (b : Bytes). Written b o₂ o₃) (rest_is (started q.start) q.site n.end q.end_is) r)))

pub overflow_mul-next : goal.overflow_mul-next
overflow_mul-next c = omega (arith, inside c.requires, at_before c.requires)

pub slice_bounds-put-end : goal.slice_bounds-put-end
slice_bounds-put-end c =
    let l : script_width * c.args.next.place ≤ length c.args.script.now = omega (arith, inside c.requires, at_before c.requires) in
    omega (arith, length-take-le (script_width * c.args.next.place) c.args.script.now l)

pub put-requires : goal.put-requires
put-requires c =
    let q = c.requires in
    rw (front_is (started q.start) q.site) (room_first (before q.site.context) _ c.new-out.result (begun_room q c.new-out.result (c.new-out.ensures.empty, c.new-out.ensures.lent) refl))

pub write_contractum-requires : goal.write_contractum-requires
write_contractum-requires c = fit c.requires c.put.new.self (next_room c.requires c.new-out.result (c.new-out.ensures.empty, c.new-out.ensures.lent) refl c.put.ensures)

pub overflow_mul-next-2 : goal.overflow_mul-next-2
overflow_mul-next-2 c = omega (arith, inside c.requires)

pub slice_bounds-put-count : goal.slice_bounds-put-count
slice_bounds-put-count c = omega (arith, inside c.requires)

pub slice_bounds-put-start : goal.slice_bounds-put-start
slice_bounds-put-start c = omega (arith, inside c.requires)

pub put-requires-2 : goal.put-requires-2
put-requires-2 c =
    let q = c.requires in
    let r = next_room q c.new-out.result (c.new-out.ensures.empty, c.new-out.ensures.lent) refl c.put.ensures in
    rw (rest_is (started q.start) q.site c.args.next.end q.end_is) (room_next _ (c.write_contractum.ensures (fit q c.put.new.self r)) r)

pub returns : goal.returns
returns c q =
    let r = next_room q c.new-out.result (c.new-out.ensures.empty, c.new-out.ensures.lent) refl c.put.ensures in
    let m = whole_written q c.put.ensures (c.write_contractum.ensures (fit q c.put.new.self r)) c.put-2.ensures in
    let h : c.put-2.new.self.out.now ≡ splice 0 (encode q.whole) c.args.written.now =
    m.holds ∙ ap₂ (λ (n : ℕ) (o : MutBor Bytes). splice n (encode q.whole) o.now) c.new-out.ensures.empty c.new-out.ensures.lent in
    search rules
