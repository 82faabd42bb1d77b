-- The contractum in the place of its redex: what stands on both sides of the gap, and where evaluation goes on.
use Rattle.std.proofs.Common.{◌≡◌, sym, ap, ap₂, ◌∙◌, [], ◌++◌, append-nil, ℕ, ◌+◌, ◌*◌, ◌≤◌, ◌<◌, arith, length, Some}
use Rattle.std.proofs.Common.{subst as transport, IsTrue}
use Rattle.calculus.specs.Security.{Security}
use Rattle.calculus.specs.Terms.{Term, protect, is_value, raise_value}
use Rattle.calculus.specs.Reduction.{Context, plug}
use Rattle.calculus.proofs.Values.{raised_stands}
use Rattle.rules.specs.Answer.{Bytes, Octets}
use Rattle.rules.specs.Limits.{script_width}
use Rattle.rules.specs.Groups.{properties_of}
use Rattle.rules.specs.Types.{type_at}
use Rattle.rules.specs.Script.{encode, size, depth}
use Rattle.records.specs.Place.{At}
use Rattle.records.specs.Labels.{influence_at}
use Rattle.records.proofs.Made.{influence_stands}
use Rattle.records.proofs.Stands.{at_first}
use Rattle.redex.specs.Contexts.{before, after, offset, level}
use Rattle.redex.specs.Fates.{reduces, is_potential_redex, fate, contractum}
use Rattle.redex.proofs.Places.{groups_at, reader_at}
use Rattle.redex.proofs.Plugs.{plug_bytes, plug_size, plug_depth, before_is}
use Rattle.rules.proofs.Octets.{octets_append, octets_drop, octets_take}
use Rattle.memory.specs.Splice.{splice}
use Rattle.substitution.proofs.Reading.{term_length}
use Rattle.contraction.specs.Plans.{Fires, Planned, protection}
use Rattle.contraction.specs.declared.Plan.{Plan}
use Rattle.contraction.specs.declared.Plan.TheVariants.{Part, Raised}
use Rattle.contraction.proofs.Plans.{part_plan, LiftPlan, lift_plan, protect_size, raise_size}
use Rattle.contraction.proofs.Redexes.{left_side}
use Rattle.refocusing.specs.declared.Point.{Point}
use Rattle.refocusing.specs.declared.Focus.TheVariants.{Ahead, Turn, Value}
use Rattle.refocusing.specs.Focus.{Stands, Focused, focus_ahead, focus_turn, focus_value}
use Rattle.refocusing.specs.Contracted.{Foremost, ContractumAhead as WrittenAhead, comes_next}
use Rattle.refocusing.proofs.Gaps.{left_size, whole_octets, put_ahead, put_back}
use Rattle.refocusing.proofs.Runs.{smaller_fits, contracted}
use Rattle.refocusing.proofs.Redexes.{lies_left}

-- The redex e lies left from record `at` on, and the budget isn't spent.
module _ {g t : Bytes} {room budget : ℕ} {whole : Term} {E : Context} {e : Term} {p : Point} {a b : Bytes} (q : Stands g t room budget whole E e (encode e) [] p a b)
    (r : IsTrue (is_potential_redex e)) (f : fate (properties_of g) (type_at t) e ≡ reduces) (l : p.steps < budget) {at : ℕ} (at_is : at ≡ offset E) where
  abbrev S : Security
  S = properties_of g

  abbrev new : Term
  new = contractum S (type_at t) e

  abbrev stands : At a at e
  stands = lies_left q.gap at_is

  abbrev pub fires : Fires a at
  fires = record { tree = e; stands = stands; left = left_side S (type_at t) e r f }

  abbrev pub lift : Planned a e Raised → LiftPlan a at e
  lift plan = lift_plan stands plan

  abbrev pub foremost : {plan : Plan} {around : ℕ} → ((x : Fires a at) → Planned a x.tree plan) → around ≡ level E → Foremost g t at around plan p a b E e
  foremost plan h = record {
    contracts = record { start = q.reached.start; stands = stands; turn = r; goes = f; planned = plan fires };
    gap = q.gap;
    at_is = at_is;
    around_is = h;
  }

  -- to the gap
  pub ends_at_gap : at + size e ≡ p.left
  ends_at_gap = omega (arith, at_is, left_size q.gap, term_length e)

  -- A contractum that is no larger and no deeper takes the redex's place.
  module _ {p' : Point} {a' : Bytes} (right : p'.right ≡ p.right) (step : p'.steps ≡ p.steps + 1) (o : Octets a') (ob : Octets b) where
    in_place : {c : Term} → new ≡ c → size c ≤ size e → depth c ≤ depth e → p'.left ≡ at + size c → a' ≡ splice (script_width * at) (encode c) a
        → Stands g t room budget whole E new (encode new) [] p' a' b
    in_place {c} is s d left w =
        let z = ap size is in
        let y = ap depth is in
        let n : size (plug E new) ≤ size (plug E e) = omega (arith, z, s, plug_size E new, plug_size E e) in
        let m : depth (plug E new) ≤ depth (plug E e) = omega (arith, y, d, plug_depth E new, plug_depth E e) in
        let put : a' ≡ splice (script_width * offset E) (encode new) a =
        w ∙ ap (λ (i : ℕ). splice (script_width * i) (encode c) a) at_is ∙ ap (λ (c : Term). splice (script_width * offset E) (encode c) a) (sym is) in
        let g' = put_back q.gap new (omega (arith, left, at_is, z)) (omega (arith, left, ends_at_gap, s)) right put in
        contracted q r f l (smaller_fits q.reached (plug E new) n m) (whole_octets g' new (append-nil (encode new)) o ob) step g'

    -- a raised value
    pub value_raised : (plan : Planned a e Raised) → p'.left + 1 ≡ p.left
        → a' ≡ splice (script_width * at) (encode (raise_value S (lift plan).value (influence_at a at))) a → Focused g t room budget whole E a' b (Value p')
    value_raised plan left w =
        let v = lift plan in
        let m = influence_at a at in
        let is : new ≡ raise_value S v.value m = v.is S (type_at t) ∙ ap (raise_value S v.value) (sym (influence_stands stands)) in
        let z = raise_size S v.value m in
        focus_value new (transport (λ (x : Term). IsTrue (is_value x)) (sym is) (raised_stands S v.value m v.is_one))
        (in_place is (omega (arith, z.0, v.small)) (omega (arith, z.1, v.shallow)) (omega (arith, left, z.0, v.small, ends_at_gap)) w)

    -- a protected component
    pub part_projected : {x : ℕ} (plan : Planned a e (Part x)) → p'.left ≡ at + 1 + size (part_plan plan).part
        → a' ≡ splice (script_width * at) (encode (protect (protection g a at) (part_plan plan).part)) a → Focused g t room budget whole E a' b (Turn p')
    unfolding is_potential_redex
    part_projected plan left w =
        let v = part_plan plan in
        let m = protection g a at in
        let is : new ≡ protect m v.part =
        v.is S (type_at t) ∙ ap (λ m. protect m v.part) (sym (ap₂ S.influence (groups_at (at_first a at e stands v.operand)) (reader_at stands))) in
        let z = protect_size m v.part in
        focus_turn new (transport (λ (x : Term). IsTrue (is_potential_redex x)) (sym is) (v.value r))
        (in_place is (omega (arith, z.0, v.small)) (omega (arith, z.1, v.shallow)) (omega (arith, left, z.0)) w)

  -- a contractum that comes next
  pub written_ahead : {p' : Point} {b' : Bytes} → WrittenAhead at p E new b (Some p') b' → room ≡ length b → Octets b' → Focused g t room budget whole E a b' (Ahead p')
  written_ahead {p'} {b'} (comes_next s left right step w) h o =
      let g' = put_ahead q.gap new (left ∙ at_is) right w in
      let before_octets : Octets (before E) = transport Octets (before_is E e) (octets_take (script_width * offset E) (encode (plug E e)) q.reached.start.script) in
      let after_octets : Octets (encode new ++ after E) = transport Octets g'.back (octets_drop (script_width * p'.right) b' o) in
      let octets : Octets (encode (plug E new)) =
      transport Octets (sym (plug_bytes E new)) (octets_append (before E) (encode new ++ after E) before_octets after_octets) in
      focus_ahead new (contracted q r f l (rw h s) octets step g')
