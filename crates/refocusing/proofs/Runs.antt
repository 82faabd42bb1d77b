-- A run goes on: what a step of the term in a context does to the run that is left of it, and how the run ends.
use Rattle.std.proofs.Common.{◌≡◌, refl, sym, ap, ◌∙◌, Bool, true, false, cond, ◌++◌, ℕ, suc, ◌+◌, ◌-◌, ◌*◌, ◌≤◌, ◌<◌}
use Rattle.std.proofs.Common.{arith, nat_lt, Option, Some, None, Err, subst as transport, lt-ltb, le-ltb, IsTrue}
use Rattle.std.proofs.Math.Decide.{dec_lt}
use Rattle.calculus.specs.Security.{Security}
use Rattle.calculus.specs.Types.{Ty}
use Rattle.calculus.specs.Terms.{Term, is_value}
use Rattle.calculus.specs.Reduction.{Context, plug, value, step}
use Rattle.calculus.proofs.Outcomes.{within}
use Rattle.calculus.proofs.Values.{value_step}
use Rattle.rules.specs.Answer.{Bytes, Octets}
use Rattle.rules.specs.Limits.{script_width}
use Rattle.rules.specs.Groups.{properties_of}
use Rattle.rules.specs.Types.{type_at}
use Rattle.rules.specs.Script.{encode, size, depth}
use Rattle.rules.specs.Step.{moves, exceeds, end_of_outcome, step_in, End}
use Rattle.rules.specs.Run.{Ran, ends, one_step_more, run}
use Rattle.rules.proofs.Scripts.{term_encode}
use Rattle.promises.proofs.Checked.{Fit}
use Rattle.promises.proofs.Steps.{limited_moves, within_limits, fit_moves}
use Rattle.redex.specs.Fates.{Fate, reduces, not_permitted, no_rule as of_wrong_kind, is_potential_redex, fate}
use Rattle.redex.specs.Fates.{contractum}
use Rattle.redex.specs.Found.{answer}
use Rattle.redex.proofs.Turns.{plug_turn, plug_moves}
use Rattle.redex.proofs.FateOutcome.{fate_outcome}
use Rattle.reduction.specs.declared.Stop.{Stop}
use Rattle.reduction.specs.declared.Stop.TheVariants.{Value, TooBig}
use Rattle.reduction.specs.Steps.{Startable, step_records, stop_number, reported_end}
use Rattle.reduction.proofs.Starts.{started, formed_startable}
use Rattle.reduction.proofs.Ends.{ends_too_big}
use Rattle.refocusing.specs.declared.Point.{Point}
use Rattle.refocusing.specs.declared.Ended.{Ended}
use Rattle.refocusing.specs.Gap.{Gap}
use Rattle.refocusing.specs.Focus.{later, RunReaches, Stands, EndedRun}
use Rattle.refocusing.specs.Contracted.{why_not}
use Rattle.refocusing.proofs.Refocusing.{run_moves, refocusing}
use Rattle.refocusing.proofs.Gaps.{whole_bytes}

-- The runs of a term: it moves, it doesn't, its budget is spent, and it is a value.
module _ (S : Security) (tab : ℕ → Ty) (room : ℕ) where
  run_stops : (n : ℕ) (e : Term) (stop : Stop) → step_records (step_in S tab room e) ≡ Err stop → run S tab room (suc n) e ≡ ends (stop_number stop) e
  unfolding run
  run_stops n e stop h = grind arith

  run_spent : (e : Term) → is_value e ≡ false → run S tab room 0 e ≡ ends 1 e
  unfolding run
  run_spent e h = rw h

  run_value : (n : ℕ) (e : Term) → IsTrue (is_value e) → run S tab room n e ≡ ends 0 e
  unfolding run step_in
  run_value n e h = grind (arith, run_stops, value_step)

later_none : (x : Ran) → x ≡ later 0 x
later_none x = grind arith

later_more : (k : ℕ) (x : Ran) → later k (one_step_more x) ≡ later (k + 1) x
later_more k x = grind arith

pub begun : {g t : Bytes} {room : ℕ} (budget : ℕ) (e : Term) → Startable g t (encode e) → script_width * size e ≤ room → RunReaches g t room budget e e 0
begun {g} {t} {room} budget e q f =
    let z : budget ≡ budget - 0 = omega arith in
    let r = run (properties_of g) (type_at t) room in
    record { start = q; fits = f; made = omega arith; is = later_none (r budget e) ∙ ap (λ (m : ℕ). later 0 (r m e)) z }

module _ {g t : Bytes} {room budget : ℕ} {whole e : Term} {k : ℕ} (q : RunReaches g t room budget whole e k) where
  abbrev S : Security
  S = properties_of g

  abbrev tab : ℕ → Ty
  tab = type_at t

  pub reached_fit : Fit g t e
  reached_fit = transport (λ (x : Term). Fit g t x) (term_encode e) (started q.start).fit

  pub advanced : (e' : Term) → k < budget → step_in S tab room e ≡ moves e' → Octets (encode e') → RunReaches g t room budget whole e' (k + 1)
  unfolding step_in
  advanced e' l h o =
      let st = started q.start in
      let f = within_limits room e' (limited_moves room (step S tab e) e' h).1 in
      let z : budget - k ≡ suc (budget - (k + 1)) = omega arith in
      record {
        start = formed_startable (encode e') q.start.groups o st.types st.tables e' (fit_moves g t st.types st.tables room e e' reached_fit h) refl;
        fits = omega (arith, f.1);
        made = omega (arith, l);
        is = q.is ∙ ap (λ (m : ℕ). later k (run S tab room m e)) z ∙ ap (later k) (run_moves S tab room (budget - (k + 1)) e e' h)
            ∙ later_more k (run S tab room (budget - (k + 1)) e');
      }

  pub run_of_value : IsTrue (is_value e) → run S tab room budget whole ≡ later k (ends (reported_end (Some Value)) e)
  run_of_value h = q.is ∙ ap (later k) (run_value S tab room (budget - k) e h)

  pub run_stopped : (stop : Stop) → k < budget → step_records (step_in S tab room e) ≡ Err stop → run S tab room budget whole ≡ later k (ends (reported_end (Some stop)) e)
  run_stopped stop l h =
      let z : budget - k ≡ suc (budget - (k + 1)) = omega arith in
      q.is ∙ ap (λ (m : ℕ). later k (run S tab room m e)) z ∙ ap (later k) (run_stops S tab room (budget - (k + 1)) e stop h)

  pub run_at_budget : k ≡ budget → is_value e ≡ false → run S tab room budget whole ≡ later k (ends (reported_end None) e)
  run_at_budget l h =
      let z : budget - k ≡ 0 = omega arith in
      q.is ∙ ap (λ (m : ℕ). later k (run S tab room m e)) z ∙ ap (later k) (run_spent S tab room e h)

  -- What is no larger and no deeper than a term that has room has room.
  pub smaller_fits : (e' : Term) → size e' ≤ size e → depth e' ≤ depth e → exceeds room e' ≡ false
  unfolding exceeds
  smaller_fits e' l d = grind (arith, le-ltb, reached_fit)

-- A node whose turn it is, in a context.
module _ (S : Security) (tab : ℕ → Ty) (room : ℕ) (E : Context) (e : Term) (h : IsTrue (is_potential_redex e)) where
  step_of : (x : Fate) → fate S tab e ≡ x → step S tab (plug E e) ≡ within (plug E) (fate_outcome x (contractum S tab e))
  step_of x f = plug_turn S tab E e h ∙ ap (λ (x : Fate). within (plug E) (fate_outcome x (contractum S tab e))) f

  pub no_value : is_value (plug E e) ≡ false
  no_value = by (is_value (plug E e)) refl
    where
      moving : (x : Fate) → value ≡ within (plug E) (fate_outcome x (contractum S tab e)) → ⊥
      moving reduces k = let z : ◌≡◌ {A = ℕ} 0 1 = cc in absurd (omega arith)
      moving not_permitted k = let z : ◌≡◌ {A = ℕ} 0 1 = cc in absurd (omega arith)
      moving of_wrong_kind k = let z : ◌≡◌ {A = ℕ} 0 1 = cc in absurd (omega arith)

      by : (b : Bool) → is_value (plug E e) ≡ b → b ≡ false
      by false v = refl
      by true v = absurd (moving (fate S tab e) (sym (value_step S tab (plug E e) v) ∙ step_of (fate S tab e) refl))

  -- what is said of the node is said of the step
  pub turn_told : {stop : Stop} (i d : ℕ) → why_not (answer (fate S tab e) i d) ≡ Some stop → step_records (step_in S tab room (plug E e)) ≡ Err stop
  unfolding step_in
  turn_told {stop} i d k = by (fate S tab e) refl k
    where
      by : (x : Fate) → fate S tab e ≡ x → why_not (answer x i d) ≡ Some stop → step_records (end_of_outcome room (step S tab (plug E e))) ≡ Err stop
      by reduces f k = absurd cc
      by not_permitted f k = ap (λ o. step_records (end_of_outcome room o)) (step_of not_permitted f) ∙ cc
      by of_wrong_kind f k = ap (λ o. step_records (end_of_outcome room o)) (step_of of_wrong_kind f) ∙ cc

  pub turn_goes : (i d : ℕ) → why_not (answer (fate S tab e) i d) ≡ None → fate S tab e ≡ reduces
  turn_goes i d k = grind arith

  pub turn_too_big : fate S tab e ≡ reduces → exceeds room (plug E (contractum S tab e)) ≡ true → step_records (step_in S tab room (plug E e)) ≡ Err TooBig
  turn_too_big f x = ap step_records (ends_too_big S tab (plug E e) room _ (plug_moves S tab E e h f) x)

-- the same end, told field by field
pub ended_as : {g t : Bytes} {room budget : ℕ} {whole : Term} {a b : Bytes} {stop : Option Stop} {p : Point} (x : Ended) → (x.stop ≡ stop) × (x.point ≡ p)
    → EndedRun g t room budget whole a b (record { stop = stop; point = p }) → EndedRun g t room budget whole a b x
ended_as {g} {t} {room} {budget} {whole} {a} {b} x h q =
    transport (λ (x : Ended). EndedRun g t room budget whole a b x) (sym (λ i. record { stop = h.0 i; point = h.1 i })) q

-- What stands on both sides of the gap is the last term of a run that ends here,
module _ {g t : Bytes} {room budget : ℕ} {whole : Term} {E : Context} {e : Term} {x y : Bytes} {p : Point} {a b : Bytes}
    (q : Stands g t room budget whole E e x y p a b) (h : x ++ y ≡ encode e) where
  pub ended : (stop : Option Stop) → run (properties_of g) (type_at t) room budget whole ≡ later p.steps (ends (reported_end stop) (plug E e))
      → EndedRun g t room budget whole a b (record { stop = stop; point = p })
  ended stop r =
      record {
        last = plug E e;
        is = r;
        holds = whole_bytes q.gap e h;
        inside_a = q.gap.inside_a;
        inside_b = q.gap.inside_b;
        fits = q.reached.fits;
      }

  -- and where it is e's turn it ends for this reason, unless its budget is spent.
  pub turn_ended : (stop : Stop) → IsTrue (is_potential_redex e) → step_records (step_in (properties_of g) (type_at t) room (plug E e)) ≡ Err stop
      → EndedRun g t room budget whole a b (record { stop = cond (nat_lt p.steps budget) (Some stop) None; point = p })
  turn_ended stop n k = by (dec_lt p.steps budget)
    where
      by : Dec (p.steps < budget) → EndedRun g t room budget whole a b (record { stop = cond (nat_lt p.steps budget) (Some stop) None; point = p })
      by (yes l) = rw (lt-ltb p.steps budget l) (ended (Some stop) (run_stopped q.reached stop l k))
      by (no m) =
          rw (le-ltb p.steps budget (omega arith))
          (ended None (run_at_budget q.reached (omega (arith, q.reached.made)) (no_value (properties_of g) (type_at t) room E e n)))

-- A run goes on from the contractum.
pub contracted : {g t : Bytes} {room budget : ℕ} {whole : Term} {E : Context} {e : Term} {x y x' y' : Bytes} {p p' : Point} {a b a' b' : Bytes}
    → Stands g t room budget whole E e x y p a b → IsTrue (is_potential_redex e) → fate (properties_of g) (type_at t) e ≡ reduces → p.steps < budget
    → exceeds room (plug E (contractum (properties_of g) (type_at t) e)) ≡ false → Octets (encode (plug E (contractum (properties_of g) (type_at t) e)))
    → p'.steps ≡ p.steps + 1 → Gap E x' y' p' a' b' → Stands g t room budget whole E (contractum (properties_of g) (type_at t) e) x' y' p' a' b'
contracted {g} {t} {room} {budget} {whole} {E} {e} q n f l s o k gap =
    let S = properties_of g in
    let tab = type_at t in
    let c = contractum S tab e in
    record {
      reached = transport (λ (n : ℕ). RunReaches g t room budget whole (plug E c) n) (sym k)
          (advanced q.reached (plug E c) l ((refocusing S tab).continues room E e n f s) o);
      gap = gap;
    }
