-- Accepted by the rules, and least.
use Rattle.std.proofs.Common.{◌≡◌, refl, sym, subst, ap, ◌∙◌, Bool, true, false, cond, ◌↔◌, [], ◌∷◌, ℕ, suc, zero, ◌≤◌}
use Rattle.std.proofs.Common.{min, arith}
use Rattle.std.proofs.Math.Option.{some}
use Rattle.calculus.specs.Security.{Security}
use Rattle.calculus.specs.Types.{Ty}
use Rattle.calculus.specs.Subtyping.{Subtype}
use Rattle.calculus.specs.Terms.{Term, is_value}
use Rattle.calculus.specs.Reduction.{Outcome, value, moved, denied, stuck, step}
use Rattle.calculus.specs.Typing.{infer}
use Rattle.calculus.proofs.Properties.{properties_laws}
use Rattle.calculus.proofs.Values.{value_step}
use Rattle.calculus.proofs.Reduction.{step_value, step_reduces, reduces_step, step_denied, denied_step, step_stuck}
use Rattle.calculus.proofs.Reduction.{stuck_step}
use Rattle.calculus.proofs.SecureTyping.{sc_empty}
use Rattle.calculus.proofs.Soundness.{infer_sound}
use Rattle.calculus.proofs.Completeness.{infer_complete}
use Rattle.rules.specs.Answer.{Bytes, Octets, Answer, accepted, ◌>>◌}
use Rattle.rules.specs.Limits.{work_length, answer_length}
use Rattle.rules.specs.Groups.{properties_of}
use Rattle.rules.specs.Types.{type_at, encode_type}
use Rattle.rules.specs.Script.{encode, term}
use Rattle.rules.specs.Typing.{typing}
use Rattle.rules.specs.Step.{End, at_value, moves, may_not, wrong_kind, too_big, exceeds, end_of_outcome, step_in}
use Rattle.rules.specs.Step.{end_number}
use Rattle.rules.specs.Run.{Ran, run, ends}
use Rattle.rules.specs.Calls.{types_check, script_check, check_call, type_bytes, step_call, run_call}
use Rattle.rules.specs.Reach.{verdict, Accepted}
use Rattle.rules.proofs.Scripts.{term_encode}
use Rattle.promises.specs.Runs.{moved_to, Repeats, spent_on_value, spent, stops, goes_on}
use Rattle.promises.specs.Promises.{AcceptedByTheRules, Typed}
use Rattle.promises.proofs.Answers.{accepted_inj}
use Rattle.rules.proofs.Asked.{and_then}
use Rattle.promises.proofs.Tables.{Tables}
use Rattle.promises.proofs.TypesTable.{tables}
use Rattle.promises.proofs.Inference.{forget, agree}
use Rattle.promises.proofs.Steps.{limited_moves, limited_too_big, limited_value, limited_may_not, limited_wrong_kind}
use Rattle.promises.proofs.Steps.{fit_steps, fit_step_is, fit_moves}
use Rattle.promises.proofs.Checked.{Fit, Passed, script_passed}

pub found_accepted : {A : Type 0} (m : Answer A) {a : A} → forget m ≡ some a → m ≡ accepted a
found_accepted m e = grind arith

-- a question answered yes goes on
pub goes : {A : Type 0} (m : Answer (Unit {0})) (n : Answer A) → m ≡ accepted tt → ◌>>◌ m n ≡ n
goes m n h = rw h

-- longer buffers than question 1 asks answer as those that it asks
pub longer_same : (g t s : Bytes) (work answer : ℕ) → work_length ≤ work → answer_length ≤ answer → check_call work answer g t s ≡ verdict g t s
unfolding check_call
longer_same g t s work answer l m = grind arith

module _ (g t s : Bytes) (octets_g : Octets g) (octets_s : Octets s) where
  abbrev S : Security
  S = properties_of g

  abbrev tab : ℕ → Ty
  tab = type_at t

  passed : script_check [] g t s ≡ accepted tt → Passed [] g t s
  passed = script_passed [] g t s octets_s

  known : script_check [] g t s ≡ accepted tt → Tables g t
  known q = tables g t octets_g (passed q).types

  same_type : script_check [] g t s ≡ accepted tt → forget (typing S tab [] 0 (term s)) ≡ infer S tab [] (term s)
  same_type q = agree g t (known q).sums (known q).functions (known q).units [] 0 (term s) (passed q).fit.formed

  -- the verdict is typing's answer
  goes_typing : script_check [] g t s ≡ accepted tt → verdict g t s ≡ typing S tab [] 0 (term s)
  unfolding check_call
  goes_typing q = goes (script_check [] g t s) (typing S tab [] 0 (term s)) q

  verdict_parts : (type : Ty) → Accepted g t s type → (script_check [] g t s ≡ accepted tt) × (typing S tab [] 0 (term s) ≡ accepted type)
  unfolding check_call
  verdict_parts type a = and_then (script_check [] g t s) (typing S tab [] 0 (term s)) a

  accepts : script_check [] g t s ≡ accepted tt → (type : Ty) → Typed g t s type → (least : Ty) × Accepted g t s least × Subtype S least type
  accepts q type h =
      let X = known q in
      let c = infer_complete (properties_laws X.lattice) X.table (term s) type sc_empty h in
      (c.0, goes_typing q ∙ found_accepted (typing S tab [] 0 (term s)) (same_type q ∙ c.1), c.2)

  -- the reported type is the one that is inferred
  pub reported : (type : Ty) → Accepted g t s type → (script_check [] g t s ≡ accepted tt) × (infer S tab [] (term s) ≡ some type)
  reported type a = let p = verdict_parts type a in (p.0, sym (same_type p.0) ∙ ap forget p.1)

  pub only : (type : Ty) → Accepted g t s type → (script_check [] g t s ≡ accepted tt) × Typed g t s type
  only type a =
      let p = reported type a in
      let X = known p.0 in
      (p.0, infer_sound (properties_laws X.lattice) X.table (term s) type sc_empty p.1)

  reports : (type : Ty) → Accepted g t s type → type_bytes (verdict g t s) ≡ accepted (encode_type type)
  unfolding type_bytes
  reports type a = rw a

  -- a step whose questions are answered yes
  steps_as : (room : ℕ) → script_check [] g t s ≡ accepted tt → step_call g t s room ≡ accepted (end_of_outcome room (step S tab (term s)))
  unfolding step_call step_in
  steps_as room q = goes (script_check [] g t s) (accepted (end_of_outcome room (step S tab (term s)))) q

  ended : (room : ℕ) (x : End) → script_check [] g t s ≡ accepted tt → step_call g t s room ≡ accepted x → end_of_outcome room (step S tab (term s)) ≡ x
  ended room x q h = accepted_inj (sym (steps_as room q) ∙ h)

  ends_so : (room : ℕ) (o : Outcome) → script_check [] g t s ≡ accepted tt → step S tab (term s) ≡ o → step_call g t s room ≡ accepted (end_of_outcome room o)
  ends_so room o q h = steps_as room q ∙ ap (λ (x : Outcome). accepted (end_of_outcome room x)) h

  sized : (room : ℕ) (e : Term) (b : Bool) → exceeds room e ≡ b → accepted (end_of_outcome room (moved e)) ≡ accepted (cond b too_big (moves e))
  sized room e b h = rw h

-- repeating the step
module _ (g t : Bytes) (types : types_check g t ≡ accepted tt) (X : Tables g t) (room : ℕ) where
  abbrev after : ℕ → Term → Ran
  after budget e = run (properties_of g) (type_at t) room budget e

  abbrev Repeated : ℕ → Term → Ran → Type 0
  Repeated budget e x = Repeats g t room budget (encode e) x.end x.steps (encode x.last)

  pub repeated : (budget : ℕ) (e : Term) → Fit g t e → Repeated budget e (after budget e)
  unfolding run
  repeated zero e F = go (is_value e) refl
    where
      go : (b : Bool) → is_value e ≡ b → Repeated 0 e (ends (cond b 0 1) e)
      go true v = spent_on_value (ap is_value (term_encode e) ∙ v)
      go false v = spent (ap is_value (term_encode e) ∙ v)
  repeated (suc budget) e F = go (step_in (properties_of g) (type_at t) room e) refl (λ e' h. repeated budget e' (fit_moves g t types X room e e' F h))
    where
      stopped : (x : End) → step_in (properties_of g) (type_at t) room e ≡ x → (end_number x ≡ 1 → ⊥) → Repeated (suc budget) e (ends (end_number x) e)
      stopped x h n = stops (fit_steps g t types X room e F ∙ ap accepted h) n

      go : (x : End) → step_in (properties_of g) (type_at t) room e ≡ x → ((e' : Term) → step_in (properties_of g) (type_at t) room e ≡ moves e' → Repeated budget e' (after budget e'))
          → Repeated (suc budget) e (after (suc budget) e)
      go at_value h ih = rw (h, run) (stopped at_value h (λ x. omega arith))
      go (moves e') h ih = rw (h, run) (goes_on (moved_to (fit_steps g t types X room e F ∙ ap accepted h)) (ih e' h))
      go may_not h ih = rw (h, run) (stopped may_not h (λ x. omega arith))
      go wrong_kind h ih = rw (h, run) (stopped wrong_kind h (λ x. omega arith))
      go too_big h ih = rw (h, run) (stopped too_big h (λ x. omega arith))

  -- and nothing else repeats it
  abbrev Same : ℕ → ℕ → Bytes → Ran → Type 0
  Same end steps last x = (end ≡ x.end) × (steps ≡ x.steps) × (last ≡ encode x.last)

  spent_is : (e : Term) (b : Bool) {s : Bytes} → encode e ≡ s → is_value (term s) ≡ b → Same (cond b 0 1) 0 s (after 0 e)
  unfolding run
  spent_is e b p v = (ap (λ (x : Bool). cond x 0 1) (sym v ∙ ap (λ (y : Bytes). is_value (term y)) (sym p) ∙ ap is_value (term_encode e)), refl, sym p)

  stop_is : (budget : ℕ) (e : Term) (x : End) {s : Bytes} → encode e ≡ s → step_in (properties_of g) (type_at t) room e ≡ x → (end_number x ≡ 1 → ⊥)
      → Same (end_number x) 0 s (after (suc budget) e)
  unfolding run
  stop_is budget e (moves e') p h n = absurd (n refl)
  stop_is budget e _ p h n = rw (h, run) (refl, refl, sym p)

  move_is : (budget : ℕ) (e e' : Term) {end steps : ℕ} {last : Bytes} → step_in (properties_of g) (type_at t) room e ≡ moves e'
      → Same end steps last (after budget e') → Same end (suc steps) last (after (suc budget) e)
  unfolding run
  move_is budget e e' h d = rw (h, run) (d.0, ap suc d.1, d.2)

  pub repeats_once : {budget end steps : ℕ} {s last : Bytes} → Repeats g t room budget s end steps last → (e : Term) → encode e ≡ s → Fit g t e
      → Same end steps last (after budget e)
  repeats_once (spent_on_value v) e p F = spent_is e true p v
  repeats_once (spent v) e p F = spent_is e false p v
  repeats_once (stops {budget} {s} {x} h n) e p F = stop_is budget e x p (fit_step_is g t types X room e p F h) n
  repeats_once (goes_on {budget} (moved_to {e = e'} h) r) e p F =
      let m = fit_step_is g t types X room e p F h in
      move_is budget e e' m (repeats_once r e' refl (fit_moves g t types X room e e' F m))

runs_so : (g t s : Bytes) → Octets g → Octets s → (budget first scratch : ℕ) (ran : Ran) → run_call g t s budget first scratch ≡ accepted ran
    → (end steps : ℕ) (last : Bytes)
    → Repeats g t (min first scratch) budget s end steps last ↔ ((end ≡ ran.end) × (steps ≡ ran.steps) × (last ≡ encode ran.last))
unfolding run_call
runs_so g t s octets_g octets_s budget first scratch ran h end steps last =
    let p = and_then (script_check (first ∷ scratch ∷ []) g t s) _ h in
    let P = script_passed (first ∷ scratch ∷ []) g t s octets_s p.0 in
    let X = tables g t octets_g P.types in
    let room = min first scratch in
    let x = after g t P.types X room budget (term s) in
    subst (λ (x : Ran). Repeats g t room budget s end steps last ↔ Same g t P.types X room end steps last x) (accepted_inj p.1) (
      λ r. repeats_once g t P.types X room r (term s) P.encoded P.fit,
      λ d.
          rw (d.0, d.1, d.2)
          (subst (λ (b : Bytes). Repeats g t room budget b x.end x.steps (encode x.last)) P.encoded
          (repeated g t P.types X room budget (term s) P.fit)),
    )

pub accepted_by_the_rules : (g t s : Bytes) → Octets g → Octets s → AcceptedByTheRules g t s
accepted_by_the_rules g t s G O = record {
  accepts = accepts g t s G O;
  only = only g t s G O;
  reports = reports g t s G O;
  encoded = λ q. (passed g t s G O q).encoded;
  moves_when = λ room e q. (
    λ h. let m = limited_moves room _ e (ended g t s G O room (moves e) q h) in (step_reduces (properties_of g) (type_at t) (term s) e m.0, m.1),
    λ h. ends_so g t s G O room (moved e) q (reduces_step (properties_of g) (type_at t) h.0) ∙ sized g t s G O room e false h.1,
  );
  too_big_when = λ room q. (
    λ h. let m = limited_too_big room _ (ended g t s G O room too_big q h) in (m.0, step_reduces (properties_of g) (type_at t) (term s) m.0 m.1, m.2),
    λ h. ends_so g t s G O room (moved h.0) q (reduces_step (properties_of g) (type_at t) h.1) ∙ sized g t s G O room h.0 true h.2,
  );
  value_when = λ room q. (
    λ h. step_value (properties_of g) (type_at t) (term s) (limited_value room _ (ended g t s G O room at_value q h)),
    λ v. ends_so g t s G O room value q (value_step (properties_of g) (type_at t) (term s) v),
  );
  wrong_when = λ room q. (
    λ h. step_stuck (properties_of g) (type_at t) (term s) (limited_wrong_kind room _ (ended g t s G O room wrong_kind q h)),
    λ a. ends_so g t s G O room stuck q (stuck_step (properties_of g) (type_at t) a),
  );
  denied_when = λ room q. (
    λ h. step_denied (properties_of g) (type_at t) (term s) (limited_may_not room _ (ended g t s G O room may_not q h)),
    λ a. ends_so g t s G O room denied q (denied_step (properties_of g) (type_at t) a),
  );
  repeats = runs_so g t s G O;
}
