-- The terms after 0, 1, 2, .. steps of a run: the terms that it reaches.
use Rattle.std.proofs.Common.{◌≡◌, refl, sym, subst, ap, ◌∙◌, ◌↔◌, ℕ, suc, zero, ◌≤◌, ◌<◌, arith}
use Rattle.calculus.specs.Terms.{Term}
use Rattle.rules.specs.Answer.{Bytes, accepted}
use Rattle.rules.specs.Groups.{properties_of}
use Rattle.rules.specs.Types.{type_at}
use Rattle.rules.specs.Script.{encode}
use Rattle.rules.specs.Step.{End, at_value, moves, may_not, wrong_kind, too_big, end_number, step_in}
use Rattle.rules.specs.Run.{Ran, ends, one_step_more, run}
use Rattle.rules.specs.Calls.{types_check}
use Rattle.promises.specs.Runs.{MovesTo, moved_to, Reaches, the_script, after_step}
use Rattle.promises.proofs.Tables.{Tables}
use Rattle.promises.proofs.Checked.{Fit}
use Rattle.promises.proofs.Steps.{moves_inj, fit_steps, fit_step_is, fit_moves}

pub record RunTerms (g t : Bytes) (room budget : ℕ) (s : Bytes) (x : Ran) : Type 0 where
  pub after : ℕ → Bytes
  pub from_script : after 0 ≡ s
  pub each_moves : (i : ℕ) → i < x.steps → MovesTo g t room (after i) (after (suc i))
  pub to_last : after x.steps ≡ encode x.last
  pub reaches : (u : Bytes) → Reaches g t room budget s u ↔ ((i : ℕ) × (i ≤ x.steps) × (u ≡ after i))

-- a term, and then those after it
abbrev one_more : Bytes → (ℕ → Bytes) → ℕ → Bytes
one_more s after zero = s
one_more s after (suc i) = after i

module _ (g t : Bytes) (types : types_check g t ≡ accepted tt) (X : Tables g t) (room : ℕ) where
  abbrev Of : ℕ → Term → Ran → Type 0
  Of budget e x = RunTerms g t room budget (encode e) x

  -- a run without a step
  stays : (budget end : ℕ) (e : Term) → ((u : Bytes) → Reaches g t room budget (encode e) u → u ≡ encode e) → Of budget e (ends end e)
  stays budget end e only = record {
    after = λ i. encode e;
    from_script = refl;
    each_moves = λ i l. absurd (omega arith);
    to_last = refl;
    reaches = λ u. (λ r. (0, omega arith, only u r), λ h. subst (λ (b : Bytes). Reaches g t room budget (encode e) b) (sym h.2) the_script);
  }

  -- without budget only the script is reached
  no_budget : {s u : Bytes} → Reaches g t room 0 s u → u ≡ s
  no_budget the_script = refl

  no_move : {budget : ℕ} {s u : Bytes} (e : Term) → encode e ≡ s → Fit g t e → ((e' : Term) → step_in (properties_of g) (type_at t) room e ≡ moves e' → ⊥)
      → Reaches g t room budget s u → u ≡ s
  no_move e p e' n m = grind (arith, fit_step_is)

  -- a step more
  moved_on : (budget : ℕ) (e e' : Term) (x : Ran) → Fit g t e → step_in (properties_of g) (type_at t) room e ≡ moves e' → Of budget e' x → Of (suc budget) e (one_step_more x)
  moved_on budget e e' x F h T = record {
    after = one_more (encode e) T.after;
    from_script = refl;
    each_moves = each_moves;
    to_last = T.to_last;
    reaches = λ u. (λ r. forth u r, λ w. back u w.0 w.1 w.2);
  }
    where
      moved : MovesTo g t room (encode e) (encode e')
      moved = moved_to (fit_steps g t types X room e F ∙ ap accepted h)

      each_moves : (i : ℕ) → i < suc x.steps → MovesTo g t room (one_more (encode e) T.after i) (T.after i)
      each_moves zero l = subst (λ (b : Bytes). MovesTo g t room (encode e) b) (sym T.from_script) moved
      each_moves (suc i) l = T.each_moves i (omega arith)

      back : (u : Bytes) (i : ℕ) → i ≤ suc x.steps → u ≡ one_more (encode e) T.after i → Reaches g t room (suc budget) (encode e) u
      back u zero l q = subst (λ (b : Bytes). Reaches g t room (suc budget) (encode e) b) (sym q) the_script
      back u (suc i) l q = after_step moved ((T.reaches u).1 (i, omega arith, q))

      forth : (u : Bytes) → Reaches g t room (suc budget) (encode e) u → (i : ℕ) × (i ≤ suc x.steps) × (u ≡ one_more (encode e) T.after i)
      forth u the_script = (0, omega arith, refl)
      forth u (after_step (moved_to {e = e''} m) r) =
          let same : e'' ≡ e' = moves_inj (sym (fit_step_is g t types X room e refl F m) ∙ h) in
          let w = (T.reaches u).0 (subst (λ (b : Term). Reaches g t room budget (encode b) u) same r) in
          (suc w.0, omega (arith, w.1), w.2)

  pub run_terms : (budget : ℕ) (e : Term) → Fit g t e → Of budget e (run (properties_of g) (type_at t) room budget e)
  unfolding run
  run_terms zero e F = stays 0 _ e (λ u r. no_budget r)
  run_terms (suc budget) e F = go (step_in (properties_of g) (type_at t) room e) refl (λ e' h. run_terms budget e' (fit_moves g t types X room e e' F h))
    where
      stopped : (x : End) → step_in (properties_of g) (type_at t) room e ≡ x → (end_number x ≡ 1 → ⊥) → Of (suc budget) e (ends (end_number x) e)
      stopped x h n = stays (suc budget) (end_number x) e (λ u r. no_move e refl F (λ e' m. n (ap end_number (sym h ∙ m))) r)

      go : (x : End) → step_in (properties_of g) (type_at t) room e ≡ x
          → ((e' : Term) → step_in (properties_of g) (type_at t) room e ≡ moves e' → Of budget e' (run (properties_of g) (type_at t) room budget e'))
          → Of (suc budget) e (run (properties_of g) (type_at t) room (suc budget) e)
      go at_value h ih = rw (h, run) (stopped at_value h (λ x. omega arith))
      go (moves e') h ih = rw (h, run) (moved_on budget e e' (run (properties_of g) (type_at t) room budget e') F h (ih e' h))
      go may_not h ih = rw (h, run) (stopped may_not h (λ x. omega arith))
      go wrong_kind h ih = rw (h, run) (stopped wrong_kind h (λ x. omega arith))
      go too_big h ih = rw (h, run) (stopped too_big h (λ x. omega arith))
