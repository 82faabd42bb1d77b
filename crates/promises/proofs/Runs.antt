-- Whole runs on trees: a typed term's run never ends 2 or 3, and the erased run does the same.
use Rattle.std.proofs.Common.{◌≡◌, refl, ap, ◌∙◌, Bool, true, false, cond, [], ℕ, suc, zero, arith}
use Rattle.calculus.specs.Security.{Security, Laws}
use Rattle.calculus.specs.Types.{Ty}
use Rattle.calculus.specs.Terms.{Term, is_value}
use Rattle.calculus.specs.Reduction.{Outcome, value, moved, denied, stuck, step}
use Rattle.calculus.specs.Typing.{HasType, Table}
use Rattle.calculus.proofs.Reduction.{step_reduces}
use Rattle.calculus.proofs.Preservation.{preservation}
use Rattle.calculus.proofs.Progress.{never_denied, never_stuck}
use Rattle.calculus.proofs.Erasure.{erase_value, OneGroup, typed_erase_step}
use Rattle.calculus.proofs.Erased.{erase_t, erase, erase_o}
use Rattle.rules.specs.Step.{exceeds, step_in}
use Rattle.rules.specs.Run.{Ran, one_step_more, run}
use Rattle.promises.proofs.Stripping.{erase_size, erase_depth}

-- the two ends that a run of an accepted script never has
pub record Safe (end : ℕ) : Type 0 where
  pub not_2 : end ≡ 2 → ⊥
  pub not_3 : end ≡ 3 → ⊥

safe_0 : Safe 0
safe_0 = record { not_2 = λ e. omega arith; not_3 = λ e. omega arith }

safe_1 : Safe 1
safe_1 = record { not_2 = λ e. omega arith; not_3 = λ e. omega arith }

safe_4 : Safe 4
safe_4 = record { not_2 = λ e. omega arith; not_3 = λ e. omega arith }

pub exceeds_erase : (room : ℕ) (e : Term) → exceeds room (erase e) ≡ exceeds room e
unfolding exceeds
exceeds_erase room e = rw (erase_size e, erase_depth e)

abbrev pub erase_ran : Ran → Ran
erase_ran x = record { end = x.end; steps = x.steps; last = erase x.last }

module _ {S : Security} {tab : ℕ → Ty} (L : Laws S) (T : Table S tab) where
  -- the term after a step that moved has the type
  pub moved_typed : (e e' : Term) (t : Ty) → HasType S tab [] e t → step S tab e ≡ moved e' → HasType S tab [] e' t
  moved_typed e e' t h m = preservation L T h (step_reduces S tab e e' m)

  pub run_safe : (room budget : ℕ) (e : Term) (t : Ty) → HasType S tab [] e t → Safe (run S tab room budget e).end
  unfolding run step_in
  run_safe room zero e t h = pick (is_value e)
    where
      pick : (b : Bool) → Safe (cond b 0 1)
      pick true = safe_0
      pick false = safe_1
  run_safe room (suc budget) e t h = go (step S tab e) refl (λ e' m. run_safe room budget e' t (moved_typed e e' t h m))
    where
      big : (b : Bool) (e' : Term) (m : step S tab e ≡ moved e') (x : exceeds room e' ≡ b) → Safe (run S tab room budget e').end → Safe (run S tab room (suc budget) e).end
      big true e' m x ih = rw (m, x, run, step_in) safe_4
      big false e' m x ih = rw (m, x, run, step_in) ih

      go : (o : Outcome) → step S tab e ≡ o → ((e' : Term) → step S tab e ≡ moved e' → Safe (run S tab room budget e').end)
          → Safe (run S tab room (suc budget) e).end
      go value m ih = rw (m, run, step_in) safe_0
      go (moved e') m ih = big (exceeds room e') e' m refl (ih e' m)
      go denied m ih = absurd (never_denied L T h m)
      go stuck m ih = absurd (never_stuck L T h m)

  module _ {S' : Security} {tab' : ℕ → Ty} (O : OneGroup S') (erased : (i : ℕ) → tab' i ≡ erase_t (tab i)) where
    pub run_erased : (room budget : ℕ) (e : Term) (t : Ty) → HasType S tab [] e t → run S' tab' room budget (erase e) ≡ erase_ran (run S tab room budget e)
    unfolding run step_in
    run_erased room zero e t h = rw (erase_value e)
    run_erased room (suc budget) e t h = go (step S tab e) refl (λ e' m. run_erased room budget e' t (moved_typed e e' t h m))
      where
        same : (o : Outcome) → step S tab e ≡ o → step S' tab' (erase e) ≡ erase_o o
        same o m = typed_erase_step S S' O tab tab' erased L T e t h ∙ ap erase_o m

        big : (b : Bool) (e' : Term) (m : step S tab e ≡ moved e') (x : exceeds room e' ≡ b) → run S' tab' room budget (erase e') ≡ erase_ran (run S tab room budget e')
            → run S' tab' room (suc budget) (erase e) ≡ erase_ran (run S tab room (suc budget) e)
        big true e' m x ih = rw (same (moved e') m, m, exceeds_erase room e', x, run, step_in)
        big false e' m x ih = rw (same (moved e') m, m, exceeds_erase room e', x, run, step_in) (ap one_step_more ih)

        go : (o : Outcome) → step S tab e ≡ o → ((e' : Term) → step S tab e ≡ moved e' → run S' tab' room budget (erase e') ≡ erase_ran (run S tab room budget e'))
            → run S' tab' room (suc budget) (erase e) ≡ erase_ran (run S tab room (suc budget) e)
        go value m ih = rw (same value m, m, run, step_in)
        go (moved e') m ih = big (exceeds room e') e' m refl (ih e' m)
        go denied m ih = absurd (never_denied L T h m)
        go stuck m ih = absurd (never_stuck L T h m)
