-- Too big is judged by whole records: a run in a buffer is a run in as many bytes as its whole records have.
use Rattle.std.proofs.Common.{◌≡◌, refl, ap, ◌∙◌, ◌||◌, ℕ, zero, suc, ◌*◌, ◌/◌, ◌≤◌, arith, nat_lt, length, take}
use Rattle.std.proofs.Common.{length-take-le, take-take}
use Rattle.calculus.specs.Security.{Security}
use Rattle.calculus.specs.Types.{Ty}
use Rattle.calculus.specs.Terms.{Term}
use Rattle.calculus.specs.Reduction.{Outcome, value, moved, denied, stuck, step}
use Rattle.rules.specs.Limits.{script_width, script_limit, depth_limit}
use Rattle.rules.specs.Answer.{Bytes}
use Rattle.rules.specs.Groups.{properties_of}
use Rattle.rules.specs.Types.{type_at}
use Rattle.rules.specs.Script.{term, size, depth}
use Rattle.rules.specs.Step.{End, at_value, moves, may_not, wrong_kind, too_big, exceeds, end_of_outcome, step_in}
use Rattle.rules.specs.Run.{one_step_more, run}
use Rattle.evaluation.specs.Runs.{front_term, Loaded}

module _ (S : Security) (tab : ℕ → Ty) (room room' : ℕ) (h : room / script_width ≡ room' / script_width) where
  same_limits : (e : Term) → exceeds room e ≡ exceeds room' e
  unfolding exceeds
  same_limits e = ap (λ n. nat_lt script_limit (size e) || (nat_lt n (size e) || nat_lt depth_limit (depth e))) h

  same_end : (x : Outcome) → end_of_outcome room x ≡ end_of_outcome room' x
  same_end (moved e) = rw (same_limits e)
  same_end _ = refl

  same_step : (e : Term) → step_in S tab room e ≡ step_in S tab room' e
  unfolding step_in
  same_step e = same_end (step S tab e)

  pub same_run : (budget : ℕ) (e : Term) → run S tab room budget e ≡ run S tab room' budget e
  unfolding run
  same_run zero e = refl
  same_run (suc n) e = by (λ x. same_run n x) (step_in S tab room' e) refl
    where
      by : ((x : Term) → run S tab room n x ≡ run S tab room' n x) → (x : End) → step_in S tab room' e ≡ x → run S tab room (suc n) e ≡ run S tab room' (suc n) e
      by h (moves e') q = rw (same_step e, q, run) (ap one_step_more (h e'))
      by h _ q = rw (same_step e, q, run)

-- the term at the front of a buffer, and its run, within the whole records of its room
module _ {g t a : Bytes} {n room : ℕ} (q : Loaded g t a n room) (inside : room ≤ length a) (k : ℕ) (whole : k ≡ script_width * (room / script_width)) where
  pub front_within : front_term (take k a) n ≡ front_term a n
  front_within = ap term (take-take (script_width * n) k a (omega (arith, q.fits)))

  pub run_within : (budget : ℕ) → run (properties_of g) (type_at t) (length (take k a)) budget (front_term (take k a) n)
      ≡ run (properties_of g) (type_at t) room budget (front_term a n)
  run_within budget =
      let l : length (take k a) ≡ k = length-take-le k a (omega arith) in
      same_run (properties_of g) (type_at t) (length (take k a)) room (omega arith) budget (front_term (take k a) n)
      ∙ ap (run (properties_of g) (type_at t) room budget) front_within
