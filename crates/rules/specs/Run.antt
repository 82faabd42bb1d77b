-- A run repeats steps (manual, 6.5).
use Rattle.std.specs.Prelude.{if◌then◌else◌, ℕ, suc, zero}
use Rattle.calculus.specs.Security.{Security}
use Rattle.calculus.specs.Types.{Ty}
use Rattle.calculus.specs.Terms.{Term, is_value}
use Rattle.rules.specs.Step.{at_value, moves, may_not, wrong_kind, too_big, end_number, step_in}

-- the number of the end, the steps made, and the last term
pub record Ran : Type 0 where
  pub end : ℕ
  pub steps : ℕ
  pub last : Term

-- a run that ends here, without a step
abbrev pub ends : ℕ → Term → Ran
ends n e = record { end = n; steps = zero; last = e }

-- the same run with a step before it
abbrev pub one_step_more : Ran → Ran
one_step_more x = record { end = x.end; steps = suc x.steps; last = x.last }

-- Ends 0, 2, 3 and 4 of a step end the run. When as many steps have moved as the budget has, a value ends 0 and any
-- other term 1, whatever the next step would say. `room` is the length of the shorter run buffer.
unfoldable pub run : Security → (ℕ → Ty) → ℕ → ℕ → Term → Ran
run S tab room zero e = ends (if is_value e then 0 else 1) e
run S tab room (suc budget) e =
    elim (step_in S tab room e) [
      | at_value ↦ ends (end_number at_value) e
      | moves e' ↦ one_step_more (run S tab room budget e')
      | may_not ↦ ends (end_number may_not) e
      | wrong_kind ↦ ends (end_number wrong_kind) e
      | too_big ↦ ends (end_number too_big) e
    ]
