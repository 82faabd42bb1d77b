-- Refocusing: evaluation continues from the contractum, and that is the step from the root.
use Rattle.std.specs.Prelude.{◌≡◌, false, ℕ, suc, IsTrue}
use Rattle.calculus.specs.Security.{Security}
use Rattle.calculus.specs.Types.{Ty}
use Rattle.calculus.specs.Terms.{Term, is_value}
use Rattle.calculus.specs.Reduction.{Context, plug, Outcome, operand_first, step}
use Rattle.rules.specs.Step.{moves, exceeds, step_in}
use Rattle.rules.specs.Run.{one_step_more, run}
use Rattle.redex.specs.Fates.{reduces, is_potential_redex, fate, contractum}

-- That the step may be made where evaluation stands.
pub record Refocusing (S : Security) (tab : ℕ → Ty) : Type 0 where
  -- As long as a term is no value, the step of the whole is its own step, in its context.
  pub in_context : (E : Context) (e : Term) (next : Outcome) → is_value e ≡ false
      → step S tab (plug E e) ≡ operand_first (step S tab e) (plug E) next
  -- So the whole's next redex is the node in focus, once it is the node's turn: its contractum takes its place, and the
  -- context stays,
  pub continues : (room : ℕ) (E : Context) (e : Term) → IsTrue (is_potential_redex e) → fate S tab e ≡ reduces
      → exceeds room (plug E (contractum S tab e)) ≡ false
      → step_in S tab room (plug E e) ≡ moves (plug E (contractum S tab e))
  -- and a run goes on from there.
  pub runs_on : (room budget : ℕ) (E : Context) (e : Term) → IsTrue (is_potential_redex e) → fate S tab e ≡ reduces
      → exceeds room (plug E (contractum S tab e)) ≡ false
      → run S tab room (suc budget) (plug E e) ≡ one_step_more (run S tab room budget (plug E (contractum S tab e)))

unfoldable pub RunsRefocus : Type 0
RunsRefocus = (S : Security) (tab : ℕ → Ty) → Refocusing S tab
