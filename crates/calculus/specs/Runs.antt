-- Runs: as many reductions as there are, one after another.
use Rattle.std.specs.Prelude.{ℕ, suc, zero}
use Rattle.calculus.specs.Security.{Security}
use Rattle.calculus.specs.Types.{Ty}
use Rattle.calculus.specs.Terms.{Term}
use Rattle.calculus.specs.Reduction.{Reduces}

-- e →ⁿ e'
pub data Runs (S : Security) (tab : ℕ → Ty) : ℕ → Term → Term → Type 0 where
  runs_end : {e : Term} → Runs S tab zero e e
  runs_on : {n : ℕ} {e e' e'' : Term} → Reduces S tab e e' → Runs S tab n e' e'' → Runs S tab (suc n) e e''
