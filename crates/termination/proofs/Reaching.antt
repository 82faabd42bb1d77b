-- Runs of any length: put together, made inside a context, and typed throughout.
use Rattle.std.proofs.Common.{[], ℕ, suc, zero}
use Rattle.calculus.specs.Security.{Security, Laws}
use Rattle.calculus.specs.Types.{Ty}
use Rattle.calculus.specs.Terms.{Term}
use Rattle.calculus.specs.Reduction.{Contracts, Context, plug, Reduces}
use Rattle.calculus.specs.Runs.{Runs, runs_end, runs_on}
use Rattle.calculus.specs.Typing.{HasType, Table}
use Rattle.calculus.proofs.Agreement.{reduces_plug, contracts_reduces}
use Rattle.calculus.proofs.Preservation.{preservation}

pub data Reaches (S : Security) (tab : ℕ → Ty) : Term → Term → Type 0 where
  here : {e : Term} → Reaches S tab e e
  next : {e e' e'' : Term} → Reduces S tab e e' → Reaches S tab e' e'' → Reaches S tab e e''

module _ {S : Security} {tab : ℕ → Ty} where
  pub reaches_runs : {e e' : Term} → Reaches S tab e e' → (n : ℕ) × Runs S tab n e e'
  reaches_runs here = (zero, runs_end)
  reaches_runs (next r p) = let x = reaches_runs p in (suc x.0, runs_on r x.1)

  pub reaches_then : {a b c : Term} → Reaches S tab a b → Reaches S tab b c → Reaches S tab a c
  reaches_then here q = q
  reaches_then (next r p) q = next r (reaches_then p q)

  pub reaches_plug : {a b : Term} (E : Context) → Reaches S tab a b → Reaches S tab (plug E a) (plug E b)
  reaches_plug E here = here
  reaches_plug E (next r p) = next (reduces_plug E r) (reaches_plug E p)

  pub reaches_contraction : {a b : Term} → Contracts S tab a b → Reaches S tab a b
  reaches_contraction c = next (contracts_reduces c) here

  pub reaches_typed : {e e' : Term} {t : Ty} → Laws S → Table S tab → HasType S tab [] e t → Reaches S tab e e' → HasType S tab [] e' t
  reaches_typed L T h here = h
  reaches_typed L T h (next r p) = reaches_typed L T (preservation L T h r) p
