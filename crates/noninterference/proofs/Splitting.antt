-- A run to a value, taken apart: first what stands in a context's hole comes to a value, then the rest.
use Rattle.std.proofs.Common.{◌≡◌, refl, sym, ap, ◌∙◌, false, [], ℕ, suc, zero, ◌+◌, arith, IsTrue}
use Rattle.std.proofs.Math.Bool.{false≢true}
use Rattle.calculus.specs.Security.{Security, Laws}
use Rattle.calculus.specs.Types.{Ty}
use Rattle.calculus.specs.Terms.{Term, is_value}
use Rattle.calculus.specs.Reduction.{Contracts, Context, plug, Outcome, value, moved, denied, stuck, step}
use Rattle.calculus.specs.Runs.{Runs, runs_end, runs_on}
use Rattle.calculus.specs.Typing.{HasType, Table}
use Rattle.calculus.proofs.Outcomes.{moved_injective, is_moved, moved_only, unfinished}
use Rattle.calculus.proofs.Values.{value_step}
use Rattle.calculus.proofs.Contexts.{plug_step}
use Rattle.calculus.proofs.Agreement.{contracts_reduces}
use Rattle.calculus.proofs.Reduction.{step_value, step_reduces, reduces_step, reduction_deterministic}
use Rattle.calculus.proofs.Reduction.{value_irreducible}
use Rattle.calculus.proofs.Preservation.{preservation}

-- What stands in a hole is a value, or moves and the whole with it; else the whole moves nowhere and is no value.
hole_steps : {P : Type 0} (S : Security) (tab : ℕ → Ty) (E : Context) (e : Term) → (IsTrue (is_value e) → P)
    → ((e₁ : Term) → step S tab e ≡ moved e₁ → step S tab (plug E e) ≡ moved (plug E e₁) → P)
    → ((x : Outcome) → IsTrue (unfinished x) → is_moved x ≡ false → step S tab (plug E e) ≡ x → P) → P
hole_steps {P} S tab E e f g d = go (step S tab e) refl
  where
    go : (x : Outcome) → step S tab e ≡ x → P
    go value q = f (step_value S tab e q)
    go (moved e₁) q = g e₁ q (plug_step S tab E e (moved e₁) refl q)
    go denied q = d denied refl refl (plug_step S tab E e denied refl q)
    go stuck q = d stuck refl refl (plug_step S tab E e stuck refl q)

module _ {S : Security} {tab : ℕ → Ty} where
  pub runs_typed : {n : ℕ} {e e' : Term} {t : Ty} → Laws S → Table S tab → HasType S tab [] e t → Runs S tab n e e' → HasType S tab [] e' t
  runs_typed L T h runs_end = h
  runs_typed L T h (runs_on r p) = runs_typed L T (preservation L T h r) p

  -- a value runs nowhere
  pub value_runs : {n : ℕ} {v u : Term} → Runs S tab n v u → IsTrue (is_value v) → v ≡ u
  value_runs runs_end h = refl
  value_runs (runs_on r p) h = absurd (value_irreducible S tab h r)

  -- two runs of one term to values end alike
  pub same_end : {n n' : ℕ} {e u u' : Term} → Runs S tab n e u → IsTrue (is_value u) → Runs S tab n' e u' → IsTrue (is_value u') → u ≡ u'
  same_end runs_end h q h' = value_runs q h
  same_end (runs_on r p) h runs_end h' = absurd (value_irreducible S tab h' r)
  same_end (runs_on r p) h (runs_on r' p') h' = same_end p h (rw (reduction_deterministic S tab r' r) at p') h'

  -- a redex that runs to a value contracts
  pub contraction_runs : {P : Type 0} {n : ℕ} {e e' u : Term} → Contracts S tab e e' → Runs S tab n e u → IsTrue (is_value u)
      → ((m : ℕ) → Runs S tab m e' u → n ≡ suc m → P) → P
  contraction_runs c runs_end h k = absurd (value_irreducible S tab h (contracts_reduces c))
  contraction_runs c (runs_on {n = n} r p) h k = k n (rw (reduction_deterministic S tab r (contracts_reduces c)) at p) refl

  pub hole_first : {P : Type 0} {n : ℕ} {x u : Term} (E : Context) (e : Term) → Runs S tab n x u → x ≡ plug E e → IsTrue (is_value u)
      → ((i j : ℕ) (v : Term) → Runs S tab i e v → IsTrue (is_value v) → Runs S tab j (plug E v) u → i + j ≡ n → P) → P
  hole_first E e (runs_end {e = x}) q h k =
      let y : step S tab (plug E e) ≡ value = value_step S tab (plug E e) (rw q at h) in
      hole_steps S tab E e
      (λ v. k zero zero e runs_end v (rw (← q) runs_end) refl)
      (λ e₁ m z. moved_only refl (sym y ∙ z)) (λ x f m z. absurd (false≢true (ap unfinished (sym y ∙ z) ∙ f)))
  hole_first E e (runs_on {n = n} {e' = x'} r p) q h k =
      let y : step S tab (plug E e) ≡ moved x' = reduces_step S tab (rw q at r) in
      hole_steps S tab E e
      (λ v. k zero (suc n) e runs_end v (rw q at (runs_on r p)) (omega arith))
      (λ e₁ m z.
      hole_first E e₁ p (moved_injective (sym y ∙ z)) h λ i j v a b c d. k (suc i) j v (runs_on (step_reduces S tab e e₁ m) a) b c (omega arith))
      (λ x f m z. moved_only m (sym z ∙ y))
