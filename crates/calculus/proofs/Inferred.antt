-- The typing rules without [Sub]: each compares where it needs a lesser type. Derivations for proofs only, between the
-- relation and `infer`.
use Rattle.std.proofs.Common.{◌≡◌, List, ◌∷◌, ℕ, IsTrue}
use Rattle.std.proofs.Math.Option.{some}
use Rattle.calculus.specs.Security.{Property, Reader, Indirect, Security}
use Rattle.calculus.specs.Types.{one, number, sum, product, function, Ty, leaf, node, top, raise_t, fits}
use Rattle.calculus.specs.Subtyping.{below}
use Rattle.calculus.specs.Terms.{Side, choose, Operation, Term, var, unit, lam, pair, inj, app, proj, case, protect, mu}
use Rattle.calculus.specs.Terms.{literal, reckon}
use Rattle.calculus.specs.Numbers.{of_both, Reckons}
use Rattle.calculus.specs.Typing.{lookup, type_of_case}
use Rattle.calculus.proofs.Directed.{Directed}

pub data Inferred (S : Security) (tab : ℕ → Ty) : List Ty → Term → Ty → Type 0 where
  i_var : {Γ : List Ty} {n : ℕ} {t : Ty} → lookup Γ n ≡ some t → Inferred S tab Γ (var n) t
  i_unit : {Γ : List Ty} {k : Property} → IsTrue (S.secure k) → Inferred S tab Γ (unit k) (leaf one k)
  i_lam : {Γ : List Ty} {k : Property} {i : ℕ} {e : Term} {t : Ty} → IsTrue (S.secure k) → Inferred S tab (tab i ∷ Γ) e t
      → IsTrue (fits (node function k (tab i) t)) → Inferred S tab Γ (lam k i e) (node function k (tab i) t)
  i_pair : {Γ : List Ty} {k : Property} {a b : Term} {s t : Ty} → IsTrue (S.secure k) → Inferred S tab Γ a s → Inferred S tab Γ b t
      → IsTrue (fits (node product k s t)) → Inferred S tab Γ (pair k a b) (node product k s t)
  i_inj : {Γ : List Ty} {d : Side} {k l : Property} {i : ℕ} {e : Term} {s t u : Ty} → IsTrue (S.secure k) → tab i ≡ node sum l s t
      → Inferred S tab Γ e u → Directed S below u (choose d s t) → Inferred S tab Γ (inj d k i e) (node sum k s t)
  i_app : {Γ : List Ty} {k : Property} {w : Reader} {f a : Term} {s t u : Ty} → Inferred S tab Γ f (node function k s t) → Inferred S tab Γ a u
      → Directed S below u s → IsTrue (S.permits k w) → Inferred S tab Γ (app w f a) (raise_t S t (S.influence k w))
  i_proj : {Γ : List Ty} {d : Side} {k : Property} {w : Reader} {e : Term} {s t : Ty} → Inferred S tab Γ e (node product k s t)
      → IsTrue (S.permits k w) → Inferred S tab Γ (proj d w e) (raise_t S (choose d s t) (S.influence k w))
  i_case : {Γ : List Ty} {k : Property} {w : Reader} {i : ℕ} {e a b : Term} {s t u v r : Ty} → Inferred S tab Γ e (node sum k s t)
      → IsTrue (S.permits k w) → Inferred S tab (s ∷ Γ) a u → Inferred S tab (t ∷ Γ) b v → type_of_case S tab i u v ≡ some r
      → Inferred S tab Γ (case w i e a b) (raise_t S r (S.influence k w))
  i_protect : {Γ : List Ty} {m : Indirect} {e : Term} {t : Ty} → IsTrue (S.secure_i m) → Inferred S tab Γ e t
      → Inferred S tab Γ (protect m e) (raise_t S t m)
  i_mu : {Γ : List Ty} {w : Reader} {i : ℕ} {e : Term} {k : Property} {s t u : Ty} → tab i ≡ node function k s t → IsTrue (S.permits k (S.caller k w))
      → IsTrue (S.absorbs k (S.caller k w) (top t)) → Inferred S tab (tab i ∷ Γ) e u → Directed S below u (tab i) → Inferred S tab Γ (mu w i e) (tab i)
  i_literal : {Γ : List Ty} {k : Property} {n : ℕ} → IsTrue (S.secure k) → Inferred S tab Γ (literal k n) (leaf number k)
  i_reckon : {Γ : List Ty} {o : Operation} {w : Reader} {a b : Term} {k l : Property} {t : Ty} → Inferred S tab Γ a (leaf number k)
      → IsTrue (S.permits k w) → Inferred S tab Γ b (leaf number l) → IsTrue (S.permits l w) → Reckons tab o (of_both S w k l) t
      → Inferred S tab Γ (reckon o w a b) t
