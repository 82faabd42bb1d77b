-- Weakening: a term keeps its types in a longer context. No binder comes nearer, so no number changes.
use Rattle.std.proofs.Common.{◌≡◌, List, [], ◌∷◌, ◌++◌, ℕ, suc, zero}
use Rattle.std.proofs.Math.Option.{some, none-ne-some}
use Rattle.calculus.specs.Security.{Security}
use Rattle.calculus.specs.Types.{Ty}
use Rattle.calculus.specs.Terms.{Term}
use Rattle.calculus.proofs.Inferred.{Inferred, i_var, i_unit, i_lam, i_pair, i_inj, i_app, i_proj, i_case, i_protect}
use Rattle.calculus.proofs.Inferred.{i_mu, i_literal, i_reckon}
use Rattle.calculus.specs.Typing.{lookup, HasType, t_sub, t_var, t_unit, t_lam, t_pair, t_inj, t_app, t_proj, t_case}
use Rattle.calculus.specs.Typing.{t_protect, t_mu, t_literal, t_reckon}

pub lookup_longer : (Γ Δ : List Ty) (n : ℕ) {t : Ty} → lookup Γ n ≡ some t → lookup (Γ ++ Δ) n ≡ some t
unfolding lookup
lookup_longer [] Δ n {t} h = absurd (none-ne-some t h)
lookup_longer (s ∷ Γ) Δ zero h = h
lookup_longer (s ∷ Γ) Δ (suc n) h = lookup_longer Γ Δ n h

pub weakening : {S : Security} {tab : ℕ → Ty} {Γ : List Ty} {e : Term} {t : Ty} (Δ : List Ty) → HasType S tab Γ e t → HasType S tab (Γ ++ Δ) e t
weakening Δ (t_sub p b h) = t_sub (weakening Δ p) b h
weakening Δ (t_var {Γ = Γ} {n = n} h) = t_var (lookup_longer Γ Δ n h)
weakening Δ (t_unit h) = t_unit h
weakening Δ (t_lam h p f) = t_lam h (weakening Δ p) f
weakening Δ (t_pair h p q f) = t_pair h (weakening Δ p) (weakening Δ q) f
weakening Δ (t_inj h e p) = t_inj h e (weakening Δ p)
weakening Δ (t_app p q m) = t_app (weakening Δ p) (weakening Δ q) m
weakening Δ (t_proj p m) = t_proj (weakening Δ p) m
weakening Δ (t_case p m r q q') = t_case (weakening Δ p) m r (weakening Δ q) (weakening Δ q')
weakening Δ (t_protect h p) = t_protect h (weakening Δ p)
weakening Δ (t_mu e m h p) = t_mu e m h (weakening Δ p)
weakening Δ (t_literal h) = t_literal h
weakening Δ (t_reckon p m q n x) = t_reckon (weakening Δ p) m (weakening Δ q) n x

-- the same without [Sub]
pub inferred_weakening : {S : Security} {tab : ℕ → Ty} {Γ : List Ty} {e : Term} {t : Ty} (Δ : List Ty) → Inferred S tab Γ e t
    → Inferred S tab (Γ ++ Δ) e t
inferred_weakening Δ (i_var {Γ = Γ} {n = n} h) = i_var (lookup_longer Γ Δ n h)
inferred_weakening Δ (i_unit h) = i_unit h
inferred_weakening Δ (i_lam h p f) = i_lam h (inferred_weakening Δ p) f
inferred_weakening Δ (i_pair h p q f) = i_pair h (inferred_weakening Δ p) (inferred_weakening Δ q) f
inferred_weakening Δ (i_inj h e p s) = i_inj h e (inferred_weakening Δ p) s
inferred_weakening Δ (i_app p q s m) = i_app (inferred_weakening Δ p) (inferred_weakening Δ q) s m
inferred_weakening Δ (i_proj p m) = i_proj (inferred_weakening Δ p) m
inferred_weakening Δ (i_case p m q q' r) = i_case (inferred_weakening Δ p) m (inferred_weakening Δ q) (inferred_weakening Δ q') r
inferred_weakening Δ (i_protect h p) = i_protect h (inferred_weakening Δ p)
inferred_weakening Δ (i_mu e m h p s) = i_mu e m h (inferred_weakening Δ p) s
inferred_weakening Δ (i_literal h) = i_literal h
inferred_weakening Δ (i_reckon p m q n x) = i_reckon (inferred_weakening Δ p) m (inferred_weakening Δ q) n x
