-- The substitution lemma (A.3), for a closed value and the outermost variable.
use Rattle.std.proofs.Common.{◌≡◌, refl, ap, ◌∙◌, true, false, List, [], ◌∷◌, ◌++◌, ℕ, suc, zero, ◌≤◌, ◌<◌, arith}
use Rattle.std.proofs.Common.{length, nat_eq}
use Rattle.std.proofs.Math.Option.{some, some-injective, none-ne-some}
use Rattle.std.proofs.Math.Dec.{eqb-zero-suc, eqb-suc-suc}
use Rattle.std.proofs.lemmas.Bool.{ne_eqb}
use Rattle.calculus.specs.Security.{Security}
use Rattle.calculus.specs.Types.{Ty}
use Rattle.calculus.specs.Terms.{Term, var, substitute}
use Rattle.calculus.specs.Typing.{lookup, HasType, t_sub, t_var, t_unit, t_lam, t_pair, t_inj, t_app, t_proj, t_case}
use Rattle.calculus.specs.Typing.{t_protect, t_mu, t_literal, t_reckon}
use Rattle.calculus.proofs.Weakening.{weakening}

-- a variable is the outermost one, or one of the others
pub outermost_or : {P : Type 0} {s t : Ty} (Δ : List Ty) (n : ℕ) → lookup (Δ ++ (s ∷ [])) n ≡ some t
    → (nat_eq n (length Δ) ≡ true → s ≡ t → P) → (nat_eq n (length Δ) ≡ false → lookup Δ n ≡ some t → P) → P
unfolding lookup
outermost_or {s = s} {t = t} [] zero h k l = k refl (some-injective s t h)
outermost_or {t = t} [] (suc n) h k l = absurd (none-ne-some t h)
outermost_or (u ∷ Δ) zero h k l = l (eqb-zero-suc (length Δ)) h
outermost_or (u ∷ Δ) (suc n) h k l = outermost_or Δ n h (λ e. k (eqb-suc-suc n (length Δ) ∙ e)) (λ e. l (eqb-suc-suc n (length Δ) ∙ e))

module _ {S : Security} {tab : ℕ → Ty} {v : Term} {s : Ty} (hv : HasType S tab [] v s) where
  substitution_var : (Δ : List Ty) (n : ℕ) {t : Ty} → lookup (Δ ++ (s ∷ [])) n ≡ some t → HasType S tab Δ (substitute (length Δ) v (var n)) t
  unfolding substitute
  substitution_var Δ n h = outermost_or Δ n h (λ e q. rw e (rw q at (weakening Δ hv))) (λ e q. rw e (t_var q))

  -- in a context that equals Δ and s
  substitution_in : (Δ : List Ty) {Θ : List Ty} {e : Term} {t : Ty} → HasType S tab Θ e t → Θ ≡ Δ ++ (s ∷ [])
      → HasType S tab Δ (substitute (length Δ) v e) t
  unfolding substitute
  substitution_in Δ (t_sub p b h) E = t_sub (substitution_in Δ p E) b h
  substitution_in Δ {Θ} (t_var {n = n} {s = t} h) E = let g : lookup (Δ ++ (s ∷ [])) n ≡ some t = rw E at h in substitution_var Δ n g
  substitution_in Δ (t_unit h) E = t_unit h
  substitution_in Δ (t_lam {i = i} h p f) E = t_lam h (substitution_in (tab i ∷ Δ) p (ap (λ Γ. tab i ∷ Γ) E)) f
  substitution_in Δ (t_pair h p q f) E = t_pair h (substitution_in Δ p E) (substitution_in Δ q E) f
  substitution_in Δ (t_inj h e p) E = t_inj h e (substitution_in Δ p E)
  substitution_in Δ (t_app p q m) E = t_app (substitution_in Δ p E) (substitution_in Δ q E) m
  substitution_in Δ (t_proj p m) E = t_proj (substitution_in Δ p E) m
  substitution_in Δ (t_case {s = a} {t = b} p m r q q') E =
      t_case (substitution_in Δ p E) m r
      (substitution_in (a ∷ Δ) q (ap (λ Γ. a ∷ Γ) E)) (substitution_in (b ∷ Δ) q' (ap (λ Γ. b ∷ Γ) E))
  substitution_in Δ (t_protect h p) E = t_protect h (substitution_in Δ p E)
  substitution_in Δ (t_mu {i = i} e m h p) E = t_mu e m h (substitution_in (tab i ∷ Δ) p (ap (λ Γ. tab i ∷ Γ) E))
  substitution_in Δ (t_literal h) E = t_literal h
  substitution_in Δ (t_reckon p m q n x) E = t_reckon (substitution_in Δ p E) m (substitution_in Δ q E) n x

  pub substitution : (Δ : List Ty) {e : Term} {t : Ty} → HasType S tab (Δ ++ (s ∷ [])) e t → HasType S tab Δ (substitute (length Δ) v e) t
  substitution Δ p = substitution_in Δ p refl

-- A term has no variable past those that it is typed with.

lookup_length : (Γ : List Ty) (n : ℕ) {t : Ty} → lookup Γ n ≡ some t → n < length Γ
unfolding lookup
lookup_length [] n {t} h = absurd (none-ne-some t h)
lookup_length (s ∷ Γ) zero h = omega arith
lookup_length (s ∷ Γ) (suc n) h = let r = lookup_length Γ n h in omega arith

pub nearer : (n k : ℕ) → n < k → nat_eq n k ≡ false
nearer n k h = ne_eqb n k λ e. omega arith

pub subst_nothing : {S : Security} {tab : ℕ → Ty} {Γ : List Ty} {e : Term} {t : Ty} (k : ℕ) (v : Term) → HasType S tab Γ e t → length Γ ≤ k
    → substitute k v e ≡ e
unfolding substitute
subst_nothing k v (t_sub p b h) l = subst_nothing k v p l
subst_nothing k v (t_var {Γ = Γ} {n = n} h) l = let r = lookup_length Γ n h in rw (nearer n k (omega arith))
subst_nothing k v (t_unit h) l = refl
subst_nothing k v (t_lam h p f) l = rw (subst_nothing (suc k) v p (omega arith))
subst_nothing k v (t_pair h p q f) l = rw (subst_nothing k v p l, subst_nothing k v q l)
subst_nothing k v (t_inj h e p) l = rw (subst_nothing k v p l)
subst_nothing k v (t_app p q m) l = rw (subst_nothing k v p l, subst_nothing k v q l)
subst_nothing k v (t_proj p m) l = rw (subst_nothing k v p l)
subst_nothing k v (t_case p m r q q') l =
    rw (subst_nothing k v p l, subst_nothing (suc k) v q (omega arith), subst_nothing (suc k) v q' (omega arith))
subst_nothing k v (t_protect h p) l = rw (subst_nothing k v p l)
subst_nothing k v (t_mu e m h p) l = rw (subst_nothing (suc k) v p (omega arith))
subst_nothing k v (t_literal h) l = refl
subst_nothing k v (t_reckon p m q n x) l = rw (subst_nothing k v p l, subst_nothing k v q l)
