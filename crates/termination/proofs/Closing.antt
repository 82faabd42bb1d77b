-- Closing a term by a list of closed values: the outermost variable first, so that the nearest comes last.
use Rattle.std.proofs.Common.{◌≡◌, refl, ◌∙◌, List, [], ◌∷◌, ◌++◌, append-nil, append_assoc, ℕ, suc, zero, ◌+◌, add-one}
use Rattle.std.proofs.Common.{◌<◌, length, length-append, arith}
use Rattle.std.proofs.Math.Option.{some, some-injective, none-ne-some}
use Rattle.std.proofs.lemmas.Bool.{eq-eqb}
use Rattle.calculus.specs.Security.{Property, Reader, Indirect, Security}
use Rattle.calculus.specs.Types.{Ty}
use Rattle.calculus.specs.Terms.{Side, Operation, Term, var, unit, lam, pair, inj, app, proj, case, protect, literal}
use Rattle.calculus.specs.Terms.{reckon, substitute}
use Rattle.calculus.specs.Typing.{lookup, HasType}
use Rattle.calculus.proofs.Substitution.{nearer, subst_nothing, substitution}

-- e with γ for its variables, under d binders
unfoldable pub close : ℕ → List Term → Term → Term
close d [] e = e
close d (v ∷ γ) e = substitute d v (close (suc d) γ e)

-- It goes into the operands.

pub close_unit : (d : ℕ) (γ : List Term) (k : Property) → close d γ (unit k) ≡ unit k
unfolding close substitute
close_unit d [] k = refl
close_unit d (v ∷ γ) k = rw (close_unit (suc d) γ k)

pub close_lam : (d : ℕ) (γ : List Term) (k : Property) (i : ℕ) (e : Term) → close d γ (lam k i e) ≡ lam k i (close (suc d) γ e)
unfolding close substitute
close_lam d [] k i e = refl
close_lam d (v ∷ γ) k i e = rw (close_lam (suc d) γ k i e)

pub close_pair : (d : ℕ) (γ : List Term) (k : Property) (a b : Term) → close d γ (pair k a b) ≡ pair k (close d γ a) (close d γ b)
unfolding close substitute
close_pair d [] k a b = refl
close_pair d (v ∷ γ) k a b = rw (close_pair (suc d) γ k a b)

pub close_inj : (d : ℕ) (γ : List Term) (c : Side) (k : Property) (i : ℕ) (e : Term) → close d γ (inj c k i e) ≡ inj c k i (close d γ e)
unfolding close substitute
close_inj d [] c k i e = refl
close_inj d (v ∷ γ) c k i e = rw (close_inj (suc d) γ c k i e)

pub close_app : (d : ℕ) (γ : List Term) (w : Reader) (f a : Term) → close d γ (app w f a) ≡ app w (close d γ f) (close d γ a)
unfolding close substitute
close_app d [] w f a = refl
close_app d (v ∷ γ) w f a = rw (close_app (suc d) γ w f a)

pub close_proj : (d : ℕ) (γ : List Term) (c : Side) (w : Reader) (e : Term) → close d γ (proj c w e) ≡ proj c w (close d γ e)
unfolding close substitute
close_proj d [] c w e = refl
close_proj d (v ∷ γ) c w e = rw (close_proj (suc d) γ c w e)

pub close_case : (d : ℕ) (γ : List Term) (w : Reader) (i : ℕ) (e a b : Term)
    → close d γ (case w i e a b) ≡ case w i (close d γ e) (close (suc d) γ a) (close (suc d) γ b)
unfolding close substitute
close_case d [] w i e a b = refl
close_case d (v ∷ γ) w i e a b = rw (close_case (suc d) γ w i e a b)

pub close_protect : (d : ℕ) (γ : List Term) (m : Indirect) (e : Term) → close d γ (protect m e) ≡ protect m (close d γ e)
unfolding close substitute
close_protect d [] m e = refl
close_protect d (v ∷ γ) m e = rw (close_protect (suc d) γ m e)

pub close_literal : (d : ℕ) (γ : List Term) (k : Property) (n : ℕ) → close d γ (literal k n) ≡ literal k n
unfolding close substitute
close_literal d [] k n = refl
close_literal d (v ∷ γ) k n = rw (close_literal (suc d) γ k n)

pub close_reckon : (d : ℕ) (γ : List Term) (o : Operation) (w : Reader) (a b : Term)
    → close d γ (reckon o w a b) ≡ reckon o w (close d γ a) (close d γ b)
unfolding close substitute
close_reckon d [] o w a b = refl
close_reckon d (v ∷ γ) o w a b = rw (close_reckon (suc d) γ o w a b)

-- a value for each type of a context, with what P says of it
pub data Values (P : Ty → Term → Type 0) : List Ty → List Term → Type 0 where
  v_empty : Values P [] []
  v_extend : {t : Ty} {v : Term} {Γ : List Ty} {γ : List Term} → P t v → Values P Γ γ → Values P (t ∷ Γ) (v ∷ γ)

pub values_map : {P Q : Ty → Term → Type 0} → ((t : Ty) (v : Term) → P t v → Q t v) → {Γ : List Ty} {γ : List Term} → Values P Γ γ → Values Q Γ γ
values_map f v_empty = v_empty
values_map f (v_extend p Vs) = v_extend (f _ _ p) (values_map f Vs)

close_nearer : (d : ℕ) (γ : List Term) (n : ℕ) → n < d → close d γ (var n) ≡ var n
unfolding close substitute
close_nearer d [] n h = refl
close_nearer d (v ∷ γ) n h = rw (close_nearer (suc d) γ n (omega arith)) (rw (nearer n d h))

module _ {S : Security} {tab : ℕ → Ty} where
  pub close_typed : {Γ : List Ty} {γ : List Term} {e : Term} {t : Ty} (Δ : List Ty) → Values (λ t v. HasType S tab [] v t) Γ γ
      → HasType S tab (Δ ++ Γ) e t
      → HasType S tab Δ (close (length Δ) γ e) t
  unfolding close
  close_typed Δ v_empty h = rw (append-nil Δ) at h
  close_typed Δ (v_extend {t = s} {Γ = Γ} p Vs) h =
      let q : length (Δ ++ (s ∷ [])) ≡ suc (length Δ) = length-append Δ (s ∷ []) ∙ add-one (length Δ) in
      substitution p Δ (rw q at (close_typed (Δ ++ (s ∷ [])) Vs (rw (← append_assoc Δ (s ∷ []) Γ) at h)))

  -- a variable becomes its value
  pub close_var : {P : Ty → Term → Type 0} → ((t : Ty) (v : Term) → P t v → HasType S tab [] v t) → {Γ : List Ty} {γ : List Term} {t : Ty} (d n m : ℕ)
      → Values P Γ γ → lookup Γ n ≡ some t → m ≡ d + n → P t (close d γ (var m))
  unfolding close substitute lookup
  close_var f {t = t} d n m v_empty h e = absurd (none-ne-some t h)
  close_var f {t = t} d zero m (v_extend {t = s} {v = v} {γ = γ} p Vs) h e =
      let q : m ≡ d = omega arith in
      rw (close_nearer (suc d) γ m (omega arith)) (rw (q, eq-eqb d d refl) (rw (some-injective s t h) at p))
  close_var {P} f {t = t} d (suc n) m (v_extend {v = v} {γ = γ} p Vs) h e =
      let y : P t (close (suc d) γ (var m)) = close_var f (suc d) n m Vs h (omega arith) in
      rw (subst_nothing d v (f _ _ y) (omega arith)) y
