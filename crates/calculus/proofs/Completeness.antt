-- Type inference is complete: where the typing rules give a type, `infer` finds one, and it is the least.
use Rattle.std.proofs.Common.{◌≡◌, refl, sym, ◌∙◌, List, [], ◌∷◌, ℕ, suc, zero, IsTrue}
use Rattle.std.proofs.Math.Option.{some, some-injective, none-ne-some}
use Rattle.calculus.specs.Security.{Property, Reader, Indirect, Security, Laws}
use Rattle.calculus.specs.Types.{one, number, sum, product, function, Ty, leaf, node, top, raise_t, fits}
use Rattle.calculus.specs.Subtyping.{Subtype, below, above}
use Rattle.calculus.specs.Terms.{Side, choose, Operation, Term, var, unit, lam, pair, inj, app, proj, case, protect, mu}
use Rattle.calculus.specs.Terms.{literal, reckon}
use Rattle.calculus.specs.Numbers.{of_both, Reckons, a_number, a_flag}
use Rattle.calculus.specs.Typing.{lookup, HasType, t_sub, t_var, t_unit, t_lam, t_pair, t_inj, t_app, t_proj, t_case}
use Rattle.calculus.specs.Typing.{t_protect, t_mu, t_literal, t_reckon, TypeOfCase, Table, infer}
use Rattle.calculus.proofs.Sides.{choose_both}
use Rattle.calculus.proofs.Directed.{Directed, d_leaf, d_node, directed_opposite, directed_refl, directed_trans}
use Rattle.calculus.proofs.Directed.{directed_subtype, subtype_directed}
use Rattle.calculus.proofs.Subtyping.{subtype_reflexive, subtype_fits}
use Rattle.calculus.proofs.Raising.{raise_directed}
use Rattle.calculus.proofs.Numbers.{of_both_mono}
use Rattle.calculus.proofs.Inferred.{Inferred, i_var, i_unit, i_lam, i_pair, i_inj, i_app, i_proj, i_case, i_protect}
use Rattle.calculus.proofs.Inferred.{i_mu, i_literal, i_reckon}
use Rattle.calculus.proofs.Inference.{inferred_infer}
use Rattle.calculus.proofs.Results.{result_least}
use Rattle.calculus.proofs.SecureTyping.{SecureContext, sc_empty, sc_extend, table_parts}

-- Γ is below Δ: type by type
pub data Narrower (S : Security) : List Ty → List Ty → Type 0 where
  n_empty : Narrower S [] []
  n_extend : {s t : Ty} {Γ Δ : List Ty} → Subtype S s t → Narrower S Γ Δ → Narrower S (s ∷ Γ) (t ∷ Δ)

-- an inferred type at or below t
pub record InferredBelow (S : Security) (tab : ℕ → Ty) (Γ : List Ty) (e : Term) (t : Ty) : Type 0 where
  pub least : Ty
  pub inferred : Inferred S tab Γ e least
  pub below : Directed S below least t

lookup_narrower : {P : Type 0} {S : Security} {Γ Δ : List Ty} {t : Ty} (n : ℕ) → Narrower S Γ Δ → lookup Δ n ≡ some t
    → ((s : Ty) → lookup Γ n ≡ some s → Subtype S s t → P) → P
unfolding lookup
lookup_narrower {t = u} n n_empty h k = absurd (none-ne-some u h)
lookup_narrower {t = u} zero (n_extend {t = t} p N) h k = k _ refl (rw (some-injective t u h) at p)
lookup_narrower (suc n) (n_extend p N) h k = lookup_narrower n N h k

directed_fits : {S : Security} {s t : Ty} → Directed S below s t → IsTrue (fits t) → IsTrue (fits s)
directed_fits p h = rw (subtype_fits (directed_subtype p)) h

-- One lemma a rule: what is inferred of the parts is below, so what is inferred of the whole is.
module _ {S : Security} {tab : ℕ → Ty} (L : Laws S) (T : Table S tab) where
  var_below : {Γ Δ : List Ty} {t : Ty} (n : ℕ) → Narrower S Γ Δ → lookup Δ n ≡ some t → InferredBelow S tab Γ (var n) t
  var_below n N h = lookup_narrower n N h λ s e p. record { least = s; inferred = i_var e; below = subtype_directed L p }

  unit_below : {Γ : List Ty} (k : Property) → IsTrue (S.secure k) → InferredBelow S tab Γ (unit k) (leaf one k)
  unit_below k h = record { least = leaf one k; inferred = i_unit h; below = d_leaf (L.le_refl k h) }

  lam_below : {Γ : List Ty} {t : Ty} (k : Property) (i : ℕ) (e : Term) → IsTrue (S.secure k) → InferredBelow S tab (tab i ∷ Γ) e t
      → IsTrue (fits (node function k (tab i) t)) → InferredBelow S tab Γ (lam k i e) (node function k (tab i) t)
  lam_below {t = t} k i e h x f =
      let s : Directed S below (node function k (tab i) x.least) (node function k (tab i) t) =
      d_node (L.le_refl k h) (directed_refl L above (tab i) (T.secure i)) x.below in
      record { least = _; inferred = i_lam h x.inferred (directed_fits s f); below = s }

  pair_below : {Γ : List Ty} {s t : Ty} (k : Property) (a b : Term) → IsTrue (S.secure k) → InferredBelow S tab Γ a s → InferredBelow S tab Γ b t
      → IsTrue (fits (node product k s t)) → InferredBelow S tab Γ (pair k a b) (node product k s t)
  pair_below {s = s} {t = t} k a b h x y f =
      let z : Directed S below (node product k x.least y.least) (node product k s t) = d_node (L.le_refl k h) x.below y.below in
      record { least = _; inferred = i_pair h x.inferred y.inferred (directed_fits z f); below = z }

  inj_below : {Γ : List Ty} {s t : Ty} {e : Term} (d : Side) (k l : Property) (i : ℕ) → IsTrue (S.secure k) → tab i ≡ node sum l s t
      → InferredBelow S tab Γ e (choose d s t) → InferredBelow S tab Γ (inj d k i e) (node sum k s t)
  inj_below {s = s} {t = t} d k l i h e x =
      let y = table_parts T i e in
      record {
        least = _;
        inferred = i_inj h e x.inferred x.below;
        below = d_node (L.le_refl k h) (directed_refl L below s y.left) (directed_refl L below t y.right);
      }

  app_below : {Γ : List Ty} {k : Property} {s t u v : Ty} {f a : Term} (w : Reader) → Inferred S tab Γ f u → Directed S below u (node function k s t)
      → Inferred S tab Γ a v → Directed S below v s → IsTrue (S.permits k w) → InferredBelow S tab Γ (app w f a) (raise_t S t (S.influence k w))
  app_below w p (d_node h a b) q g m =
      record {
        least = _;
        inferred = i_app p q (directed_trans L g (directed_opposite a)) (L.permits_mono _ _ w h m);
        below = raise_directed L _ _ b (L.influence_mono _ _ w h m);
      }

  proj_below : {Γ : List Ty} {k : Property} {s t u : Ty} {e : Term} (d : Side) (w : Reader) → Inferred S tab Γ e u
      → Directed S below u (node product k s t) → IsTrue (S.permits k w)
      → InferredBelow S tab Γ (proj d w e) (raise_t S (choose d s t) (S.influence k w))
  proj_below d w p (d_node h a b) m =
      record {
        least = _;
        inferred = i_proj p (L.permits_mono _ _ w h m);
        below = raise_directed L _ _ (choose_both (Directed S below) d a b) (L.influence_mono _ _ w h m);
      }

  -- the branches are inferred under the sides of the inferred type, so in a narrower context
  case_below : {Γ : List Ty} {k : Property} {s t u r : Ty} {e a b : Term} (w : Reader) (i : ℕ) → Inferred S tab Γ e u
      → Directed S below u (node sum k s t) → IsTrue (S.permits k w) → TypeOfCase tab i r
      → ((s' : Ty) → Directed S below s' s → InferredBelow S tab (s' ∷ Γ) a r)
      → ((t' : Ty) → Directed S below t' t → InferredBelow S tab (t' ∷ Γ) b r)
      → InferredBelow S tab Γ (case w i e a b) (raise_t S r (S.influence k w))
  case_below w i p (d_node h a b) m z x y =
      let l = result_least L T z (x _ a).below (y _ b).below in
      record {
        least = _;
        inferred = i_case p (L.permits_mono _ _ w h m) (x _ a).inferred (y _ b).inferred l.1;
        below = raise_directed L _ _ l.2 (L.influence_mono _ _ w h m);
      }

  protect_below : {Γ : List Ty} {t : Ty} {e : Term} (m : Indirect) → IsTrue (S.secure_i m) → InferredBelow S tab Γ e t
      → InferredBelow S tab Γ (protect m e) (raise_t S t m)
  protect_below m h x = record { least = _; inferred = i_protect h x.inferred; below = raise_directed L m m x.below (L.le_i_refl m h) }

  mu_below : {Γ : List Ty} {k : Property} {s t : Ty} {e : Term} (w : Reader) (i : ℕ) → tab i ≡ node function k s t → IsTrue (S.permits k (S.caller k w))
      → IsTrue (S.absorbs k (S.caller k w) (top t)) → InferredBelow S tab (tab i ∷ Γ) e (tab i) → InferredBelow S tab Γ (mu w i e) (tab i)
  mu_below w i e m h x = record { least = tab i; inferred = i_mu e m h x.inferred x.below; below = directed_refl L below (tab i) (T.secure i) }

  literal_below : {Γ : List Ty} (k : Property) (n : ℕ) → IsTrue (S.secure k) → InferredBelow S tab Γ (literal k n) (leaf number k)
  literal_below k n h = record { least = leaf number k; inferred = i_literal h; below = d_leaf (L.le_refl k h) }

  reckons_below : {o : Operation} {k k' : Property} {t : Ty} → IsTrue (S.le k' k) → Reckons tab o k t → (t' : Ty) × Reckons tab o k' t' × Directed S below t' t
  reckons_below p a_number = (_, a_number, d_leaf p)
  reckons_below p (a_flag {i = i} e) =
      let x = table_parts T i e in
      (_, a_flag e, d_node p (directed_refl L below _ x.left) (directed_refl L below _ x.right))

  reckon_below : {Γ : List Ty} {o : Operation} {a b : Term} {k l : Property} {s t u : Ty} (w : Reader) → Inferred S tab Γ a s
      → Directed S below s (leaf number k) → IsTrue (S.permits k w) → Inferred S tab Γ b t → Directed S below t (leaf number l) → IsTrue (S.permits l w)
      → Reckons tab o (of_both S w k l) u → InferredBelow S tab Γ (reckon o w a b) u
  reckon_below w p (d_leaf h) m q (d_leaf g) n x =
      let y = reckons_below (of_both_mono L w _ _ _ _ h m g n) x in
      record { least = y.0; inferred = i_reckon p (L.permits_mono _ _ w h m) q (L.permits_mono _ _ w g n) y.1; below = y.2 }

  extend_table : {Γ Δ : List Ty} (i : ℕ) → Narrower S Γ Δ → Narrower S (tab i ∷ Γ) (tab i ∷ Δ)
  extend_table i N = n_extend (subtype_reflexive L (tab i) (T.secure i)) N

  -- in a narrower context too, without which the branches of a case do not go through
  pub typed_inferred : {Γ Δ : List Ty} {e : Term} {t : Ty} → HasType S tab Δ e t → Narrower S Γ Δ → InferredBelow S tab Γ e t
  typed_inferred {Γ = Γ} (t_sub p b h) N =
      let x = typed_inferred {Γ = Γ} p N in record { least = x.least; inferred = x.inferred; below = directed_trans L x.below (subtype_directed L b) }
  typed_inferred {Γ = Γ} (t_var {n = n} h) N = var_below n N h
  typed_inferred {Γ = Γ} (t_unit {k = k} h) N = unit_below k h
  typed_inferred {Γ = Γ} (t_lam {k = k} {i = i} {e = e} h p f) N = lam_below k i e h (typed_inferred {Γ = tab i ∷ Γ} p (extend_table i N)) f
  typed_inferred {Γ = Γ} (t_pair {k = k} {a = a} {b = b} h p q f) N = pair_below k a b h (typed_inferred {Γ = Γ} p N) (typed_inferred {Γ = Γ} q N) f
  typed_inferred {Γ = Γ} (t_inj {d = d} {k = k} {l = l} {i = i} h e p) N = inj_below d k l i h e (typed_inferred {Γ = Γ} p N)
  typed_inferred {Γ = Γ} (t_app {w = w} p q m) N =
      let x = typed_inferred {Γ = Γ} p N in let y = typed_inferred {Γ = Γ} q N in app_below w x.inferred x.below y.inferred y.below m
  typed_inferred {Γ = Γ} (t_proj {d = d} {w = w} p m) N = let x = typed_inferred {Γ = Γ} p N in proj_below d w x.inferred x.below m
  typed_inferred {Γ = Γ} (t_case {w = w} {i = i} p m z q q') N =
      let x = typed_inferred {Γ = Γ} p N in
      case_below w i x.inferred x.below m z
      (λ s z. typed_inferred {Γ = s ∷ Γ} q (n_extend (directed_subtype z) N)) (λ t z. typed_inferred {Γ = t ∷ Γ} q' (n_extend (directed_subtype z) N))
  typed_inferred {Γ = Γ} (t_protect {m = m} h p) N = protect_below m h (typed_inferred {Γ = Γ} p N)
  typed_inferred {Γ = Γ} (t_mu {w = w} {i = i} e m h p) N = mu_below w i e m h (typed_inferred {Γ = tab i ∷ Γ} p (extend_table i N))
  typed_inferred {Γ = Γ} (t_literal {k = k} {n = n} h) N = literal_below k n h
  typed_inferred {Γ = Γ} (t_reckon {w = w} p m q n x) N =
      let y = typed_inferred {Γ = Γ} p N in let z = typed_inferred {Γ = Γ} q N in reckon_below w y.inferred y.below m z.inferred z.below n x

  same_context : {Γ : List Ty} → SecureContext S Γ → Narrower S Γ Γ
  same_context sc_empty = n_empty
  same_context (sc_extend {t = t} h C) = n_extend (subtype_reflexive L t h) (same_context C)

  pub infer_complete : {Γ : List Ty} (e : Term) (t : Ty) → SecureContext S Γ → HasType S tab Γ e t
      → (s : Ty) × (infer S tab Γ e ≡ some s) × Subtype S s t
  infer_complete e t C p =
      let x = typed_inferred p (same_context C) in (x.least, inferred_infer x.inferred, directed_subtype x.below)

  -- the inferred type is the principal one
  pub infer_principal : {Γ : List Ty} (e : Term) (s t : Ty) → SecureContext S Γ → infer S tab Γ e ≡ some s → HasType S tab Γ e t → Subtype S s t
  infer_principal e s t C h p =
      let x = infer_complete e t C p in rw (some-injective x.0 s (sym x.1 ∙ h)) at x.2
