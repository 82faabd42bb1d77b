-- Type inference is sound: what `infer` finds, the typing rules give, and it is secure.
use Rattle.std.proofs.Common.{◌≡◌, List, ◌∷◌, ℕ, IsTrue}
use Rattle.std.proofs.Math.Option.{some}
use Rattle.calculus.specs.Security.{Property, Reader, Security, Laws}
use Rattle.calculus.specs.Types.{sum, function, Ty, node, raise_t, secure_t}
use Rattle.calculus.specs.Subtyping.{below}
use Rattle.calculus.specs.Terms.{Side, choose, Term, inj, app, case}
use Rattle.calculus.specs.Typing.{HasType, t_sub, t_var, t_unit, t_lam, t_pair, t_inj, t_app, t_proj, t_case, t_protect}
use Rattle.calculus.specs.Typing.{t_mu, t_literal, t_reckon, Table, TypeOfCase, type_of_case, infer}
use Rattle.calculus.proofs.Directed.{Directed, directed_subtype}
use Rattle.calculus.proofs.Inferred.{Inferred, i_var, i_unit, i_lam, i_pair, i_inj, i_app, i_proj, i_case, i_protect}
use Rattle.calculus.proofs.Inferred.{i_mu, i_literal, i_reckon}
use Rattle.calculus.proofs.Inference.{infer_inferred}
use Rattle.calculus.proofs.Results.{result_bound}
use Rattle.calculus.proofs.SecureTyping.{SecureContext, sc_extend, secure_parts, side_secure, table_parts, typed_secure}

pub subsumption : {S : Security} {tab : ℕ → Ty} {Γ : List Ty} {e : Term} {s t : Ty} → HasType S tab Γ e s → Directed S below s t → IsTrue (secure_t S t)
    → HasType S tab Γ e t
subsumption p s h = t_sub p (directed_subtype s) h

module _ {S : Security} {tab : ℕ → Ty} (L : Laws S) (T : Table S tab) where
  -- The rules that compare, as rules of the relation.

  pub inj_typed : {Γ : List Ty} {d : Side} {k l : Property} {i : ℕ} {e : Term} {s t u : Ty} → IsTrue (S.secure k) → tab i ≡ node sum l s t
      → HasType S tab Γ e u → Directed S below u (choose d s t) → HasType S tab Γ (inj d k i e) (node sum k s t)
  inj_typed {d = d} {i = i} h e p s = t_inj h e (subsumption p s (side_secure d (table_parts T i e)))

  pub app_typed : {Γ : List Ty} {k : Property} {w : Reader} {f a : Term} {s t u : Ty} → SecureContext S Γ → HasType S tab Γ f (node function k s t)
      → HasType S tab Γ a u → Directed S below u s → IsTrue (S.permits k w) → HasType S tab Γ (app w f a) (raise_t S t (S.influence k w))
  app_typed C p q s m = t_app p (subsumption q s (secure_parts S _ _ _ _ (typed_secure L T C p)).left) m

  -- both branches have the result type
  pub branches_typed : {Γ Δ : List Ty} {a b : Term} {u v r : Ty} (i : ℕ) → SecureContext S Γ → SecureContext S Δ → HasType S tab Γ a u
      → HasType S tab Δ b v → type_of_case S tab i u v ≡ some r → TypeOfCase tab i r × HasType S tab Γ a r × HasType S tab Δ b r
  branches_typed i C D p q e =
      let x = result_bound L T i _ _ _ (typed_secure L T C p) (typed_secure L T D q) e in
      (x.0, subsumption p x.1.left x.1.secure, subsumption q x.1.right x.1.secure)

  pub case_typed : {Γ : List Ty} {k : Property} {w : Reader} {i : ℕ} {e a b : Term} {s t u v r : Ty} → SecureContext S Γ
      → HasType S tab Γ e (node sum k s t) → IsTrue (S.permits k w) → HasType S tab (s ∷ Γ) a u → HasType S tab (t ∷ Γ) b v → type_of_case S tab i u v ≡ some r
      → HasType S tab Γ (case w i e a b) (raise_t S r (S.influence k w))
  case_typed {i = i} C p m q q' e =
      let x = secure_parts S _ _ _ _ (typed_secure L T C p) in
      let y = branches_typed i (sc_extend x.left C) (sc_extend x.right C) q q' e in
      t_case p m y.0 y.1 y.2

  pub inferred_typed : {Γ : List Ty} {e : Term} {t : Ty} → SecureContext S Γ → Inferred S tab Γ e t → HasType S tab Γ e t
  inferred_typed C (i_var h) = t_var h
  inferred_typed C (i_unit h) = t_unit h
  inferred_typed C (i_lam {i = i} h p f) = t_lam h (inferred_typed (sc_extend (T.secure i) C) p) f
  inferred_typed C (i_pair h p q f) = t_pair h (inferred_typed C p) (inferred_typed C q) f
  inferred_typed C (i_inj h e p s) = inj_typed h e (inferred_typed C p) s
  inferred_typed C (i_app p q s m) = app_typed C (inferred_typed C p) (inferred_typed C q) s m
  inferred_typed C (i_proj p m) = t_proj (inferred_typed C p) m
  inferred_typed C (i_case p m q q' y) =
      let e = inferred_typed C p in
      let x = secure_parts S _ _ _ _ (typed_secure L T C e) in
      case_typed C e m (inferred_typed (sc_extend x.left C) q) (inferred_typed (sc_extend x.right C) q') y
  inferred_typed C (i_protect h p) = t_protect h (inferred_typed C p)
  inferred_typed C (i_mu {i = i} e m h p s) = t_mu e m h (subsumption (inferred_typed (sc_extend (T.secure i) C) p) s (T.secure i))
  inferred_typed C (i_literal h) = t_literal h
  inferred_typed C (i_reckon p m q n x) = t_reckon (inferred_typed C p) m (inferred_typed C q) n x

  pub infer_sound : {Γ : List Ty} (e : Term) (t : Ty) → SecureContext S Γ → infer S tab Γ e ≡ some t → HasType S tab Γ e t
  infer_sound e t C h = inferred_typed C (infer_inferred e t h)

  pub infer_secure : {Γ : List Ty} (e : Term) (t : Ty) → SecureContext S Γ → infer S tab Γ e ≡ some t → IsTrue (secure_t S t)
  infer_secure e t C h = typed_secure L T C (infer_sound e t C h)
