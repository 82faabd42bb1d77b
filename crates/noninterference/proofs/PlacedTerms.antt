-- Two closed terms of one reported type that is not seen, at the same place of an otherwise equal script, make related
-- scripts.
use Rattle.std.proofs.Common.{◌≡◌, sym, ◌∙◌, Bool, not, List, [], ◌∷◌, ℕ, IsTrue}
use Rattle.std.proofs.Math.Option.{some, some-injective}
use Rattle.calculus.specs.Security.{Property, Reader, Security, Laws}
use Rattle.calculus.specs.Types.{sum, function, Ty, node, top, raise_t}
use Rattle.calculus.specs.Subtyping.{below}
use Rattle.calculus.specs.Terms.{Term, app, case}
use Rattle.calculus.specs.Typing.{Table, type_of_case}
use Rattle.noninterference.specs.Places.{Place, whole, in_lam, in_pair_left, in_pair_right, at_inj, in_app_left}
use Rattle.noninterference.specs.Places.{in_app_right, at_proj, in_tested, in_first, in_second, at_protect, in_mu}
use Rattle.noninterference.specs.Places.{in_reckon_left, in_reckon_right, put}
use Rattle.calculus.proofs.Directed.{Directed, directed_subtype}
use Rattle.calculus.proofs.Inferred.{Inferred, i_lam, i_pair, i_inj, i_app, i_proj, i_case, i_protect, i_mu, i_reckon}
use Rattle.calculus.proofs.Inference.{inferred_infer}
use Rattle.calculus.proofs.SecureTyping.{SecureContext, sc_empty, sc_extend, secure_parts, side_secure, table_parts}
use Rattle.calculus.proofs.SecureTyping.{typed_secure}
use Rattle.calculus.proofs.Results.{result_bound}
use Rattle.calculus.proofs.Soundness.{inferred_typed}
use Rattle.calculus.proofs.Weakening.{inferred_weakening}
use Rattle.noninterference.proofs.Related.{Related, q_hidden, q_sub, q_lam, q_pair, q_inj, q_app, q_proj, q_case}
use Rattle.noninterference.proofs.Related.{q_protect, q_mu, q_reckon, left_typed, related_itself}

inferred_one : {S : Security} {tab : ℕ → Ty} {Γ : List Ty} {e : Term} {s t : Ty} → Inferred S tab Γ e s → Inferred S tab Γ e t → s ≡ t
inferred_one {s = s} {t = t} p q = some-injective s t (sym (inferred_infer p) ∙ inferred_infer q)

module _ {S : Security} {tab : ℕ → Ty} (L : Laws S) (T : Table S tab) where
  -- the contexts of a case's branches
  case_contexts : {P : Type 0} {Γ : List Ty} {k : Property} {e : Term} {s t : Ty} → SecureContext S Γ → Inferred S tab Γ e (node sum k s t)
      → (SecureContext S (s ∷ Γ) → SecureContext S (t ∷ Γ) → P) → P
  case_contexts C p f =
      let x = secure_parts S _ _ _ _ (typed_secure L T C (inferred_typed L T C p)) in f (sc_extend x.left C) (sc_extend x.right C)

-- The rules that compare, for two terms at once.
module _ {S : Security} {tab : ℕ → Ty} (L : Laws S) (T : Table S tab) {seen : Property → Bool} where
  app_related : {Γ : List Ty} {k : Property} {w : Reader} {f f' a a' : Term} {s t u : Ty} → SecureContext S Γ
      → Related S tab seen Γ f f' (node function k s t)
      → Related S tab seen Γ a a' u → Directed S below u s → IsTrue (S.permits k w)
      → Related S tab seen Γ (app w f a) (app w f' a') (raise_t S t (S.influence k w))
  app_related C p q s m = q_app p (q_sub q (directed_subtype s) (secure_parts S _ _ _ _ (typed_secure L T C (left_typed p))).left) m

  case_related : {Γ : List Ty} {k : Property} {w : Reader} {i : ℕ} {e e' a a' b b' : Term} {s t u v r : Ty} → SecureContext S Γ
      → Related S tab seen Γ e e' (node sum k s t) → IsTrue (S.permits k w) → Related S tab seen (s ∷ Γ) a a' u → Related S tab seen (t ∷ Γ) b b' v
      → type_of_case S tab i u v ≡ some r → Related S tab seen Γ (case w i e a b) (case w i e' a' b') (raise_t S r (S.influence k w))
  case_related {i = i} C p m q q' e =
      let x = secure_parts S _ _ _ _ (typed_secure L T C (left_typed p)) in
      let y = result_bound L T i _ _ _
      (typed_secure L T (sc_extend x.left C) (left_typed q)) (typed_secure L T (sc_extend x.right C) (left_typed q')) e in
      q_case p m y.0 (q_sub q (directed_subtype y.1.left) y.1.secure) (q_sub q' (directed_subtype y.1.right) y.1.secure)

  -- a part of an otherwise equal script
  unchanged : {Γ : List Ty} {e : Term} {t : Ty} → SecureContext S Γ → Inferred S tab Γ e t → Related S tab seen Γ e e t
  unchanged C x = related_itself (inferred_typed L T C x)

-- Two closed terms of one reported type that is not seen, at the same place of an otherwise equal script.
module _ {S : Security} {tab : ℕ → Ty} (L : Laws S) (T : Table S tab) {seen : Property → Bool} {a b : Term} {s : Ty}
    (p : Inferred S tab [] a s) (q : Inferred S tab [] b s) (h : IsTrue (not (seen (top s)))) where
  pub place_related : (P : Place) {Γ : List Ty} {t : Ty} → SecureContext S Γ → Inferred S tab Γ (put P a) t
      → Related S tab seen Γ (put P a) (put P b) t
  unfolding put
  place_related whole {Γ} C x =
      rw (← inferred_one (inferred_weakening Γ p) x) (q_hidden (inferred_typed L T sc_empty p) (inferred_typed L T sc_empty q) h)
  place_related (in_lam k i P) C (i_lam g x f) = q_lam g (place_related P (sc_extend (T.secure i) C) x) f
  place_related (in_pair_left k P e) C (i_pair g x y f) = q_pair g (place_related P C x) (unchanged L T C y) f
  place_related (in_pair_right k e P) C (i_pair g x y f) = q_pair g (unchanged L T C x) (place_related P C y) f
  place_related (at_inj d k i P) C (i_inj g o x u) = q_inj g o (q_sub (place_related P C x) (directed_subtype u) (side_secure d (table_parts T i o)))
  place_related (in_app_left w P e) C (i_app x y u m) = app_related L T C (place_related P C x) (unchanged L T C y) u m
  place_related (in_app_right w e P) C (i_app x y u m) = app_related L T C (unchanged L T C x) (place_related P C y) u m
  place_related (at_proj d w P) C (i_proj x m) = q_proj (place_related P C x) m
  place_related (in_tested w i P e f) C (i_case x m y z o) =
      case_contexts L T C x λ D D'. case_related L T C (place_related P C x) m (unchanged L T D y) (unchanged L T D' z) o
  place_related (in_first w i e P f) C (i_case x m y z o) =
      case_contexts L T C x λ D D'. case_related L T C (unchanged L T C x) m (place_related P D y) (unchanged L T D' z) o
  place_related (in_second w i e f P) C (i_case x m y z o) =
      case_contexts L T C x λ D D'. case_related L T C (unchanged L T C x) m (unchanged L T D y) (place_related P D' z) o
  place_related (at_protect m P) C (i_protect g x) = q_protect g (place_related P C x)
  place_related (in_mu w i P) C (i_mu o m g x u) =
      q_mu o m g (q_sub (place_related P (sc_extend (T.secure i) C) x) (directed_subtype u) (T.secure i))
  place_related (in_reckon_left o w P e) C (i_reckon x m y n z) = q_reckon (place_related P C x) m (unchanged L T C y) n z
  place_related (in_reckon_right o w e P) C (i_reckon x m y n z) = q_reckon (unchanged L T C x) m (place_related P C y) n z
