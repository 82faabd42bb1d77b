-- An evaluation context around a closed term: the term has a type, and any other of that type may take its place.
use Rattle.std.proofs.Common.{[], ◌∷◌, ℕ, IsTrue}
use Rattle.calculus.specs.Security.{Security, Laws}
use Rattle.calculus.specs.Types.{Ty, secure_t}
use Rattle.calculus.specs.Terms.{Term}
use Rattle.calculus.specs.Reduction.{Context, hole, app_left, app_right, in_proj, in_inj, pair_left, pair_right}
use Rattle.calculus.specs.Reduction.{in_protect, in_case, reckon_left, reckon_right, plug}
use Rattle.calculus.specs.Typing.{HasType, t_pair, t_proj, t_protect, t_reckon, Table}
use Rattle.calculus.proofs.Inferred.{Inferred, i_pair, i_inj, i_app, i_proj, i_case, i_protect, i_reckon}
use Rattle.calculus.proofs.SecureTyping.{sc_empty, sc_extend, secure_parts, typed_secure}
use Rattle.calculus.proofs.Soundness.{inferred_typed, inj_typed, app_typed, case_typed}

pub record Filled (S : Security) (tab : ℕ → Ty) (E : Context) (e : Term) (t : Ty) : Type 0 where
  pub inner : Ty
  pub typed : Inferred S tab [] e inner
  pub refill : (e' : Term) → HasType S tab [] e' inner → HasType S tab [] (plug E e') t

module _ {S : Security} {tab : ℕ → Ty} (L : Laws S) (T : Table S tab) where
  pub closed_typed : {e : Term} {t : Ty} → Inferred S tab [] e t → HasType S tab [] e t
  closed_typed p = inferred_typed L T sc_empty p

  pub bound_typed : {e : Term} {t : Ty} (s : Ty) → IsTrue (secure_t S s) → Inferred S tab (s ∷ []) e t → HasType S tab (s ∷ []) e t
  bound_typed s h p = inferred_typed L T (sc_extend h sc_empty) p

  -- what a frame makes of a filled context
  framed : {E F : Context} {e : Term} {s t : Ty} → ((e' : Term) → HasType S tab [] (plug E e') s → HasType S tab [] (plug F e') t)
      → Filled S tab E e s → Filled S tab F e t
  framed f x = record { inner = x.inner; typed = x.typed; refill = λ e' h. f e' (x.refill e' h) }

  pub filled : (E : Context) {e : Term} {t : Ty} → Inferred S tab [] (plug E e) t → Filled S tab E e t
  unfolding plug
  filled hole p = record { inner = _; typed = p; refill = λ e' q. q }
  filled (app_left w E a) (i_app p q s m) = framed (λ e' h. app_typed L T sc_empty h (closed_typed q) s m) (filled E p)
  filled (app_right w v g E) (i_app p q s m) = framed (λ e' h. app_typed L T sc_empty (closed_typed p) h s m) (filled E q)
  filled (in_proj d w E) (i_proj p m) = framed (λ e' h. t_proj h m) (filled E p)
  filled (in_inj d k i E) (i_inj h e p s) = framed (λ e' q. inj_typed L T h e q s) (filled E p)
  filled (pair_left k E b) (i_pair h p q f) = framed (λ e' r. t_pair h r (closed_typed q) f) (filled E p)
  filled (pair_right k v g E) (i_pair h p q f) = framed (λ e' r. t_pair h (closed_typed p) r f) (filled E q)
  filled (in_protect m E) (i_protect h p) = framed (λ e' q. t_protect h q) (filled E p)
  filled (in_case w i E a b) (i_case p m q q' y) =
      let x = secure_parts S _ _ _ _ (typed_secure L T sc_empty (closed_typed p)) in
      framed (λ e' h. case_typed L T sc_empty h m (bound_typed _ x.left q) (bound_typed _ x.right q') y) (filled E p)
  filled (reckon_left o w E b) (i_reckon p m q n x) = framed (λ e' h. t_reckon h m (closed_typed q) n x) (filled E p)
  filled (reckon_right o w v g E) (i_reckon p m q n x) = framed (λ e' h. t_reckon (closed_typed p) m h n x) (filled E q)
