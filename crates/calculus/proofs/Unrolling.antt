-- What stands for f when μf : s. e unrolls has the recursion's type. This is where a recursion's conditions (questions
-- 21 and 23) are needed.
use Rattle.std.proofs.Common.{◌≡◌, ap, [], ◌∷◌, ℕ, suc, zero, IsTrue}
use Rattle.std.proofs.Math.Option.{some, Option}
use Rattle.calculus.specs.Security.{Property, Reader, Security, Laws}
use Rattle.calculus.specs.Types.{function, Ty, leaf, node, top, raise_t, secure_t}
use Rattle.calculus.specs.Subtyping.{below}
use Rattle.calculus.specs.Terms.{Term, var, app, mu}
use Rattle.calculus.specs.Reduction.{unrolled_function}
use Rattle.calculus.specs.Typing.{lookup, HasType, t_var, t_lam, t_app, Table}
use Rattle.calculus.proofs.Directed.{Directed, d_leaf, d_node, directed_refl}
use Rattle.calculus.proofs.SecureTyping.{secure_parts, table_parts}
use Rattle.calculus.proofs.Soundness.{subsumption}
use Rattle.calculus.proofs.Weakening.{weakening}

module _ {S : Security} {tab : ℕ → Ty} (L : Laws S) (T : Table S tab) where
  -- Raised by the influence of its own calls, the result stays at or below itself.
  pub absorbed : (k : Property) (w : Reader) (t : Ty) → IsTrue (S.secure k) → IsTrue (secure_t S t) → IsTrue (S.permits k w) → IsTrue (S.absorbs k w (top t))
      → Directed S below (raise_t S t (S.influence k w)) t
  unfolding secure_t
  absorbed k w (leaf b l) h g m a = d_leaf (L.absorption k l w h g m a)
  absorbed k w (node f l s t) h g m a =
      let x = secure_parts S f l s t g in
      d_node (L.absorption k l w h x.own m a) (directed_refl L _ s x.left) (directed_refl L below t x.right)

  pub unrolled_typed : {w : Reader} {e : Term} {k : Property} {s t : Ty} (i : ℕ) → tab i ≡ node function k s t → IsTrue (S.permits k (S.caller k w))
      → IsTrue (S.absorbs k (S.caller k w) (top t)) → HasType S tab [] (mu w i e) (tab i) → HasType S tab [] (unrolled_function S w i k e) (tab i)
  unfolding lookup
  unrolled_typed {w} {e} {k} {s} {t} i x m a p =
      let l : tab (suc i) ≡ s = T.left i x in
      let y = table_parts T i x in
      let body : HasType S tab (tab (suc i) ∷ []) (app (S.caller k w) (mu w i e) (var zero)) t =
      subsumption (t_app (rw x at (weakening (tab (suc i) ∷ []) p)) (t_var (ap {B = Option Ty} some l)) m)
      (absorbed k (S.caller k w) t y.own y.right m a) y.right in
      rw x (rw l at (t_lam y.own body (rw l (rw x at (T.small i)))))
