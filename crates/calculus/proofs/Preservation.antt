-- Subject reduction: a reduction keeps the type of a closed term.
use Rattle.std.proofs.Common.{◌≡◌, sym, ap, ◌∙◌, [], ◌∷◌, ℕ, zero, IsTrue}
use Rattle.std.proofs.Math.Option.{some}
use Rattle.std.proofs.Math.Bool.{false≢true}
use Rattle.calculus.specs.Security.{Property, Reader, Indirect, Security, Laws}
use Rattle.calculus.specs.Types.{one, Ty, leaf, top, raise_t}
use Rattle.calculus.specs.Subtyping.{Subtype}
use Rattle.calculus.specs.Terms.{Side, first, second, choose, Operation, Term, unit, protect, is_value, substitute}
use Rattle.calculus.specs.Terms.{raise_value}
use Rattle.calculus.specs.Numbers.{side, less_side, reckon_result, Reckons, a_number, a_flag}
use Rattle.calculus.specs.Reduction.{Contracts, c_app, c_proj, c_case, c_mu, c_reckon, c_protect, Reduces, moved, step}
use Rattle.calculus.specs.Typing.{HasType, t_unit, t_lam, t_pair, t_inj, t_protect, t_mu, t_literal, Table, infer}
use Rattle.calculus.proofs.Sides.{choose_both}
use Rattle.calculus.proofs.Numbers.{of_both_secure}
use Rattle.calculus.proofs.Raising.{raise_fits}
use Rattle.calculus.proofs.Inferred.{Inferred, i_unit, i_lam, i_pair, i_inj, i_app, i_proj, i_case, i_protect, i_mu}
use Rattle.calculus.proofs.Inferred.{i_literal, i_reckon}
use Rattle.calculus.proofs.SecureTyping.{sc_empty, sc_extend, top_secure, side_secure, table_parts, typed_secure}
use Rattle.calculus.proofs.Soundness.{subsumption, inj_typed, branches_typed, infer_sound}
use Rattle.calculus.proofs.Completeness.{n_empty, typed_inferred, infer_complete}
use Rattle.calculus.proofs.Substitution.{substitution}
use Rattle.calculus.proofs.TypedContexts.{closed_typed, bound_typed, filled}
use Rattle.calculus.proofs.Unrolling.{unrolled_typed}
use Rattle.calculus.proofs.Reduction.{step_reduces}

module _ {S : Security} {tab : ℕ → Ty} (L : Laws S) (T : Table S tab) where
  -- what a reading gives is protected by the influence of what was read
  protected : {k : Property} {e : Term} {t : Ty} (w : Reader) → IsTrue (S.secure k) → IsTrue (S.permits k w) → HasType S tab [] e t
      → HasType S tab [] (protect (S.influence k w) e) (raise_t S t (S.influence k w))
  protected w h g p = t_protect (L.influence_secure _ w h g) p

  branch_typed : {v a b : Term} {s t u : Ty} (d : Side) → HasType S tab [] v (choose d s t) → HasType S tab (s ∷ []) a u → HasType S tab (t ∷ []) b u
      → HasType S tab [] (substitute zero v (choose d a b)) u
  branch_typed {u = u} d p q r = substitution p [] (choose_both (λ a s. HasType S tab (s ∷ []) a u) d q r)

  raised_typed : {v : Term} {t : Ty} (m : Indirect) → IsTrue (S.secure_i m) → IsTrue (is_value v) → Inferred S tab [] v t
      → HasType S tab [] (raise_value S v m) (raise_t S t m)
  unfolding is_value raise_value
  raised_typed m g x (i_unit {k = k} h) = t_unit (L.raise_secure k m h g)
  raised_typed m g x (i_lam {k = k} {i = i} h q f) = t_lam (L.raise_secure k m h g) (bound_typed L T (tab i) (T.secure i) q) (raise_fits S _ m f)
  raised_typed m g x (i_pair {k = k} h q r f) = t_pair (L.raise_secure k m h g) (closed_typed L T q) (closed_typed L T r) (raise_fits S _ m f)
  raised_typed m g x (i_inj {k = k} h e q r) = inj_typed L T (L.raise_secure k m h g) e (closed_typed L T q) r
  raised_typed m g x (i_literal {k = k} h) = t_literal (L.raise_secure k m h g)
  raised_typed m g x _ = absurd (false≢true x)

  -- a unit with the groups of a side that is a unit
  flag_typed : (d : Side) (p q : Property) → IsTrue (S.secure p) → IsTrue (S.secure q)
      → HasType S tab [] (unit (top (choose d (leaf one p) (leaf one q)))) (choose d (leaf one p) (leaf one q))
  flag_typed first p q h g = t_unit h
  flag_typed second p q h g = t_unit g

  reckoned_typed : {o : Operation} {k : Property} {t : Ty} (m n : ℕ) → IsTrue (S.secure k) → Reckons tab o k t → HasType S tab [] (reckon_result tab o k m n) t
  unfolding reckon_result
  reckoned_typed m n h a_number = t_literal h
  reckoned_typed m n h (a_flag {i = i} {p = p} {q = q} e) =
      let x = table_parts T i e in
      let u = flag_typed (less_side m n) p q (top_secure S _ x.left) (top_secure S _ x.right) in
      t_inj {d = less_side m n} h e (rw (← ap (λ (t : Ty). top (side (less_side m n) t)) e) at u)

  -- lemma A.4
  contraction : {e e' : Term} {t : Ty} → Contracts S tab e e' → Inferred S tab [] e t → HasType S tab [] e' t
  contraction (c_app {i = i} {w = w} x g) (i_app (i_lam h q f) r s m) =
      protected w h m (substitution (subsumption (closed_typed L T r) s (T.secure i)) [] (bound_typed L T (tab i) (T.secure i) q))
  contraction (c_proj {d = d} {w = w} x y g) (i_proj (i_pair h q r f) m) =
      protected w h m (choose_both (HasType S tab []) d (closed_typed L T q) (closed_typed L T r))
  contraction (c_case {d = d} {i = i} {j = j} {w = w} x g) (i_case (i_inj h e q z) m p p' r) =
      let y = table_parts T i e in
      let x = branches_typed L T j (sc_extend y.left sc_empty) (sc_extend y.right sc_empty)
      (bound_typed L T _ y.left p) (bound_typed L T _ y.right p') r in
      protected w h m (branch_typed d (subsumption (closed_typed L T q) z (side_secure d y)) x.1 x.2)
  contraction (c_mu {i = i} x) (i_mu y m a p s) =
      let q = subsumption (bound_typed L T (tab i) (T.secure i) p) s (T.secure i) in
      rw (ap top (sym x ∙ y)) (substitution (unrolled_typed L T i y m a (t_mu y m a q)) [] q)
  contraction (c_reckon {w = w} {k = k} {l = l} {m = m} {n = n} x y) (i_reckon (i_literal h) g (i_literal h') g' z) =
      reckoned_typed m n (of_both_secure L w k l h g h' g') z
  contraction (c_protect {m = m} x) (i_protect h p) = raised_typed m h x p

  inferred_preservation : {e e' : Term} {t : Ty} → Inferred S tab [] e t → Reduces S tab e e' → HasType S tab [] e' t
  inferred_preservation p r =
      let f = filled L T r.context (rw r.before at p) in
      rw r.after (f.refill _ (contraction r.contracts f.typed))

  pub preservation : {e e' : Term} {t : Ty} → HasType S tab [] e t → Reduces S tab e e' → HasType S tab [] e' t
  preservation h r =
      let x = typed_inferred L T h n_empty in
      subsumption (inferred_preservation x.inferred r) x.below (typed_secure L T sc_empty h)

  -- The same for the functions: the next term has an inferred type at or below.
  pub infer_preservation : (e e' : Term) (t : Ty) → infer S tab [] e ≡ some t → step S tab e ≡ moved e'
      → (s : Ty) × (infer S tab [] e' ≡ some s) × Subtype S s t
  infer_preservation e e' t h m =
      infer_complete L T e' t sc_empty (preservation (infer_sound L T e t sc_empty h) (step_reduces S tab e e' m))
