-- Two related terms that both come to values come to related ones: induction on the steps of the first run, and within
-- on the relation.
use Rattle.std.proofs.Common.{◌≡◌, refl, ap, subst, Bool, true, false, [], ◌∷◌, ℕ, suc, zero, ◌≤◌, ◌<◌, arith, IsTrue}
use Rattle.std.proofs.Math.Option.{some, none-ne-some, Option}
use Rattle.calculus.specs.Security.{Property, Reader, Indirect, Security, Laws}
use Rattle.calculus.specs.Types.{number, sum, product, function, Ty, leaf, node, top, raise_t, secure_t, fits}
use Rattle.calculus.specs.Terms.{Side, choose, Operation, Term, var, pair, inj, app, proj, case, protect, mu, reckon}
use Rattle.calculus.specs.Terms.{is_value}
use Rattle.calculus.specs.Numbers.{of_both, Reckons, a_number, a_flag}
use Rattle.calculus.specs.Reduction.{unrolled_function, c_mu, c_protect, hole, app_left, app_right, in_proj, in_inj, pair_left, pair_right, in_protect, in_case, reckon_left, reckon_right, plug}
use Rattle.calculus.specs.Runs.{Runs}
use Rattle.calculus.specs.Typing.{lookup, TypeOfCase, HasType, t_proj, Table}
use Rattle.calculus.proofs.Booleans.{both}
use Rattle.calculus.proofs.Directed.{directed_subtype}
use Rattle.calculus.proofs.Values.{raised_stands}
use Rattle.calculus.proofs.SecureTyping.{sc_empty, sc_extend, secure_parts, top_secure, typed_secure, side_secure}
use Rattle.calculus.proofs.SecureTyping.{table_parts}
use Rattle.calculus.proofs.Unrolling.{absorbed}
use Rattle.noninterference.proofs.Splitting.{runs_typed, value_runs, same_end, contraction_runs, hole_first}
use Rattle.noninterference.proofs.Related.{Related, q_hidden, q_sub, q_var, q_unit, q_lam, q_pair, q_inj, q_app, q_proj}
use Rattle.noninterference.proofs.Related.{q_case, q_protect, q_mu, q_literal, q_reckon, left_typed, right_typed}
use Rattle.noninterference.proofs.Related.{related_itself, related_weakening, related_substitution}
use Rattle.noninterference.proofs.Observing.{Sight, related_secure, observed}
use Rattle.noninterference.proofs.Reading.{Contracted, apply_related, project_related, branch_related, raise_related}
use Rattle.noninterference.proofs.Reading.{same_number}

module _ {S : Security} {tab : ℕ → Ty} (L : Laws S) (T : Table S tab) {seen : Property → Bool} (O : Sight S seen) where
  top_raised : (t : Ty) (m : Indirect) → top (raise_t S t m) ≡ S.raise (top t) m
  top_raised t m = grind arith

  -- a result that is seen was read from something that is seen
  seen_through : (t : Ty) (k : Property) (w : Reader) → IsTrue (secure_t S t) → IsTrue (S.secure k) → IsTrue (S.permits k w)
      → IsTrue (seen (top (raise_t S t (S.influence k w)))) → IsTrue (seen k)
  seen_through t k w h g m x = O.of_read (top t) k w (top_secure S t h) g m (rw (top_raised t (S.influence k w)) at x)

  -- of a type that is not seen, the typing says all
  hidden_or : (t : Ty) {v v' : Term} → HasType S tab [] v t → HasType S tab [] v' t → (IsTrue (seen (top t)) → Related S tab seen [] v v' t)
      → Related S tab seen [] v v' t
  hidden_or t {v} {v'} p q k = go (seen (top t)) refl
    where
      go : (b : Bool) → seen (top t) ≡ b → Related S tab seen [] v v' t
      go true e = k e
      go false e = q_hidden p q (rw e refl)

  -- the result type of a case's branches
  result_secure : {e e' a a' : Term} {s t u : Ty} {k : Property} → Related S tab seen [] e e' (node sum k s t) → Related S tab seen (s ∷ []) a a' u
      → IsTrue (secure_t S u)
  result_secure p q = grind (arith, typed_secure, sc_extend, secure_parts, related_secure, sc_empty, left_typed)

  -- what is to be shown of a pair of terms, for first runs of at most N steps
  abbrev Agree : ℕ → Term → Term → Ty → Type 0
  Agree N e e' t =
      (n n' : ℕ) (v v' : Term) → Runs S tab n e v → IsTrue (is_value v) → Runs S tab n' e' v' → IsTrue (is_value v') → n ≤ N → Related S tab seen [] v v' t

  -- and of all pairs, for first runs of fewer than N
  abbrev Shorter : ℕ → Type 0
  Shorter N =
      (e e' v v' : Term) (t : Ty) (n n' : ℕ) → Related S tab seen [] e e' t → Runs S tab n e v → IsTrue (is_value v) → Runs S tab n' e' v'
      → IsTrue (is_value v')
      → n < N → Related S tab seen [] v v' t

  -- two redexes that contract to related terms
  contracted_agree : (N : ℕ) → Shorter N → {e e' u u' : Term} {t : Ty} {n n' : ℕ} → Contracted S tab seen e e' t → Runs S tab n e u → IsTrue (is_value u)
      → Runs S tab n' e' u' → IsTrue (is_value u') → n ≤ N → Related S tab seen [] u u' t
  contracted_agree N G c x vu x' vu' le =
      contraction_runs c.left_contracts x vu λ m r e.
      contraction_runs c.right_contracts x' vu' λ m' r' e'.
      G _ _ _ _ _ m m' c.relation r vu r' vu' (omega arith)

  -- A lemma a rule.

  app_agree : (N : ℕ) → Shorter N → {f a f' a' : Term} {s t : Ty} {k : Property} (w : Reader) → Related S tab seen [] f f' (node function k s t)
      → Related S tab seen [] a a' s → IsTrue (S.permits k w) → Agree N f f' (node function k s t) → Agree N a a' s
      → Agree N (app w f a) (app w f' a') (raise_t S t (S.influence k w))
  unfolding plug
  app_agree N G {f} {a} {f'} {a'} {s} {t} {k} w p q m P Q n n' u u' x vu x' vu' le =
      let r = q_app p q m in
      let y = secure_parts S _ _ _ _ (related_secure L T O p) in
      hidden_or _ (runs_typed L T (left_typed r) x) (runs_typed L T (right_typed r) x') λ z.
      hole_first (app_left w hole a) f x refl vu λ i j vf rf hf x1 e1.
      hole_first (app_right w vf hf hole) a x1 refl vu λ i2 j2 va ra ha x2 e2.
      hole_first (app_left w hole a') f' x' refl vu' λ i' j' vf' rf' hf' x1' e1'.
      hole_first (app_right w vf' hf' hole) a' x1' refl vu' λ i2' j2' va' ra' ha' x2' e2'.
      contracted_agree N G
      (apply_related L T w (observed L T O (P i i' vf vf' rf hf rf' hf' (omega arith)) hf (seen_through t k w y.right y.own m z)) y m
      (Q i2 i2' va va' ra ha ra' ha' (omega arith)) ha ha')
      x2 vu x2' vu' (omega arith)

  proj_agree : (N : ℕ) → Shorter N → {e e' : Term} {s t : Ty} {k : Property} (d : Side) (w : Reader) → Related S tab seen [] e e' (node product k s t)
      → IsTrue (S.permits k w) → Agree N e e' (node product k s t) → Agree N (proj d w e) (proj d w e') (raise_t S (choose d s t) (S.influence k w))
  unfolding plug
  proj_agree N G {e} {e'} {s} {t} {k} d w p m P n n' u u' x vu x' vu' le =
      let y = secure_parts S _ _ _ _ (related_secure L T O p) in
      hidden_or _ (runs_typed L T (t_proj {d = d} (left_typed p) m) x) (runs_typed L T (t_proj {d = d} (right_typed p) m) x') λ z.
      hole_first (in_proj d w hole) e x refl vu λ i j v r h x1 e1.
      hole_first (in_proj d w hole) e' x' refl vu' λ i' j' v' r' h' x1' e1'.
      contracted_agree N G
      (project_related L T d w
      (observed L T O (P i i' v v' r h r' h' (omega arith)) h (seen_through (choose d s t) k w (side_secure d y) y.own m z)) y m h h')
      x1 vu x1' vu' (omega arith)

  case_agree : (N : ℕ) → Shorter N → {e a b e' a' b' : Term} {s t c : Ty} {k : Property} (w : Reader) (g : ℕ)
      → Related S tab seen [] e e' (node sum k s t)
      → IsTrue (S.permits k w) → TypeOfCase tab g c → IsTrue (secure_t S c) → Related S tab seen (s ∷ []) a a' c → Related S tab seen (t ∷ []) b b' c
      → Agree N e e' (node sum k s t) → Agree N (case w g e a b) (case w g e' a' b') (raise_t S c (S.influence k w))
  unfolding plug
  case_agree N G {e} {a} {b} {e'} {a'} {b'} {c = c} {k = k} w g p m o hc q q' P n n' u u' x vu x' vu' le =
      let r = q_case p m o q q' in
      let y = secure_parts S _ _ _ _ (related_secure L T O p) in
      hidden_or _ (runs_typed L T (left_typed r) x) (runs_typed L T (right_typed r) x') λ z.
      hole_first (in_case w g hole a b) e x refl vu λ i j v rv h x1 e1.
      hole_first (in_case w g hole a' b') e' x' refl vu' λ i' j' v' rv' h' x1' e1'.
      contracted_agree N G
      (branch_related L T w g (observed L T O (P i i' v v' rv h rv' h' (omega arith)) h (seen_through c k w hc y.own m z)) y hc m h h' q q')
      x1 vu x1' vu' (omega arith)

  protect_agree : (N : ℕ) {e e' : Term} {t : Ty} (m : Indirect) → IsTrue (S.secure_i m) → Related S tab seen [] e e' t → Agree N e e' t
      → Agree N (protect m e) (protect m e') (raise_t S t m)
  unfolding plug
  protect_agree N {e} {e'} {t} m g p P n n' u u' x vu x' vu' le =
      let r = q_protect g p in
      let y = related_secure L T O p in
      hidden_or _ (runs_typed L T (left_typed r) x) (runs_typed L T (right_typed r) x') λ z.
      hole_first (in_protect m hole) e x refl vu λ i j v rv h x1 e1.
      hole_first (in_protect m hole) e' x' refl vu' λ i' j' v' rv' h' x1' e1'.
      contraction_runs (c_protect h) x1 vu λ l s _.
      contraction_runs (c_protect h') x1' vu' λ l' s' _.
      rw (← value_runs s (raised_stands S v m h), ← value_runs s' (raised_stands S v' m h'))
      (raise_related L T m g y
      (observed L T O (P i i' v v' rv h rv' h' (omega arith)) h (O.of_raised (top t) m (top_secure S t y) g (rw (top_raised t m) at z))))

  pair_agree : (N : ℕ) {a b a' b' : Term} {s t : Ty} (k : Property) → IsTrue (S.secure k) → IsTrue (fits (node product k s t)) → Agree N a a' s
      → Agree N b b' t
      → Agree N (pair k a b) (pair k a' b') (node product k s t)
  unfolding plug is_value
  pair_agree N {a} {b} {a'} {b'} k g f P Q n n' u u' x vu x' vu' le =
      hole_first (pair_left k hole b) a x refl vu λ i j va ra ha x1 e1.
      hole_first (pair_right k va ha hole) b x1 refl vu λ i2 j2 vb rb hb x2 e2.
      hole_first (pair_left k hole b') a' x' refl vu' λ i' j' va' ra' ha' x1' e1'.
      hole_first (pair_right k va' ha' hole) b' x1' refl vu' λ i2' j2' vb' rb' hb' x2' e2'.
      rw (← value_runs x2 (both ha hb), ← value_runs x2' (both ha' hb'))
      (q_pair g (P i i' va va' ra ha ra' ha' (omega arith)) (Q i2 i2' vb vb' rb hb rb' hb' (omega arith)) f)

  inj_agree : (N : ℕ) {e e' : Term} {s t : Ty} {l : Property} (d : Side) (k : Property) (g : ℕ) → IsTrue (S.secure k) → tab g ≡ node sum l s t
      → Agree N e e' (choose d s t) → Agree N (inj d k g e) (inj d k g e') (node sum k s t)
  unfolding plug is_value
  inj_agree N {e} {e'} d k g h q P n n' u u' x vu x' vu' le =
      hole_first (in_inj d k g hole) e x refl vu λ i j v r hv x1 e1.
      hole_first (in_inj d k g hole) e' x' refl vu' λ i' j' v' r' hv' x1' e1'.
      rw (← value_runs x1 hv, ← value_runs x1' hv') (q_inj h q (P i i' v v' r hv r' hv' (omega arith)))

  -- what stands for f in the two recursions
  unrolled_related : {w : Reader} {e e' : Term} {k : Property} {s t : Ty} (i : ℕ) → tab i ≡ node function k s t → IsTrue (S.permits k (S.caller k w))
      → IsTrue (S.absorbs k (S.caller k w) (top t)) → Related S tab seen [] (mu w i e) (mu w i e') (tab i)
      → Related S tab seen [] (unrolled_function S w i k e) (unrolled_function S w i k e') (tab i)
  unfolding lookup
  unrolled_related {w} {e} {e'} {k} {s} {t} i x m a p =
      let l : tab (suc i) ≡ s = T.left i x in
      let y = table_parts T i x in
      let body : Related S tab seen (tab (suc i) ∷ []) (app (S.caller k w) (mu w i e) (var zero)) (app (S.caller k w) (mu w i e') (var zero)) t =
      q_sub (q_app (rw x at (related_weakening (tab (suc i) ∷ []) p)) (q_var (ap {B = Option Ty} some l)) m)
      (directed_subtype (absorbed L T k (S.caller k w) t y.own y.right m a)) y.right in
      rw x (rw l at (q_lam y.own body (rw l (rw x at (T.small i)))))

  mu_agree : (N : ℕ) → Shorter N → {e e' : Term} {k : Property} {s t : Ty} (w : Reader) (i : ℕ) → tab i ≡ node function k s t
      → IsTrue (S.permits k (S.caller k w))
      → IsTrue (S.absorbs k (S.caller k w) (top t)) → Related S tab seen (tab i ∷ []) e e' (tab i) → Agree N (mu w i e) (mu w i e') (tab i)
  mu_agree N G w i o m a p n n' u u' x vu x' vu' le =
      contracted_agree N G
      (record {
        left = _;
        right = _;
        left_contracts = c_mu o;
        right_contracts = c_mu o;
        relation = related_substitution (unrolled_related i o m a (q_mu o m a p)) [] p;
      })
      x vu x' vu' le

  -- a seen result of reckoning was made of seen numbers
  both_seen : (w : Reader) (k l : Property) → IsTrue (S.secure k) → IsTrue (S.permits k w) → IsTrue (S.secure l) → IsTrue (S.permits l w)
      → IsTrue (seen (of_both S w k l)) → IsTrue (seen k) × IsTrue (seen l)
  both_seen w k l h m g n x = grind arith

  reckons_top : {o : Operation} {k : Property} {t : Ty} → Reckons tab o k t → top t ≡ k
  reckons_top n = grind arith

  reckon_agree : (N : ℕ) {a b a' b' : Term} {k l : Property} {t : Ty} (o : Operation) (w : Reader) → Related S tab seen [] a a' (leaf number k)
      → IsTrue (S.permits k w) → Related S tab seen [] b b' (leaf number l) → IsTrue (S.permits l w) → Reckons tab o (of_both S w k l) t
      → Agree N a a' (leaf number k) → Agree N b b' (leaf number l) → Agree N (reckon o w a b) (reckon o w a' b') t
  unfolding plug
  reckon_agree N {a} {b} {a'} {b'} {k} {l} {t} o w p m q m' y P Q n n' u u' x vu x' vu' le =
      let r = q_reckon p m q m' y in
      hidden_or t (runs_typed L T (left_typed r) x) (runs_typed L T (right_typed r) x') λ z.
      let s = both_seen w k l (top_secure S _ (related_secure L T O p)) m (top_secure S _ (related_secure L T O q)) m' (rw (reckons_top y) at z) in
      hole_first (reckon_left o w hole b) a x refl vu λ i j va ra ha x1 e1.
      hole_first (reckon_right o w va ha hole) b x1 refl vu λ i2 j2 vb rb hb x2 e2.
      hole_first (reckon_left o w hole b') a' x' refl vu' λ i' j' va' ra' ha' x1' e1'.
      hole_first (reckon_right o w va' ha' hole) b' x1' refl vu' λ i2' j2' vb' rb' hb' x2' e2'.
      let ea : va ≡ va' = same_number L T (observed L T O (P i i' va va' ra ha ra' ha' (omega arith)) ha s.0) in
      let eb : vb ≡ vb' = same_number L T (observed L T O (Q i2 i2' vb vb' rb hb rb' hb' (omega arith)) hb s.1) in
      subst (λ (y : Term). Related S tab seen [] u y t) (same_end x2 vu (rw (← ea, ← eb) at x2') vu')
      (related_itself (runs_typed L T (left_typed r) x))

  -- terms that are values already
  value_agree : (N : ℕ) {e e' : Term} {t : Ty} → IsTrue (is_value e) → IsTrue (is_value e') → Related S tab seen [] e e' t → Agree N e e' t
  value_agree N h h' p n n' u u' x vu x' vu' le = rw (← value_runs x h, ← value_runs x' h') p

  agreement : (N : ℕ) → Shorter N → {e e' : Term} {t : Ty} → Related S tab seen [] e e' t → Agree N e e' t
  unfolding is_value lookup
  agreement N G (q_hidden p q h) = λ n n' u u' x vu x' vu' le. q_hidden (runs_typed L T p x) (runs_typed L T q x') h
  agreement N G (q_sub p b h) = λ n n' u u' x vu x' vu' le. q_sub (agreement N G p n n' u u' x vu x' vu' le) b h
  agreement N G (q_var {t = t} h) = λ n n' u u' x vu x' vu' le. absurd (none-ne-some t h)
  agreement N G (q_unit h) = value_agree N refl refl (q_unit h)
  agreement N G (q_lam h p f) = value_agree N refl refl (q_lam h p f)
  agreement N G (q_pair {k = k} h p q f) = pair_agree N k h f (agreement N G p) (agreement N G q)
  agreement N G (q_inj {d = d} {k = k} {i = i} h e p) = inj_agree N d k i h e (agreement N G p)
  agreement N G (q_app {w = w} p q m) = app_agree N G w p q m (agreement N G p) (agreement N G q)
  agreement N G (q_proj {d = d} {w = w} p m) = proj_agree N G d w p m (agreement N G p)
  agreement N G (q_case {w = w} {i = i} p m o q r) = case_agree N G w i p m o (result_secure p q) q r (agreement N G p)
  agreement N G (q_protect {m = m} h p) = protect_agree N m h p (agreement N G p)
  agreement N G (q_mu {w = w} {i = i} e m h p) = mu_agree N G w i e m h p
  agreement N G (q_literal h) = value_agree N refl refl (q_literal h)
  agreement N G (q_reckon {o = o} {w = w} p m q n y) = reckon_agree N o w p m q n y (agreement N G p) (agreement N G q)

  all_shorter : (N : ℕ) → Shorter N
  all_shorter zero e e' v v' t n n' r x vx x' vx' lt = absurd (omega arith)
  all_shorter (suc N) e e' v v' t n n' r x vx x' vx' lt = agreement N (all_shorter N) r n n' v v' x vx x' vx' (omega arith)

  pub related_ends : (e e' v v' : Term) (t : Ty) (n n' : ℕ) → Related S tab seen [] e e' t → Runs S tab n e v → IsTrue (is_value v) → Runs S tab n' e' v'
      → IsTrue (is_value v') → Related S tab seen [] v v' t
  related_ends e e' v v' t n n' r x vx x' vx' = all_shorter (suc n) e e' v v' t n n' r x vx x' vx' (omega arith)
