-- Two terms that are alike come to values that are alike: induction on how they come to them.
use Rattle.std.proofs.Common.{◌≡◌, ℕ, suc, zero, Bool, true, false, ◌||◌, cond, nat_eq, IsTrue, refl, ap, arith}
use Rattle.std.proofs.Math.Bool.{false≢true}
use Rattle.calculus.specs.Security.{Property, Reader, Indirect, Security, Laws}
use Rattle.calculus.specs.Types.{Ty, leaf, node, top, secure_t}
use Rattle.calculus.specs.Terms.{Side, choose, plus, less, Operation, Term, var, unit, lam, pair, inj, app, proj, case}
use Rattle.calculus.specs.Terms.{protect, mu, literal, reckon, is_value, substitute, raise_value}
use Rattle.calculus.specs.Numbers.{side, less_side, of_both, reckon_result}
use Rattle.calculus.specs.Reduction.{unrolled_function, Contracts, c_app, c_proj, c_case, c_mu, c_reckon, c_protect}
use Rattle.calculus.specs.Typing.{Table}
use Rattle.calculus.proofs.SecureTyping.{top_secure, secure_parts, side_secure}
use Rattle.calculus.proofs.Numbers.{of_both_secure}
use Rattle.calculus.proofs.Sides.{choose_each, choose_both}
use Rattle.noninterference.specs.Hidden.{Observer, dark, Alike, both_dark, variables, units, functions, pairs}
use Rattle.noninterference.specs.Hidden.{injections, applications, projections, cases, protects, recursions, literals}
use Rattle.noninterference.specs.Hidden.{reckonings, Labelled, Observes, AlikeRunsEndAlike}
use Rattle.noninterference.proofs.Evaluation as by_form
use Rattle.noninterference.proofs.Evaluation.{Evaluates, evaluates}

or_right : (a b : Bool) → IsTrue b → IsTrue (a || b)
or_right a b h = grind arith

pub or_left : (a b : Bool) → IsTrue a → IsTrue (a || b)
or_left a b h = rw h refl

-- the second of two tests, exchanged
pub or_map : (a : Bool) {b c : Bool} → (IsTrue b → IsTrue c) → IsTrue (a || b) → IsTrue (a || c)
or_map true f h = refl
or_map false f h = f h

-- each of two
or_both : {a b c d : Bool} → (IsTrue a → IsTrue c) → (IsTrue b → IsTrue d) → IsTrue (a || b) → IsTrue (c || d)
or_both {a} {c = c} {d = d} f g h = grind (arith, f, g, h)

module _ (S : Security) where
  labelled_subst : (n : ℕ) (v e : Term) → Labelled S v → Labelled S e → Labelled S (substitute n v e)
  unfolding substitute
  labelled_subst n v (var m) p q = elim (nat_eq m n) as (λ b. Labelled S (cond b v (var m))) [ true ↦ p | false ↦ tt ]
  labelled_subst n v (lam k i e) p q = (q.0, labelled_subst (suc n) v e p q.1)
  labelled_subst n v (pair k a b) p q = (q.0, labelled_subst n v a p q.1, labelled_subst n v b p q.2)
  labelled_subst n v (inj d k i e) p q = (q.0, labelled_subst n v e p q.1)
  labelled_subst n v (app w f a) p q = (labelled_subst n v f p q.0, labelled_subst n v a p q.1)
  labelled_subst n v (proj d w e) p q = labelled_subst n v e p q
  labelled_subst n v (case w i e a b) p q =
      (labelled_subst n v e p q.0, labelled_subst (suc n) v a p q.1, labelled_subst (suc n) v b p q.2)
  labelled_subst n v (protect m e) p q = (q.0, labelled_subst n v e p q.1)
  labelled_subst n v (mu w i e) p q = labelled_subst (suc n) v e p q
  labelled_subst n v (reckon o w a b) p q = (labelled_subst n v a p q.0, labelled_subst n v b p q.1)
  labelled_subst n v _ p q = q

module _ (O : Observer) where
  dark_subst : (n : ℕ) (v e : Term) → IsTrue (dark O e) → IsTrue (dark O (substitute n v e))
  unfolding dark substitute
  dark_subst n v (var m) x = absurd (false≢true x)
  dark_subst n v (app w f a) x = or_map (O.foreign w) (dark_subst n v f) x
  dark_subst n v (proj d w e) x = or_map (O.foreign w) (dark_subst n v e) x
  dark_subst n v (case w i e a b) x = or_map (O.foreign w) (dark_subst n v e) x
  dark_subst n v (protect m e) x = or_map (O.hiding m) (dark_subst n v e) x
  dark_subst n v (reckon o w a b) x =
      or_map (O.foreign w) (or_both (dark_subst n v a) (dark_subst n v b)) x
  dark_subst n v _ x = x

  alike_subst : (n : ℕ) {v v' e e' : Term} → Alike O v v' → Alike O e e' → Alike O (substitute n v e) (substitute n v' e')
  unfolding substitute
  alike_subst n {v} {v'} p (both_dark {e = e} {e' = e'} x y) = both_dark (dark_subst n v e x) (dark_subst n v' e' y)
  alike_subst n {v} {v'} p (variables {n = m}) =
      elim (nat_eq m n) as (λ b. Alike O (cond b v (var m)) (cond b v' (var m))) [ true ↦ p | false ↦ variables ]
  alike_subst n p (units k) = units k
  alike_subst n p (functions k i q) = functions k i (alike_subst (suc n) p q)
  alike_subst n p (pairs k q r) = pairs k (alike_subst n p q) (alike_subst n p r)
  alike_subst n p (injections k i q) = injections k i (alike_subst n p q)
  alike_subst n p (applications w q r) = applications w (alike_subst n p q) (alike_subst n p r)
  alike_subst n p (projections w q) = projections w (alike_subst n p q)
  alike_subst n p (cases w i q r s) = cases w i (alike_subst n p q) (alike_subst (suc n) p r) (alike_subst (suc n) p s)
  alike_subst n p (protects m q) = protects m (alike_subst n p q)
  alike_subst n p (recursions w q) = recursions w (alike_subst (suc n) p q)
  alike_subst n p (literals k) = literals k
  alike_subst n p (reckonings w q r) = reckonings w (alike_subst n p q) (alike_subst n p r)

side_top : (S : Security) (d : Side) (t : Ty) → IsTrue (secure_t S t) → IsTrue (S.secure (top (side d t)))
side_top S d (leaf b k) h = top_secure S (leaf b k) h
side_top S d (node f k s t) h = top_secure S _ (side_secure d (secure_parts S f k s t h))

-- What a step and a run keep of a term: labels in order, and that it is dark.
record Kept (S : Security) (O : Observer) (e e' : Term) : Type 0 where
  labelled : Labelled S e'
  dark_too : IsTrue (dark O e) → IsTrue (dark O e')

module _ {S : Security} {tab : ℕ → Ty} {O : Observer} (L : Laws S) (T : Table S tab) (B : Observes S O) where
  raise_keeps : (v : Term) (m : Indirect) → IsTrue (is_value v) → IsTrue (S.secure_i m) → Labelled S v → Kept S O (protect m v) (raise_value S v m)
  unfolding is_value raise_value dark
  raise_keeps (unit k) m h g p = record { labelled = L.raise_secure k m p g; dark_too = B.raised k m p g }
  raise_keeps (lam k i e) m h g p = record { labelled = (L.raise_secure k m p.0 g, p.1); dark_too = B.raised k m p.0 g }
  raise_keeps (pair k a b) m h g p = record { labelled = (L.raise_secure k m p.0 g, p.1, p.2); dark_too = B.raised k m p.0 g }
  raise_keeps (inj d k i e) m h g p = record { labelled = (L.raise_secure k m p.0 g, p.1); dark_too = B.raised k m p.0 g }
  raise_keeps (literal k n) m h g p = record { labelled = L.raise_secure k m p g; dark_too = B.raised k m p g }
  raise_keeps _ m h g p = absurd (false≢true h)

  both_hide : (w : Reader) (k l : Property) → IsTrue (S.secure k) → IsTrue (S.permits k w) → IsTrue (S.secure l) → IsTrue (S.permits l w)
      → IsTrue (O.foreign w || (O.hidden k || O.hidden l)) → IsTrue (O.hidden (of_both S w k l))
  both_hide w k l h m h' m' x =
      let f = L.fresh_secure k w m in
      let i = L.influence_secure k w h m in
      let once = B.raised (S.fresh w) (S.influence k w) f i in
      let twice = B.raised _ (S.influence l w) (L.raise_secure (S.fresh w) (S.influence k w) f i) (L.influence_secure l w h' m') in
      grind (arith, B.read k w h m, B.read l w h' m', once, twice, x)

  contracts_keep : {e c : Term} → Contracts S tab e c → Labelled S e → Kept S O e c
  unfolding dark reckon_result
  contracts_keep (c_app {k = k} {e = e} {v = v} {w = w} h m) p = record {
    labelled = (L.influence_secure k w p.0.0 m, labelled_subst S zero v e p.1 p.0.1);
    dark_too = λ x. or_left _ (dark O (substitute zero v e)) (B.read k w p.0.0 m x);
  }
  contracts_keep (c_proj {d = d} {k = k} {v = v} {v' = v'} {w = w} h h' m) p = record {
    labelled = (L.influence_secure k w p.0 m, choose_each (Labelled S) d p.1 p.2);
    dark_too = λ x. or_left _ (dark O (choose d v v')) (B.read k w p.0 m x);
  }
  contracts_keep (c_case {d = d} {k = k} {v = v} {a = a} {b = b} {w = w} h m) p = record {
    labelled = (L.influence_secure k w p.0.0 m, labelled_subst S zero v (choose d a b) p.0.1 (choose_each (Labelled S) d p.1 p.2));
    dark_too = λ x. or_left _ (dark O (substitute zero v (choose d a b))) (B.read k w p.0.0 m x);
  }
  contracts_keep (c_mu {w = w} {i = i} {e = e} {k = k} {s = s} {t = t} y) p = record {
    labelled = labelled_subst S zero (unrolled_function S w i k e) e ((secure_parts S _ k s t (rw y at (T.secure i))).own, (p, tt)) p;
    dark_too = λ x. absurd (false≢true x);
  }
  contracts_keep (c_reckon {o = plus} {w = w} {k = k} {l = l} m n) p =
      record { labelled = of_both_secure L w k l p.0 m p.1 n; dark_too = both_hide w k l p.0 m p.1 n }
  contracts_keep (c_reckon {o = less i} {w = w} {k = k} {l = l} {m = a} {n = b} m n) p = record {
    labelled = (of_both_secure L w k l p.0 m p.1 n, side_top S (less_side a b) (tab i) (T.secure i));
    dark_too = both_hide w k l p.0 m p.1 n;
  }
  contracts_keep (c_protect {m = m} {v = v} h) p = raise_keeps v m h p.0 p.1

  -- a term whose parts have come to values, what it contracts to, and what that comes to
  keep_on : {e r c u : Term} → (IsTrue (dark O e) → IsTrue (dark O r)) → Labelled S r → Contracts S tab r c → (Labelled S c → Kept S O c u)
      → Kept S O e u
  keep_on f l c go =
      let k = contracts_keep c l in
      let u = go k.labelled in
      record { labelled = u.labelled; dark_too = λ x. u.dark_too (k.dark_too (f x)) }

  evaluation_keeps : {e v : Term} → Evaluates S tab e v → Labelled S e → Kept S O e v
  unfolding dark
  evaluation_keeps (by_form.pairs p q) l =
      record { labelled = (l.0, (evaluation_keeps p l.1).labelled, (evaluation_keeps q l.2).labelled); dark_too = λ x. x }
  evaluation_keeps (by_form.injections p) l = record { labelled = (l.0, (evaluation_keeps p l.1).labelled); dark_too = λ x. x }
  evaluation_keeps (by_form.applications {w = w} p q c x) l =
      let f = evaluation_keeps p l.0 in
      keep_on (or_map (O.foreign w) f.dark_too) (f.labelled, (evaluation_keeps q l.1).labelled) c (evaluation_keeps x)
  evaluation_keeps (by_form.projections {w = w} p c x) l =
      let f = evaluation_keeps p l in keep_on (or_map (O.foreign w) f.dark_too) f.labelled c (evaluation_keeps x)
  evaluation_keeps (by_form.cases {w = w} p c x) l =
      let f = evaluation_keeps p l.0 in keep_on (or_map (O.foreign w) f.dark_too) (f.labelled, l.1, l.2) c (evaluation_keeps x)
  evaluation_keeps (by_form.protects {m = m} p c x) l =
      let f = evaluation_keeps p l.1 in keep_on (or_map (O.hiding m) f.dark_too) (l.0, f.labelled) c (evaluation_keeps x)
  evaluation_keeps (by_form.recursions c x) l = keep_on (λ y. y) l c (evaluation_keeps x)
  evaluation_keeps (by_form.reckonings {w = w} p q c x) l =
      let f = evaluation_keeps p l.0 in
      let g = evaluation_keeps q l.1 in
      keep_on (or_map (O.foreign w) (or_both f.dark_too g.dark_too)) (f.labelled, g.labelled) c (evaluation_keeps x)
  evaluation_keeps _ l = record { labelled = l; dark_too = λ x. x }

  both_darkened : {r c r' c' : Term} → Contracts S tab r c → Contracts S tab r' c' → Labelled S r → Labelled S r' → IsTrue (dark O r)
      → IsTrue (dark O r') → Alike O c c'
  both_darkened c c' l l' x y = both_dark ((contracts_keep c l).dark_too x) ((contracts_keep c' l').dark_too y)

  alike_reckoned : (o : Operation) (k l : Property) (m n : ℕ) → O.object k ≡ O.object l → Alike O (reckon_result tab o k m n) (reckon_result tab o l m n)
  unfolding reckon_result
  alike_reckoned plus k l m n e = literals e
  alike_reckoned (less i) k l m n e = injections e refl (units refl)

  alike_raised : (m n : Indirect) {v v' : Term} → IsTrue (is_value v) → IsTrue (is_value v') → Labelled S (protect m v) → Labelled S (protect n v')
      → Alike O (protect m v) (protect n v') → Alike O (raise_value S v m) (raise_value S v' n)
  unfolding dark raise_value
  alike_raised m n h h' l l' (both_dark x y) = both_darkened (c_protect h) (c_protect h') l l' x y
  alike_raised m n h h' l l' (protects g (both_dark x y)) =
      both_darkened (c_protect h) (c_protect h') l l' (or_right (O.hiding m) _ x) (or_right (O.hiding n) _ y)
  alike_raised m n h h' l l' (protects g (units z)) = units (B.same_raised _ _ m n z g)
  alike_raised m n h h' l l' (protects g (functions z i e)) = functions (B.same_raised _ _ m n z g) i e
  alike_raised m n h h' l l' (protects g (pairs z p q)) = pairs (B.same_raised _ _ m n z g) p q
  alike_raised m n h h' l l' (protects g (injections z i e)) = injections (B.same_raised _ _ m n z g) i e
  alike_raised m n h h' l l' (protects g (literals z)) = literals (B.same_raised _ _ m n z g)
  alike_raised m n h h' l l' (protects g p) = p

  alike_contracts : {r c r' c' : Term} → Contracts S tab r c → Contracts S tab r' c' → Labelled S r → Labelled S r' → Alike O r r' → Alike O c c'
  unfolding dark raise_value
  alike_contracts (c_app h m) (c_app h' m') l l' (applications g (functions z i e) q) = protects (B.same_read _ _ _ _ z g) (alike_subst O zero q e)
  alike_contracts c c' l l' (applications {w = w} {v = v} g (both_dark x y) q) =
      both_darkened c c' l l' (or_right (O.foreign w) _ x) (or_right (O.foreign v) _ y)
  alike_contracts (c_proj {d = d} h i m) (c_proj h' i' m') l l' (projections g (pairs z p q)) =
      protects (B.same_read _ _ _ _ z g) (choose_both (Alike O) d p q)
  alike_contracts c c' l l' (projections {w = w} {v = v} g (both_dark x y)) =
      both_darkened c c' l l' (or_right (O.foreign w) _ x) (or_right (O.foreign v) _ y)
  alike_contracts (c_case {d = d} h m) (c_case h' m') l l' (cases g i (injections z j e) p q) =
      protects (B.same_read _ _ _ _ z g) (alike_subst O zero e (choose_both (Alike O) d p q))
  alike_contracts c c' l l' (cases {w = w} {v = v} g i (both_dark x y) p q) =
      both_darkened c c' l l' (or_right (O.foreign w) _ x) (or_right (O.foreign v) _ y)
  alike_contracts (c_mu {k = k} y) (c_mu {k = k'} y') l l' (recursions {w = w} {v = v} g q) =
      let e : k ≡ k' = cc in
      alike_subst O zero (functions (ap O.object e) refl (applications (rw e (B.same_caller k' w v g)) (recursions g q) variables)) q
  alike_contracts (c_reckon {o = o} {w = w} {m = m} {n = n} i j) (c_reckon {w = v} i' j') l l' (reckonings g (literals y) (literals z)) =
      alike_reckoned o _ _ m n (B.same_raised _ _ _ _ (B.same_raised _ _ _ _ (B.same_fresh w v g) (B.same_read _ _ w v y g)) (B.same_read _ _ w v z g))
  alike_contracts c c' l l' (reckonings {w = w} {v = v} {b = b} {b' = b'} g (both_dark x y) q) =
      both_darkened c c' l l' (or_right (O.foreign w) _ (or_left _ (dark O b) x)) (or_right (O.foreign v) _ (or_left _ (dark O b') y))
  alike_contracts c c' l l' (reckonings {w = w} {v = v} {a = a} {a' = a'} g p (both_dark x y)) =
      both_darkened c c' l l' (or_right (O.foreign w) _ (or_right (dark O a) _ x)) (or_right (O.foreign v) _ (or_right (dark O a') _ y))
  alike_contracts (c_protect {m = m} h) (c_protect {m = n} h') l l' p = alike_raised m n h h' l l' p
  alike_contracts c c' l l' (both_dark x y) = both_darkened c c' l l' x y

  come_alike : {r c r' c' u u' : Term} → Contracts S tab r c → Contracts S tab r' c' → Labelled S r → Labelled S r' → Alike O r r'
      → (Alike O c c' → Labelled S c → Labelled S c' → Alike O u u') → Alike O u u'
  come_alike c c' l l' p go = go (alike_contracts c c' l l' p) (contracts_keep c l).labelled (contracts_keep c' l').labelled

  labelled_too : {e v : Term} → Evaluates S tab e v → Labelled S e → Labelled S v
  labelled_too p l = (evaluation_keeps p l).labelled

  alike : {e e' v v' : Term} → Evaluates S tab e v → Evaluates S tab e' v' → Alike O e e' → Labelled S e → Labelled S e' → Alike O v v'
  alike by_form.units by_form.units (units k) l l' = units k
  alike by_form.functions by_form.functions (functions k i e) l l' = functions k i e
  alike by_form.literals by_form.literals (literals k) l l' = literals k
  alike (by_form.pairs p q) (by_form.pairs p' q') (pairs k a b) l l' = pairs k (alike p p' a l.1 l'.1) (alike q q' b l.2 l'.2)
  alike (by_form.injections p) (by_form.injections p') (injections k i a) l l' = injections k i (alike p p' a l.1 l'.1)
  alike (by_form.applications p q c x) (by_form.applications p' q' c' x') (applications g a b) l l' =
      come_alike c c' (labelled_too p l.0, labelled_too q l.1) (labelled_too p' l'.0, labelled_too q' l'.1)
      (applications g (alike p p' a l.0 l'.0) (alike q q' b l.1 l'.1)) (alike x x')
  alike (by_form.projections p c x) (by_form.projections p' c' x') (projections g a) l l' =
      come_alike c c' (labelled_too p l) (labelled_too p' l') (projections g (alike p p' a l l')) (alike x x')
  alike (by_form.cases p c x) (by_form.cases p' c' x') (cases g i a b d) l l' =
      come_alike c c' (labelled_too p l.0, l.1, l.2) (labelled_too p' l'.0, l'.1, l'.2) (cases g i (alike p p' a l.0 l'.0) b d) (alike x x')
  alike (by_form.protects p c x) (by_form.protects p' c' x') (protects g a) l l' =
      come_alike c c' (l.0, labelled_too p l.1) (l'.0, labelled_too p' l'.1) (protects g (alike p p' a l.1 l'.1)) (alike x x')
  alike (by_form.recursions c x) (by_form.recursions c' x') (recursions g a) l l' = come_alike c c' l l' (recursions g a) (alike x x')
  alike (by_form.reckonings p q c x) (by_form.reckonings p' q' c' x') (reckonings g a b) l l' =
      come_alike c c' (labelled_too p l.0, labelled_too q l.1) (labelled_too p' l'.0, labelled_too q' l'.1)
      (reckonings g (alike p p' a l.0 l'.0) (alike q q' b l.1 l'.1)) (alike x x')
  alike x x' (both_dark y z) l l' = both_dark ((evaluation_keeps x l).dark_too y) ((evaluation_keeps x' l').dark_too z)
  alike x x' variables l l' = elim x [ ]

pub alike_runs_end_alike : AlikeRunsEndAlike
unfolding AlikeRunsEndAlike
alike_runs_end_alike S tab O e e' v v' L T B p p' a x x' =
    let y = evaluates x.runs x.ended in
    let y' = evaluates x'.runs x'.ended in
    (alike L T B y y' a p p', labelled_too L T B y p, labelled_too L T B y' p')
