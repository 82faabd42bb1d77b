-- Relabelling goes with everything that reduction does to terms: values, kinds, substitution and contexts.
use Rattle.std.proofs.Common.{◌≡◌, refl, Bool, cond, ℕ, suc, nat_eq, IsTrue, arith}
use Rattle.std.proofs.Math.Option.{none}
use Rattle.calculus.specs.Types.{Former, Ty, top, when, exists, parts}
use Rattle.calculus.specs.Terms.{Side, choose, Term, var, unit, lam, pair, inj, app, proj, case, protect, mu, literal}
use Rattle.calculus.specs.Terms.{reckon, is_value, substitute}
use Rattle.calculus.specs.Numbers.{literal_of, side}
use Rattle.calculus.specs.Reduction.{Context, hole, app_left, app_right, in_proj, in_inj, pair_left, pair_right}
use Rattle.calculus.specs.Reduction.{in_protect, in_case, reckon_left, reckon_right, plug}
use Rattle.calculus.specs.Stuck.{built_by}
use Rattle.calculus.specs.Relabelling.{Labels, relabel_t, relabel}

module _ (R : Labels) where
  pub relabel_top : (t : Ty) → top (relabel_t R t) ≡ R.property (top t)
  unfolding relabel_t
  relabel_top t = grind arith

  pub relabel_value : (e : Term) → is_value (relabel R e) ≡ is_value e
  unfolding is_value relabel
  relabel_value (pair k a b) = rw (relabel_value a, relabel_value b)
  relabel_value (inj d k i e) = relabel_value e
  relabel_value _ = refl

  pub relabelled_value : (e : Term) → IsTrue (is_value e) → IsTrue (is_value (relabel R e))
  relabelled_value e h = rw (relabel_value e) h

  pub relabel_built_by : (f : Former) (e : Term) → built_by f (relabel R e) ≡ built_by f e
  unfolding built_by relabel
  relabel_built_by f e = grind arith

  pub relabel_literal : (e : Term) → exists (literal_of (relabel R e)) ≡ exists (literal_of e)
  unfolding literal_of relabel
  relabel_literal e = grind arith

  pub relabel_side : (d : Side) (t : Ty) → top (side d (relabel_t R t)) ≡ R.property (top (side d t))
  unfolding relabel_t
  relabel_side d t = grind arith

  pub relabel_parts : (f : Former) (t : Ty) → parts f t ≡ none → parts f (relabel_t R t) ≡ none
  unfolding relabel_t
  relabel_parts f t h = grind arith

  relabel_cond : (b : Bool) (v e : Term) → relabel R (cond b v e) ≡ cond b (relabel R v) (relabel R e)
  relabel_cond b v e = grind arith

  pub relabel_subst : (n : ℕ) (v e : Term) → relabel R (substitute n v e) ≡ substitute n (relabel R v) (relabel R e)
  unfolding substitute relabel
  relabel_subst n v (var m) = relabel_cond (nat_eq m n) v (var m)
  relabel_subst n v (unit k) = refl
  relabel_subst n v (lam k i e) = rw (relabel_subst (suc n) v e)
  relabel_subst n v (pair k a b) = rw (relabel_subst n v a, relabel_subst n v b)
  relabel_subst n v (inj d k i e) = rw (relabel_subst n v e)
  relabel_subst n v (app w f a) = rw (relabel_subst n v f, relabel_subst n v a)
  relabel_subst n v (proj d w e) = rw (relabel_subst n v e)
  relabel_subst n v (case w i e a b) = rw (relabel_subst _ v e, relabel_subst _ v a, relabel_subst _ v b)
  relabel_subst n v (protect m e) = rw (relabel_subst n v e)
  relabel_subst n v (mu w i e) = rw (relabel_subst (suc n) v e)
  relabel_subst n v (literal k m) = refl
  relabel_subst n v (reckon o w a b) = rw (relabel_subst n v a, relabel_subst n v b)

  unfoldable pub relabel_c : Context → Context
  relabel_c hole = hole
  relabel_c (app_left w E a) = app_left (R.reader w) (relabel_c E) (relabel R a)
  relabel_c (app_right w v h E) = app_right (R.reader w) (relabel R v) (relabelled_value v h) (relabel_c E)
  relabel_c (in_proj d w E) = in_proj d (R.reader w) (relabel_c E)
  relabel_c (in_inj d k i E) = in_inj d (R.property k) i (relabel_c E)
  relabel_c (pair_left k E b) = pair_left (R.property k) (relabel_c E) (relabel R b)
  relabel_c (pair_right k v h E) = pair_right (R.property k) (relabel R v) (relabelled_value v h) (relabel_c E)
  relabel_c (in_protect m E) = in_protect (R.indirect m) (relabel_c E)
  relabel_c (in_case w i E a b) = in_case (R.reader w) i (relabel_c E) (relabel R a) (relabel R b)
  relabel_c (reckon_left o w E b) = reckon_left o (R.reader w) (relabel_c E) (relabel R b)
  relabel_c (reckon_right o w v h E) = reckon_right o (R.reader w) (relabel R v) (relabelled_value v h) (relabel_c E)

  pub relabel_plug : (E : Context) (e : Term) → relabel R (plug E e) ≡ plug (relabel_c E) (relabel R e)
  unfolding plug relabel relabel_c
  relabel_plug hole e = refl
  relabel_plug (app_left w E a) e = rw (relabel_plug E e)
  relabel_plug (app_right w v h E) e = rw (relabel_plug E e)
  relabel_plug (in_proj d w E) e = rw (relabel_plug E e)
  relabel_plug (in_inj d k i E) e = rw (relabel_plug E e)
  relabel_plug (pair_left k E b) e = rw (relabel_plug E e)
  relabel_plug (pair_right k v h E) e = rw (relabel_plug E e)
  relabel_plug (in_protect m E) e = rw (relabel_plug E e)
  relabel_plug (in_case w i E a b) e = rw (relabel_plug E e)
  relabel_plug (reckon_left o w E b) e = rw (relabel_plug E e)
  relabel_plug (reckon_right o w v h E) e = rw (relabel_plug E e)
