-- Readers and those who trust are observers; what is like a clear term in every label is that term; a place keeps terms
-- alike.
use Rattle.std.proofs.Common.{◌≡◌, ℕ, not, ◌||◌, IsTrue, refl, ap₂, arith}
use Rattle.calculus.specs.Security.{Property, Reader, Indirect}
use Rattle.calculus.specs.Groups.{Groups, Lattice, properties}
use Rattle.calculus.specs.Terms.{Term, var, unit, lam, pair, inj, app, proj, case, protect, mu, literal, reckon}
use Rattle.calculus.proofs.Booleans.{and_left, and_right}
use Rattle.noninterference.specs.Places.{whole, in_lam, in_pair_left, in_pair_right, at_inj, in_app_left, in_app_right}
use Rattle.noninterference.specs.Places.{at_proj, in_tested, in_first, in_second, at_protect, in_mu, in_reckon_left}
use Rattle.noninterference.specs.Places.{in_reckon_right, put}
use Rattle.noninterference.specs.Hidden.{Observer, Alike, both_dark, variables, units, functions, pairs, injections}
use Rattle.noninterference.specs.Hidden.{applications, projections, cases, protects, recursions, literals, reckonings}
use Rattle.noninterference.specs.Hidden.{Clear, AlikeAtAPlace}
use Rattle.noninterference.specs.Observers.{reader_at, who_trusts, exact, ReadersObserve, WhoTrustsObserves}
use Rattle.noninterference.specs.Observers.{ExactObserves, ClearIsOne}

pub exact_observes : ExactObserves
unfolding ExactObserves
exact_observes S O B = record {
  raised = B.raised;
  read = B.read;
  same_raised = λ k l m n e f. cc;
  same_read = λ k l w v e f. cc;
  same_fresh = λ w v e. cc;
  same_caller = λ k w v e. cc;
}

module _ {G : Groups} (X : Lattice G) where
  joined : (g a b : ℕ) → IsTrue (G.leq a a) → IsTrue (G.leq b b) → IsTrue (not (G.leq b g) || not (G.leq a g)) → IsTrue (not (G.leq (G.join a b) g))
  joined g a b p q x =
      let l = X.trans _ _ g (X.upper_left a b p q) in let r = X.trans _ _ g (X.upper_right a b p q) in grind (arith, l, r, x)

  met : (h a b : ℕ) → IsTrue (G.leq a a) → IsTrue (G.leq b b) → IsTrue (not (G.leq h b) || not (G.leq h a)) → IsTrue (not (G.leq h (G.meet a b)))
  met h a b p q x =
      let l = λ (y : IsTrue (G.leq h (G.meet a b))). X.trans h _ _ y (X.lower_left a b p q) in
      let r = λ (y : IsTrue (G.leq h (G.meet a b))). X.trans h _ _ y (X.lower_right a b p q) in
      grind (arith, l, r, x)

  ir_group : (k : Property) → IsTrue ((properties G).secure k) → IsTrue (G.leq k.ir k.ir)
  ir_group k h = X.self_left _ _ (and_left _ _ h)

  ic_group : (k : Property) → IsTrue ((properties G).secure k) → IsTrue (G.leq k.ic k.ic)
  ic_group k h = X.self_left _ _ (and_right (G.leq k.ir k.r) _ h)

pub readers_observe : ReadersObserve
unfolding ReadersObserve
readers_observe G g X = record {
  raised = λ k m h i x. joined X g k.ir m.ir (ir_group X k h) (X.in_table _ (and_left _ _ i)) x;
  read = λ k w h m x. x;
  same_raised = λ k l m n e f. ap₂ (λ (p : Property) (i : Indirect). (reader_at G g).object ((properties G).raise p i)) e f;
  same_read = λ k l w v e f. ap₂ (λ (p : Property) (u : Reader). (reader_at G g).influence ((properties G).influence p u)) e f;
  same_fresh = λ w v e. refl;
  same_caller = λ k w v e. refl;
}

pub who_trusts_observes : WhoTrustsObserves
unfolding WhoTrustsObserves
who_trusts_observes G h X = record {
  raised = λ k m i j x. met X h k.ic m.ic (ic_group X k i) (X.in_table _ (and_right (G.group m.ir) _ j)) x;
  read = λ k w i m x. met X h k.ic w (ic_group X k i) (X.self_right _ _ m) x;
  same_raised = λ k l m n e f. ap₂ (λ (p : Property) (i : Indirect). (who_trusts G h).object ((properties G).raise p i)) e f;
  same_read = λ k l w v e f. ap₂ (λ (p : Property) (u : Reader). (who_trusts G h).influence ((properties G).influence p u)) e f;
  same_fresh = λ w v e. cc;
  same_caller = λ k w v e. e;
}

module _ (O : Observer) where
  alike_itself : (e : Term) → Alike O e e
  alike_itself (var n) = variables
  alike_itself (unit k) = units refl
  alike_itself (lam k i e) = functions refl refl (alike_itself e)
  alike_itself (pair k a b) = pairs refl (alike_itself a) (alike_itself b)
  alike_itself (inj d k i e) = injections refl refl (alike_itself e)
  alike_itself (app w f a) = applications refl (alike_itself f) (alike_itself a)
  alike_itself (proj d w e) = projections refl (alike_itself e)
  alike_itself (case w i e a b) = cases refl refl (alike_itself e) (alike_itself a) (alike_itself b)
  alike_itself (protect m e) = protects refl (alike_itself e)
  alike_itself (mu w i e) = recursions refl (alike_itself e)
  alike_itself (literal k n) = literals refl
  alike_itself (reckon o w a b) = reckonings refl (alike_itself a) (alike_itself b)

pub alike_at_a_place : AlikeAtAPlace
unfolding AlikeAtAPlace put
alike_at_a_place O whole a b p = p
alike_at_a_place O (in_lam k i C) a b p = functions refl refl (alike_at_a_place O C a b p)
alike_at_a_place O (in_pair_left k C e) a b p = pairs refl (alike_at_a_place O C a b p) (alike_itself O e)
alike_at_a_place O (in_pair_right k e C) a b p = pairs refl (alike_itself O e) (alike_at_a_place O C a b p)
alike_at_a_place O (at_inj d k i C) a b p = injections refl refl (alike_at_a_place O C a b p)
alike_at_a_place O (in_app_left w C e) a b p = applications refl (alike_at_a_place O C a b p) (alike_itself O e)
alike_at_a_place O (in_app_right w f C) a b p = applications refl (alike_itself O f) (alike_at_a_place O C a b p)
alike_at_a_place O (at_proj d w C) a b p = projections refl (alike_at_a_place O C a b p)
alike_at_a_place O (in_tested w i C e f) a b p = cases refl refl (alike_at_a_place O C a b p) (alike_itself O e) (alike_itself O f)
alike_at_a_place O (in_first w i c C f) a b p = cases refl refl (alike_itself O c) (alike_at_a_place O C a b p) (alike_itself O f)
alike_at_a_place O (in_second w i c e C) a b p = cases refl refl (alike_itself O c) (alike_itself O e) (alike_at_a_place O C a b p)
alike_at_a_place O (at_protect m C) a b p = protects refl (alike_at_a_place O C a b p)
alike_at_a_place O (in_mu w i C) a b p = recursions refl (alike_at_a_place O C a b p)
alike_at_a_place O (in_reckon_left o w C e) a b p = reckonings refl (alike_at_a_place O C a b p) (alike_itself O e)
alike_at_a_place O (in_reckon_right o w e C) a b p = reckonings refl (alike_itself O e) (alike_at_a_place O C a b p)

module _ (O : Observer) where
  one : {e e' : Term} → Alike (exact O) e e' → Clear (exact O) e → e ≡ e'
  unfolding put
  one (both_dark {e = e} x y) c = let z = c whole e refl in absurd (grind (arith, x, z))
  one variables c = refl
  one (units k) c = cc
  one (functions {k = k} {i = i} h j p) c = let x = one p (λ P a e. c (in_lam k i P) a (rw e)) in cc
  one (pairs {k = k} {a = a} {b = b} h p q) c =
      let x = one p (λ P u e. c (in_pair_left k P b) u (rw e)) in let y = one q (λ P u e. c (in_pair_right k a P) u (rw e)) in cc
  one (injections {d = d} {k = k} {i = i} h j p) c = let x = one p (λ P a e. c (at_inj d k i P) a (rw e)) in cc
  one (applications {w = w} {f = f} {a = a} h p q) c =
      let x = one p (λ P u e. c (in_app_left w P a) u (rw e)) in let y = one q (λ P u e. c (in_app_right w f P) u (rw e)) in cc
  one (projections {d = d} {w = w} h p) c = let x = one p (λ P a e. c (at_proj d w P) a (rw e)) in cc
  one (cases {w = w} {i = i} {e = e} {a = a} {b = b} h j p q r) c =
      let x = one p (λ P u s. c (in_tested w i P a b) u (rw s)) in
      let y = one q (λ P u s. c (in_first w i e P b) u (rw s)) in
      let z = one r (λ P u s. c (in_second w i e a P) u (rw s)) in cc
  one (protects {m = m} h p) c = let x = one p (λ P a e. c (at_protect m P) a (rw e)) in cc
  one (recursions {w = w} {i = i} h p) c = let x = one p (λ P a e. c (in_mu w i P) a (rw e)) in cc
  one (literals k) c = cc
  one (reckonings {o = o} {w = w} {a = a} {b = b} h p q) c =
      let x = one p (λ P u e. c (in_reckon_left o w P b) u (rw e)) in let y = one q (λ P u e. c (in_reckon_right o w a P) u (rw e)) in cc

pub clear_is_one : ClearIsOne
unfolding ClearIsOne
clear_is_one O e e' p c = one O p c
