-- Relabelling of a step: where the operations go with the labels, and what is denied stays so, the relabelled term does
-- the same.
use Rattle.std.proofs.Common.{◌≡◌, refl, sym, ap, ◌∙◌, Bool, true, false, ◌&&◌, ℕ, zero, IsTrue, arith}
use Rattle.std.proofs.Math.Bool.{false≢true}
use Rattle.calculus.specs.Security.{Property, Reader, Indirect, Security}
use Rattle.calculus.specs.Types.{sum, product, function, Ty, top, parts}
use Rattle.calculus.specs.Terms.{Operation, plus, less, Term, var, unit, lam, pair, inj, app, proj, case, protect, mu, literal, reckon, choose, raise_value}
use Rattle.calculus.specs.Numbers.{of_both, less_side, reckon_result}
use Rattle.calculus.specs.Reduction.{Contracts, c_app, c_proj, c_case, c_mu, c_reckon, c_protect, unrolled_function, Reduces, Outcome, value, moved, denied, stuck, step}
use Rattle.calculus.specs.Stuck.{Denied, denied_app, denied_proj, denied_case, denied_reckon, Wrong, wrong_var}
use Rattle.calculus.specs.Stuck.{wrong_app, wrong_proj, wrong_case, wrong_reckon, wrong_mu, DeniedAt, StuckAt}
use Rattle.calculus.specs.Relabelling.{Labels, relabel_t, relabel}
use Rattle.calculus.proofs.Sides.{choose_map}
use Rattle.calculus.proofs.RelabelledTerms.{relabelled_value, relabel_built_by, relabel_literal, relabel_side}
use Rattle.calculus.proofs.RelabelledTerms.{relabel_parts, relabel_subst, relabel_c, relabel_plug}
use Rattle.calculus.proofs.Agreement.{Says, step_says, says_step}
use Rattle.calculus.proofs.RelabelledOutcomes.{relabel_o}

-- What the operations of S do to labels, those of S' do to the new ones. S' permits what S permits, and may permit
-- more.
pub record Keeps (R : Labels) (S S' : Security) (tab : ℕ → Ty) : Type 0 where
  pub raise : (k : Property) (m : Indirect) → R.property (S.raise k m) ≡ S'.raise (R.property k) (R.indirect m)
  pub permits : (k : Property) (w : Reader) → IsTrue (S.permits k w) → IsTrue (S'.permits (R.property k) (R.reader w))
  pub influence : (k : Property) (w : Reader) → R.indirect (S.influence k w) ≡ S'.influence (R.property k) (R.reader w)
  pub reckoning : (w : Reader) (k l : Property) → R.property (of_both S w k l) ≡ of_both S' (R.reader w) (R.property k) (R.property l)
  pub caller : (i : ℕ) (w : Reader) → R.reader (S.caller (top (tab i)) w) ≡ S'.caller (R.property (top (tab i))) (R.recursion i w)

both_refused : (a b a' b' : Bool) → (a ≡ false → a' ≡ false) → (b ≡ false → b' ≡ false) → (a && b) ≡ false → (a' && b') ≡ false
both_refused a b a' b' p q h = grind arith

-- Where S' permits no more, what is denied stays so.
module _ (R : Labels) (S S' : Security) (refuses : (k : Property) (w : Reader) → S.permits k w ≡ false → S'.permits (R.property k) (R.reader w) ≡ false) where
  relabel_refused : {e : Term} → Denied S e → Denied S' (relabel R e)
  unfolding relabel
  relabel_refused (denied_app {k = k} {v = v} {w = w} x g) = denied_app (relabelled_value R v x) (refuses k w g)
  relabel_refused (denied_proj {k = k} {v = v} {v' = v'} {w = w} x y g) =
      denied_proj (relabelled_value R v x) (relabelled_value R v' y) (refuses k w g)
  relabel_refused (denied_case {k = k} {v = v} {w = w} x g) = denied_case (relabelled_value R v x) (refuses k w g)
  relabel_refused (denied_reckon {w = w} {k = k} {l = l} g) = denied_reckon (both_refused (S.permits k w) _ _ _ (refuses k w) (refuses l w) g)

  pub relabel_denied : {e : Term} → DeniedAt S e → DeniedAt S' (relabel R e)
  relabel_denied a = record {
    context = relabel_c R a.context;
    position = relabel R a.position;
    holds = relabel_refused a.holds;
    whole = ap (relabel R) a.whole ∙ relabel_plug R a.context a.position;
  }

module _ {R : Labels} {S S' : Security} {tab : ℕ → Ty} (keeps : Keeps R S S' tab) (tab' : ℕ → Ty) (relabelled : (i : ℕ) → tab' i ≡ relabel_t R (tab i)) where
  relabel_raise : (v : Term) (m : Indirect) → relabel R (raise_value S v m) ≡ raise_value S' (relabel R v) (R.indirect m)
  unfolding raise_value relabel
  relabel_raise v m = grind arith

  relabel_unrolled : (w : Reader) (i : ℕ) (k : Property) (e : Term) → top (tab i) ≡ k
      → relabel R (unrolled_function S w i k e) ≡ unrolled_function S' (R.recursion i w) i (R.property k) (relabel R e)
  unfolding relabel
  relabel_unrolled w i k e h = rw (← h) (rw (keeps.caller i w))

  relabel_reckoned : (o : Operation) (k : Property) (m n : ℕ) → relabel R (reckon_result tab o k m n) ≡ reckon_result tab' o (R.property k) m n
  unfolding reckon_result relabel
  relabel_reckoned o k m n = grind (arith, relabel_side)

  relabel_contracts : {e e' : Term} → Contracts S tab e e' → Contracts S' tab' (relabel R e) (relabel R e')
  unfolding relabel relabel_t
  relabel_contracts (c_app {k = k} {e = e} {v = v} {w = w} x g) =
      rw (relabel_subst R zero v e, keeps.influence k w) (c_app (relabelled_value R v x) (keeps.permits k w g))
  relabel_contracts (c_proj {d = d} {k = k} {v = v} {v' = v'} {w = w} x y g) =
      rw (choose_map (relabel R) d v v', keeps.influence k w) (c_proj (relabelled_value R v x) (relabelled_value R v' y) (keeps.permits k w g))
  relabel_contracts (c_case {d = d} {k = k} {v = v} {a = a} {b = b} {w = w} x g) =
      rw (relabel_subst R zero v (choose d a b), choose_map (relabel R) d a b, keeps.influence k w)
      (c_case (relabelled_value R v x) (keeps.permits k w g))
  relabel_contracts (c_mu {w = w} {i = i} {e = e} {k = k} x) =
      rw (relabel_subst R zero (unrolled_function S w i k e) e, relabel_unrolled w i k e (ap top x)) (c_mu (relabelled i ∙ ap (relabel_t R) x))
  relabel_contracts (c_reckon {o = o} {w = w} {k = k} {l = l} {m = m} {n = n} x y) =
      rw (relabel_reckoned o (of_both S w k l) m n, keeps.reckoning w k l) (c_reckon (keeps.permits k w x) (keeps.permits l w y))
  relabel_contracts (c_protect {m = m} {v = v} x) = rw (relabel_raise v m) (c_protect (relabelled_value R v x))

  relabel_wrong : {e : Term} → Wrong tab e → Wrong tab' (relabel R e)
  unfolding relabel
  relabel_wrong wrong_var = wrong_var
  relabel_wrong (wrong_app {f = f} {v = v} x y h) = wrong_app (relabelled_value R f x) (relabelled_value R v y) (relabel_built_by R function f ∙ h)
  relabel_wrong (wrong_proj {v = v} x h) = wrong_proj (relabelled_value R v x) (relabel_built_by R product v ∙ h)
  relabel_wrong (wrong_case {v = v} x h) = wrong_case (relabelled_value R v x) (relabel_built_by R sum v ∙ h)
  relabel_wrong (wrong_reckon {a = a} {b = b} x y h) =
      wrong_reckon (relabelled_value R a x) (relabelled_value R b y) (rw (relabel_literal R a, relabel_literal R b) h)
  relabel_wrong (wrong_mu {i = i} h) = wrong_mu (ap (parts function) (relabelled i) ∙ relabel_parts R function (tab i) h)

  pub relabel_reduces : {e e' : Term} → Reduces S tab e e' → Reduces S' tab' (relabel R e) (relabel R e')
  relabel_reduces r = record {
    context = relabel_c R r.context;
    redex = relabel R r.redex;
    contractum = relabel R r.contractum;
    contracts = relabel_contracts r.contracts;
    before = ap (relabel R) r.before ∙ relabel_plug R r.context r.redex;
    after = ap (relabel R) r.after ∙ relabel_plug R r.context r.contractum;
  }

  pub relabel_stuck : {e : Term} → StuckAt tab e → StuckAt tab' (relabel R e)
  relabel_stuck a = record {
    context = relabel_c R a.context;
    position = relabel R a.position;
    holds = relabel_wrong a.holds;
    whole = ap (relabel R) a.whole ∙ relabel_plug R a.context a.position;
  }

  relabel_says : (e : Term) (x : Outcome) → (DeniedAt S e → DeniedAt S' (relabel R e)) → Says S tab e x → Says S' tab' (relabel R e) (relabel_o R x)
  relabel_says e value h v = relabelled_value R e v
  relabel_says e (moved e') h r = relabel_reduces r
  relabel_says e denied h a = h a
  relabel_says e stuck h a = relabel_stuck a

  pub relabel_step : (e : Term) → (DeniedAt S e → DeniedAt S' (relabel R e)) → step S' tab' (relabel R e) ≡ relabel_o R (step S tab e)
  relabel_step e h = says_step S' tab' (relabel R e) _ (relabel_says e (step S tab e) h (step_says S tab e))
