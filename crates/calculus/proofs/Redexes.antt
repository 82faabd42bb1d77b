-- What the step function does at the position that reduces next: a reduction rule, a reading denied, or a wrong kind,
-- and the three exclude one another.
use Rattle.std.proofs.Common.{◌≡◌, refl, sym, ap, ◌∙◌, Bool, true, false, ◌&&◌, true≢false, ℕ, IsTrue, arith}
use Rattle.std.proofs.Math.Option.{none, some, none-ne-some, Option}
use Rattle.calculus.specs.Security.{Property, Reader, Security}
use Rattle.calculus.specs.Types.{function, Ty, node, parts}
use Rattle.calculus.specs.Terms.{Side, Operation, Term, lam, pair, inj, app, proj, case, mu, reckon, is_value}
use Rattle.calculus.specs.Numbers.{Literal, literal_of}
use Rattle.calculus.specs.Reduction.{Contracts, c_app, c_proj, c_case, c_mu, c_reckon, c_protect, Outcome, moved}
use Rattle.calculus.specs.Reduction.{denied, stuck, operand_first, if_permitted, apply, project, branch, unroll}
use Rattle.calculus.specs.Reduction.{calculate, step}
use Rattle.calculus.specs.Stuck.{built_by, Denied, denied_app, denied_proj, denied_case, denied_reckon, Wrong}
use Rattle.calculus.specs.Stuck.{wrong_var, wrong_app, wrong_proj, wrong_case, wrong_reckon, wrong_mu}
use Rattle.calculus.proofs.Booleans.{and_left, and_right}
use Rattle.calculus.proofs.Numbers.{literal_some}
use Rattle.calculus.proofs.Outcomes.{unfinished}
use Rattle.calculus.proofs.Values.{value_step}

pub data Redex (S : Security) (tab : ℕ → Ty) : Term → Outcome → Type 0 where
  contracting : {e e' : Term} → Contracts S tab e e' → Redex S tab e (moved e')
  denying : {e : Term} → Denied S e → Redex S tab e denied
  sticking : {e : Term} → Wrong tab e → Redex S tab e stuck

pub redex_unfinished : {S : Security} {tab : ℕ → Ty} {e : Term} {x : Outcome} → Redex S tab e x → IsTrue (unfinished x)
redex_unfinished n = grind arith

module _ (S : Security) (tab : ℕ → Ty) where
  reading_redex : (b : Bool) {e e' : Term} → (IsTrue b → Contracts S tab e e') → (b ≡ false → Denied S e) → Redex S tab e (if_permitted b e')
  unfolding if_permitted
  reading_redex true c d = contracting (c refl)
  reading_redex false c d = denying (d refl)

  pub apply_redex : (w : Reader) (f v : Term) → IsTrue (is_value f) → IsTrue (is_value v) → Redex S tab (app w f v) (apply S w f v)
  unfolding apply built_by
  apply_redex w (lam k i e) v h g = reading_redex _ (c_app g) (denied_app g)
  apply_redex w _ v h g = sticking (wrong_app h g refl)

  pair_values : (k : Property) (a b : Term) → IsTrue (is_value (pair k a b)) → IsTrue (is_value a) × IsTrue (is_value b)
  unfolding is_value
  pair_values k a b h = (and_left _ _ h, and_right (is_value a) _ h)

  pub project_redex : (d : Side) (w : Reader) (v : Term) → IsTrue (is_value v) → Redex S tab (proj d w v) (project S d w v)
  unfolding project built_by
  project_redex d w (pair k a b) h =
      let g = pair_values k a b h in reading_redex _ (c_proj g.0 g.1) (denied_proj g.0 g.1)
  project_redex d w _ h = sticking (wrong_proj h refl)

  inj_value : (d : Side) (k : Property) (i : ℕ) (e : Term) → IsTrue (is_value (inj d k i e)) → IsTrue (is_value e)
  unfolding is_value
  inj_value d k i e h = h

  pub branch_redex : (w : Reader) (j : ℕ) (v a b : Term) → IsTrue (is_value v) → Redex S tab (case w j v a b) (branch S w v a b)
  unfolding branch built_by
  branch_redex w j (inj d k i e) a b h = let g = inj_value d k i e h in reading_redex _ (c_case g) (denied_case g)
  branch_redex w j _ a b h = sticking (wrong_case h refl)

  pub unroll_redex : (w : Reader) (i : ℕ) (e : Term) (t : Ty) → tab i ≡ t → Redex S tab (mu w i e) (unroll S w i e t)
  unfolding unroll
  unroll_redex w i e (node function k s t) h = contracting (c_mu h)
  unroll_redex w i e _ h = sticking (wrong_mu (ap (parts function) h))

  pub calculate_redex : (o : Operation) (w : Reader) (a b : Term) (x y : Option Literal) → IsTrue (is_value a) → IsTrue (is_value b) → literal_of a ≡ x → literal_of b ≡ y
      → Redex S tab (reckon o w a b) (calculate S tab o w x y)
  unfolding calculate
  calculate_redex o w a b none y h g p q = sticking (wrong_reckon h g (rw p))
  calculate_redex o w a b (some x) none h g p q = sticking (wrong_reckon h g (rw (p, q)))
  calculate_redex o w a b (some x) (some y) h g p q =
      literal_some a p λ a_is.
      literal_some b q λ b_is.
      rw (a_is, b_is)
      (reading_redex (S.permits x.own w && S.permits y.own w)
      (λ z. c_reckon (and_left _ _ z) (and_right (S.permits x.own w) _ z)) denied_reckon)

  -- Where the kind is wrong, the outcome is no other.

  wrong_contracts : {e e' : Term} → Contracts S tab e e' → Wrong tab e → ⊥
  unfolding built_by literal_of
  wrong_contracts n w = grind arith

  wrong_denied : {e : Term} → Denied S e → Wrong tab e → ⊥
  unfolding built_by literal_of
  wrong_denied n m = grind arith

  wrong_stuck : {e : Term} {x : Outcome} → Redex S tab e x → Wrong tab e → x ≡ stuck
  wrong_stuck n w = grind (arith, wrong_contracts, wrong_denied)

  contracts_step : {e e' : Term} → Contracts S tab e e' → step S tab e ≡ moved e'
  unfolding step operand_first apply project branch unroll calculate literal_of if_permitted
  contracts_step n = grind (arith, value_step)

  denied_step : {e : Term} → Denied S e → step S tab e ≡ denied
  unfolding step operand_first apply project branch calculate literal_of if_permitted
  denied_step n = grind (arith, value_step)

  wrong_step : {e : Term} → Wrong tab e → step S tab e ≡ stuck
  unfolding step operand_first
  wrong_step wrong_var = refl
  wrong_step (wrong_app {w = w} {f = f} {v = v} x y h) =
      rw (value_step S tab f x, value_step S tab v y) (wrong_stuck (apply_redex w f v x y) (wrong_app x y h))
  wrong_step (wrong_proj {d = d} {w = w} {v = v} x h) = rw (value_step S tab v x) (wrong_stuck (project_redex d w v x) (wrong_proj x h))
  wrong_step (wrong_case {w = w} {i = i} {v = v} {a = a} {b = b} x h) =
      rw (value_step S tab v x) (wrong_stuck (branch_redex w i v a b x) (wrong_case x h))
  wrong_step (wrong_reckon {o = o} {w = w} {a = a} {b = b} x y h) =
      rw (value_step S tab a x, value_step S tab b y)
      (wrong_stuck (calculate_redex o w a b (literal_of a) (literal_of b) x y refl refl) (wrong_reckon x y h))
  wrong_step (wrong_mu {w = w} {i = i} {e = e} h) = wrong_stuck (unroll_redex w i e (tab i) refl) (wrong_mu h)

  pub redex_step : {e : Term} {x : Outcome} → Redex S tab e x → step S tab e ≡ x
  redex_step n = grind (arith, contracts_step, denied_step, wrong_step)
