-- Fate and contractum are the step function's: of a node whose own turn it is, and of a term around it.
use Rattle.std.proofs.Common.{◌≡◌, refl, ap, ◌∙◌, Bool, true, false, cond, ◌&&◌, ℕ, zero, IsTrue}
use Rattle.std.proofs.Math.Option.{Option, none, some}
use Rattle.std.proofs.lemmas.Bool.{false≢true}
use Rattle.calculus.specs.Security.{Reader, Security}
use Rattle.calculus.specs.Types.{sum, Ty, node, top}
use Rattle.calculus.specs.Terms.{Side, Operation, Term, var, lam, pair, inj, app, proj, case, protect, mu, reckon}
use Rattle.calculus.specs.Terms.{is_value, substitute}
use Rattle.calculus.specs.Numbers.{Literal, literal_of}
use Rattle.calculus.specs.Reduction.{unrolled_function, Context, plug, Outcome, moved, operand_first, if_permitted}
use Rattle.calculus.specs.Reduction.{apply, project, branch, unroll, calculate, step}
use Rattle.calculus.specs.Stuck.{built_by}
use Rattle.calculus.proofs.Booleans.{and_left, and_right}
use Rattle.calculus.proofs.Numbers.{literal_some}
use Rattle.calculus.proofs.Outcomes.{unfinished, within}
use Rattle.calculus.proofs.Values.{value_step}
use Rattle.calculus.proofs.Contexts.{plug_step}
use Rattle.redex.specs.Fates.{Fate, reduces, not_permitted, no_rule, is_function, is_potential_redex, reading_fate}
use Rattle.redex.specs.Fates.{fate, contractum}
use Rattle.redex.specs.Found.{Site}
use Rattle.redex.proofs.FateOutcome.{fate_outcome}

reading_is : (b : Bool) (e : Term) → if_permitted b e ≡ fate_outcome (reading_fate true b) e
unfolding if_permitted
reading_is true e = refl
reading_is false e = refl

fated_unfinished : (x : Fate) (e : Term) → IsTrue (unfinished (fate_outcome x e))
fated_unfinished reduces e = refl
fated_unfinished not_permitted e = refl
fated_unfinished no_rule e = refl

module _ (S : Security) (tab : ℕ → Ty) where
  -- the step of e, if it is its turn
  abbrev pub fires : Term → Outcome
  fires e = fate_outcome (fate S tab e) (contractum S tab e)

  apply_is : (w : Reader) (f v : Term) → apply S w f v ≡ fires (app w f v)
  unfolding apply fate contractum built_by
  apply_is w (lam k i e) v = reading_is (S.permits k w) _
  apply_is w _ v = refl

  project_is : (d : Side) (w : Reader) (v : Term) → project S d w v ≡ fires (proj d w v)
  unfolding project fate contractum built_by
  project_is d w (pair k a b) = reading_is (S.permits k w) _
  project_is d w _ = refl

  branch_is : (w : Reader) (j : ℕ) (v a b : Term) → branch S w v a b ≡ fires (case w j v a b)
  unfolding branch fate contractum built_by
  branch_is w j (inj d k i e) a b = reading_is (S.permits k w) _
  branch_is w j _ a b = refl

  unroll_is : (w : Reader) (i : ℕ) (e : Term) (t : Ty)
      → unroll S w i e t ≡ fate_outcome (cond (is_function t) reduces no_rule) (substitute zero (unrolled_function S w i (top t) e) e)
  unfolding unroll
  unroll_is w i e (node sum k s t) = refl
  unroll_is w i e _ = refl

  calculate_is : (o : Operation) (w : Reader) (a b : Term) → calculate S tab o w (literal_of a) (literal_of b) ≡ fires (reckon o w a b)
  unfolding calculate fate contractum literal_of
  calculate_is o w a b = by (literal_of a) (literal_of b) refl refl
    where
      by : (x y : Option Literal) → literal_of a ≡ x → literal_of b ≡ y → calculate S tab o w (literal_of a) (literal_of b) ≡ fires (reckon o w a b)
      by none y p q = rw p
      by (some x) none p q = rw (p, q)
      by (some x) (some y) p q =
          literal_some a p λ a_is.
          literal_some b q λ b_is.
          rw (a_is, b_is) (reading_is (S.permits x.own w && S.permits y.own w) _)

  pub turn_step : (e : Term) → IsTrue (is_potential_redex e) → step S tab e ≡ fires e
  unfolding step is_potential_redex operand_first fate contractum
  turn_step (var n) h = refl
  turn_step (app w f a) h =
      rw (value_step S tab f (and_left _ _ h), value_step S tab a (and_right (is_value f) _ h)) (apply_is w f a)
  turn_step (proj d w e) h = rw (value_step S tab e h) (project_is d w e)
  turn_step (case w i e a b) h = rw (value_step S tab e h) (branch_is w i e a b)
  turn_step (protect m e) h = rw (value_step S tab e h)
  turn_step (mu w i e) h = unroll_is w i e (tab i)
  turn_step (reckon o w a b) h =
      rw (value_step S tab a (and_left _ _ h), value_step S tab b (and_right (is_value a) _ h)) (calculate_is o w a b)
  turn_step _ h = absurd (false≢true h)

  -- the step of a term around a node whose own turn it is
  pub plug_turn : (E : Context) (e : Term) → IsTrue (is_potential_redex e) → step S tab (plug E e) ≡ within (plug E) (fires e)
  plug_turn E e h = plug_step S tab E e (fires e) (fated_unfinished (fate S tab e) (contractum S tab e)) (turn_step e h)

  pub plug_moves : (E : Context) (e : Term) → IsTrue (is_potential_redex e) → fate S tab e ≡ reduces → step S tab (plug E e) ≡ moved (plug E (contractum S tab e))
  plug_moves E e h g = plug_turn E e h ∙ ap (λ x. within (plug E) (fate_outcome x (contractum S tab e))) g

  pub site_moves : {i d : ℕ} {e : Term} {place around : ℕ} (x : Site S tab i d e place around)
      → step S tab e ≡ moved (plug x.context (contractum S tab x.redex))
  site_moves x = ap (step S tab) x.whole ∙ plug_moves x.context x.redex x.turn x.goes
