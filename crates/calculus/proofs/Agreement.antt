-- Reduction as a relation and as a function agree, outcome by outcome.
use Rattle.std.proofs.Common.{◌≡◌, refl, sym, ap, ◌∙◌, ℕ, IsTrue}
use Rattle.calculus.specs.Security.{Security}
use Rattle.calculus.specs.Types.{Ty}
use Rattle.calculus.specs.Terms.{Term, var, pair, inj, app, proj, case, protect, mu, reckon, is_value}
use Rattle.calculus.specs.Numbers.{literal_of}
use Rattle.calculus.specs.Reduction.{Contracts, c_protect, Context, hole, app_left, app_right, in_proj, in_inj}
use Rattle.calculus.specs.Reduction.{pair_left, pair_right, in_protect, in_case, reckon_left, reckon_right, plug}
use Rattle.calculus.specs.Reduction.{Reduces, Outcome, value, moved, denied, stuck, operand_first, step}
use Rattle.calculus.specs.Stuck.{wrong_var, InContext, DeniedAt, StuckAt}
use Rattle.calculus.proofs.Booleans.{both}
use Rattle.calculus.proofs.Outcomes.{within}
use Rattle.calculus.proofs.Values.{value_step}
use Rattle.calculus.proofs.Redexes.{Redex, contracting, denying, sticking, redex_unfinished, redex_step, apply_redex}
use Rattle.calculus.proofs.Redexes.{project_redex, branch_redex, unroll_redex, calculate_redex}
use Rattle.calculus.proofs.Contexts.{compose, plug_compose, plug_step}

-- what an outcome says of the term
abbrev pub Says : Security → (ℕ → Ty) → Term → Outcome → Type 0
Says S tab e value = IsTrue (is_value e)
Says S tab e (moved e') = Reduces S tab e e'
Says S tab e denied = DeniedAt S e
Says S tab e stuck = StuckAt tab e

at_compose : {P : Term → Type 0} (E : Context) (e : Term) → InContext P e → InContext P (plug E e)
at_compose E e a = record {
  context = compose E a.context;
  position = a.position;
  holds = a.holds;
  whole = ap (plug E) a.whole ∙ sym (plug_compose E a.context a.position);
}

-- Reduction goes on inside a context.
pub reduces_plug : {S : Security} {tab : ℕ → Ty} {e e' : Term} (E : Context) → Reduces S tab e e' → Reduces S tab (plug E e) (plug E e')
reduces_plug E r = record {
  context = compose E r.context;
  redex = r.redex;
  contractum = r.contractum;
  contracts = r.contracts;
  before = ap (plug E) r.before ∙ sym (plug_compose E r.context r.redex);
  after = ap (plug E) r.after ∙ sym (plug_compose E r.context r.contractum);
}

-- A contraction is a reduction in the empty context.
pub contracts_reduces : {S : Security} {tab : ℕ → Ty} {e e' : Term} → Contracts S tab e e' → Reduces S tab e e'
unfolding plug
contracts_reduces c = record { context = hole; redex = _; contractum = _; contracts = c; before = refl; after = refl }

module _ (S : Security) (tab : ℕ → Ty) where
  redex_says : {e : Term} {x : Outcome} → Redex S tab e x → Says S tab e x
  unfolding plug
  redex_says (contracting c) = contracts_reduces c
  redex_says (denying d) = record { context = hole; position = _; holds = d; whole = refl }
  redex_says (sticking w) = record { context = hole; position = _; holds = w; whole = refl }

  operand_says : (E : Context) (e : Term) (x next : Outcome) → Says S tab e x → (IsTrue (is_value e) → Says S tab (plug E e) next)
      → Says S tab (plug E e) (operand_first x (plug E) next)
  unfolding operand_first
  operand_says E e value next h k = k h
  operand_says E e (moved e') next h k = reduces_plug E h
  operand_says E e denied next h k = at_compose E e h
  operand_says E e stuck next h k = at_compose E e h

  pub step_says : (e : Term) → Says S tab e (step S tab e)
  unfolding step plug is_value
  step_says (var n) = redex_says (sticking wrong_var)
  step_says (pair k a b) =
      operand_says (pair_left k hole b) a _ _ (step_says a) λ va.
      operand_says (pair_right k a va hole) b _ _ (step_says b) λ vb. both va vb
  step_says (inj d k i e) = operand_says (in_inj d k i hole) e _ _ (step_says e) λ v. v
  step_says (app w f a) =
      operand_says (app_left w hole a) f _ _ (step_says f) λ vf.
      operand_says (app_right w f vf hole) a _ _ (step_says a) λ va. redex_says (apply_redex S tab w f a vf va)
  step_says (proj d w e) = operand_says (in_proj d w hole) e _ _ (step_says e) λ v. redex_says (project_redex S tab d w e v)
  step_says (case w i e a b) = operand_says (in_case w i hole a b) e _ _ (step_says e) λ v. redex_says (branch_redex S tab w i e a b v)
  step_says (protect m e) = operand_says (in_protect m hole) e _ _ (step_says e) λ v. redex_says (contracting (c_protect v))
  step_says (mu w i e) = redex_says (unroll_redex S tab w i e (tab i) refl)
  step_says (reckon o w a b) =
      operand_says (reckon_left o w hole b) a _ _ (step_says a) λ va.
      operand_says (reckon_right o w a va hole) b _ _ (step_says b) λ vb.
      redex_says (calculate_redex S tab o w a b (literal_of a) (literal_of b) va vb refl refl)
  step_says _ = refl

  redex_at : {e r : Term} {x : Outcome} (E : Context) → e ≡ plug E r → Redex S tab r x → step S tab e ≡ within (plug E) x
  redex_at E p r = rw p (plug_step S tab E _ _ (redex_unfinished r) (redex_step S tab r))

  pub says_step : (e : Term) (x : Outcome) → Says S tab e x → step S tab e ≡ x
  says_step e value h = value_step S tab e h
  says_step e (moved e') r = rw r.after (redex_at r.context r.before (contracting r.contracts))
  says_step e denied a = redex_at a.context a.whole (denying a.holds)
  says_step e stuck a = redex_at a.context a.whole (sticking a.holds)
