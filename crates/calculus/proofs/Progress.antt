-- Progress: a closed term with a type is a value or reduces. No reading of it is denied, and no destructor meets a
-- wrong kind.
use Rattle.std.proofs.Common.{◌≡◌, sym, ap, ◌∙◌, false, List, [], ℕ, IsTrue, arith}
use Rattle.std.proofs.Math.Option.{none-ne-some}
use Rattle.std.proofs.Math.Bool.{false≢true}
use Rattle.calculus.specs.Security.{Security, Laws}
use Rattle.calculus.specs.Types.{Former, sum, product, function, Ty, exists, parts}
use Rattle.calculus.specs.Terms.{Term, is_value}
use Rattle.calculus.specs.Numbers.{literal_of, number_property}
use Rattle.calculus.specs.Reduction.{Reduces, Outcome, value, moved, denied, stuck, step}
use Rattle.calculus.specs.Stuck.{built_by, Denied, denied_app, denied_proj, denied_case, denied_reckon, Wrong}
use Rattle.calculus.specs.Stuck.{wrong_var, wrong_app, wrong_proj, wrong_case, wrong_reckon, wrong_mu, InContext}
use Rattle.calculus.specs.Typing.{lookup, HasType, Table}
use Rattle.calculus.proofs.Booleans.{both}
use Rattle.calculus.proofs.Directed.{formed}
use Rattle.calculus.proofs.Inferred.{Inferred, i_var, i_lam, i_pair, i_inj, i_app, i_proj, i_case, i_mu, i_literal}
use Rattle.calculus.proofs.Inferred.{i_reckon}
use Rattle.calculus.proofs.Completeness.{n_empty, typed_inferred}
use Rattle.calculus.proofs.TypedContexts.{filled}
use Rattle.calculus.proofs.Agreement.{Says, step_says}
use Rattle.calculus.proofs.Reduction.{step_denied, step_stuck}

-- Canonical forms: the kind of a value is the form of its type.
pub canonical_forms : {S : Security} {tab : ℕ → Ty} {Γ : List Ty} {v : Term} {t : Ty} (f : Former) → IsTrue (is_value v) → Inferred S tab Γ v t
    → built_by f v ≡ formed f t
unfolding is_value built_by
canonical_forms f x n = grind arith

-- and the literals are the values of a number's type
pub canonical_numbers : {S : Security} {tab : ℕ → Ty} {Γ : List Ty} {v : Term} {t : Ty} → IsTrue (is_value v) → Inferred S tab Γ v t
    → exists (literal_of v) ≡ exists (number_property t)
unfolding is_value literal_of
canonical_numbers x n = grind arith

abbrev Untyped : Security → (ℕ → Ty) → (Term → Type 0) → Type 0
Untyped S tab P = (e : Term) (t : Ty) → P e → Inferred S tab [] e t → ⊥

module _ {S : Security} {tab : ℕ → Ty} where
  denied_untyped : {e : Term} {t : Ty} → Denied S e → Inferred S tab [] e t → ⊥
  denied_untyped (denied_app x g) (i_app (i_lam h p f) q s m) = false≢true (sym g ∙ m)
  denied_untyped (denied_proj x y g) (i_proj (i_pair h p q f) m) = false≢true (sym g ∙ m)
  denied_untyped (denied_case x g) (i_case (i_inj h e p z) m q q' r) = false≢true (sym g ∙ m)
  denied_untyped (denied_reckon g) (i_reckon (i_literal h) m (i_literal h') n y) = false≢true (sym g ∙ both m n)

  wrong_untyped : {e : Term} {t : Ty} → Wrong tab e → Inferred S tab [] e t → ⊥
  unfolding lookup
  wrong_untyped wrong_var (i_var {t = t} h) = none-ne-some t h
  wrong_untyped (wrong_app x y g) (i_app p q s m) = false≢true (sym g ∙ canonical_forms function x p)
  wrong_untyped (wrong_proj x g) (i_proj p m) = false≢true (sym g ∙ canonical_forms product x p)
  wrong_untyped (wrong_case x g) (i_case p m q q' r) = false≢true (sym g ∙ canonical_forms sum x p)
  wrong_untyped (wrong_reckon x y g) (i_reckon p m q n z) = false≢true (sym g ∙ both (canonical_numbers x p) (canonical_numbers y q))
  wrong_untyped (wrong_mu g) (i_mu e m h p s) = none-ne-some _ (sym g ∙ ap (parts function) e)

  module _ (L : Laws S) (T : Table S tab) where
    inferred_nowhere : {P : Term → Type 0} {e : Term} {t : Ty} → Untyped S tab P → Inferred S tab [] e t → InContext P e → ⊥
    inferred_nowhere no_type p a = no_type _ _ a.holds (filled L T a.context (rw a.whole at p)).typed

    nowhere : {P : Term → Type 0} {e : Term} {t : Ty} → Untyped S tab P → HasType S tab [] e t → InContext P e → ⊥
    nowhere no_type h a = inferred_nowhere no_type (typed_inferred L T h n_empty).inferred a

    pub never_denied : {e : Term} {t : Ty} → HasType S tab [] e t → step S tab e ≡ denied → ⊥
    never_denied h d = nowhere (λ r u. denied_untyped) h (step_denied S tab _ d)

    pub never_stuck : {e : Term} {t : Ty} → HasType S tab [] e t → step S tab e ≡ stuck → ⊥
    never_stuck h w = nowhere (λ r u. wrong_untyped) h (step_stuck S tab _ w)

    pub progress : {e : Term} {t : Ty} → HasType S tab [] e t → is_value e ≡ false → (e' : Term) × Reduces S tab e e'
    progress {e} h v = go (step S tab e) (step_says S tab e)
      where
        go : (x : Outcome) → Says S tab e x → (e' : Term) × Reduces S tab e e'
        go value y = absurd (false≢true (sym v ∙ y))
        go (moved e') r = (e', r)
        go denied a = absurd (nowhere (λ r u. denied_untyped) h a)
        go stuck a = absurd (nowhere (λ r u. wrong_untyped) h a)
