-- The theorems of the calculus, each as it is stated.
use Rattle.std.proofs.Common.{◌≡◌, ap, ◌∙◌, [], ◌∷◌, ℕ}
use Rattle.std.proofs.Math.Option.{some}
use Rattle.calculus.specs.Security.{Security, Laws}
use Rattle.calculus.specs.Types.{Ty}
use Rattle.calculus.specs.Subtyping.{Subtype}
use Rattle.calculus.specs.Terms.{Term}
use Rattle.calculus.specs.Typing.{HasType, Table, infer}
use Rattle.calculus.specs.Metatheory.{LatticesGiveLaws, SubtypingIsTested, SubtypingIsReflexive, SubtypingIsAntisymmetric, RaisingIsMonotone}
use Rattle.calculus.specs.Metatheory.{StepsAreTheRules, ReductionIsDeterministic, PrincipalTypes, TypedTermsAreInferred, Narrowing}
use Rattle.calculus.specs.Metatheory.{Substitution, Preservation, Progress, NeverHeldUp}
use Rattle.calculus.proofs.Properties.{properties_laws}
use Rattle.calculus.proofs.Directed.{directed_subtype, subtype_directed}
use Rattle.calculus.proofs.Subtyping as order
use Rattle.calculus.proofs.Raising.{raise_directed, raise_commutes}
use Rattle.calculus.specs.Metatheory.{RaisingCommutes}
use Rattle.calculus.proofs.Values.{value_step}
use Rattle.calculus.proofs.Reduction as steps
use Rattle.calculus.proofs.SecureTyping.{sc_empty, sc_extend}
use Rattle.calculus.proofs.Soundness.{infer_sound}
use Rattle.calculus.proofs.Completeness.{n_empty, n_extend, infer_complete, infer_principal}
use Rattle.calculus.proofs.Narrowing as narrowed
use Rattle.calculus.proofs.Substitution as substituted
use Rattle.calculus.proofs.Preservation as preserved
use Rattle.calculus.proofs.Progress as progressing

pub lattices_give_laws : LatticesGiveLaws
unfolding LatticesGiveLaws
lattices_give_laws G X = properties_laws X

pub subtyping_is_tested : SubtypingIsTested
unfolding SubtypingIsTested
subtyping_is_tested S L s t = (order.subtype_sound s t, λ p. order.subtype_complete L p)

pub subtyping_is_reflexive : SubtypingIsReflexive
unfolding SubtypingIsReflexive
subtyping_is_reflexive S L s h = order.subtype_reflexive L s h

pub subtyping_is_antisymmetric : SubtypingIsAntisymmetric
unfolding SubtypingIsAntisymmetric
subtyping_is_antisymmetric S L s t p q = order.subtype_antisymmetric L p q

pub raising_is_monotone : RaisingIsMonotone
unfolding RaisingIsMonotone
raising_is_monotone S L s t m n p h = directed_subtype (raise_directed L m n (subtype_directed L p) h)

pub raising_commutes : RaisingCommutes
unfolding RaisingCommutes
raising_commutes S L s m n h x y = raise_commutes L s m n h x y

pub steps_are_the_rules : StepsAreTheRules
unfolding StepsAreTheRules
steps_are_the_rules S tab e = record {
  moves_when = λ e'. (steps.step_reduces S tab e e', λ r. steps.reduces_step S tab r);
  value_when = (steps.step_value S tab e, value_step S tab e);
  denied_when = (steps.step_denied S tab e, λ a. steps.denied_step S tab a);
  stuck_when = (steps.step_stuck S tab e, λ a. steps.stuck_step S tab a);
}

pub reduction_is_deterministic : ReductionIsDeterministic
unfolding ReductionIsDeterministic
reduction_is_deterministic S tab e a b p q = steps.reduction_deterministic S tab p q

module _ {S : Security} {tab : ℕ → Ty} (L : Laws S) (T : Table S tab) where
  -- a type below every other is the one that is found
  least_found : (e : Term) (t : Ty) → HasType S tab [] e t → ((u : Ty) → HasType S tab [] e u → Subtype S t u) → infer S tab [] e ≡ some t
  least_found e t h least =
      let x = infer_complete L T e t sc_empty h in
      x.1 ∙ ap (λ (u : Ty). some u) (order.subtype_antisymmetric L x.2 (least x.0 (infer_sound L T e x.0 sc_empty x.1)))

pub principal_types : PrincipalTypes
unfolding PrincipalTypes
principal_types S tab L T e t = (
  λ h. (infer_sound L T e t sc_empty h, λ u p. infer_principal L T e t u sc_empty h p),
  λ h. least_found L T e t h.0 h.1,
)

pub typed_terms_are_inferred : TypedTermsAreInferred
unfolding TypedTermsAreInferred
typed_terms_are_inferred S tab L T e t h = let x = infer_complete L T e t sc_empty h in (x.0, x.1)

pub narrowing : Narrowing
unfolding Narrowing
narrowing S tab L T e r s t h g p q = narrowed.narrowing L T (sc_extend h sc_empty) (sc_extend g sc_empty) (n_extend p n_empty) q

pub substitution : Substitution
unfolding Substitution
substitution S tab L T e v s t h p = substituted.substitution h [] p

pub preservation : Preservation
unfolding Preservation
preservation S tab L T e e' t h r = preserved.preservation L T h r

pub progress : Progress
unfolding Progress
progress S tab L T e t h v = progressing.progress L T h v

pub never_held_up : NeverHeldUp
unfolding NeverHeldUp
never_held_up S tab L T e t h = (
  λ a. progressing.never_denied L T h (steps.denied_step S tab a),
  λ a. progressing.never_stuck L T h (steps.stuck_step S tab a),
)
