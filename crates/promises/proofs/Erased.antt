-- A formed term, stripped, is formed over the one-group table and the stripped types.
use Rattle.std.proofs.Common.{refl, ◌∙◌, ◌||◌, ℕ, suc, ◌+◌, ◌<◌, nat_lt, arith, IsTrue}
use Rattle.calculus.specs.Terms.{plus, less, Term, var, unit, lam, pair, inj, app, proj, case, protect, mu, literal}
use Rattle.calculus.specs.Terms.{reckon}
use Rattle.calculus.specs.Relabelling.{relabel}
use Rattle.calculus.proofs.Erasure.{OneGroup}
use Rattle.calculus.specs.Typing.{finds_own}
use Rattle.calculus.proofs.Erased.{public, no_influence, erase}
use Rattle.rules.specs.Answer.{Bytes}
use Rattle.rules.specs.Groups.{rows, join, meet, properties_of}
use Rattle.rules.specs.Types.{type_count}
use Rattle.rules.specs.Script.{sum_of_units}
use Rattle.rules.specs.Strip.{strip_types, one_group}
use Rattle.promises.proofs.Formed.{Secure, SecureI, Formed}
use Rattle.promises.proofs.Stripping.{strip_type_count, strip_type_kind}

pub one_group_is : OneGroup (properties_of one_group)
unfolding join meet
one_group_is = record { fresh = refl; raise = refl; permits = refl; influence = refl; caller = refl }

public_labelled : Secure one_group public
public_labelled = refl

no_influence_labelled : SecureI one_group no_influence
no_influence_labelled = refl

the_group : 0 < rows one_group
the_group = omega arith

in_stripped : (t : Bytes) (i : ℕ) → i < type_count t → i < type_count (strip_types t)
in_stripped t i l = omega (arith, strip_type_count t)

found_stripped : (t : Bytes) (i : ℕ) → IsTrue (finds_own i || nat_lt i (type_count t)) → IsTrue (finds_own i || nat_lt i (type_count (strip_types t)))
found_stripped t i h = rw (strip_type_count t) h

units_stripped : (t : Bytes) (i : ℕ) → IsTrue (sum_of_units t i) → IsTrue (sum_of_units (strip_types t) i)
units_stripped t i h = rw (strip_type_kind t i, strip_type_kind t (i + 1), strip_type_kind t (i + 2)) h

pub erase_formed : (g t : Bytes) (n : ℕ) (e : Term) → Formed g t n e → Formed one_group (strip_types t) n (erase e)
unfolding Formed relabel
erase_formed g t n (var m) F = F
erase_formed g t n (unit k) F = public_labelled
erase_formed g t n (lam k i e) F = (public_labelled, in_stripped t i F.1, erase_formed g t (suc n) e F.2)
erase_formed g t n (pair k a b) F = (public_labelled, erase_formed g t n a F.1, erase_formed g t n b F.2)
erase_formed g t n (inj d k i e) F = (public_labelled, in_stripped t i F.1, strip_type_kind t i ∙ F.2, erase_formed g t n e F.3)
erase_formed g t n (app w f a) F = (the_group, erase_formed g t n f F.1, erase_formed g t n a F.2)
erase_formed g t n (proj d w e) F = (the_group, erase_formed g t n e F.1)
erase_formed g t n (case w i e a b) F =
    (the_group, found_stripped t i F.1, erase_formed g t n e F.2, erase_formed g t (suc n) a F.3, erase_formed g t (suc n) b F.4)
erase_formed g t n (protect m e) F = (no_influence_labelled, erase_formed g t n e F.1)
erase_formed g t n (mu w i e) F = (the_group, in_stripped t i F.1, strip_type_kind t i ∙ F.2, erase_formed g t (suc n) e F.3)
erase_formed g t n (literal k m) F = (public_labelled, F.1)
erase_formed g t n (reckon plus w a b) F = (the_group, erase_formed g t n a F.1, erase_formed g t n b F.2)
erase_formed g t n (reckon (less i) w a b) F =
    (the_group, in_stripped t i F.1, units_stripped t i F.2, erase_formed g t n a F.3, erase_formed g t n b F.4)
