-- The theorems on subtyping: the relation and the test agree, and subtyping is an order on secure types that keeps the
-- size.
use Rattle.std.proofs.Common.{◌≡◌, refl, ap, ◌∙◌, nat_le, IsTrue}
use Rattle.calculus.specs.Security.{Security, Laws}
use Rattle.calculus.specs.Types.{Ty, secure_t, size_t, fits, type_limit}
use Rattle.calculus.specs.Subtyping.{Subtype, s_trans, s_unit, s_number, s_sum, s_product, s_function, Direction, below}
use Rattle.calculus.specs.Subtyping.{opposite, subtype}
use Rattle.calculus.proofs.Directed.{directed_test, test_directed, directed_opposite, directed_refl, directed_antisym}
use Rattle.calculus.proofs.Directed.{directed_subtype, subtype_directed}

pub subtype_sound : {S : Security} (s t : Ty) → IsTrue (subtype S below s t) → Subtype S s t
subtype_sound s t h = directed_subtype (test_directed below s t h)

-- The test upward is the test downward of the two types exchanged.
pub subtype_opposite : (S : Security) (d : Direction) (s t : Ty) → IsTrue (subtype S d s t) → IsTrue (subtype S (opposite d) t s)
subtype_opposite S d s t h = directed_test (directed_opposite (test_directed d s t h))

-- Only properties differ, never the shape.
pub subtype_size : {S : Security} {s t : Ty} → Subtype S s t → size_t s ≡ size_t t
unfolding size_t
subtype_size (s_trans p q) = subtype_size p ∙ subtype_size q
subtype_size (s_unit h) = refl
subtype_size (s_number h) = refl
subtype_size (s_sum h p q) = rw (subtype_size p, subtype_size q)
subtype_size (s_product h p q) = rw (subtype_size p, subtype_size q)
subtype_size (s_function h p q) = rw (subtype_size p, subtype_size q)

pub subtype_fits : {S : Security} {s t : Ty} → Subtype S s t → fits s ≡ fits t
subtype_fits p = ap (λ n. nat_le n type_limit) (subtype_size p)

module _ {S : Security} (L : Laws S) where
  pub subtype_complete : {s t : Ty} → Subtype S s t → IsTrue (subtype S below s t)
  subtype_complete p = directed_test (subtype_directed L p)

  pub subtype_reflexive : (s : Ty) → IsTrue (secure_t S s) → Subtype S s s
  subtype_reflexive s h = directed_subtype (directed_refl L below s h)

  -- a rule of the relation, and so a theorem on the test
  pub subtype_transitive : (s t u : Ty) → IsTrue (subtype S below s t) → IsTrue (subtype S below t u) → IsTrue (subtype S below s u)
  subtype_transitive s t u p q = subtype_complete (s_trans (subtype_sound s t p) (subtype_sound t u q))

  pub subtype_antisymmetric : {s t : Ty} → Subtype S s t → Subtype S t s → s ≡ t
  subtype_antisymmetric p q = directed_antisym L (subtype_directed L p) (subtype_directed L q)
