-- The common type is the nearest among all types in the subtyping order.
use Rattle.std.proofs.Common.{◌≡◌, refl, sym, ap, subst, ◌∙◌, true, IsTrue}
use Rattle.std.proofs.Math.Option.{none, some, Option}
use Rattle.std.proofs.Math.Bool.{false≢true}
use Rattle.calculus.specs.Security.{Security, Laws}
use Rattle.calculus.specs.Types.{Ty, secure_t, exists}
use Rattle.calculus.specs.Subtyping.{Direction, below, above}
use Rattle.calculus.specs.Common.{nearest_type}
use Rattle.calculus.proofs.Properties.{properties_laws}
use Rattle.calculus.proofs.Directed.{Directed, directed_opposite, directed_antisym, directed_subtype, subtype_directed}
use Rattle.calculus.proofs.Common.{common_bound, common_nearest, common_exists, common_size}
use Rattle.rules.proofs.Search.{some_inj}
use Rattle.promises.specs.CommonTypes.{Toward, NearestType, CommonType, CommonTypes}
use Rattle.promises.proofs.Groups.{lattice}

toward : {S : Security} (d : Direction) {s t : Ty} → Directed S d s t → Toward S d s t
toward below p = directed_subtype p
toward above p = directed_subtype (directed_opposite p)

-- an answer that is there
there : (o : Option Ty) → exists o ≡ true → (u : Ty) × (o ≡ some u)
there none h = absurd (false≢true h)
there (some u) h = (u, refl)

module _ {S : Security} (L : Laws S) where
  directed : (d : Direction) {s t : Ty} → Toward S d s t → Directed S d s t
  directed below p = subtype_directed L p
  directed above p = directed_opposite (subtype_directed L p)

  module _ (d : Direction) (s t : Ty) (h : IsTrue (secure_t S s)) (g : IsTrue (secure_t S t)) where
    is_nearest : (u : Ty) → nearest_type S d s t ≡ some u → NearestType S d s t u
    is_nearest u e =
        let x = common_bound L d s t h g e in
        record {
          left = toward d x.left;
          right = toward d x.right;
          nearest = λ v p q.
              let y = common_nearest L (directed d p) (directed d q) in
              subst (λ (z : Ty). Toward S d z v) (some_inj (sym y.1 ∙ e)) (toward d y.2);
        }

    nearest_is : (u : Ty) → NearestType S d s t u → nearest_type S d s t ≡ some u
    nearest_is u n =
        let y = common_nearest L (directed d n.left) (directed d n.right) in
        let x = is_nearest y.0 y.1 in
        y.1 ∙ ap some (directed_antisym L y.2 (directed d (n.nearest y.0 x.left x.right)))

    pub common_type : CommonType S d s t
    common_type = record {
      found = λ u. (is_nearest u, nearest_is u);
      exists = (
        λ z. sym (common_exists S d s t) ∙ ap exists z.1,
        λ k. there (nearest_type S d s t) (common_exists S d s t ∙ k),
      );
      bounded = (
        λ z. let x = is_nearest z.0 z.1 in (z.0, x.left, x.right),
        λ z. let y = common_nearest L (directed d z.1) (directed d z.2) in (y.0, y.1),
      );
      secure = λ u e. (common_bound L d s t h g e).secure;
      size = λ u e. common_size S d s t e;
    }

pub common_types : CommonTypes
unfolding CommonTypes
common_types g octets passed d s t h k = common_type (properties_laws (lattice g octets passed)) d s t h k
