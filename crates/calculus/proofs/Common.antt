-- The common type is at or above both, and the lowest among all types at or above both; there is one where the shapes
-- agree.
use Rattle.std.proofs.Common.{◌≡◌, refl, Bool, true, false, ◌&&◌, IsTrue, arith}
use Rattle.std.proofs.Math.Option.{none, some, none-ne-some, Option}
use Rattle.calculus.specs.Security.{Property, Security, Laws}
use Rattle.calculus.specs.Types.{Leaf, Former, Ty, leaf, node, same_leaf, equal_formers, secure_t, size_t, when, ◌>>=◌}
use Rattle.calculus.specs.Types.{exists}
use Rattle.calculus.specs.Subtyping.{Subtype, s_trans, Direction, below, above, leftward, le_toward}
use Rattle.calculus.specs.Common.{nearest_property, nearest_type, same_shape}
use Rattle.calculus.proofs.Booleans.{both, and_left, and_right}
use Rattle.calculus.proofs.Directed.{Directed, d_leaf, d_node, same_leaf_refl, same_leaf_eq, same_refl, same_eq}
use Rattle.calculus.proofs.Directed.{directed_subtype, subtype_directed}
use Rattle.calculus.proofs.Answers.{bind_some, when_some}

-- a secure type that both are below, or that both are above
pub record Bound (S : Security) (d : Direction) (s t u : Ty) : Type 0 where
  pub left : Directed S d s u
  pub right : Directed S d t u
  pub secure : IsTrue (secure_t S u)

module _ {S : Security} (L : Laws S) where
  bound_left : (d : Direction) (k l : Property) → IsTrue (S.secure k) → IsTrue (S.secure l) → IsTrue (le_toward S d k (nearest_property S d k l))
  bound_left d k l h g = grind arith

  bound_right : (d : Direction) (k l : Property) → IsTrue (S.secure k) → IsTrue (S.secure l) → IsTrue (le_toward S d l (nearest_property S d k l))
  bound_right d k l h g = grind arith

  bound_nearest : (d : Direction) (k l m : Property) → IsTrue (le_toward S d k m) → IsTrue (le_toward S d l m) → IsTrue (le_toward S d (nearest_property S d k l) m)
  bound_nearest d k l m p q = grind arith

  bound_secure : (d : Direction) (k l : Property) → IsTrue (S.secure k) → IsTrue (S.secure l) → IsTrue (S.secure (nearest_property S d k l))
  bound_secure d k l h g = grind arith

  leaf_bound : (d : Direction) (b : Leaf) (k l : Property) → IsTrue (S.secure k) → IsTrue (S.secure l) → Bound S d (leaf b k) (leaf b l) (leaf b (nearest_property S d k l))
  unfolding secure_t
  leaf_bound d b k l h g = record { left = d_leaf (bound_left d k l h g); right = d_leaf (bound_right d k l h g); secure = bound_secure d k l h g }

  node_bound : {s t s' t' a b : Ty} (d : Direction) (f : Former) (k l : Property) → IsTrue (S.secure k) → IsTrue (S.secure l)
      → Bound S (leftward f d) s s' a → Bound S d t t' b → Bound S d (node f k s t) (node f l s' t') (node f (nearest_property S d k l) a b)
  unfolding secure_t
  node_bound d f k l h g x y = record {
    left = d_node (bound_left d k l h g) x.left y.left;
    right = d_node (bound_right d k l h g) x.right y.right;
    secure = both (bound_secure d k l h g) (both x.secure y.secure);
  }

  pub common_bound : (d : Direction) (s t : Ty) {u : Ty} → IsTrue (secure_t S s) → IsTrue (secure_t S t) → nearest_type S d s t ≡ some u → Bound S d s t u
  unfolding nearest_type secure_t
  common_bound d (leaf b k) (leaf b' l) h g e = when_some (same_leaf b b') _ e λ x e1. rw (← e1, ← same_leaf_eq b b' x) (leaf_bound d b k l h g)
  common_bound d (leaf b k) (node f l s t) {u} h g e = absurd (none-ne-some u e)
  common_bound d (node f k s t) (leaf b l) {u} h g e = absurd (none-ne-some u e)
  common_bound d (node f k s t) (node f' l s' t') h g e =
      let h1 = and_right (S.secure k) _ h in
      let g1 = and_right (S.secure l) _ g in
      bind_some (nearest_type S (leftward f d) s s') _ e λ a p e1.
      bind_some (nearest_type S d t t') _ e1 λ b q e2.
      when_some (equal_formers f f') _ e2 λ x e3.
      rw (← e3, ← same_eq f f' x)
      (node_bound d f k l (and_left _ _ h) (and_left _ _ g)
      (common_bound (leftward f d) s s' (and_left _ _ h1) (and_left _ _ g1) p)
      (common_bound d t t' (and_right (secure_t S s) _ h1) (and_right (secure_t S s') _ g1) q))

  -- Where any type is beyond both there is a common one, and it is nearer.
  pub common_nearest : {d : Direction} {s t m : Ty} → Directed S d s m → Directed S d t m → (u : Ty) × (nearest_type S d s t ≡ some u) × Directed S d u m
  unfolding nearest_type
  common_nearest (d_leaf {d = d} {b = b} {k = k} {l = m} p) (d_leaf {k = l} q) =
      (leaf b (nearest_property S d k l), rw (same_leaf_refl b), d_leaf (bound_nearest d k l m p q))
  common_nearest (d_node {d = d} {f = f} {k = k} {l = m} p a b) (d_node {k = l} q a' b') =
      let x = common_nearest a a' in
      let y = common_nearest b b' in
      (node f (nearest_property S d k l) x.0 y.0, rw (x.1, y.1, same_refl f), d_node (bound_nearest d k l m p q) x.2 y.2)
  -- The same in the words of the subtyping relation.

-- There is a common type where the shapes are the same.

exists_both : {A B C : Type 0} (m : Option A) (n : Option B) (b : Bool) (f : A → B → C)
    → exists (◌>>=◌ m (λ x. ◌>>=◌ n (λ y. when b (f x y)))) ≡ (exists m && (exists n && b))
exists_both m n b f = grind arith

exists_when : {A : Type 0} (b : Bool) (a : A) → exists (when b a) ≡ b
exists_when b a = grind arith

pub common_exists : (S : Security) (d : Direction) (s t : Ty) → exists (nearest_type S d s t) ≡ same_shape s t
unfolding nearest_type same_shape
common_exists S d (leaf b k) (leaf b' l) = exists_when (same_leaf b b') _
common_exists S d (leaf b k) (node f l s t) = refl
common_exists S d (node f k s t) (leaf b l) = refl
common_exists S d (node f k s t) (node f' l s' t') =
    rw (← common_exists S (leftward f d) s s', ← common_exists S d t t')
    (exists_both (nearest_type S (leftward f d) s s') (nearest_type S d t t') (equal_formers f f') (λ a b. node f (nearest_property S d k l) a b))

pub common_size : (S : Security) (d : Direction) (s t : Ty) {u : Ty} → nearest_type S d s t ≡ some u → size_t u ≡ size_t s
unfolding nearest_type size_t
common_size S d (leaf b k) (leaf b' l) e = when_some (same_leaf b b') _ e λ x e1. rw (← e1)
common_size S d (leaf b k) (node f l s t) {u} e = absurd (none-ne-some u e)
common_size S d (node f k s t) (leaf b l) {u} e = absurd (none-ne-some u e)
common_size S d (node f k s t) (node f' l s' t') e =
    bind_some (nearest_type S (leftward f d) s s') _ e λ a p e1.
    bind_some (nearest_type S d t t') _ e1 λ b q e2.
    when_some (equal_formers f f') _ e2 λ x e3.
    rw (← e3, common_size S (leftward f d) s s' p, common_size S d t t' q)
