-- Subtyping without its rule of transitivity, as derivations that know their direction: one rule stands for every form.
-- The relation and the test both agree with them, so every other proof goes by cases here.
use Rattle.std.proofs.Common.{◌≡◌, refl, Bool, false, IsTrue, arith}
use Rattle.std.proofs.Math.Bool.{false≢true}
use Rattle.calculus.specs.Security.{Property, Security, Laws}
use Rattle.calculus.specs.Types.{Leaf, one, number, Former, sum, product, function, Ty, leaf, node, same_leaf}
use Rattle.calculus.specs.Types.{equal_formers, secure_t}
use Rattle.calculus.specs.Subtyping.{Subtype, s_trans, s_unit, s_number, s_sum, s_product, s_function, Direction, below}
use Rattle.calculus.specs.Subtyping.{above, opposite, leftward, le_toward, subtype}
use Rattle.calculus.proofs.Booleans.{both, and_left, and_right}

pub data Directed (S : Security) : Direction → Ty → Ty → Type 0 where
  d_leaf : {d : Direction} {b : Leaf} {k l : Property} → IsTrue (le_toward S d k l) → Directed S d (leaf b k) (leaf b l)
  d_node : {d : Direction} {f : Former} {k l : Property} {s t s' t' : Ty} → IsTrue (le_toward S d k l)
      → Directed S (leftward f d) s s' → Directed S d t t' → Directed S d (node f k s t) (node f l s' t')

-- The test.

pub same_leaf_refl : (b : Leaf) → IsTrue (same_leaf b b)
same_leaf_refl b = grind arith

pub same_leaf_eq : (b b' : Leaf) → IsTrue (same_leaf b b') → b ≡ b'
same_leaf_eq b b' h = grind arith

pub same_refl : (f : Former) → IsTrue (equal_formers f f)
same_refl f = grind arith

pub same_eq : (f g : Former) → IsTrue (equal_formers f g) → f ≡ g
same_eq f g h = grind arith

pub directed_test : {S : Security} {d : Direction} {s t : Ty} → Directed S d s t → IsTrue (subtype S d s t)
unfolding subtype
directed_test (d_leaf {b = b} h) = both (same_leaf_refl b) h
directed_test (d_node {f = f} h p q) = both (same_refl f) (both h (both (directed_test p) (directed_test q)))

pub test_directed : {S : Security} (d : Direction) (s t : Ty) → IsTrue (subtype S d s t) → Directed S d s t
unfolding subtype
test_directed d (leaf b k) (leaf b' l) h = rw (← same_leaf_eq b b' (and_left _ _ h)) (d_leaf (and_right (same_leaf b b') _ h))
test_directed d (leaf b k) (node f l s t) h = absurd (false≢true h)
test_directed d (node f k s t) (leaf b l) h = absurd (false≢true h)
test_directed {S} d (node f k s t) (node g l s' t') h =
    let h1 = and_right (equal_formers f g) _ h in
    let h2 = and_right (le_toward S d k l) _ h1 in
    rw (← same_eq f g (and_left _ _ h))
    (d_node (and_left _ _ h1)
    (test_directed (leftward f d) s s' (and_left _ _ h2)) (test_directed d t t' (and_right (subtype S (leftward f d) s s') _ h2)))

-- is the type of this form?
abbrev pub formed : Former → Ty → Bool
formed f (leaf b k) = false
formed f (node g k s t) = equal_formers f g

-- types that are compared have the same form
pub directed_formed : {S : Security} {d : Direction} {s t : Ty} (f : Former) → Directed S d s t → formed f s ≡ formed f t
directed_formed f n = grind arith

-- The other way round.

le_opposite : (S : Security) (d : Direction) (k l : Property) → IsTrue (le_toward S d k l) → IsTrue (le_toward S (opposite d) l k)
le_opposite S d k l h = grind arith

leftward_opposite : (f : Former) (d : Direction) → opposite (leftward f d) ≡ leftward f (opposite d)
leftward_opposite f d = grind arith

pub directed_opposite : {S : Security} {d : Direction} {s t : Ty} → Directed S d s t → Directed S (opposite d) t s
directed_opposite {S} (d_leaf {d = d} h) = d_leaf (le_opposite S d _ _ h)
directed_opposite {S} (d_node {d = d} {f = f} h p q) =
    d_node (le_opposite S d _ _ h) (rw (leftward_opposite f d) at (directed_opposite p)) (directed_opposite q)

-- The laws of an order, in either direction.

module _ {S : Security} (L : Laws S) where
  le_refl : (d : Direction) (k : Property) → IsTrue (S.secure k) → IsTrue (le_toward S d k k)
  le_refl d k h = grind arith

  pub directed_refl : (d : Direction) (s : Ty) → IsTrue (secure_t S s) → Directed S d s s
  unfolding secure_t
  directed_refl d (leaf b k) h = d_leaf (le_refl d k h)
  directed_refl d (node f k s t) h =
      let h1 = and_right (S.secure k) _ h in
      d_node (le_refl d k (and_left _ _ h)) (directed_refl (leftward f d) s (and_left _ _ h1)) (directed_refl d t (and_right (secure_t S s) _ h1))

  le_trans : (d : Direction) (k l m : Property) → IsTrue (le_toward S d k l) → IsTrue (le_toward S d l m) → IsTrue (le_toward S d k m)
  le_trans d k l m p q = grind arith

  pub directed_trans : {d : Direction} {s t u : Ty} → Directed S d s t → Directed S d t u → Directed S d s u
  directed_trans (d_leaf {d = d} p) (d_leaf q) = d_leaf (le_trans d _ _ _ p q)
  directed_trans (d_node {d = d} p a b) (d_node q a' b') = d_node (le_trans d _ _ _ p q) (directed_trans a a') (directed_trans b b')

  le_antisym : (d : Direction) (k l : Property) → IsTrue (le_toward S d k l) → IsTrue (le_toward S d l k) → k ≡ l
  le_antisym d k l p q = grind arith

  -- by the test, which reads the two formers apart
  test_antisym : (d : Direction) (s t : Ty) → IsTrue (subtype S d s t) → IsTrue (subtype S d t s) → s ≡ t
  unfolding subtype
  test_antisym d (leaf b k) (leaf b' l) p q = grind (arith, same_leaf_eq, and_left, le_antisym, and_right)
  test_antisym d (leaf b k) (node g l s' t') p q = absurd (false≢true p)
  test_antisym d (node f k s t) (leaf b l) p q = absurd (false≢true p)
  test_antisym d (node f k s t) (node g l s' t') p q =
      let e = same_eq f g (and_left _ _ p) in
      let p1 = and_right (equal_formers f g) _ p in
      let p2 = and_right (le_toward S d k l) _ p1 in
      let q1 = and_right (equal_formers g f) _ q in
      let q2 = and_right (le_toward S d l k) _ q1 in
      rw (
        e,
        le_antisym d k l (and_left _ _ p1) (and_left _ _ q1),
        test_antisym (leftward g d) s s' (rw e at (and_left (subtype S (leftward f d) s s') _ p2)) (and_left _ _ q2),
        test_antisym d t t' (and_right (subtype S (leftward f d) s s') _ p2) (and_right (subtype S (leftward g d) s' s) _ q2),
      )

  pub directed_antisym : {d : Direction} {s t : Ty} → Directed S d s t → Directed S d t s → s ≡ t
  directed_antisym {d = d} {s = s} {t = t} p q = test_antisym d s t (directed_test p) (directed_test q)

-- The relation.

abbrev Toward : Security → Direction → Ty → Ty → Type 0
Toward S below s t = Subtype S s t
Toward S above s t = Subtype S t s

toward_leaf : (S : Security) (b : Leaf) (d : Direction) (k l : Property) → IsTrue (le_toward S d k l) → Toward S d (leaf b k) (leaf b l)
toward_leaf S one below k l h = s_unit h
toward_leaf S one above k l h = s_unit h
toward_leaf S number below k l h = s_number h
toward_leaf S number above k l h = s_number h

toward_node : (S : Security) (f : Former) (d : Direction) (k l : Property) (s t s' t' : Ty) → IsTrue (le_toward S d k l)
    → Toward S (leftward f d) s s' → Toward S d t t' → Toward S d (node f k s t) (node f l s' t')
toward_node S sum below k l s t s' t' h p q = s_sum h p q
toward_node S sum above k l s t s' t' h p q = s_sum h p q
toward_node S product below k l s t s' t' h p q = s_product h p q
toward_node S product above k l s t s' t' h p q = s_product h p q
toward_node S function below k l s t s' t' h p q = s_function h p q
toward_node S function above k l s t s' t' h p q = s_function h p q

directed_toward : {S : Security} {d : Direction} {s t : Ty} → Directed S d s t → Toward S d s t
directed_toward {S} (d_leaf {d = d} {b = b} h) = toward_leaf S b d _ _ h
directed_toward {S} (d_node {d = d} {f = f} h p q) = toward_node S f d _ _ _ _ _ _ h (directed_toward p) (directed_toward q)

pub directed_subtype : {S : Security} {s t : Ty} → Directed S below s t → Subtype S s t
directed_subtype p = directed_toward p

pub subtype_directed : {S : Security} (L : Laws S) {s t : Ty} → Subtype S s t → Directed S below s t
subtype_directed L (s_trans p q) = directed_trans L (subtype_directed L p) (subtype_directed L q)
subtype_directed L (s_unit h) = d_leaf h
subtype_directed L (s_number h) = d_leaf h
subtype_directed L (s_sum h p q) = d_node h (subtype_directed L p) (subtype_directed L q)
subtype_directed L (s_product h p q) = d_node h (subtype_directed L p) (subtype_directed L q)
subtype_directed L (s_function h p q) = d_node h (directed_opposite (subtype_directed L p)) (subtype_directed L q)
