-- At or below, of types: as a relation and as a test (manual, 3.4).
use Rattle.std.specs.Prelude.{Bool, false, ◌&&◌, IsTrue}
use Rattle.calculus.specs.Security.{Property, Security}
use Rattle.calculus.specs.Types.{one, number, Former, sum, product, function, Ty, leaf, node, same_leaf, equal_formers}

-- s ≤ s': the rules of manual, 3.4, with transitivity.
pub data Subtype (S : Security) : Ty → Ty → Type 0 where
  s_trans : {s t u : Ty} → Subtype S s t → Subtype S t u → Subtype S s u
  s_unit : {k l : Property} → IsTrue (S.le k l) → Subtype S (leaf one k) (leaf one l)
  s_number : {k l : Property} → IsTrue (S.le k l) → Subtype S (leaf number k) (leaf number l)
  s_sum : {k l : Property} {s t s' t' : Ty} → IsTrue (S.le k l) → Subtype S s s' → Subtype S t t' → Subtype S (node sum k s t) (node sum l s' t')
  s_product : {k l : Property} {s t s' t' : Ty} → IsTrue (S.le k l) → Subtype S s s' → Subtype S t t'
      → Subtype S (node product k s t) (node product l s' t')
  -- The parameters are compared the other way round.
  s_function : {k l : Property} {s t s' t' : Ty} → IsTrue (S.le k l) → Subtype S s' s → Subtype S t t'
      → Subtype S (node function k s t) (node function l s' t')

-- The test walks both types at once, at or below or at or above; a function's left sides turn it round.
pub data Direction : Type 0 where
  below above : Direction

-- the other direction
abbrev pub opposite : Direction → Direction
opposite below = above
opposite above = below

-- the direction in which the left sides of a type of this form are compared
abbrev pub leftward : Former → Direction → Direction
leftward sum d = d
leftward product d = d
leftward function d = opposite d

-- κ ≤ κ' below, κ' ≤ κ above
abbrev pub le_toward : Security → Direction → Property → Property → Bool
le_toward S below k l = S.le k l
le_toward S above k l = S.le l k

-- the test: is the first type at or below the second, or, upward, at or above it?
unfoldable pub subtype : Security → Direction → Ty → Ty → Bool
subtype S d (leaf b k) (leaf b' l) = same_leaf b b' && le_toward S d k l
subtype S d (leaf b k) (node f l s t) = false
subtype S d (node f k s t) (leaf b l) = false
subtype S d (node f k s t) (node f' l s' t') = equal_formers f f' && (le_toward S d k l && (subtype S (leftward f d) s s' && subtype S d t t'))
