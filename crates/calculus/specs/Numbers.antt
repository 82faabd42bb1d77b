-- Whole numbers: what reckoning reads, what it gives, and the type of what it gives (manual, 5.12 and 6.3).
use Rattle.std.specs.Prelude.{◌≡◌, Bool, true, false, if◌then◌else◌, ◌&&◌, ℕ, ◌+◌, min, nat_lt}
use Rattle.std.proofs.Math.Option.{Option, none, some}
use Rattle.calculus.specs.Security.{Property, Reader, Security}
use Rattle.calculus.specs.Types.{one, number, sum, Ty, leaf, node, top, when, ◌>>=◌, parts}
use Rattle.calculus.specs.Terms.{Side, first, second, choose, Operation, plus, less, Term, var, unit, lam, pair, inj}
use Rattle.calculus.specs.Terms.{app, proj, case, protect, mu, literal, reckon}

-- a literal in hand
pub record Literal : Type 0 where
  pub own : Property
  pub value : ℕ

-- the literal that a term is, if it is one
unfoldable pub literal_of : Term → Option Literal
literal_of (literal k n) = some (record { own = k; value = n })
literal_of _ = none

-- The property of a result: new by the node's group, then raised by what reading the left operand passes on, and then
-- by the right. Typing and stepping both use it.
abbrev pub of_both : Security → Reader → Property → Property → Property
of_both S w k l = S.raise (S.raise (S.fresh w) (S.influence k w)) (S.influence l w)

-- the highest number of a literal
abbrev pub number_limit : ℕ
number_limit = 65535

-- one side of a type that has two
abbrev pub side : Side → Ty → Ty
side d (leaf b k) = leaf b k
side d (node f k s t) = choose d s t

-- Less than gives the first injection, otherwise the second.
abbrev pub less_side : ℕ → ℕ → Side
less_side m n = if nat_lt m n then first else second

-- A sum over 65,535 is 65,535. Less than gives an injection of a unit with the property of that side of the named sum.
unfoldable pub reckon_result : (ℕ → Ty) → Operation → Property → ℕ → ℕ → Term
reckon_result tab plus k m n = literal k (min (m + n) number_limit)
reckon_result tab (less i) k m n = inj (less_side m n) k i (unit (top (side (less_side m n) (tab i))))

-- The type of what is reckoned, with this property: a number, or the named sum of two units, whose own groups aren't
-- read.
pub data Reckons (tab : ℕ → Ty) : Operation → Property → Ty → Type 0 where
  a_number : {k : Property} → Reckons tab plus k (leaf number k)
  a_flag : {i : ℕ} {k l p q : Property} → tab i ≡ node sum l (leaf one p) (leaf one q)
      → Reckons tab (less i) k (node sum k (leaf one p) (leaf one q))

-- the same as a function
abbrev pub is_unit : Ty → Bool
is_unit (leaf one k) = true
is_unit (leaf number k) = false
is_unit (node f k s t) = false

-- the type of what is reckoned, if the named type is as it has to be
abbrev pub reckon_type : (ℕ → Ty) → Operation → Property → Option Ty
reckon_type tab plus k = some (leaf number k)
reckon_type tab (less i) k = do
  p ← parts sum (tab i)
  when (is_unit p.lhs && is_unit p.rhs) (node sum k p.lhs p.rhs)

-- the property of a number's type
abbrev pub number_property : Ty → Option Property
number_property (leaf one k) = none
number_property (leaf number k) = some k
number_property (node f k s t) = none
