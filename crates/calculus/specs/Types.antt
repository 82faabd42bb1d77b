-- Types s ::= (t, κ) with t ::= unit | number | s + s | s × s | s → s, and raising them (manual, 3.1).
use Rattle.std.specs.Prelude.{Bool, true, false, ◌&&◌, ℕ, ◌+◌, nat_le}
use Rattle.std.proofs.Math.Option.{Option, none, some}
use Rattle.calculus.specs.Security.{Property, Indirect, Security}

-- the types without sides
pub data Leaf : Type 0 where
  one number : Leaf

-- the types with two sides
pub data Former : Type 0 where
  sum product function : Former

-- a type: a form with a property, and its sides
pub data Ty : Type 0 where
  -- (unit, κ) or (number, κ)
  leaf : Leaf → Property → Ty
  -- (s + s', κ), (s × s', κ) or (s → s', κ)
  node : Former → Property → Ty → Ty → Ty

-- are two leaves the same?
abbrev pub same_leaf : Leaf → Leaf → Bool
same_leaf one one = true
same_leaf one number = false
same_leaf number one = false
same_leaf number number = true

-- are two forms the same?
abbrev pub equal_formers : Former → Former → Bool
equal_formers sum sum = true
equal_formers sum product = false
equal_formers sum function = false
equal_formers product sum = false
equal_formers product product = true
equal_formers product function = false
equal_formers function sum = false
equal_formers function product = false
equal_formers function function = true

-- the outermost property
abbrev pub top : Ty → Property
top (leaf b k) = k
top (node f k s t) = k

-- s • (ir, ic): the top is raised, and nothing deeper
abbrev pub raise_t : Security → Ty → Indirect → Ty
raise_t S (leaf b k) m = leaf b (S.raise k m)
raise_t S (node f k s t) m = node f (S.raise k m) s t

-- Every property in a secure type satisfies ir ⊑ r and ic ⊑ c.
unfoldable pub secure_t : Security → Ty → Bool
secure_t S (leaf b k) = S.secure k
secure_t S (node f k s t) = S.secure k && (secure_t S s && secure_t S t)

-- the number of records of a type
unfoldable pub size_t : Ty → ℕ
size_t (leaf b k) = 1
size_t (node f k s t) = 1 + (size_t s + size_t t)

-- A type has at most 63 records.
abbrev pub type_limit : ℕ
type_limit = 63

-- is a type within that limit?
abbrev pub fits : Ty → Bool
fits t = nat_le (size_t t) type_limit

-- the outermost property and the two sides of a type
pub record Parts : Type 0 where
  pub own : Property
  pub lhs : Ty
  pub rhs : Ty

-- an answer that is only there under a condition
abbrev pub when : {A : Type 0} → Bool → A → Option A
when true a = some a
when false a = none

-- one partial answer after another: none ends them
abbrev pub ◌>>=◌ : {A B : Type 0} → Option A → (A → Option B) → Option B
◌>>=◌ none f = none
◌>>=◌ (some a) f = f a

-- is there an answer?
abbrev pub exists : {A : Type 0} → Option A → Bool
exists none = false
exists (some a) = true

-- the parts of a type of the wanted form
abbrev pub parts : Former → Ty → Option Parts
parts f (leaf b k) = none
parts f (node f' k s t) = when (equal_formers f f') (record { own = k; lhs = s; rhs = t })
