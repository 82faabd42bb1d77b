-- What the search for the redex of a term reports.
use Rattle.std.specs.Prelude.{◌≡◌, Bool, false, if◌then◌else◌, ◌||◌, ℕ, ◌+◌, ◌≤◌, nat_eq, IsTrue}
use Rattle.calculus.specs.Security.{Security}
use Rattle.calculus.specs.Types.{Ty}
use Rattle.calculus.specs.Terms.{Term, is_value}
use Rattle.calculus.specs.Reduction.{Context, plug, denied, stuck, step}
use Rattle.rules.specs.Answer.{Bytes}
use Rattle.rules.specs.Limits.{depth_limit}
use Rattle.rules.specs.Script.{kind, size, depth}
use Rattle.records.specs.Kinds as kinds
use Rattle.records.specs.Operands.{first_operand, second_operand}
use Rattle.records.specs.Place.{At}
use Rattle.redex.specs.Contexts.{offset, level}
use Rattle.redex.specs.Fates.{Fate, reduces, not_permitted, no_rule, is_potential_redex, fate}
use Rattle.redex.specs.declared.Found.{Found}
use Rattle.redex.specs.declared.Found.TheVariants.{Value, Redex, Denied, Stuck}

-- A term stands at record i, d levels down, and no record of it is deeper than a script's may be.
pub record Shallow (s : Bytes) (i d : ℕ) : Type 0 where
  pub tree : Term
  pub at : At s i tree
  pub shallow : d + depth tree ≤ depth_limit

-- the redex of e, which stands at record i, d levels down: the own record of the redex, and how many levels down it
-- stands
pub record Site (S : Security) (tab : ℕ → Ty) (i d : ℕ) (e : Term) (place around : ℕ) : Type 0 where
  pub context : Context
  pub redex : Term
  pub whole : e ≡ plug context redex
  pub place_is : place ≡ i + offset context
  pub around_is : around ≡ d + level context
  pub turn : IsTrue (is_potential_redex redex)
  pub goes : fate S tab redex ≡ reduces

-- what the answer of the search says of the term e at record i, d levels down
pub data Finds (S : Security) (tab : ℕ → Ty) (i d : ℕ) (e : Term) : Found → Type 0 where
  -- e is a value, and the record after it is told
  finds_value : {end : ℕ} → IsTrue (is_value e) → end ≡ i + size e → Finds S tab i d e (Value end)
  finds_redex : {place around : ℕ} → Site S tab i d e place around → Finds S tab i d e (Redex place around)
  finds_denied : step S tab e ≡ denied → Finds S tab i d e Denied
  finds_stuck : step S tab e ≡ stuck → Finds S tab i d e Stuck

-- the answer of the node at record i, once it is its own turn
abbrev pub answer : Fate → ℕ → ℕ → Found
answer reduces i d = Redex i d
answer not_permitted i d = Denied
answer no_rule i d = Stuck

-- Is it the kind of a projection, the first or the second?
abbrev is_projection : ℕ → Bool
is_projection kind = nat_eq kind kinds.first_projection || nat_eq kind kinds.second_projection

-- A destructor reads what it takes apart: an application, a projection or a case.
unfoldable pub is_destructor : ℕ → Bool
is_destructor kind = nat_eq kind kinds.application || (is_projection kind || nat_eq kind kinds.case)

-- Is it the kind of a sum or of a comparison, whose two operands are read in one step?
abbrev pub is_reckoning : ℕ → Bool
is_reckoning kind = nat_eq kind kinds.sum || nat_eq kind kinds.less

-- e, a sum or a comparison, stands at record i, and its operands at the next record and at record j
pub record ReckonAt (s : Bytes) (i j : ℕ) (e : Term) : Type 0 where
  pub at : At s i e
  pub reckons : IsTrue (is_reckoning (kind s i))
  pub left : At s (i + 1) (first_operand e)
  pub right : At s j (second_operand e)

-- one such term stands there
pub record SomeReckonAt (s : Bytes) (i j : ℕ) : Type 0 where
  pub tree : Term
  pub stands : ReckonAt s i j tree

-- a node whose turn it is stands at record i
pub record PotentialRedex (s : Bytes) (i : ℕ) : Type 0 where
  pub tree : Term
  pub stands : At s i tree
  pub turn : IsTrue (is_potential_redex tree)

-- Does a destructor of this kind take apart a value of that kind: an application a function, a projection a pair, a
-- case an injection?
abbrev pub takes_apart : ℕ → ℕ → Bool
takes_apart destructor value =
    if nat_eq destructor kinds.application then nat_eq value kinds.function
    else (if is_projection destructor then nat_eq value kinds.pair
    else (if nat_eq destructor kinds.case then kinds.is_injection value else false))
