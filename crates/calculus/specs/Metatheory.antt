-- The theorems of the calculus: of subtyping, of reduction, of typing, and of how the two go together.
use Rattle.std.specs.Prelude.{◌≡◌, false, ◌↔◌, [], ◌∷◌, ℕ, zero, IsTrue}
use Rattle.std.proofs.Math.Option.{some}
use Rattle.calculus.specs.Security.{Indirect, Security, Laws}
use Rattle.calculus.specs.Groups.{Groups, Lattice, properties}
use Rattle.calculus.specs.Types.{Ty, raise_t, secure_t}
use Rattle.calculus.specs.Subtyping.{Subtype, below, subtype}
use Rattle.calculus.specs.Terms.{Term, is_value, substitute}
use Rattle.calculus.specs.Reduction.{Reduces, value, moved, denied, stuck, step}
use Rattle.calculus.specs.Stuck.{DeniedAt, StuckAt}
use Rattle.calculus.specs.Typing.{HasType, Table, infer}

-- The properties over a lattice of groups obey the laws that the theorems ask for.
unfoldable pub LatticesGiveLaws : Type 0
LatticesGiveLaws = (G : Groups) → Lattice G → Laws (properties G)

-- The test of subtyping is the relation,
unfoldable pub SubtypingIsTested : Type 0
SubtypingIsTested = (S : Security) → Laws S → (s t : Ty) → IsTrue (subtype S below s t) ↔ Subtype S s t

-- which is an order: that it is transitive is one of its rules.
unfoldable pub SubtypingIsReflexive : Type 0
SubtypingIsReflexive = (S : Security) → Laws S → (s : Ty) → IsTrue (secure_t S s) → Subtype S s s

unfoldable pub SubtypingIsAntisymmetric : Type 0
SubtypingIsAntisymmetric = (S : Security) → Laws S → (s t : Ty) → Subtype S s t → Subtype S t s → s ≡ t

-- Raising keeps it.
unfoldable pub RaisingIsMonotone : Type 0
RaisingIsMonotone =
    (S : Security) → Laws S → (s t : Ty) (m n : Indirect) → Subtype S s t → IsTrue (S.le_i m n) → Subtype S (raise_t S s m) (raise_t S t n)

-- Of two raisings the order doesn't matter.
unfoldable pub RaisingCommutes : Type 0
RaisingCommutes =
    (S : Security) → Laws S → (s : Ty) (m n : Indirect) → IsTrue (secure_t S s) → IsTrue (S.secure_i m) → IsTrue (S.secure_i n)
    → raise_t S (raise_t S s m) n ≡ raise_t S (raise_t S s n) m

-- The step as a function is the rules, and tells what holds a term up where no rule applies.
pub record Steps (S : Security) (tab : ℕ → Ty) (e : Term) : Type 0 where
  pub moves_when : (e' : Term) → (step S tab e ≡ moved e') ↔ Reduces S tab e e'
  pub value_when : (step S tab e ≡ value) ↔ IsTrue (is_value e)
  pub denied_when : (step S tab e ≡ denied) ↔ DeniedAt S e
  pub stuck_when : (step S tab e ≡ stuck) ↔ StuckAt tab e

unfoldable pub StepsAreTheRules : Type 0
StepsAreTheRules = (S : Security) (tab : ℕ → Ty) (e : Term) → Steps S tab e

unfoldable pub ReductionIsDeterministic : Type 0
ReductionIsDeterministic = (S : Security) (tab : ℕ → Ty) (e a b : Term) → Reduces S tab e a → Reduces S tab e b → a ≡ b

-- Over any properties that obey the laws, and any table of secure types.
abbrev pub OverTables : ((S : Security) (tab : ℕ → Ty) → Type 0) → Type 0
OverTables P = (S : Security) (tab : ℕ → Ty) → Laws S → Table S tab → P S tab

-- What inference finds is a type of the term, and below every other; it finds one where there is one.
unfoldable pub PrincipalTypes : Type 0
PrincipalTypes =
    OverTables λ S tab. (e : Term) (t : Ty) → (infer S tab [] e ≡ some t) ↔ (HasType S tab [] e t × ((u : Ty) → HasType S tab [] e u → Subtype S t u))

unfoldable pub TypedTermsAreInferred : Type 0
TypedTermsAreInferred = OverTables λ S tab. (e : Term) (t : Ty) → HasType S tab [] e t → (s : Ty) × (infer S tab [] e ≡ some s)

-- A variable's type may be lowered, and a term of its type put in its place.
unfoldable pub Narrowing : Type 0
Narrowing =
    OverTables λ S tab. (e : Term) (r s t : Ty) → IsTrue (secure_t S r) → IsTrue (secure_t S s) → Subtype S r s → HasType S tab (s ∷ []) e t
    → HasType S tab (r ∷ []) e t

unfoldable pub Substitution : Type 0
Substitution =
    OverTables λ S tab. (e v : Term) (s t : Ty) → HasType S tab [] v s → HasType S tab (s ∷ []) e t → HasType S tab [] (substitute zero v e) t

-- A typed closed term keeps its types as it reduces,
unfoldable pub Preservation : Type 0
Preservation = OverTables λ S tab. (e e' : Term) (t : Ty) → HasType S tab [] e t → Reduces S tab e e' → HasType S tab [] e' t

-- is a value or reduces,
unfoldable pub Progress : Type 0
Progress = OverTables λ S tab. (e : Term) (t : Ty) → HasType S tab [] e t → is_value e ≡ false → (e' : Term) × Reduces S tab e e'

-- and is never held up: by a reading that isn't permitted, or by a value of the wrong kind.
unfoldable pub NeverHeldUp : Type 0
NeverHeldUp = OverTables λ S tab. (e : Term) (t : Ty) → HasType S tab [] e t → (DeniedAt S e → ⊥) × (StuckAt tab e → ⊥)
