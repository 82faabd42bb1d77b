-- The numbers of the kinds of types, and the kind of a number.
use Rattle.std.specs.Prelude.{◌≡◌, ◌<◌, ℕ, Option, MatchOption, Result, MatchResult}
use Rattle.types.specs.declared.Kind.{Kind}
use Rattle.types.specs.declared.Kind.TheVariants.{Unit, Sum, Pair, Function, Number}
use Rattle.types.specs.declared.UnknownKind.{UnknownKind}

-- a kind's number
abbrev pub type_kind_number : Kind → ℕ
type_kind_number Unit = 0
type_kind_number Sum = 1
type_kind_number Pair = 2
type_kind_number Function = 3
type_kind_number Number = 4

-- the kind of this number, if there is one
abbrev pub TypeKindIs : ℕ → Option Kind → Type 0
TypeKindIs n o = MatchOption o (4 < n) (λ k. type_kind_number k ≡ n)

-- the same, of a number that is turned into a kind
abbrev pub NamesTypeKind : ℕ → Result Kind UnknownKind → Type 0
NamesTypeKind n r = MatchResult r (λ k. type_kind_number k ≡ n) (λ e. (e.0 ≡ n) × (4 < n))
