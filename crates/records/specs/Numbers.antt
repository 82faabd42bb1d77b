-- The numbers of the kinds of records, and the kind of a number.
use Rattle.std.specs.Prelude.{◌≡◌, ◌<◌, ℕ, Option, MatchOption, Result, MatchResult}
use Rattle.records.specs.Kinds as kinds
use Rattle.records.specs.declared.Kind.{Kind}
use Rattle.records.specs.declared.Kind.TheVariants.{Variable, Unit, Function, Pair, FirstInjection, SecondInjection}
use Rattle.records.specs.declared.Kind.TheVariants.{Application, FirstProjection, SecondProjection, Case, Protect}
use Rattle.records.specs.declared.Kind.TheVariants.{Recursion, Literal, Sum, Less}
use Rattle.records.specs.declared.UnknownKind.{UnknownKind}

-- a kind's number
abbrev pub kind_number : Kind → ℕ
kind_number Variable = kinds.variable
kind_number Unit = kinds.unit
kind_number Function = kinds.function
kind_number Pair = kinds.pair
kind_number FirstInjection = kinds.first_injection
kind_number SecondInjection = kinds.second_injection
kind_number Application = kinds.application
kind_number FirstProjection = kinds.first_projection
kind_number SecondProjection = kinds.second_projection
kind_number Case = kinds.case
kind_number Protect = kinds.protect
kind_number Recursion = kinds.recursion
kind_number Literal = kinds.literal
kind_number Sum = kinds.sum
kind_number Less = kinds.less

-- the kind of this number, if there is one
abbrev pub KindIs : ℕ → Option Kind → Type 0
KindIs n o = MatchOption o (kinds.less < n) (λ k. kind_number k ≡ n)

-- the same, of a number that is turned into a kind
abbrev pub NamesKind : ℕ → Result Kind UnknownKind → Type 0
NamesKind n r = MatchResult r (λ k. kind_number k ≡ n) (λ e. (e.0 ≡ n) × (kinds.less < n))
