-- Kinds are told apart by their numbers.
use Rattle.std.proofs.Common.{◌≡◌, refl, arith, nat_eq, rules}
use Rattle.records.specs.Numbers.{kind_number}
use Rattle.records.specs.declared.Kind.{Kind}
use Rattle.records.specs.contracts.Kind.{the_type}
use denote.Enum.Bare.{sameb}
use Rattle.records.specs.declared.Kind.TheVariants.{Variable, Unit, Function, Pair, FirstInjection, SecondInjection}
use Rattle.records.specs.declared.Kind.TheVariants.{Application, FirstProjection, SecondProjection, Case, Protect}
use Rattle.records.specs.declared.Kind.TheVariants.{Recursion, Literal, Sum, Less}

pub same_kind : (k l : Kind) → kind_number k ≡ kind_number l → k ≡ l
same_kind Variable Variable e = refl
same_kind Unit Unit e = refl
same_kind Function Function e = refl
same_kind Pair Pair e = refl
same_kind FirstInjection FirstInjection e = refl
same_kind SecondInjection SecondInjection e = refl
same_kind Application Application e = refl
same_kind FirstProjection FirstProjection e = refl
same_kind SecondProjection SecondProjection e = refl
same_kind Case Case e = refl
same_kind Protect Protect e = refl
same_kind Recursion Recursion e = refl
same_kind Literal Literal e = refl
same_kind Sum Sum e = refl
same_kind Less Less e = refl
same_kind k l e = absurd (omega arith)

-- the derived test of equality
pub tests_numbers : (k l : Kind) → sameb the_type k l ≡ nat_eq (kind_number k) (kind_number l)
tests_numbers k l = search rules
