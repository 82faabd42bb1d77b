-- Kinds are told apart by their numbers.
use Rattle.std.proofs.Common.{◌≡◌, refl, arith, ℕ, nat_eq, rules}
use Rattle.std.proofs.lemmas.Bool.Decides.{nat_tests}
use Rattle.types.specs.Kinds.{type_kind_number}
use Rattle.types.specs.declared.Kind.{Kind}
use Rattle.types.specs.contracts.Kind.{the_type}
use denote.Enum.Bare.{sameb}
use Rattle.types.specs.declared.Kind.TheVariants.{Unit, Sum, Pair, Function, Number}

pub same_kind : (k l : Kind) → type_kind_number k ≡ type_kind_number l → k ≡ l
same_kind Unit Unit e = refl
same_kind Sum Sum e = refl
same_kind Pair Pair e = refl
same_kind Function Function e = refl
same_kind Number Number e = refl
same_kind k l e = absurd (omega arith)

-- the derived test of equality
pub tests_numbers : (k l : Kind) → sameb the_type k l ≡ nat_eq (type_kind_number k) (type_kind_number l)
tests_numbers k l = search rules

-- Two numbers may be compared either way round.
pub eqb_comm : (m n : ℕ) → nat_eq m n ≡ nat_eq n m
eqb_comm m n = grind (arith, nat_tests)
