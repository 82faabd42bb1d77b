-- The first byte of a record, as the name of a kind or of none.
use Rattle.std.proofs.Common.{◌≡◌, ℕ, ◌≤◌, nat_le, Option, Some, None, is_some, sym, arith, le-leb}
use borrow.Author.Tests.{lt-leb}
use Rattle.types.specs.declared.Kind.{Kind}
use Rattle.types.specs.declared.Kind.TheVariants.{Unit, Sum, Pair, Function, Number}
use Rattle.types.specs.Kinds.{type_kind_number, TypeKindIs}

small : (k : Kind) → type_kind_number k ≤ 4
small Unit = omega arith
small Sum = omega arith
small Pair = omega arith
small Function = omega arith
small Number = omega arith

pub named : (n : ℕ) (o : Option Kind) → TypeKindIs n o → is_some o ≡ nat_le n 4
named n None l = sym (lt-leb n 4 l)
named n (Some k) e = sym (le-leb n 4 (omega (arith, small k)))
