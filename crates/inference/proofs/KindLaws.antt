-- A type's kind is told by the number of its first record.
use Rattle.std.proofs.Common.{◌≡◌, refl, sym, nat_eq, ne_eqb, arith}
use Rattle.calculus.specs.Types.{one, number, Former, sum, product, function, Ty, leaf, node}
use Rattle.calculus.specs.Numbers.{is_unit}
use Rattle.rules.specs.Types.{leaf_kind, former_kind}
use Rattle.rules.specs.Typing.{has_form, is_number}
use Rattle.types.specs.Held.{kind_of_type}
use Rattle.types.specs.Kinds.{type_kind_number}
use Rattle.types.specs.declared.Kind.{Kind}
use Rattle.inference.specs.Kinds.{has_kind}

pub kind_is : (k : Kind) (t : Ty) → has_kind k t ≡ nat_eq (type_kind_number k) (kind_of_type t)
kind_is k t = grind arith
