-- The first byte of a type is its kind, and every type has one.
use Rattle.std.proofs.Common.{◌≤◌, ℕ, Option, Some, None, IsSome, refl, subst, ◌∙◌, arith}
use Rattle.calculus.specs.Types.{one, number, Ty, leaf, node, sum, product, function}
use Rattle.rules.specs.Types.{type_kind}
use Rattle.types.specs.Held.{kind_of_type}
use Rattle.types.specs.Kinds.{TypeKindIs}
use Rattle.types.specs.declared.Kind.{Kind}
use Rattle.types.proofs.Parts.{starts_long, kind_is}
use Rattle.types.proofs.kind_of.Goals as goal

known : (t : Ty) → kind_of_type t ≤ 4
known (leaf one k) = omega arith
known (node sum k s t) = omega arith
known _ = omega arith

-- a number that some kind has
named : (n : ℕ) (o : Option Kind) → n ≤ 4 → TypeKindIs n o → IsSome o
named n None l h = absurd (omega arith)
named n (Some k) l h = refl

pub kind_at-requires : goal.kind_at-requires
kind_at-requires c = omega (arith, starts_long c.requires)

pub unwrap-requires : goal.unwrap-requires
unwrap-requires c =
    named _ _ (omega (arith, kind_is c.requires.type c.requires.held, known c.requires.type)) c.kind_at.ensures

pub returns : goal.returns
returns c t h =
    let P : Option Kind → Type 0 = TypeKindIs (type_kind c.args.part.now 0) in subst P c.unwrap.ensures c.kind_at.ensures ∙ kind_is t h
