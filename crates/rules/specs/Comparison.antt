-- The comparison of two types: same, below or neither (manual, 3.5).
use Rattle.std.specs.Prelude.{Bool, false, if◌then◌else◌, ◌&&◌, ℕ, nat_eq}
use Rattle.calculus.specs.Security.{Property, Security}
use Rattle.calculus.specs.Types.{Ty, leaf, node}
use Rattle.calculus.specs.Types as formers
use Rattle.calculus.specs.Subtyping.{subtype}
use Rattle.calculus.specs.Subtyping as directions

-- what a comparison answers
pub data Comparison : Type 0 where
  same strictly_below neither : Comparison

-- r, ir, c and ic: with the kind they are all that a record says
abbrev pub equal_properties : Property → Property → Bool
equal_properties k l = nat_eq k.r l.r && (nat_eq k.ir l.ir && (nat_eq k.c l.c && nat_eq k.ic l.ic))

-- Same is to be equal in every record.
unfoldable pub equal_types : Ty → Ty → Bool
equal_types (leaf b k) (leaf b' l) = formers.same_leaf b b' && equal_properties k l
equal_types (leaf b k) (node f l s t) = false
equal_types (node f k s t) (leaf b l) = false
equal_types (node f k s t) (node f' l s' t') = formers.equal_formers f f' && (equal_properties k l && (equal_types s s' && equal_types t t'))

-- Below is at or below and not the same; a type that is above is neither.
abbrev pub comparison : Security → Ty → Ty → Comparison
comparison S s t = if subtype S directions.below s t then (if equal_types s t then same else strictly_below) else neither

-- the answer's number, which rises from neither to same
abbrev pub comparison_number : Comparison → ℕ
comparison_number neither = 0
comparison_number strictly_below = 1
comparison_number same = 2
