-- The lowest common type of two types, and the highest (manual, 3.6).
use Rattle.std.specs.Prelude.{Bool, false, ◌&&◌}
use Rattle.std.proofs.Math.Option.{Option, none}
use Rattle.calculus.specs.Security.{Property, Security}
use Rattle.calculus.specs.Types.{Ty, leaf, node, same_leaf, equal_formers, when, ◌>>=◌}
use Rattle.calculus.specs.Subtyping.{Direction, below, above, leftward}

-- the nearest property that both are below, or that both are above
abbrev pub nearest_property : Security → Direction → Property → Property → Property
nearest_property S below k l = S.join k l
nearest_property S above k l = S.meet k l

-- the nearest type that both are below, or that both are above; a function's left sides turn it round
unfoldable pub nearest_type : Security → Direction → Ty → Ty → Option Ty
nearest_type S d (leaf b k) (leaf b' l) = when (same_leaf b b') (leaf b (nearest_property S d k l))
nearest_type S d (leaf b k) (node f l s t) = none
nearest_type S d (node f k s t) (leaf b l) = none
nearest_type S d (node f k s t) (node f' l s' t') = do
  a ← nearest_type S (leftward f d) s s'
  b ← nearest_type S d t t'
  when (equal_formers f f') (node f (nearest_property S d k l) a b)

-- the same kinds in the same order
unfoldable pub same_shape : Ty → Ty → Bool
same_shape (leaf b k) (leaf b' l) = same_leaf b b'
same_shape (leaf b k) (node f l s t) = false
same_shape (node f k s t) (leaf b l) = false
same_shape (node f k s t) (node f' l s' t') = same_shape s s' && (same_shape t t' && equal_formers f f')
