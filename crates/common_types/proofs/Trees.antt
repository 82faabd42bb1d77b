-- The common type as a walk finds it: the kinds, the first records, the left sides, the right sides. Once for both
-- directions.
use Rattle.std.proofs.Common.{◌≡◌, ◌+◌, Bool, false, ◌++◌, ap, sym, arith}
use Rattle.std.proofs.Math.Option.{Option, none, some, none-ne-some}
use Rattle.calculus.specs.Security.{Property, Security}
use Rattle.calculus.specs.Types.{sum, product, function, Ty, leaf, node, top, size_t, same_leaf, equal_formers, when, ◌>>=◌}
use Rattle.calculus.specs.Subtyping.{Direction, leftward}
use Rattle.calculus.specs.Common.{nearest_property, nearest_type}
use Rattle.calculus.proofs.Answers.{bind_some, when_some}
use Rattle.rules.specs.Types.{type_record, encode_type, sides}
use Rattle.types.specs.Held.{kind_of_type, left_of, right_of}
use Rattle.subtyping.proofs.Order.{turned}

-- a type with another first property and other sides
abbrev pub remade : Ty → Property → Ty → Ty → Ty
remade (leaf c k) l a b = leaf c l
remade (node f k s t) l a b = node f l a b

pub remade_size : (s : Ty) (l : Property) (a b : Ty) → sides (kind_of_type s) ≡ 2 → size_t (remade s l a b) ≡ 1 + (size_t a + size_t b)
unfolding size_t
remade_size s l a b two = grind arith

pub remade_records : (s : Ty) (l : Property) (a b : Ty) → sides (kind_of_type s) ≡ 2
    → encode_type (remade s l a b) ≡ type_record (kind_of_type s) l ++ (encode_type a ++ encode_type b)
unfolding encode_type
remade_records s l a b two = grind arith

-- without sides its own record is all of it
pub remade_leaf : (s : Ty) (l : Property) (a b : Ty) → (sides (kind_of_type s) ≡ 2 → ⊥)
    → (1 ≡ size_t (remade s l a b)) × (type_record (kind_of_type s) l ≡ encode_type (remade s l a b))
unfolding size_t encode_type
remade_leaf s l a b n = grind arith

-- the common types of both sides under the common first record
abbrev pub with_sides : Ty → Property → Option Ty → Option Ty → Option Ty
with_sides s k l r = ◌>>=◌ l (λ a. ◌>>=◌ r (λ b. some (remade s k a b)))

module _ (S : Security) (d : Direction) where
  pub kinds_apart : (s t : Ty) → (kind_of_type s ≡ kind_of_type t → ⊥) → nearest_type S d s t ≡ none
  unfolding nearest_type
  kinds_apart s t n = grind arith

  pub of_leaves : (s t : Ty) → (sides (kind_of_type s) ≡ 2 → ⊥) → kind_of_type s ≡ kind_of_type t → nearest_type S d s t ≡ some (remade s (nearest_property S d (top s) (top t)) s t)
  unfolding nearest_type
  of_leaves s t n e = grind arith

  pub of_sides : (s t : Ty) → sides (kind_of_type s) ≡ 2 → kind_of_type s ≡ kind_of_type t
      → nearest_type S d s t
      ≡ with_sides s (nearest_property S d (top s) (top t)) (nearest_type S (turned s d) (left_of s) (left_of t)) (nearest_type S d (right_of s) (right_of t))
  unfolding nearest_type
  of_sides s t two e = grind arith

-- types that have a common one have as many records as it
pub common_size : (S : Security) (d : Direction) (s t : Ty) {u : Ty} → nearest_type S d s t ≡ some u → (size_t u ≡ size_t s) × (size_t u ≡ size_t t)
unfolding nearest_type size_t
common_size S d (leaf b k) (leaf c l) e = when_some (same_leaf b c) _ e λ x e1. let h = ap size_t e1 in (sym h, sym h)
common_size S d (leaf b k) (node g l t t') {u} e = absurd (none-ne-some u e)
common_size S d (node f k s s') (leaf c l) {u} e = absurd (none-ne-some u e)
common_size S d (node f k s s') (node g l t t') e =
    bind_some (nearest_type S (leftward f d) s t) _ e λ a p e1.
    bind_some (nearest_type S d s' t') _ e1 λ b q e2.
    when_some (equal_formers f g) _ e2 λ x e3.
    let h = ap size_t e3 in
    let i = common_size S (leftward f d) s t p in
    let j = common_size S d s' t' q in
    (omega (arith, h, i.0, j.0), omega (arith, h, i.1, j.1))
