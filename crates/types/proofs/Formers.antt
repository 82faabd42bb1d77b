-- Formers and leaves are told apart by the numbers of their kinds.
use Rattle.std.proofs.Common.{◌≡◌, refl, arith, nat_eq}
use Rattle.calculus.specs.Types.{Leaf, one, number, same_leaf, Former, sum, product, function, equal_formers}
use Rattle.rules.specs.Types.{leaf_kind, former_kind}

pub former_not_leaf : (f : Former) (b : Leaf) → former_kind f ≡ leaf_kind b → ⊥
former_not_leaf sum one e = omega arith
former_not_leaf sum number e = omega arith
former_not_leaf product one e = omega arith
former_not_leaf product number e = omega arith
former_not_leaf function one e = omega arith
former_not_leaf function number e = omega arith

pub same_leaves : (b c : Leaf) → same_leaf b c ≡ nat_eq (leaf_kind b) (leaf_kind c)
same_leaves one one = refl
same_leaves one number = refl
same_leaves number one = refl
same_leaves number number = refl

pub same_former : (f g : Former) → equal_formers f g ≡ nat_eq (former_kind f) (former_kind g)
same_former sum sum = refl
same_former sum product = refl
same_former sum function = refl
same_former product sum = refl
same_former product product = refl
same_former product function = refl
same_former function sum = refl
same_former function product = refl
same_former function function = refl
