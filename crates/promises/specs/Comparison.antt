-- What the comparison of two types promises (manual, 3.5 and 11).
use Rattle.std.specs.Prelude.{◌≡◌, if◌then◌else◌, ◌↔◌, ℕ, ◌<◌, min}
use Rattle.calculus.specs.Security.{Property, Security}
use Rattle.calculus.specs.Types.{Leaf, one, Former, sum, product, function, Ty, leaf, node}
use Rattle.calculus.specs.Subtyping.{Subtype}
use Rattle.rules.specs.Answer.{Bytes, Octets, accepted}
use Rattle.rules.specs.Groups.{properties_of}
use Rattle.rules.specs.Types.{type_count, type_at, encode_type}
use Rattle.rules.specs.Comparison.{Comparison, same, strictly_below, neither, equal_properties, comparison}
use Rattle.rules.specs.Comparison.{comparison_number}
use Rattle.rules.specs.Typing.{q22}
use Rattle.rules.specs.Calls.{types_check, compare_call}

-- Two types of a table, in the words of the call.
pub record Compares (g t : Bytes) (i j : ℕ) : Type 0 where
  -- the call answers
  pub answers : (c : Comparison) × (compare_call g t i j ≡ accepted c)
  -- same exactly where their bytes are equal, wherever they stand
  pub same_when : (compare_call g t i j ≡ accepted same) ↔ (encode_type (type_at t i) ≡ encode_type (type_at t j))
  -- same and below together are the subtyping relation
  pub related_when : (compare_call g t i j ≡ accepted neither → ⊥) ↔ Subtype (properties_of g) (type_at t i) (type_at t j)
  -- two types are related both ways only where they are the same
  pub both_ways : ((compare_call g t i j ≡ accepted neither → ⊥) × (compare_call g t j i ≡ accepted neither → ⊥)) ↔ (compare_call g t i j ≡ accepted same)

-- The parameters of functions are compared the other way round.
abbrev pub left_sides : Security → Former → Ty → Ty → Comparison
left_sides S sum s s' = comparison S s s'
left_sides S product s s' = comparison S s s'
left_sides S function s s' = comparison S s' s

-- The answer of two types from their first records and their sides, over any order of groups.
pub record Composes (S : Security) : Type 0 where
  -- types without sides are compared by their properties
  pub leaves : (b : Leaf) (k l : Property) → comparison S (leaf b k) (leaf b l) ≡ (if S.le k l then (if equal_properties k l then same else strictly_below) else neither)
  -- the least of three answers: of the first records alone, of the left sides and of the right sides
  pub sides : (f : Former) (k l : Property) (s s' t t' : Ty) → comparison_number (comparison S (node f k s t) (node f l s' t'))
      ≡ min (comparison_number (comparison S (leaf one k) (leaf one l))) (min (comparison_number (left_sides S f s s')) (comparison_number (comparison S t t')))
  -- different kinds
  pub other_leaves : (b b' : Leaf) (k l : Property) → (b ≡ b' → ⊥) → comparison S (leaf b k) (leaf b' l) ≡ neither
  pub leaf_other : (b : Leaf) (f : Former) (k l : Property) (s t : Ty) → comparison S (leaf b k) (node f l s t) ≡ neither
  pub other_leaf : (b : Leaf) (f : Former) (k l : Property) (s t : Ty) → comparison S (node f k s t) (leaf b l) ≡ neither
  pub others : (f f' : Former) (k l : Property) (s s' t t' : Ty) → (f ≡ f' → ⊥) → comparison S (node f k s t) (node f' l s' t') ≡ neither
  -- Question 22 takes same and below alike.
  pub alike : (place : ℕ) (s t : Ty) → (q22 S place s t ≡ accepted tt) ↔ (comparison S s t ≡ neither → ⊥)

-- of any two types of a table that passes, and of types over any order of groups
pub record Comparisons : Type 0 where
  -- the promises of the call over a table that passes
  pub of_table : (g t : Bytes) (i j : ℕ) → Octets g → types_check g t ≡ accepted tt → i < type_count t → j < type_count t → Compares g t i j
  pub of_types : (S : Security) → Composes S
