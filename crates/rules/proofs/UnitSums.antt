-- What question 16 asks of less than, in the words of the tree: the named type is a sum of two units.
use Rattle.std.proofs.Common.{◌≡◌, refl, ap, ap₂, sym, ◌∙◌, true, ℕ, suc, ◌+◌, ◌<◌, arith, eqb-true}
use Rattle.std.proofs.Math.Bool.{and-eq-true_iff}
use Rattle.calculus.specs.Security.{Property}
use Rattle.calculus.specs.Types.{one, number, sum, product, function, Ty, leaf, node, size_t}
use Rattle.rules.specs.Answer.{Bytes, byte}
use Rattle.rules.specs.Types.{type_count, type_kind, type_at}
use Rattle.rules.specs.Script.{sum_of_units}
use Rattle.rules.proofs.PrefixLaws.{size_positive}
use Rattle.rules.proofs.TypeCode.{type_code, type_head}
use Rattle.rules.proofs.TypePlaces.{kind_at, left_side, right_side, of_kind}
use Rattle.rules.proofs.TypeTables.{Passes, standing}

-- a unit by its kind
unit_of : (e : Ty) → byte (type_head e) 0 ≡ 0 → (k : Property) × (e ≡ leaf one k)
unit_of (leaf one k) h = (k, refl)
unit_of (node sum k s t) h = absurd (omega arith)
unit_of _ h = absurd (omega arith)

pub record UnitSum (e : Ty) : Type 0 where
  pub own : Property
  pub left : Property
  pub right : Property
  pub is : e ≡ node sum own (leaf one left) (leaf one right)

module _ (t : Bytes) (P : Passes t) where
  -- a side that stands at record j and is of kind 0
  unit_at : (j n : ℕ) (e : Ty) → j ≡ n → type_at t n ≡ e → n < type_count t → type_kind t j ≡ 0 → (k : Property) × (e ≡ leaf one k)
  unit_at j n e z p l h =
      unit_of e (ap (λ x. byte (type_head x) 0) (sym p) ∙ sym (kind_at t n (standing t P n l)) ∙ ap (type_kind t) (sym z) ∙ h)

  node_size : {e s u : Ty} {k : Property} → e ≡ node sum k s u → size_t e ≡ 1 + (size_t s + size_t u)
  unfolding size_t
  node_size p = ap size_t p

  leaf_size : {e : Ty} {k : Property} → e ≡ leaf one k → size_t e ≡ 1
  unfolding size_t
  leaf_size p = ap size_t p

  -- its left side at the next record, and its right side after that
  of_sides : (i : ℕ) → i < type_count t → (k : Property) (s u : Ty) → type_at t i ≡ node sum k s u → type_kind t (i + 1) ≡ 0
      → type_kind t (i + 2) ≡ 0 → UnitSum (type_at t i)
  of_sides i l k s u p h g =
      let st = standing t P i l in
      let n : suc i < type_count t = omega (arith, st.inside, node_size p, size_positive type_code s, size_positive type_code u) in
      left_is (unit_at (i + 1) (suc i) s (omega arith) (left_side t i st sum k s u p) n h)
    where
      both_are : {a b : Property} → s ≡ leaf one a → u ≡ leaf one b → UnitSum (type_at t i)
      both_are {a} {b} x y = record { own = k; left = a; right = b; is = p ∙ ap₂ (λ (c d : Ty). node sum k c d) x y }

      left_is : (a : Property) × (s ≡ leaf one a) → UnitSum (type_at t i)
      left_is x =
          let st = standing t P i l in
          let z = leaf_size x.1 in
          let n : suc i + size_t s < type_count t = omega (arith, st.inside, node_size p, size_positive type_code u) in
          both_are x.1 (unit_at (i + 2) (suc i + size_t s) u (omega arith) (right_side t i st sum k s u p) n g).1

  pub unit_sum : (i : ℕ) → i < type_count t → sum_of_units t i ≡ true → UnitSum (type_at t i)
  unit_sum i l h =
      let a = (and-eq-true_iff _ _).0 h in
      let b = (and-eq-true_iff _ _).0 a.1 in
      let p = of_kind sum (type_at t i) (sym (kind_at t i (standing t P i l)) ∙ eqb-true (type_kind t i) 1 a.0) in
      of_sides i l p.0.own p.0.lhs p.0.rhs p.1 (eqb-true (type_kind t (i + 1)) 0 b.0) (eqb-true (type_kind t (i + 2)) 0 b.1)
