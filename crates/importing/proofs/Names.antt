-- Names in an array: those that stand before place n are the names over a record under n binders.
use Rattle.std.proofs.Common.{◌≡◌, refl, sym, ap, ap₂, ◌∙◌, Bool, true, false, cond, List, [], ◌∷◌, ℕ, zero, suc, ◌+◌}
use Rattle.std.proofs.Common.{◌-◌, ◌≤◌, ◌<◌, arith, nat_eq, length, get_or, set, eq-eqb, ne_eqb}
use Rattle.std.proofs.lemmas.List.{get_or-set_same, get_or-set_other}
use Rattle.rules.specs.Answer.{Bytes}
use Rattle.rules.specs.Names.{nearest}
use Rattle.records.specs.Binders.{binds}
use Rattle.importing.specs.Fields.{name_over}
use Rattle.importing.specs.Scope.{scope}
use Rattle.importing.proofs.NamesOver.{inner}

pub scope_length : (names : List ℕ) (n : ℕ) → length (scope names n) ≡ n
unfolding scope
scope_length names zero = refl
scope_length names (suc n) = ap suc (scope_length names n)

-- the names before a place that is written stay
pub scope_set : (names : List ℕ) (n m v : ℕ) → m ≤ n → scope (set names n v) m ≡ scope names m
unfolding scope
scope_set names n zero v l = refl
scope_set names n (suc m) v l = ap₂ ◌∷◌ (get_or-set_other names n m v 0 (λ e. omega arith)) (scope_set names n m v (omega arith))

-- with the one that is written there
pub scope_more : (names : List ℕ) (n v : ℕ) → n < length names → scope (set names n v) (suc n) ≡ v ∷ scope names n
unfolding scope
scope_more names n v l = ap₂ ◌∷◌ (get_or-set_same names n v 0 l) (scope_set names n n v (omega arith))

-- The search from the last name on: k of n names are passed, and none of them is x.
pub record Sought (names : List ℕ) (n x k : ℕ) : Type 0 where
  pub within : k ≤ n
  pub so_far : nearest x (scope names n) ≡ k + nearest x (scope names (n - k))

module _ (names : List ℕ) (n x k : ℕ) where
  last : k < n → scope names (n - k) ≡ get_or names (n - 1 - k) 0 ∷ scope names (n - (k + 1))
  unfolding scope
  last l =
      let p : n - k ≡ suc (n - 1 - k) = omega arith in
      let q : n - 1 - k ≡ n - (k + 1) = omega arith in
      ap (scope names) p ∙ ap (λ m. get_or names (n - 1 - k) 0 ∷ scope names m) q

  pub sought_more : k < n → (get_or names (n - 1 - k) 0 ≡ x → ⊥) → Sought names n x k → Sought names n x (k + 1)
  unfolding nearest
  sought_more l ne h =
      let d : nearest x (scope names (n - k)) ≡ suc (nearest x (scope names (n - (k + 1)))) =
      ap (nearest x) (last l) ∙ rw (ne_eqb x (get_or names (n - 1 - k) 0) (λ e. ne (sym e))) refl in
      record { within = omega arith; so_far = omega (arith, h.so_far, d) }

  pub sought_found : k < n → get_or names (n - 1 - k) 0 ≡ x → Sought names n x k → k ≡ nearest x (scope names n)
  unfolding nearest
  sought_found l e h =
      let d : nearest x (scope names (n - k)) ≡ 0 = ap (nearest x) (last l) ∙ rw (eq-eqb x (get_or names (n - 1 - k) 0) (sym e)) refl in
      omega (arith, h.so_far, d)

pub sought_all : (names : List ℕ) (n x k : ℕ) → n ≤ k → Sought names n x k → n ≡ nearest x (scope names n)
unfolding nearest scope
sought_all names n x k l h =
    let z : n - k ≡ 0 = omega arith in
    let d : nearest x (scope names (n - k)) ≡ 0 = ap (λ m. nearest x (scope names m)) z in
    omega (arith, h.so_far, d, h.within)

pub at_most_one : (kind j : ℕ) → binds kind j ≤ 1
unfolding binds
at_most_one kind zero = go _
  where
    go : (b : Bool) → cond b 1 0 ≤ 1
    go true = omega arith
    go false = omega arith
at_most_one kind (suc j) = go _
  where
    go : (b : Bool) → cond b 1 0 ≤ 1
    go true = omega arith
    go false = omega arith

-- What an operand is under, where its name stands at place n, is what the calculus puts over it.
pub scope_inner : (o : Bytes) (i kind j : ℕ) (names : List ℕ) (n : ℕ) → n < length names
    → scope (set names n (name_over o i j)) (n + binds kind j) ≡ inner o i kind j (scope names n)
scope_inner o i kind j names n l = go (binds kind j) refl (at_most_one kind j)
  where
    v : ℕ
    v = name_over o i j

    go : (b : ℕ) → binds kind j ≡ b → b ≤ 1 → scope (set names n v) (n + binds kind j) ≡ cond (nat_eq (binds kind j) 1) (v ∷ scope names n) (scope names n)
    go zero p m = let z : n + 0 ≡ n = omega arith in rw p (ap (scope (set names n v)) z ∙ scope_set names n n v (omega arith))
    go (suc zero) p m = let z : n + 1 ≡ suc n = omega arith in rw p (ap (scope (set names n v)) z ∙ scope_more names n v l)
    go (suc (suc b)) p m = absurd (omega arith)
