-- Substitution, records and depth of a node by its operands, whatever its kind.
use Rattle.std.proofs.Common.{◌≡◌, refl, ap, ap₂, ◌∙◌, Bool, true, false, cond, List, [], ◌∷◌, ◌++◌, ℕ, suc, ◌+◌, ◌*◌}
use Rattle.std.proofs.Common.{◌≤◌, max, arith, add-one, add-zero, nat_eq, length}
use Rattle.calculus.specs.Terms.{first, second, plus, less, Term, var, unit, lam, pair, inj, app, proj, case, protect}
use Rattle.calculus.specs.Terms.{mu, literal, reckon, substitute}
use Rattle.rules.specs.Script.{encode, size, depth}
use Rattle.rules.proofs.Prefix.{All, joined, total}
use Rattle.rules.proofs.Parts.{all_of, total_append}
use Rattle.rules.proofs.TermCode.{term_operands, term_head, term_induction, term_size_is, term_encode_is}
use Rattle.records.specs.Kinds as kinds
use Rattle.records.proofs.Stands.{kind_of}
use Rattle.records.proofs.Weights.{weights}
use Rattle.records.specs.Binders.{binds}
use Rattle.records.proofs.WeightOf.{weight_of}
use Rattle.substitution.specs.Substituted.{value_limit}

abbrev pub greatest : {T : Type 0} → (T → ℕ) → List T → ℕ
greatest f [] = 0
greatest f (e ∷ es) = max (f e) (greatest f es)

pub greatest_append : {T : Type 0} (f : T → ℕ) (xs ys : List T) → greatest f (xs ++ ys) ≡ max (greatest f xs) (greatest f ys)
greatest_append f [] ys = omega arith
greatest_append f (x ∷ xs) ys = omega (arith, greatest_append f xs ys)

pub term_depth_is : (e : Term) → depth e ≡ weight_of e + greatest depth (term_operands e)
unfolding depth
term_depth_is (var n) = refl
term_depth_is (unit k) = refl
term_depth_is (literal k n) = refl
term_depth_is _ = omega arith

-- a variable, or a node of another kind
pub data View : Term → Type 0 where
  variable : (m : ℕ) → View (var m)
  node : {e : Term} → (kind_of e ≡ kinds.variable → ⊥) → View e

positive : (k : ℕ) → suc k ≡ 0 → ⊥
positive k h = omega arith

pub view : (e : Term) → View e
view (var m) = variable m
view (unit k) = node (positive 0)
view (lam k i e) = node (positive 1)
view (pair k a b) = node (positive 2)
view (inj first k i e) = node (positive 3)
view (inj second k i e) = node (positive 4)
view (app w f a) = node (positive 5)
view (proj first w e) = node (positive 6)
view (proj second w e) = node (positive 7)
view (case w i e a b) = node (positive 8)
view (protect m e) = node (positive 9)
view (mu w i e) = node (positive 10)
view (literal k n) = node (positive 11)
view (reckon plus w a b) = node (positive 12)
view (reckon (less i) w a b) = node (positive 13)

-- operands from the j-th on of a node of kind k, with v for the node's variable n
abbrev pub under : ℕ → ℕ → Term → ℕ → List Term → List Term
under k n v j [] = []
under k n v j (e ∷ es) = substitute (n + binds k j) v e ∷ under k n v (suc j) es

pub under_append : (k n : ℕ) (v : Term) (j : ℕ) (xs ys : List Term) → under k n v j (xs ++ ys) ≡ under k n v j xs ++ under k n v (j + length xs) ys
under_append k n v j [] ys = let z : j + 0 ≡ j = omega arith in rw z
under_append k n v j (x ∷ xs) ys =
    let z : suc j + length xs ≡ j + suc (length xs) = omega arith in
    ap (λ es. substitute (n + binds k j) v x ∷ es) (under_append k n v (suc j) xs ys ∙ rw z)

-- Substitution keeps a node's record and goes to its operands.
pub record Node (n : ℕ) (v e : Term) : Type 0 where
  pub head : term_head (substitute n v e) ≡ term_head e
  pub weight : weight_of (substitute n v e) ≡ weight_of e
  pub operands : term_operands (substitute n v e) ≡ under (kind_of e) n v 0 (term_operands e)

pub subst_node : (n : ℕ) (v e : Term) → (kind_of e ≡ kinds.variable → ⊥) → Node n v e
unfolding substitute binds
subst_node n v (var m) h = absurd (h refl)
subst_node n v (unit k) h = record { head = refl; weight = refl; operands = refl }
subst_node n v (lam k i e) h = record { head = refl; weight = refl; operands = rw (add-one n) }
subst_node n v (inj first k i e) h = record { head = refl; weight = refl; operands = rw (add-zero n) }
subst_node n v (proj first w e) h = record { head = refl; weight = refl; operands = rw (add-zero n) }
subst_node n v (case w i e a b) h = record { head = refl; weight = refl; operands = rw (add-zero n, add-one n) }
subst_node n v (mu w i e) h = record { head = refl; weight = refl; operands = rw (add-one n) }
subst_node n v (literal k m) h = record { head = refl; weight = refl; operands = refl }
subst_node n v (reckon plus w a b) h = record { head = refl; weight = refl; operands = rw (add-zero n) }
subst_node n v _ h = record { head = refl; weight = refl; operands = rw (add-zero n) }

pub subst_var : (n : ℕ) (v : Term) (m : ℕ) → substitute n v (var m) ≡ cond (nat_eq m n) v (var m)
unfolding substitute
subst_var n v m = refl

module _ (n : ℕ) (v e : Term) (h : kind_of e ≡ kinds.variable → ⊥) where
  pub subst_size : size (substitute n v e) ≡ suc (total size (under (kind_of e) n v 0 (term_operands e)))
  subst_size = term_size_is (substitute n v e) ∙ ap (λ es. suc (total size es)) (subst_node n v e h).operands

  pub subst_depth : depth (substitute n v e) ≡ weight_of e + greatest depth (under (kind_of e) n v 0 (term_operands e))
  subst_depth = term_depth_is (substitute n v e) ∙ ap₂ (λ m es. m + greatest depth es) (subst_node n v e h).weight (subst_node n v e h).operands

  pub subst_encode : encode (substitute n v e) ≡ term_head e ++ joined encode (under (kind_of e) n v 0 (term_operands e))
  subst_encode =
      term_encode_is (substitute n v e) ∙ ap (λ b. b ++ joined encode (term_operands (substitute n v e))) (subst_node n v e h).head
      ∙ ap (λ es. term_head e ++ joined encode es) (subst_node n v e h).operands

-- an operand's part of its node
pub operand_size : (e : Term) (before : List Term) (d : Term) (after : List Term) → term_operands e ≡ before ++ d ∷ after
    → suc (total size before + size d) ≤ size e
operand_size e before d after s = omega (arith, term_size_is e, ap (total size) s, total_append size before (d ∷ after))

pub operand_depth : (e : Term) (before : List Term) (d : Term) (after : List Term) → term_operands e ≡ before ++ d ∷ after → suc (depth d) ≤ depth e
operand_depth e before d after s = omega (arith, term_depth_is e, (weights e).0, ap (greatest depth) s, greatest_append depth before (d ∷ after))

-- no term is deeper than twice its records: a case that finds its own type weighs two
greatest_total : (es : List Term) → All (λ e. depth e ≤ 2 * size e) es → greatest depth es ≤ 2 * total size es
greatest_total [] h = omega arith
greatest_total (e ∷ es) h = omega (arith, h.0, greatest_total es h.1)

pub depth_size : (e : Term) → depth e ≤ 2 * size e
depth_size = term_induction (λ e. depth e ≤ 2 * size e) λ e h. omega (arith, term_depth_is e, (weights e).1, term_size_is e, greatest_total (term_operands e) h)

pub greatest_records : (es : List Term) → greatest depth es ≤ 2 * total size es
greatest_records es = greatest_total es (all_of _ depth_size es)

-- A value puts at most its own records in the place of each record.
module _ (v : Term) (small : size v ≤ value_limit) where
  Bound : Term → Type 0
  Bound e = (n : ℕ) → size (substitute n v e) ≤ value_limit * size e

  bound_under : (es : List Term) → All Bound es → (k n j : ℕ) → total size (under k n v j es) ≤ value_limit * total size es
  unfolding Bound
  bound_under [] h k n j = omega arith
  bound_under (e ∷ es) h k n j = omega (arith, h.0 (n + binds k j), bound_under es h.1 k n (suc j))

  bound_var : (b : Bool) (m : ℕ) → size (cond b v (var m)) ≤ value_limit * size (var m)
  unfolding size
  bound_var true m = small
  bound_var false m = omega arith

  bound_view : (e : Term) → View e → All Bound (term_operands e) → (n : ℕ) → size (substitute n v e) ≤ value_limit * size e
  bound_view e (variable m) h n = rw (subst_var n v m) (bound_var (nat_eq m n) m)
  bound_view e (node k) h n =
      omega (arith, subst_size n v e k, term_size_is e, bound_under (term_operands e) h (kind_of e) n 0)

  pub subst_bound : (e : Term) (n : ℕ) → size (substitute n v e) ≤ value_limit * size e
  unfolding Bound
  subst_bound = term_induction Bound λ e h. bound_view e (view e) h

  pub under_bound : (es : List Term) (k n j : ℕ) → total size (under k n v j es) ≤ value_limit * total size es
  unfolding Bound
  under_bound es = bound_under es (all_of Bound subst_bound es)

-- A value of one record changes neither the records nor the depth.
module _ (v : Term) (one : size v ≡ 1) (low : depth v ≡ 1) where
  Same : Term → Type 0
  Same e = (n : ℕ) → (size (substitute n v e) ≡ size e) × (depth (substitute n v e) ≡ depth e)

  same_under : (es : List Term) → All Same es → (k n j : ℕ)
      → (total size (under k n v j es) ≡ total size es) × (greatest depth (under k n v j es) ≡ greatest depth es)
  unfolding Same
  same_under [] h k n j = (refl, refl)
  same_under (e ∷ es) h k n j =
      let a = h.0 (n + binds k j) in
      let b = same_under es h.1 k n (suc j) in
      (omega (arith, a.0, b.0), rw (a.1, b.1))

  same_var : (b : Bool) (m : ℕ) → (size (cond b v (var m)) ≡ size (var m)) × (depth (cond b v (var m)) ≡ depth (var m))
  unfolding size depth
  same_var true m = (one, low)
  same_var false m = (refl, refl)

  same_view : (e : Term) → View e → All Same (term_operands e) → (n : ℕ) → (size (substitute n v e) ≡ size e) × (depth (substitute n v e) ≡ depth e)
  same_view e (variable m) h n = rw (subst_var n v m) (same_var (nat_eq m n) m)
  same_view e (node k) h n =
      let a = same_under (term_operands e) h (kind_of e) n 0 in
      (omega (arith, subst_size n v e k, term_size_is e, a.0), omega (arith, subst_depth n v e k, term_depth_is e, a.1))

  pub subst_same : (e : Term) (n : ℕ) → (size (substitute n v e) ≡ size e) × (depth (substitute n v e) ≡ depth e)
  unfolding Same
  subst_same = term_induction Same λ e h. same_view e (view e) h
