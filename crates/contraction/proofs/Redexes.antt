-- A node whose turn it is and that goes is a left side of the reduction rules, and what its plan is by the kinds of its
-- records.
use Rattle.std.proofs.Common.{◌≡◌, refl, sym, subst, ◌∙◌, inr, Bool, true, false, ◌&&◌, ℕ, ◌+◌, ◌≤◌, arith, nat_eq}
use Rattle.std.proofs.Common.{eqb-true, IsTrue}
use Rattle.std.proofs.lemmas.Bool.{false≢true}
use Rattle.calculus.specs.Security.{Reader, Security}
use Rattle.calculus.specs.Types.{sum, product, function, Ty, exists}
use Rattle.calculus.specs.Terms.{Side, first, second, Operation, plus, less, Term, var, pair, app, proj, case, protect, mu, literal, reckon}
use Rattle.calculus.specs.Numbers.{literal_of}
use Rattle.calculus.proofs.Booleans.{and_left, and_right}
use Rattle.calculus.specs.Stuck.{built_by}
use Rattle.rules.specs.Answer.{Bytes}
use Rattle.rules.specs.Script.{size}
use Rattle.records.specs.Kinds as kinds
use Rattle.records.specs.Place.{At}
use Rattle.records.specs.Operands.{first_operand, second_operand}
use Rattle.records.proofs.Made.{form, by_kind}
use Rattle.records.proofs.Stands.{kind_of, operands, at_first, at_second, at_third}
use Rattle.redex.specs.Fates.{property_of, reduces, reading_fate, is_potential_redex, fate}
use Rattle.redex.specs.Found.{is_destructor, is_reckoning}
use Rattle.redex.proofs.Forms.{built_is, literal_is, one_reads}
use Rattle.contraction.specs.declared.Plan.TheVariants.{Part, Body, Raised, Unrolled, Reckoned}
use Rattle.contraction.specs.Plans.{Left, applies, projects, branches, lifts, unrolls, reckons, Planned, applied}
use Rattle.contraction.specs.Plans.{projected, branched, lifted, unrolled_one, reckoned_one}

fits_it : (fits may : Bool) → reading_fate fits may ≡ reduces → IsTrue fits
fits_it fits may h = grind arith

application : (w : Reader) (f v : Term) → IsTrue (built_by function f) → Left (app w f v)
application w f v h = by_kind (λ x. Left (app w x v)) kinds.function f (eqb-true _ _ (sym (built_is f).0 ∙ h)) applies

projection : (d : Side) (w : Reader) (e : Term) → IsTrue (built_by product e) → Left (proj d w e)
projection d w e h = by_kind (λ x. Left (proj d w x)) kinds.pair e (eqb-true _ _ (sym (built_is e).1 ∙ h)) (projects d)

choice : (w : Reader) (j : ℕ) (e a b : Term) → IsTrue (built_by sum e) → Left (case w j e a b)
choice w j e a b h = by (nat_eq (kind_of e) kinds.first_injection) refl
  where
    by : (x : Bool) → nat_eq (kind_of e) kinds.first_injection ≡ x → Left (case w j e a b)
    by true k = by_kind (λ x. Left (case w j x a b)) kinds.first_injection e (eqb-true _ _ k) (branches first)
    by false k = by_kind (λ x. Left (case w j x a b)) kinds.second_injection e (eqb-true _ _ (rw k at (sym (built_is e).2 ∙ h))) (branches second)

reckoning : (o : Operation) (w : Reader) (a b : Term) → IsTrue (exists (literal_of a) && exists (literal_of b)) → Left (reckon o w a b)
reckoning o w a b h =
    let left = eqb-true _ _ (sym (literal_is a) ∙ and_left _ _ h) in
    let right = eqb-true _ _ (sym (literal_is b) ∙ and_right (exists (literal_of a)) _ h) in
    by_kind (λ x. Left (reckon o w x b)) kinds.literal a left
    (by_kind (λ y. Left (reckon o w (form kinds.literal a) y)) kinds.literal b right (reckons o))

pub left_side : (S : Security) (tab : ℕ → Ty) (e : Term) → IsTrue (is_potential_redex e) → fate S tab e ≡ reduces → Left e
unfolding is_potential_redex fate
left_side S tab (var n) h g = let z : ◌≡◌ {A = ℕ} 0 1 = cc in absurd (omega arith)
left_side S tab (app w f a) h g = application w f a (fits_it (built_by function f) (S.permits (property_of f) w) g)
left_side S tab (proj d w e) h g = projection d w e (fits_it (built_by product e) (S.permits (property_of e) w) g)
left_side S tab (case w i e a b) h g = choice w i e a b (fits_it (built_by sum e) (S.permits (property_of e) w) g)
left_side S tab (protect m e) h g = lifts h
left_side S tab (mu w i e) h g = unrolls
left_side S tab (reckon o w a b) h g =
    reckoning o w a b (fits_it (exists (literal_of a) && exists (literal_of b)) (S.permits (property_of a) w && S.permits (property_of b) w) g)
left_side S tab _ h g = absurd (false≢true h)

-- what a destructor takes apart has an operand,
destructs : {e : Term} → Left e → IsTrue (is_destructor (kind_of e)) → (1 ≤ operands e) × (1 ≤ operands (first_operand e))
unfolding is_destructor
destructs n h = grind arith

-- which stands two records on
pub record Taken (s : Bytes) (at : ℕ) (e : Term) : Type 0 where
  pub first_at : At s (at + 1) (first_operand e)
  pub inner_at : At s (at + 2) (first_operand (first_operand e))

pub taken : {s : Bytes} {at : ℕ} {e : Term} → At s at e → Left e → IsTrue (is_destructor (kind_of e)) → Taken s at e
taken {s} {at} {e} a l h =
    let z : at + 1 + 1 ≡ at + 2 = omega arith in
    let x = at_first s at e a (destructs l h).0 in
    record {
      first_at = x;
      inner_at = subst (λ (j : ℕ). At s j (first_operand (first_operand e))) z (at_first s (at + 1) (first_operand e) x (destructs l h).1);
    }

module _ (s : Bytes) (at : ℕ) where
  pub plan_unrolled : {e : Term} → Left e → kind_of e ≡ kinds.recursion → Planned s e Unrolled
  plan_unrolled (projects first) h = absurd (omega arith)
  plan_unrolled unrolls h = unrolled_one
  plan_unrolled (reckons plus) h = absurd (omega arith)
  plan_unrolled _ h = absurd (omega arith)

  pub plan_raised : {e : Term} → Left e → kind_of e ≡ kinds.protect → Planned s e Raised
  plan_raised (projects first) h = absurd (omega arith)
  plan_raised (lifts v) h = lifted v
  plan_raised (reckons plus) h = absurd (omega arith)
  plan_raised _ h = absurd (omega arith)

  pub plan_reckoned : {e : Term} → Left e → IsTrue (is_reckoning (kind_of e)) → Planned s e Reckoned
  plan_reckoned (projects first) h = absurd (false≢true h)
  plan_reckoned (reckons o) h = reckoned_one
  plan_reckoned _ h = absurd (false≢true h)

  pub plan_first : {e : Term} → Left e → kind_of e ≡ kinds.first_projection → At s (at + 2) (first_operand (first_operand e)) → Planned s e (Part (at + 2))
  plan_first (projects first) h x = projected x
  plan_first (reckons plus) h x = absurd (omega arith)
  plan_first _ h x = absurd (omega arith)

  -- `next` is the record after the first inner operand
  pub plan_second : {e : Term} (next : ℕ) → Left e → kind_of e ≡ kinds.second_projection → At s (at + 1) (first_operand e) → next ≡ at + 2 + size (first_operand (first_operand e)) → Planned s e (Part next)
  plan_second next (projects second) h y p = projected (at_second s (at + 1) _ y next (omega arith) (omega arith))
  plan_second next (reckons plus) h y p = absurd (omega arith)
  plan_second next _ h y p = absurd (omega arith)

  pub plan_applied : {e : Term} (next : ℕ) → Left e → kind_of e ≡ kinds.application → At s at e → At s (at + 2) (first_operand (first_operand e)) → next ≡ at + 2 + size (first_operand (first_operand e))
      → Planned s e (Body (at + 2) next)
  unfolding size
  plan_applied next applies h a x p = applied x (at_second s at _ a next (omega arith) (omega arith))
  plan_applied next (projects first) h a x p = absurd (omega arith)
  plan_applied next (reckons plus) h a x p = absurd (omega arith)
  plan_applied next _ h a x p = absurd (omega arith)

  -- a case: its first branch stands at `next`
  pub record Cased (e : Term) (next : ℕ) : Type 0 where
    pub branch : At s next (second_operand e)
    pub to_first : kind_of (first_operand e) ≡ kinds.first_injection → Planned s e (Body next (at + 2))
    pub to_second : (kind_of (first_operand e) ≡ kinds.first_injection → ⊥) → (third : ℕ) → third ≡ next + size (second_operand e) → Planned s e (Body third (at + 2))

  pub cased : {e : Term} (next : ℕ) → Left e → kind_of e ≡ kinds.case → At s at e → next ≡ at + 2 + size (first_operand (first_operand e)) → Cased e next
  unfolding size
  cased next (projects first) h a p = absurd (omega arith)
  cased next (branches first) h a p =
      let x = (taken a (branches first) (one_reads _ (inr (inr h)))).inner_at in
      let b = at_second s at _ a next (omega arith) (omega arith) in
      record { branch = b; to_first = λ i. branched b x; to_second = λ i third q. absurd (i refl) }
  cased next (branches second) h a p =
      let x = (taken a (branches second) (one_reads _ (inr (inr h)))).inner_at in
      record {
        branch = at_second s at _ a next (omega arith) (omega arith);
        to_first = λ i. absurd (omega arith);
        to_second = λ i third q. branched (at_third s at _ a third (omega arith) (omega arith)) x;
      }
  cased next (reckons plus) h a p = absurd (omega arith)
  cased next _ h a p = absurd (omega arith)

-- the left sides that are left
pub only_case : {e : Term} → Left e → (kind_of e ≡ kinds.recursion → ⊥) → (kind_of e ≡ kinds.protect → ⊥) → (kind_of e ≡ kinds.first_projection → ⊥)
    → (kind_of e ≡ kinds.second_projection → ⊥) → (kind_of e ≡ kinds.application → ⊥) → (kind_of e ≡ kinds.sum → ⊥) → (kind_of e ≡ kinds.less → ⊥) → kind_of e ≡ kinds.case
only_case n r p f g a s l = grind arith
