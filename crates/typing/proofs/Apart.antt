-- The rules of `typing`, taken apart at the operands.
use Rattle.std.proofs.Common.{◌≡◌, refl, ap, ◌∙◌, List, ◌∷◌, ℕ, ◌+◌, ◌≤◌, arith}
use Rattle.calculus.specs.Security.{Property, Security}
use Rattle.calculus.specs.Types.{sum, product, function, Ty, top}
use Rattle.calculus.specs.Terms.{first, second, Operation, Term, var, unit, lam, pair, inj, app, proj, case, protect}
use Rattle.calculus.specs.Terms.{mu, literal, reckon}
use Rattle.calculus.specs.Numbers.{of_both}
use Rattle.rules.specs.Answer.{Answer, accepted, refused, ◌>>=◌ as bind, ◌>>◌ as then}
use Rattle.rules.specs.Script.{size}
use Rattle.rules.specs.Typing.{left, right, q20, q20_number, q21, q22_of_branch, q23, number_result, typing}
use Rattle.types.specs.declared.Kind.TheVariants.{Number}
use Rattle.inference.specs.Operands.{operand_count}
use Rattle.records.specs.Operands.{first_operand, second_operand}
use Rattle.inference.specs.Stages.{leaf_type, before_first, first_context, after_22, reads, may_read, after_one}
use Rattle.inference.specs.Stages.{between, second_context, operation_type, after_two, case_type}

then_assoc : {A : Type 0} (a b : Answer (Unit {0})) (c : Answer A) → then a (then b c) ≡ then (then a b) c
then_assoc (accepted tt) b c = refl
then_assoc (refused q p) b c = refl

bind_same : {A B : Type 0} (a : Answer A) {f g : A → Answer B} → ((x : A) → f x ≡ g x) → bind a f ≡ bind a g
bind_same (accepted x) h = h x
bind_same (refused q p) h = refl

-- what is left when both operands of a node of two, or the first two of a case, have their types
unfoldable pub after_second : Security → (ℕ → Ty) → List Ty → ℕ → Term → Ty → Ty → Answer Ty
after_second S tab Γ p (pair k a b) s t = after_two S tab p (pair k a b) s t
after_second S tab Γ p (app w f a) s t = after_two S tab p (app w f a) s t
after_second S tab Γ p (case w i e a b) s t =
    then (q22_of_branch S p tab i t)
    (bind (typing S tab (right s ∷ Γ) (1 + p + size e + size a) b) (λ u. case_type S tab p i t u (S.influence (top s) w)))
after_second S tab Γ p (reckon o w a b) s t = after_two S tab p (reckon o w a b) s t
after_second S tab Γ p _ s t = accepted t

module _ (S : Security) (tab : ℕ → Ty) (Γ : List Ty) (p : ℕ) where
  pub typing_leaf : (e : Term) → operand_count e ≡ 0 → typing S tab Γ p e ≡ leaf_type Γ e
  unfolding operand_count typing leaf_type
  typing_leaf (var n) o = refl
  typing_leaf (unit k) o = refl
  typing_leaf (literal k n) o = refl
  typing_leaf e o = absurd (omega arith)

  -- a recursion's questions come before its body
  recursion_typed : (w i : ℕ) (e : Term)
      → typing S tab Γ p (mu w i e)
      ≡ then (before_first S tab p (mu w i e)) (bind (typing S tab (tab i ∷ Γ) (1 + p) e) (λ t. after_22 S p t (tab i) (tab i)))
  unfolding typing before_first
  recursion_typed w i e = then_assoc (q21 S p (tab i) (S.caller (top (tab i)) w)) (q23 S p (tab i) (S.caller (top (tab i)) w)) _

  -- one of them answered no
  pub stops_before : (e : Term) (q x : ℕ) → before_first S tab p e ≡ refused q x → typing S tab Γ p e ≡ refused q x
  unfolding before_first typing
  stops_before (mu w i e) q x h = rw (recursion_typed w i e, h)
  stops_before e q x h = let z : ◌≡◌ {A = ℕ} 0 1 = cc in absurd (omega arith)

  -- the first operand refused
  pub stops_first : (e : Term) (q x : ℕ) → 1 ≤ operand_count e → before_first S tab p e ≡ accepted tt
      → typing S tab (first_context tab Γ e) (1 + p) (first_operand e) ≡ refused q x → typing S tab Γ p e ≡ refused q x
  unfolding operand_count before_first first_context typing
  stops_first (var n) q x o a h = absurd (omega arith)
  stops_first (unit k) q x o a h = absurd (omega arith)
  stops_first (literal k n) q x o a h = absurd (omega arith)
  stops_first (mu w i e) q x o a h = rw (recursion_typed w i e, a, h)
  stops_first e q x o a h = rw h

  -- the one operand typed
  pub one_typed : (e : Term) (t : Ty) → operand_count e ≡ 1 → before_first S tab p e ≡ accepted tt
      → typing S tab (first_context tab Γ e) (1 + p) (first_operand e) ≡ accepted t → typing S tab Γ p e ≡ after_one S tab p e t
  unfolding operand_count before_first first_context typing after_one
  one_typed (lam k i e) t o a h = rw h
  one_typed (inj first k i e) t o a h = rw h
  one_typed (inj second k i e) t o a h = rw h
  one_typed (proj first w e) t o a h = rw h (then_assoc (q20 p product t) (q21 S p t w) (accepted (reads S t w (left t))))
  one_typed (proj second w e) t o a h = rw h (then_assoc (q20 p product t) (q21 S p t w) (accepted (reads S t w (right t))))
  one_typed (protect m e) t o a h = rw h
  one_typed (mu w i e) t o a h = rw (recursion_typed w i e, a, h)
  one_typed e t o a h = absurd (omega arith)

  -- the first of several typed
  -- what is left when the left operand of what is reckoned has its type s
  abbrev right_reckoned : Operation → ℕ → Ty → Ty → Answer Ty
  right_reckoned o w s t = then (q20_number p t) (then (q21 S p t w) (accepted (number_result tab o (of_both S w (top s) (top t)))))

  both_reckoned : (o : Operation) (w : ℕ) (s t : Ty) → right_reckoned o w s t ≡ operation_type S tab p o w s t
  both_reckoned o w s t = go (q20_number p t) (q21 S p t w)
    where
      k : Property
      k = of_both S w (top s) (top t)

      go : (a b : Answer (Unit {0})) → then a (then b (accepted (number_result tab o k))) ≡ bind (then (then a b) (accepted k)) (λ l. accepted (number_result tab o l))
      go (accepted x) (accepted y) = refl
      go (accepted x) (refused q y) = refl
      go (refused q x) b = refl

  pub first_typed : (e : Term) (s : Ty) → 2 ≤ operand_count e → typing S tab (first_context tab Γ e) (1 + p) (first_operand e) ≡ accepted s
      → typing S tab Γ p e
      ≡ then (between S p e s) (bind (typing S tab (second_context Γ e s) (1 + p + size (first_operand e)) (second_operand e)) (after_second S tab Γ p e s))
  unfolding operand_count first_context typing between second_context after_second after_two
  first_typed (pair k a b) s o h = rw h
  first_typed (app w f a) s o h = rw h (then_assoc (q20 p function s) (q21 S p s w) (bind (typing S tab Γ (1 + p + size f) a) (after_second S tab Γ p (app w f a) s)))
  first_typed (case w i e a b) s o h =
      rw h (then_assoc (q20 p sum s) (q21 S p s w) (bind (typing S tab (left s ∷ Γ) (1 + p + size e) a) (after_second S tab Γ p (case w i e a b) s)))
  first_typed (reckon o w a b) s d h =
      rw h
      (then_assoc (q20_number p s) (q21 S p s w) (bind (typing S tab Γ (1 + p + size a) b) (right_reckoned o w s))
      ∙ ap (then (may_read S p Number s w)) (bind_same (typing S tab Γ (1 + p + size a) b) (λ t. both_reckoned o w s t)))
  first_typed e s o h = absurd (omega arith)

  pub second_typed : (e : Term) (s t : Ty) → operand_count e ≡ 2 → after_second S tab Γ p e s t ≡ after_two S tab p e s t
  unfolding operand_count after_second
  second_typed (pair k a b) s t o = refl
  second_typed (app w f a) s t o = refl
  second_typed (reckon o w a b) s t d = refl
  second_typed e s t o = absurd (omega arith)

  pub branch_typed : {e : Term} {w i : ℕ} {x y z : Term} (s t : Ty) → e ≡ case w i x y z
      → after_second S tab Γ p e s t
      ≡ then (q22_of_branch S p tab i t) (bind (typing S tab (right s ∷ Γ) (1 + p + size x + size y) z) (λ u. case_type S tab p i t u (S.influence (top s) w)))
  unfolding after_second
  branch_typed s t q = ap (λ d. after_second S tab Γ p d s t) q
