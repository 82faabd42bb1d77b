-- A node's operands: where they stand, how large and deep they are, how they are formed, and what room is left for
-- them.
use Rattle.std.proofs.Common.{◌≡◌, refl, sym, ap, ◌∙◌, Bool, true, false, cond, List, [], ◌∷◌, ◌++◌, append-nil, ℕ, suc}
use Rattle.std.proofs.Common.{◌+◌, ◌*◌, ◌≤◌, max, arith, length, drop}
use Rattle.calculus.specs.Types.{Ty}
use Rattle.calculus.specs.Typing.{finds_own}
use Rattle.calculus.specs.Terms.{first, second, plus, less, Term, var, unit, lam, pair, inj, app, proj, case, protect}
use Rattle.calculus.specs.Terms.{mu, literal, reckon}
use Rattle.records.specs.Kinds as kinds
use Rattle.inference.proofs.Shapes.{Several, is_pair, is_app, is_case, is_reckon, several}
use Rattle.rules.specs.Limits.{answer_length, script_width}
use Rattle.rules.specs.Answer.{Bytes}
use Rattle.rules.specs.Script.{kind, encode, size, depth}
use Rattle.rules.proofs.Prefix.{total, joined}
use Rattle.rules.proofs.Nodes.{operand_at}
use Rattle.rules.proofs.PrefixLaws.{encode_length}
use Rattle.rules.proofs.TermCode.{term_code, term_operands}
use Rattle.records.specs.Place.{At}
use Rattle.records.specs.Binders.{binds}
use Rattle.records.proofs.Weights.{weights}
use Rattle.inference.specs.Operands.{operand_count, WellFormed}
use Rattle.records.specs.Operands.{first_operand, second_operand}
use Rattle.records.proofs.ThirdOperand.{third_operand}
use Rattle.inference.specs.Stages.{first_context, second_context, kept_front}
use Rattle.typing.specs.Parts.{kept_between}

-- a node of three operands is a case
pub data Three : Term → Type 0 where
  is_three : {w i : ℕ} {e a b : Term} → Three (case w i e a b)

three_of : {e : Term} → Several e → operand_count e ≡ 3 → Three e
unfolding operand_count
three_of is_pair o = absurd (omega arith)
three_of is_app o = absurd (omega arith)
three_of is_case o = is_three
three_of is_reckon o = absurd (omega arith)

pub three : (e : Term) → operand_count e ≡ 3 → Three e
three e o = three_of (several e (omega arith)) o

at_operand : (s : Bytes) (e : Term) → s ≡ encode e → (i : ℕ) (before : List Term) (d : Term) (after : List Term) → term_operands e ≡ before ++ d ∷ after
    → i ≡ 1 + total size before → At s i d
at_operand s e p i before d after is z =
    let h : drop (script_width * 0) s ≡ encode e ++ [] = p ∙ sym (append-nil (encode e)) in
    record {
      rest = joined encode after ++ [];
      stands = ap (λ j. drop (script_width * j) s) z ∙ operand_at term_code s 0 e [] h before d after is;
    }

module _ (s : Bytes) where
  pub first_at : (e : Term) → s ≡ encode e → 1 ≤ operand_count e → At s 1 (first_operand e)
  unfolding operand_count
  first_at (lam k i e) p o = at_operand s (lam k i e) p 1 [] e [] refl refl
  first_at (pair k a b) p o = at_operand s (pair k a b) p 1 [] a (b ∷ []) refl refl
  first_at (inj d k i e) p o = at_operand s (inj d k i e) p 1 [] e [] refl refl
  first_at (app w f a) p o = at_operand s (app w f a) p 1 [] f (a ∷ []) refl refl
  first_at (proj d w e) p o = at_operand s (proj d w e) p 1 [] e [] refl refl
  first_at (case w i e a b) p o = at_operand s (case w i e a b) p 1 [] e (a ∷ b ∷ []) refl refl
  first_at (protect m e) p o = at_operand s (protect m e) p 1 [] e [] refl refl
  first_at (mu w i e) p o = at_operand s (mu w i e) p 1 [] e [] refl refl
  first_at (reckon o w a b) p d = at_operand s (reckon o w a b) p 1 [] a (b ∷ []) refl refl
  first_at _ p o = absurd (omega arith)

  pub second_at : {e : Term} {j : ℕ} → Several e → s ≡ encode e → j ≡ 1 + size (first_operand e) → At s j (second_operand e)
  second_at {j = j} (is_pair {k = k} {a = a} {b = b}) p z = at_operand s (pair k a b) p j (a ∷ []) b [] refl (omega arith)
  second_at {j = j} (is_app {w = w} {f = f} {a = a}) p z = at_operand s (app w f a) p j (f ∷ []) a [] refl (omega arith)
  second_at {j = j} (is_case {w = w} {i = i} {e = e} {a = a} {b = b}) p z = at_operand s (case w i e a b) p j (e ∷ []) a (b ∷ []) refl (omega arith)
  second_at {j = j} (is_reckon {o = o} {w = w} {a = a} {b = b}) p z = at_operand s (reckon o w a b) p j (a ∷ []) b [] refl (omega arith)

  pub third_at : {e : Term} {j : ℕ} → Three e → s ≡ encode e → j ≡ 1 + size (first_operand e) + size (second_operand e) → At s j (third_operand e)
  third_at {j = j} (is_three {w = w} {i = i} {e = e} {a = a} {b = b}) p z = at_operand s (case w i e a b) p j (e ∷ a ∷ []) b [] refl (omega arith)

-- the last operand ends where the term does
first_ends : (e : Term) → operand_count e ≡ 1 → size e ≡ 1 + size (first_operand e)
unfolding operand_count size
first_ends (lam k i e) o = omega arith
first_ends (inj d k i e) o = omega arith
first_ends (proj d w e) o = omega arith
first_ends (protect m e) o = omega arith
first_ends (mu w i e) o = omega arith
first_ends (reckon o w a b) d = absurd (omega arith)
first_ends _ o = absurd (omega arith)

second_ends : {e : Term} → Several e → operand_count e ≡ 2 → size e ≡ 1 + size (first_operand e) + size (second_operand e)
unfolding operand_count size
second_ends is_pair o = omega arith
second_ends is_app o = omega arith
second_ends is_case o = absurd (omega arith)
second_ends is_reckon o = omega arith

third_ends : {e : Term} → Three e → size e ≡ 1 + size (first_operand e) + size (second_operand e) + size (third_operand e)
unfolding size
third_ends is_three = omega arith

module _ (s : Bytes) (e : Term) (p : s ≡ encode e) where
  long_as : length s ≡ script_width * size e
  long_as = ap length p ∙ encode_length term_code e

  pub first_whole : operand_count e ≡ 1 → length s ≡ script_width * (1 + size (first_operand e))
  first_whole o = omega (arith, long_as, first_ends e o)

  pub second_whole : (j : ℕ) → j ≡ 1 + size (first_operand e) → operand_count e ≡ 2 → length s ≡ script_width * (j + size (second_operand e))
  second_whole j z o = omega (arith, long_as, second_ends (several e (omega arith)) o)

  pub third_whole : (j : ℕ) → j ≡ 1 + size (first_operand e) + size (second_operand e) → operand_count e ≡ 3 → length s ≡ script_width * (j + size (third_operand e))
  third_whole j z o = omega (arith, long_as, third_ends (three e o))

-- at least one level and one record more than an operand
pub record Smaller (e d : Term) (before : ℕ) : Type 0 where
  pub deeper : 1 + depth d ≤ depth e
  pub larger : 1 + before + size d ≤ size e

pub first_smaller : (e : Term) → 1 ≤ operand_count e → Smaller e (first_operand e) 0
unfolding operand_count size depth
first_smaller (var n) o = absurd (omega arith)
first_smaller (unit k) o = absurd (omega arith)
first_smaller (literal k n) o = absurd (omega arith)
first_smaller (case w i e a b) o = record { deeper = omega (arith, (weights (case w i e a b)).0); larger = omega arith }
first_smaller e o = record { deeper = omega arith; larger = omega arith }

pub second_smaller : {e : Term} → Several e → Smaller e (second_operand e) (size (first_operand e))
unfolding size depth
second_smaller (is_case {w = w} {i = i} {e = e} {a = a} {b = b}) = record { deeper = omega (arith, (weights (case w i e a b)).0); larger = omega arith }
second_smaller _ = record { deeper = omega arith; larger = omega arith }

pub third_larger : {e : Term} → Three e → 1 + (size (first_operand e) + size (second_operand e)) + size (third_operand e) ≤ size e
unfolding size
third_larger is_three = omega arith

-- what questions 16 and 19 say of the operands
pub first_formed : (t : Bytes) (tab : ℕ → Ty) (Γ : List Ty) (e : Term) → 1 ≤ operand_count e → WellFormed t (length Γ) e
    → WellFormed t (length (first_context tab Γ e)) (first_operand e)
unfolding operand_count WellFormed first_context
first_formed t tab Γ (lam k i e) o f = f.1
first_formed t tab Γ (pair k a b) o f = f.0
first_formed t tab Γ (inj d k i e) o f = f.1
first_formed t tab Γ (app w x y) o f = f.0
first_formed t tab Γ (proj d w e) o f = f
first_formed t tab Γ (case w i e a b) o f = f.1.0
first_formed t tab Γ (protect m e) o f = f
first_formed t tab Γ (mu w i e) o f = f.1
first_formed t tab Γ (reckon plus w x y) o f = f.0
first_formed t tab Γ (reckon (less i) w x y) o f = f.1.0
first_formed t tab Γ _ o f = absurd (omega arith)

pub second_formed : (t : Bytes) (Γ : List Ty) (u : Ty) {e : Term} → Several e → WellFormed t (length Γ) e → WellFormed t (length (second_context Γ e u)) (second_operand e)
unfolding WellFormed second_context
second_formed t Γ u is_pair f = f.1
second_formed t Γ u is_app f = f.1
second_formed t Γ u is_case f = f.1.1.0
second_formed t Γ u (is_reckon {o = plus}) f = f.1
second_formed t Γ u (is_reckon {o = less i}) f = f.1.1

pub third_formed : (t : Bytes) (b : ℕ) {e : Term} → Three e → WellFormed t b e → WellFormed t (suc b) (third_operand e)
unfolding WellFormed
third_formed t b is_three f = f.1.1.1

-- A level's slot is spent once: on a binder, or in front.
pub first_room : (tab : ℕ → Ty) (Γ : List Ty) (e : Term) → kept_front e + answer_length * length (first_context tab Γ e) ≤ answer_length * (length Γ + 1)
unfolding kept_front first_context
first_room tab Γ (lam k i e) = omega arith
first_room tab Γ e = omega arith

pub second_room : (Γ : List Ty) (u : Ty) {e : Term} → Several e → kept_between (operand_count e) + answer_length * length (second_context Γ e u) ≤ answer_length * (length Γ + 1)
unfolding operand_count second_context
second_room Γ u is_pair = omega arith
second_room Γ u is_app = omega arith
second_room Γ u is_case = omega arith
second_room Γ u is_reckon = omega arith

-- A case that finds its own type weighs two: one level is spent on the binder's slot, the other on the first branch's
-- type.
pub third_room : {e : Term} {w i : ℕ} {x y z : Term} → e ≡ case w i x y z
    → cond (finds_own i) answer_length 0 + answer_length * (1 + depth (third_operand e)) ≤ answer_length * depth e
unfolding depth
third_room {i = i} {x = x} {y = y} {z = z} q = rw q (go (finds_own i))
  where
    go : (o : Bool) → cond o answer_length 0 + answer_length * (1 + depth z) ≤ answer_length * (cond o 2 1 + max (depth x) (max (depth y) (depth z)))
    go true = omega arith
    go false = omega arith

pub several_front : {e : Term} → Several e → kept_front e ≡ 0
unfolding kept_front
several_front is_pair = refl
several_front is_app = refl
several_front is_case = refl
several_front is_reckon = refl

pub at_most_three : (e : Term) → operand_count e ≤ 3
unfolding operand_count
at_most_three (var n) = omega arith
at_most_three e = omega arith

pub three_kind : {e : Term} → Three e → kind (encode e) 0 ≡ kinds.case
unfolding encode
three_kind is_three = refl

-- the binders over an operand: the context grows by as many
first_bound : (tab : ℕ → Ty) (Γ : List Ty) (e : Term) → length (first_context tab Γ e) ≡ length Γ + binds (kind (encode e) 0) 0
unfolding first_context encode binds
first_bound tab Γ (inj first k i e) = omega arith
first_bound tab Γ (inj second k i e) = omega arith
first_bound tab Γ (proj first w e) = omega arith
first_bound tab Γ (proj second w e) = omega arith
first_bound tab Γ (reckon plus w a b) = omega arith
first_bound tab Γ (reckon (less i) w a b) = omega arith
first_bound tab Γ e = omega arith

second_bound : (Γ : List Ty) (u : Ty) {e : Term} → Several e → length (second_context Γ e u) ≡ length Γ + binds (kind (encode e) 0) 1
unfolding second_context encode binds
second_bound Γ u (is_reckon {o = plus}) = omega arith
second_bound Γ u (is_reckon {o = less i}) = omega arith
second_bound Γ u _ = omega arith

pub first_binders : (s : Bytes) (tab : ℕ → Ty) (Γ : List Ty) (e : Term) → s ≡ encode e → length (first_context tab Γ e) ≡ length Γ + binds (kind s 0) 0
first_binders s tab Γ e p = first_bound tab Γ e ∙ ap (λ x. length Γ + binds (kind x 0) 0) (sym p)

pub second_binders : (s : Bytes) (Γ : List Ty) (u : Ty) (e : Term) → Several e → s ≡ encode e → length (second_context Γ e u) ≡ length Γ + binds (kind s 0) 1
second_binders s Γ u e d p = second_bound Γ u d ∙ ap (λ x. length Γ + binds (kind x 0) 1) (sym p)

pub branch_binders : (Γ : List Ty) (u : Ty) {e : Term} → Three e → length (second_context Γ e u) ≡ length Γ + 1
unfolding second_context
branch_binders Γ u is_three = omega arith
