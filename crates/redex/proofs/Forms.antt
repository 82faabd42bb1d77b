-- What a node does by its kind: which operand it evaluates next, when it is a value, when its own turn comes, and its
-- fate.
use Rattle.std.proofs.Common.{◌≡◌, refl, cond, ◌&&◌, ℕ, ◌+◌, ◌≤◌, ◌⊎◌, inl, inr, arith, nat_eq, IsTrue}
use Rattle.std.proofs.lemmas.Bool.{false≢true}
use Rattle.calculus.specs.Security.{Reader, Security}
use Rattle.calculus.specs.Types.{sum, product, function, Ty, exists}
use Rattle.calculus.specs.Terms.{first, second, Operation, plus, less, Term, var, unit, lam, pair, inj, app, proj, case}
use Rattle.calculus.specs.Terms.{protect, mu, literal, reckon, is_value}
use Rattle.calculus.specs.Numbers.{literal_of}
use Rattle.calculus.specs.Reduction.{Context, hole, app_left, app_right, in_proj, in_inj, pair_left, pair_right}
use Rattle.calculus.specs.Reduction.{in_protect, in_case, reckon_left, reckon_right, plug}
use Rattle.calculus.specs.Stuck.{built_by}
use Rattle.calculus.proofs.Booleans.{both}
use Rattle.rules.specs.Script.{size}
use Rattle.rules.proofs.TermCode.{two_bytes}
use Rattle.records.specs.Kinds as kinds
use Rattle.records.specs.Operands.{first_operand, second_operand}
use Rattle.records.proofs.Stands.{kind_of, operands}
use Rattle.records.proofs.Made.{number_of, by_kind}
use Rattle.records.proofs.WeightOf.{weight_of}
use Rattle.redex.specs.Contexts.{offset, level}
use Rattle.redex.specs.Fates.{reduces, no_rule, property_of, is_function, is_potential_redex, reading_fate, fate}
use Rattle.redex.specs.Found.{is_destructor, is_reckoning, takes_apart}

-- x is the operand that e evaluates next, n records on and m levels down
pub record Position (e x : Term) (n m : ℕ) : Type 0 where
  pub context : Context
  pub whole : e ≡ plug context x
  pub under : level context ≡ m
  pub from : offset context ≡ n

-- e evaluates its first operand: all do but those without one and those with a binder over it
abbrev pub Evaluates : Term → Type 0
Evaluates e =
    (kind_of e ≡ kinds.variable → ⊥) × (kind_of e ≡ kinds.unit → ⊥) × (kind_of e ≡ kinds.literal → ⊥) × (kind_of e ≡ kinds.function → ⊥)
    × (kind_of e ≡ kinds.recursion → ⊥)

pub first_position : (e : Term) → Evaluates e → (m : ℕ) → m ≡ weight_of e → Position e (first_operand e) 1 m
unfolding plug offset level
first_position (var n) v m h = absurd (v.0 refl)
first_position (unit k) v m h = absurd (v.1 refl)
first_position (lam k i e) v m h = absurd (v.3 refl)
first_position (pair k a b) v m h = record { context = pair_left k hole b; whole = refl; under = omega (arith, h); from = refl }
first_position (inj d k i e) v m h = record { context = in_inj d k i hole; whole = refl; under = omega (arith, h); from = refl }
first_position (app w f a) v m h = record { context = app_left w hole a; whole = refl; under = omega (arith, h); from = refl }
first_position (proj d w e) v m h = record { context = in_proj d w hole; whole = refl; under = omega (arith, h); from = refl }
first_position (case w i e a b) v m h = record { context = in_case w i hole a b; whole = refl; under = omega (arith, h); from = refl }
first_position (protect i e) v m h = record { context = in_protect i hole; whole = refl; under = omega (arith, h); from = refl }
first_position (mu w i e) v m h = absurd (v.4 refl)
first_position (literal k n) v m h = absurd (v.2 refl)
first_position (reckon o w a b) v m h = record { context = reckon_left o w hole b; whole = refl; under = omega (arith, h); from = refl }

-- a pair, a sum, a comparison or an application, whose first operand is a value
pub record Second (e : Term) : Type 0 where
  pub position : Position e (second_operand e) (1 + size (first_operand e)) 1
  pub sizes : size e ≡ 1 + (size (first_operand e) + size (second_operand e))
  pub turns : (kind_of e ≡ kinds.pair → ⊥) → IsTrue (is_value (second_operand e)) → IsTrue (is_potential_redex e)

-- no injection, no destructor of one operand and no protect
abbrev pub Twofold : Term → Type 0
Twofold e =
    (kind_of e ≡ kinds.first_injection → ⊥) × (kind_of e ≡ kinds.second_injection → ⊥) × (kind_of e ≡ kinds.first_projection → ⊥)
    × (kind_of e ≡ kinds.second_projection → ⊥) × (kind_of e ≡ kinds.case → ⊥) × (kind_of e ≡ kinds.protect → ⊥)

pub second_position : (e : Term) → Evaluates e → Twofold e → IsTrue (is_value (first_operand e)) → Second e
unfolding plug offset level size is_potential_redex
second_position (var n) v h w = absurd (v.0 refl)
second_position (unit k) v h w = absurd (v.1 refl)
second_position (lam k i e) v h w = absurd (v.3 refl)
second_position (pair k a b) v h w =
    record { position = record { context = pair_right k a w hole; whole = refl; under = refl; from = omega arith }; sizes = refl; turns = λ p z. absurd (p refl) }
second_position (inj first k i e) v h w = absurd (h.0 refl)
second_position (inj second k i e) v h w = absurd (h.1 refl)
second_position (app u f a) v h w =
    record { position = record { context = app_right u f w hole; whole = refl; under = refl; from = omega arith }; sizes = refl; turns = λ p z. both w z }
second_position (proj first u e) v h w = absurd (h.2 refl)
second_position (proj second u e) v h w = absurd (h.3 refl)
second_position (case u i e a b) v h w = absurd (h.4 refl)
second_position (protect m e) v h w = absurd (h.5 refl)
second_position (mu u i e) v h w = absurd (v.4 refl)
second_position (literal k n) v h w = absurd (v.2 refl)
second_position (reckon plus u a b) v h w =
    record { position = record { context = reckon_right plus u a w hole; whole = refl; under = refl; from = omega arith }; sizes = refl; turns = λ p z. both w z }
second_position (reckon (less i) u a b) v h w =
    record { position = record { context = reckon_right (less i) u a w hole; whole = refl; under = refl; from = omega arith }; sizes = refl; turns = λ p z. both w z }

-- the kinds of values; two of them have no operands
abbrev pub IsAlone : ℕ → Type 0
IsAlone n = (n ≡ kinds.unit) ⊎ (n ≡ kinds.literal)

pub alone_value : (e : Term) → IsAlone (kind_of e) → IsTrue (is_value e) × (size e ≡ 1)
unfolding is_value size
alone_value e (inl h) = by_kind (λ x. IsTrue (is_value x) × (size x ≡ 1)) kinds.unit e h (refl, refl)
alone_value e (inr h) = by_kind (λ x. IsTrue (is_value x) × (size x ≡ 1)) kinds.literal e h (refl, refl)

pub function_value : (e : Term) → kind_of e ≡ kinds.function → IsTrue (is_value e)
unfolding is_value
function_value e h = by_kind (λ x. IsTrue (is_value x)) kinds.function e h refl

pub pair_value : (e : Term) → kind_of e ≡ kinds.pair → IsTrue (is_value (first_operand e)) → IsTrue (is_value (second_operand e)) → IsTrue (is_value e)
unfolding is_value
pair_value e h = by_kind (λ x. IsTrue (is_value (first_operand x)) → IsTrue (is_value (second_operand x)) → IsTrue (is_value x)) kinds.pair e h both

pub injection_value : (e : Term) → IsTrue (kinds.is_injection (kind_of e)) → IsTrue (is_value (first_operand e)) → IsTrue (is_value e) × (size e ≡ 1 + size (first_operand e))
unfolding is_value size
injection_value (inj d k i e) h v = (v, refl)
injection_value (proj first w e) h v = absurd (false≢true h)
injection_value (reckon plus w a b) h v = absurd (false≢true h)
injection_value _ h v = absurd (false≢true h)

-- what is shown of every sum and of every comparison is shown of a term whose kind is one of theirs
pub reckoned_form : (P : Term → Type 0) (e : Term) → IsTrue (is_reckoning (kind_of e)) → ((o : Operation) (w : Reader) (a b : Term) → P (reckon o w a b)) → P e
reckoned_form P (inj first k i e) h p = absurd (false≢true h)
reckoned_form P (proj first w e) h p = absurd (false≢true h)
reckoned_form P (reckon o w a b) h p = p o w a b
reckoned_form P _ h p = absurd (false≢true h)

-- which has two operands
pub reckoned_operands : (e : Term) → IsTrue (is_reckoning (kind_of e)) → 2 ≤ operands e
reckoned_operands e h = reckoned_form (λ x. 2 ≤ operands x) e h (λ o w a b. omega arith)

-- nodes whose own turn it is, and their fate
pub variable_fate : (S : Security) (tab : ℕ → Ty) (e : Term) → kind_of e ≡ kinds.variable → fate S tab e ≡ no_rule
unfolding fate
variable_fate S tab e h = by_kind (λ x. fate S tab x ≡ no_rule) kinds.variable e h refl

pub protect_fate : (S : Security) (tab : ℕ → Ty) (e : Term) → kind_of e ≡ kinds.protect → fate S tab e ≡ reduces
unfolding fate
protect_fate S tab e h = by_kind (λ x. fate S tab x ≡ reduces) kinds.protect e h refl

pub recursion_fate : (S : Security) (tab : ℕ → Ty) (e : Term) → kind_of e ≡ kinds.recursion → fate S tab e ≡ cond (is_function (tab (number_of e))) reduces no_rule
unfolding fate
recursion_fate S tab e h =
    by_kind (λ x. fate S tab x ≡ cond (is_function (tab (number_of x))) reduces no_rule) kinds.recursion e h (rw (two_bytes (number_of e)))

-- the only node whose turn it is by no other kind
pub variable_left : (e : Term) → IsTrue (is_potential_redex e) → (kind_of e ≡ kinds.protect → ⊥) → (kind_of e ≡ kinds.recursion → ⊥) → (kind_of e ≡ kinds.sum → ⊥)
    → (kind_of e ≡ kinds.less → ⊥) → (kind_of e ≡ kinds.application → ⊥) → (kind_of e ≡ kinds.first_projection → ⊥)
    → (kind_of e ≡ kinds.second_projection → ⊥) → (kind_of e ≡ kinds.case → ⊥) → kind_of e ≡ kinds.variable
unfolding is_potential_redex
variable_left (var n) h m r s l a p q c = refl
variable_left (app w f e) h m r s l a p q c = absurd (a refl)
variable_left (proj first w e) h m r s l a p q c = absurd (p refl)
variable_left (proj second w e) h m r s l a p q c = absurd (q refl)
variable_left (case w i e f g) h m r s l a p q c = absurd (c refl)
variable_left (protect i e) h m r s l a p q c = absurd (m refl)
variable_left (mu w i e) h m r s l a p q c = absurd (r refl)
variable_left (reckon plus w e f) h m r s l a p q c = absurd (s refl)
variable_left (reckon (less i) w e f) h m r s l a p q c = absurd (l refl)
variable_left _ h m r s l a p q c = absurd (false≢true h)

pub application_reads : IsTrue (is_destructor kinds.application)
unfolding is_destructor
application_reads = refl

-- a destructor of one evaluated operand
abbrev pub ReadsOne : ℕ → Type 0
ReadsOne n = (n ≡ kinds.first_projection) ⊎ ((n ≡ kinds.second_projection) ⊎ (n ≡ kinds.case))

pub one_reads : (n : ℕ) → ReadsOne n → IsTrue (is_destructor n)
unfolding is_destructor
one_reads n (inl h) = rw h
one_reads n (inr (inl h)) = rw h
one_reads n (inr (inr h)) = rw h

-- Of a node whose one evaluated operand is a value it is the turn,
abbrev pub OfOne : ℕ → Type 0
OfOne n = (n ≡ kinds.protect) ⊎ ReadsOne n

pub one_turn : (e : Term) → OfOne (kind_of e) → IsTrue (is_value (first_operand e)) → IsTrue (is_potential_redex e)
unfolding is_potential_redex
one_turn e (inl h) = by_kind (λ x. IsTrue (is_value (first_operand x)) → IsTrue (is_potential_redex x)) kinds.protect e h (λ v. v)
one_turn e (inr (inl h)) = by_kind (λ x. IsTrue (is_value (first_operand x)) → IsTrue (is_potential_redex x)) kinds.first_projection e h (λ v. v)
one_turn e (inr (inr (inl h))) = by_kind (λ x. IsTrue (is_value (first_operand x)) → IsTrue (is_potential_redex x)) kinds.second_projection e h (λ v. v)
one_turn e (inr (inr (inr h))) = by_kind (λ x. IsTrue (is_value (first_operand x)) → IsTrue (is_potential_redex x)) kinds.case e h (λ v. v)

-- and of one that evaluates none and is no value.
pub lone_turn : (e : Term) → (kind_of e ≡ kinds.variable) ⊎ (kind_of e ≡ kinds.recursion) → IsTrue (is_potential_redex e)
unfolding is_potential_redex
lone_turn e (inl h) = by_kind (λ x. IsTrue (is_potential_redex x)) kinds.variable e h refl
lone_turn e (inr h) = by_kind (λ x. IsTrue (is_potential_redex x)) kinds.recursion e h refl

-- the kinds of what a function type, a pair type and a sum type have for values
pub built_is : (e : Term) → (built_by function e ≡ nat_eq (kind_of e) kinds.function) × (built_by product e ≡ nat_eq (kind_of e) kinds.pair)
    × (built_by sum e ≡ kinds.is_injection (kind_of e))
unfolding built_by
built_is (inj first k i e) = (refl, refl, refl)
built_is (proj first w e) = (refl, refl, refl)
built_is (reckon plus w a b) = (refl, refl, refl)
built_is _ = (refl, refl, refl)

-- a literal by its kind
pub literal_is : (e : Term) → exists (literal_of e) ≡ nat_eq (kind_of e) kinds.literal
unfolding literal_of
literal_is (inj first k i e) = refl
literal_is (proj first w e) = refl
literal_is (reckon plus w a b) = refl
literal_is _ = refl

-- a destructor has an operand
pub destructor_operand : (e : Term) → IsTrue (is_destructor (kind_of e)) → 1 ≤ operands e
unfolding is_destructor
destructor_operand (inj first k i e) h = absurd (false≢true h)
destructor_operand (app w f a) h = omega arith
destructor_operand (proj d w e) h = omega arith
destructor_operand (case w i e a b) h = omega arith
destructor_operand (reckon plus w a b) h = absurd (false≢true h)
destructor_operand _ h = absurd (false≢true h)

-- a destructor's fate, by its own record and by that of the operand that it reads
pub reading_is : (S : Security) (tab : ℕ → Ty) (e : Term) → IsTrue (is_destructor (kind_of e))
    → fate S tab e ≡ reading_fate (takes_apart (kind_of e) (kind_of (first_operand e))) (S.permits (property_of (first_operand e)) (property_of e).r)
unfolding fate is_destructor
reading_is S tab (inj first k i e) h = absurd (false≢true h)
reading_is S tab (app w f a) h = rw (built_is f).0
reading_is S tab (proj first w e) h = rw (built_is e).1
reading_is S tab (proj second w e) h = rw (built_is e).1
reading_is S tab (case w i e a b) h = rw (built_is e).2
reading_is S tab (reckon plus w a b) h = absurd (false≢true h)
reading_is S tab _ h = absurd (false≢true h)

-- the fate of a sum or of a comparison, by its own record and those of its two operands
pub reckoning_is : (S : Security) (tab : ℕ → Ty) (e : Term) → IsTrue (is_reckoning (kind_of e))
    → fate S tab e ≡ reading_fate (nat_eq (kind_of (first_operand e)) kinds.literal && nat_eq (kind_of (second_operand e)) kinds.literal)
    (S.permits (property_of (first_operand e)) (property_of e).r && S.permits (property_of (second_operand e)) (property_of e).r)
unfolding fate
reckoning_is S tab e h =
    reckoned_form
    (λ x. fate S tab x ≡ reading_fate (nat_eq (kind_of (first_operand x)) kinds.literal && nat_eq (kind_of (second_operand x)) kinds.literal)
    (S.permits (property_of (first_operand x)) (property_of x).r && S.permits (property_of (second_operand x)) (property_of x).r))
    e h (λ o w a b. rw (literal_is a, literal_is b))
