-- A node's record tells its kind, its fields and its operands.
use Rattle.std.proofs.Common.{◌≡◌, refl, sym, ap, ◌∙◌, cond, List, [], append-nil, ◌⊎◌, inl, inr, ℕ, ◌≤◌, length, arith}
use Rattle.calculus.specs.Security.{Property, Indirect, Security}
use Rattle.calculus.specs.Types.{Ty}
use Rattle.calculus.specs.Terms.{Side, Operation, plus, less, Term, unit, pair, inj, app, proj, case, reckon, first}
use Rattle.rules.specs.Limits.{script_width, type_width}
use Rattle.rules.specs.Answer.{Bytes, accepted}
use Rattle.rules.specs.Script.{kind, r, ir, number, c, ic, arity, encode, depth, make}
use Rattle.rules.proofs.PrefixLaws.{encode_length, size_positive}
use Rattle.rules.proofs.TermCode.{term_code}
use Rattle.inference.specs.Operands.{operand_count}
use Rattle.records.specs.Kinds as kinds
use Rattle.records.specs.Kinds.{is_injection}
use Rattle.records.specs.Numbers.{kind_number}
use Rattle.records.specs.declared.Kind.{Kind}
use Rattle.records.specs.declared.Kind.TheVariants.{Variable, Function, Pair, FirstInjection, SecondInjection}
use Rattle.records.specs.declared.Kind.TheVariants.{Application, FirstProjection, SecondProjection, Protect, Recursion}
use Rattle.records.specs.declared.Kind.TheVariants.{Literal, Sum, Less}
use Rattle.records.specs.Place.{At, Here}
use Rattle.records.specs.Labels.{property_at}
use Rattle.records.specs.Operands.{first_operand, second_operand}
use Rattle.records.proofs.Weights.{weights}
use Rattle.records.proofs.Stands.{stands_kind, here}
use Rattle.records.proofs.Made.{form, by_kind, number_of, number_at, property_stands}
use Rattle.records.proofs.ThirdOperand.{third_operand}
use Rattle.inference.specs.Sides.{named_side}
use Rattle.inference.specs.Stages.{before_first, first_context, kept_front}

pub at_front : {s : Bytes} (e : Term) → s ≡ encode e → At s 0 e
at_front e q = record { rest = []; stands = q ∙ sym (append-nil (encode e)) }

pub stands : {s : Bytes} (e : Term) → s ≡ encode e → Here s 0
stands e q = here (at_front e q)

pub long : {s : Bytes} (e : Term) → s ≡ encode e → script_width ≤ length s
long {s} e p = omega (arith, ap length p, encode_length term_code e, size_positive term_code e)

-- a term of kind k with these groups and this number, and the operands of e
abbrev pub labelled : ℕ → Property → ℕ → Term → Term
labelled k p n e = make k p.r p.ir n p.c p.ic (first_operand e) (second_operand e) (third_operand e)

-- the form of a term, with the fields as they were read
pub of_fields : (s : Bytes) (e : Term) (k : ℕ) {p : Property} {n : ℕ} → s ≡ encode e → k ≡ kind s 0 → p ≡ property_at s 0 → n ≡ number s 0
    → e ≡ labelled k p n e
of_fields s e k {p} {n} q i ep en =
    let at : At s 0 e = at_front e q in
    by_kind (λ x. x ≡ form k e) k e (sym (i ∙ stands_kind s 0 e at)) refl
    ∙ ap (λ (x : Property). labelled k x (number_of e) e) (sym (ep ∙ property_stands at))
    ∙ ap (λ j. labelled k p j e) (sym (en ∙ number_at at))

-- of a known kind
pub of_kind : (s : Bytes) (e : Term) (k : ℕ) → s ≡ encode e → k ≡ kind s 0 → e ≡ labelled k (property_at s 0) (number s 0) e
of_kind s e k q i = of_fields s e k q i refl refl

-- the groups of a record of which only the reader was read, or only a protect's
abbrev pub read_by : Bytes → ℕ → Property
read_by s w = record { r = w; ir = ir s 0; c = c s 0; ic = ic s 0 }

abbrev pub left_by : Bytes → Indirect → Property
left_by s m = record { r = r s 0; ir = m.ir; c = c s 0; ic = m.ic }

-- an injection and a projection, by the side that its kind names
pub injected : {k : Kind} {d : Side} (p : Property) (n : ℕ) (e : Term) → (k ≡ FirstInjection) ⊎ (k ≡ SecondInjection) → d ≡ named_side k → labelled (kind_number k) p n e ≡ inj d p n (first_operand e)
injected p n e m y = grind arith

pub projected : {k : Kind} {d : Side} (p : Property) (n : ℕ) (e : Term) → (k ≡ FirstProjection) ⊎ (k ≡ SecondProjection) → d ≡ named_side k → labelled (kind_number k) p n e ≡ proj d p.r (first_operand e)
projected p n e m y = grind arith

-- what is reckoned, by either operation
pub reckons : {k : Kind} (p : Property) (n : ℕ) (e : Term) → (k ≡ Sum) ⊎ (k ≡ Less)
    → (o : Operation) × (labelled (kind_number k) p n e ≡ reckon o p.r (first_operand e) (second_operand e))
reckons p n e (inl q) = (plus, rw q)
reckons p n e (inr q) = (less n, rw q)

pub counted : (e : Term) → arity (kind (encode e) 0) ≡ operand_count e
unfolding arity encode operand_count
counted e = grind arith

pub counted_of : {s : Bytes} (e : Term) → s ≡ encode e → arity (kind s 0) ≡ operand_count e
counted_of {s} e p = rw p (counted e)

pub arity_of : {s : Bytes} (e : Term) {k : ℕ} → s ≡ encode e → k ≡ kind s 0 → arity k ≡ operand_count e
arity_of e p f = rw (f, p) (counted e)

-- which kind is left when the others of as many operands are ruled out
pub unit_left : (k : Kind) → arity (kind_number k) ≡ 0 → (k ≡ Variable → ⊥) → (k ≡ Literal → ⊥) → kind_number k ≡ kinds.unit
unfolding arity
unit_left k o a b = grind (arith)

pub recursion_left : (k : Kind) → arity (kind_number k) ≡ 1 → (k ≡ Function → ⊥) → (k ≡ FirstInjection → ⊥) → (k ≡ SecondInjection → ⊥) → (k ≡ FirstProjection → ⊥) → (k ≡ SecondProjection → ⊥) → (k ≡ Protect → ⊥)
    → kind_number k ≡ kinds.recursion
unfolding arity
recursion_left k o a b n d f g = grind arith

pub less_left : (k : Kind) → arity (kind_number k) ≡ 2 → (k ≡ Pair → ⊥) → (k ≡ Application → ⊥) → (k ≡ Sum → ⊥) → kind_number k ≡ kinds.less
unfolding arity
less_left k o a b n = grind arith

pub case_left : (k : Kind) → 2 ≤ arity (kind_number k) → (k ≡ Pair → ⊥) → (k ≡ Application → ⊥) → (k ≡ Sum → ⊥) → (k ≡ Less → ⊥) → kind_number k ≡ kinds.case
unfolding arity
case_left k o a b n d = grind arith

-- what a node of two or more operands is
pub data Several : Term → Type 0 where
  is_pair : {k : Property} {a b : Term} → Several (pair k a b)
  is_app : {w : ℕ} {f a : Term} → Several (app w f a)
  is_case : {w i : ℕ} {e a b : Term} → Several (case w i e a b)
  is_reckon : {o : Operation} {w : ℕ} {a b : Term} → Several (reckon o w a b)

pub several : (e : Term) → 2 ≤ operand_count e → Several e
unfolding operand_count
several (pair k a b) o = is_pair
several (app w f a) o = is_app
several (case w i e a b) o = is_case
several (reckon p w a b) o = is_reckon
several e o = absurd (omega arith)

-- no binder over the first operand
pub record Plain (S : Security) (tab : ℕ → Ty) (Γ : List Ty) (place : ℕ) (e : Term) : Type 0 where
  pub asked : before_first S tab place e ≡ accepted tt
  pub context : first_context tab Γ e ≡ Γ

pub plain : (S : Security) (tab : ℕ → Ty) (Γ : List Ty) (place : ℕ) (k : Kind) (p : Property) (n : ℕ) (e : Term) → (k ≡ Function → ⊥) → (k ≡ Recursion → ⊥) → Plain S tab Γ place (labelled (kind_number k) p n e)
unfolding before_first first_context
plain S tab Γ place Function p n e a b = absurd (a refl)
plain S tab Γ place Recursion p n e a b = absurd (b refl)
plain S tab Γ place k p n e a b = record { asked = refl; context = refl }

-- what is kept of the front, by the kind of the node's record
pub front_is : (e : Term) → kept_front e ≡ cond (is_injection (kind (encode e) 0)) type_width 0
unfolding encode kept_front
front_is e = grind arith

pub depth_positive : (e : Term) → 1 ≤ depth e
unfolding depth
depth_positive (case w i e a b) = omega (arith, (weights (case w i e a b)).0)
depth_positive e = omega arith
