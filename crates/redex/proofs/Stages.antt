-- What the search knows of the term e at record i, d levels down, as it goes on: its kind k is read and its first
-- operand comes next; the first operand is a value that ends at `next`; so is the second, which ends at `end`.
use Rattle.std.proofs.Common.{◌≡◌, refl, sym, ap, subst, ◌∙◌, ℕ, ◌+◌, ◌⊎◌, inl, inr, arith, IsTrue}
use Rattle.calculus.specs.Security.{Security}
use Rattle.calculus.specs.Types.{Ty}
use Rattle.calculus.specs.Terms.{Term, is_value}
use Rattle.rules.specs.Answer.{Bytes}
use Rattle.rules.specs.Script.{kind, size}
use Rattle.records.specs.Kinds as kinds
use Rattle.records.specs.Place.{At}
use Rattle.records.specs.Operands.{first_operand, second_operand}
use Rattle.records.specs.Weight.{weight_at}
use Rattle.records.proofs.Weights.{stands_weight}
use Rattle.records.proofs.Stands.{kind_of, stands_kind}
use Rattle.redex.specs.Fates.{is_potential_redex}
use Rattle.redex.specs.Found.{Finds}
use Rattle.redex.specs.declared.Found.{Found}
use Rattle.redex.specs.declared.Found.TheVariants.{Value}
use Rattle.records.specs.Numbers.{kind_number}
use Rattle.records.specs.declared.Kind.{Kind}
use Rattle.records.specs.declared.Kind.TheVariants.{Variable, Unit, Function, Pair, FirstInjection, SecondInjection}
use Rattle.records.specs.declared.Kind.TheVariants.{FirstProjection, SecondProjection, Case, Protect, Recursion}
use Rattle.records.specs.declared.Kind.TheVariants.{Literal}
use Rattle.redex.proofs.Forms.{Position, Evaluates, first_position, Second, second_position, OfOne, IsAlone}
use Rattle.records.proofs.Numbered.{same_kind}
use Rattle.redex.proofs.Searches.{found_value, position_at}

-- an operand's answer, where it is a value
pub value_found : {S : Security} {tab : ℕ → Ty} {j d n : ℕ} {x : Term} {a : Found} → Finds S tab j d x a → a ≡ Value n → IsTrue (is_value x) × (n ≡ j + size x)
value_found {S} {tab} {j} {d} {n} {x} f is = found_value (subst (λ (a : Found). Finds S tab j d x a) is f)

pub record Opened (s : Bytes) (i : ℕ) (k : Kind) (e : Term) : Type 0 where
  pub stands : At s i e
  pub kind_is : kind_number k ≡ kind_of e
  pub evaluates : Evaluates e

-- the kind that is read is the term's
pub kind_read : {s : Bytes} {i : ℕ} {k l : Kind} {e : Term} → kind_number k ≡ kind s i → At s i e → k ≡ l → kind_of e ≡ kind_number l
kind_read {e = e} is a h = sym (is ∙ stands_kind _ _ e a) ∙ ap kind_number h

pub alone_read : {s : Bytes} {i : ℕ} {k : Kind} {e : Term} → kind_number k ≡ kind s i → At s i e → (k ≡ Unit) ⊎ (k ≡ Literal) → IsAlone (kind_of e)
alone_read is a (inl h) = inl (kind_read is a h)
alone_read is a (inr h) = inr (kind_read is a h)

pub lone_read : {s : Bytes} {i : ℕ} {k : Kind} {e : Term} → kind_number k ≡ kind s i → At s i e → (k ≡ Variable) ⊎ (k ≡ Recursion)
    → (kind_of e ≡ kinds.variable) ⊎ (kind_of e ≡ kinds.recursion)
lone_read is a (inl h) = inl (kind_read is a h)
lone_read is a (inr h) = inr (kind_read is a h)

pub opened : {s : Bytes} {i : ℕ} {k : Kind} {e : Term} → kind_number k ≡ kind s i → (k ≡ Variable → ⊥) → (k ≡ Unit → ⊥) → (k ≡ Literal → ⊥) → (k ≡ Function → ⊥)
    → (k ≡ Recursion → ⊥) → At s i e → Opened s i k e
opened {k = k} {e = e} is v u l f r a =
    let q : kind_number k ≡ kind_of e = is ∙ stands_kind _ _ e a in
    record {
      stands = a;
      kind_is = q;
      evaluates = (
        λ h. v (same_kind k Variable (q ∙ h)),
        λ h. u (same_kind k Unit (q ∙ h)),
        λ h. l (same_kind k Literal (q ∙ h)),
        λ h. f (same_kind k Function (q ∙ h)),
        λ h. r (same_kind k Recursion (q ∙ h)),
      );
    }

module _ {s : Bytes} {i : ℕ} {k : Kind} {e : Term} (o : Opened s i k e) where
  pub is_kind : {l : Kind} → k ≡ l → kind_of e ≡ kind_number l
  is_kind h = sym o.kind_is ∙ ap kind_number h

  -- an injection, and what has one evaluated operand and is no value
  pub injects : (k ≡ FirstInjection) ⊎ (k ≡ SecondInjection) → IsTrue (kinds.is_injection (kind_of e))
  injects (inl h) = rw (is_kind h)
  injects (inr h) = rw (is_kind h)

  pub of_one : (k ≡ Protect) ⊎ ((k ≡ FirstProjection) ⊎ ((k ≡ SecondProjection) ⊎ (k ≡ Case))) → OfOne (kind_of e)
  of_one (inl h) = inl (is_kind h)
  of_one (inr (inl h)) = inr (inl (is_kind h))
  of_one (inr (inr (inl h))) = inr (inr (inl (is_kind h)))
  of_one (inr (inr (inr h))) = inr (inr (inr (is_kind h)))

  pub first_at : At s (i + 1) (first_operand e)
  first_at = position_at _ (first_position e o.evaluates _ refl) o.stands refl

  pub first_of : {m : ℕ} → m ≡ weight_at s i → Position e (first_operand e) 1 m
  first_of w = first_position e o.evaluates _ (w ∙ stands_weight o.stands)

pub record FirstValue (s : Bytes) (i : ℕ) (k : Kind) (e : Term) (next : ℕ) : Type 0 where
  pub own : Opened s i k e
  pub value : IsTrue (is_value (first_operand e))
  pub ends : next ≡ i + 1 + size (first_operand e)

pub first_value : {S : Security} {tab : ℕ → Ty} {s : Bytes} {i : ℕ} {k : Kind} {d next : ℕ} {e : Term} {a : Found} → Opened s i k e
    → Finds S tab (i + 1) d (first_operand e) a → a ≡ Value next → FirstValue s i k e next
first_value o f is = let v = value_found f is in record { own = o; value = v.0; ends = v.1 }

module _ {s : Bytes} {i : ℕ} {k : Kind} {next : ℕ} {e : Term} (f : FirstValue s i k e next) where
  pub second_of : (k ≡ FirstInjection → ⊥) → (k ≡ SecondInjection → ⊥) → (k ≡ FirstProjection → ⊥) → (k ≡ SecondProjection → ⊥) → (k ≡ Case → ⊥)
      → (k ≡ Protect → ⊥) → Second e
  second_of i j p q c m =
      let is = f.own.kind_is in
      second_position e f.own.evaluates (
        λ h. i (same_kind k FirstInjection (is ∙ h)),
        λ h. j (same_kind k SecondInjection (is ∙ h)),
        λ h. p (same_kind k FirstProjection (is ∙ h)),
        λ h. q (same_kind k SecondProjection (is ∙ h)),
        λ h. c (same_kind k Case (is ∙ h)),
        λ h. m (same_kind k Protect (is ∙ h)),
      ) f.value

  pub second_at : Second e → At s next (second_operand e)
  second_at x = position_at _ x.position f.own.stands (omega (arith, f.ends))

  -- no pair, with two values as operands
  pub both_turn : Second e → (k ≡ Pair → ⊥) → IsTrue (is_value (second_operand e)) → IsTrue (is_potential_redex e)
  both_turn x p = x.turns (λ h. p (same_kind k Pair (f.own.kind_is ∙ h)))
