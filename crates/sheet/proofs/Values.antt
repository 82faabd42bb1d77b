-- What a look finds at a term's record and at its operands.
use Rattle.std.proofs.Common.{◌≡◌, ℕ, ◌+◌, ◌≤◌, ◌<◌, Bool, true, false, cond, ◌&&◌, Option, Some, None, ◌⊎◌, inl, inr}
use Rattle.std.proofs.Common.{refl, sym, ap, ◌∙◌, true≢false, arith}
use Rattle.std.proofs.Math.Bool.{false≢true}
use Rattle.std.proofs.lemmas.Bool.Decides.{nat_tests}
use Rattle.calculus.specs.Security.{Property}
use Rattle.calculus.specs.Terms.{Side, first, second, choose, plus, less, Term, var, unit, lam, pair, inj, app, proj}
use Rattle.calculus.specs.Terms.{case, protect, mu, literal, reckon, is_value}
use Rattle.rules.specs.Answer.{Bytes}
use Rattle.rules.specs.Groups.{leq}
use Rattle.rules.specs.Script.{kind, size, r, is_object}
use Rattle.rules.proofs.PrefixLaws.{record_is}
use Rattle.rules.proofs.RecordFields.{r_is}
use Rattle.rules.proofs.TermCode.{term_code, term_head}
use Rattle.records.specs.Kinds as kinds
use Rattle.records.specs.Numbers.{kind_number}
use Rattle.records.specs.declared.Kind.{Kind}
use Rattle.records.specs.declared.Kind.TheVariants as the
use Rattle.records.specs.Place.{At}
use Rattle.records.specs.Operands.{first_operand, second_operand}
use Rattle.records.proofs.Stands.{kind_of, stands_kind, operands}
use Rattle.sheet.specs.Value.{lines, lines_if, value_found}
use Rattle.sheet.specs.declared.Reached.{Reached}

-- the kind that is read is the term's
pub kind_is : {s : Bytes} {i k : ℕ} (u : Term) → k ≡ kind s i → At s i u → k ≡ kind_of u
kind_is {s} {i} u e w = e ∙ stands_kind s i u w

-- a term as a walk over values sees it
pub data View : Term → Type 0 where
  other : {e : Term} → is_value e ≡ false → is_object (kind_of e) ≡ false → View e
  a_unit : {k : Property} → View (unit k)
  a_function : {k : Property} {i : ℕ} {e : Term} → View (lam k i e)
  a_literal : {k : Property} {n : ℕ} → View (literal k n)
  a_pair : {k : Property} {a b : Term} → View (pair k a b)
  injection : {d : Side} {k : Property} {i : ℕ} {e : Term} → kinds.first_injection ≤ choose d kinds.first_injection kinds.second_injection → choose d kinds.first_injection kinds.second_injection ≤ kinds.second_injection → View (inj d k i e)

pub view : (e : Term) → View e
unfolding is_value
view (var n) = other {e = var n} refl refl
view (unit k) = a_unit
view (lam k i e) = a_function
view (pair k a b) = a_pair
view (inj first k i e) = injection {d = first} (omega arith) (omega arith)
view (inj second k i e) = injection {d = second} (omega arith) (omega arith)
view (app w f a) = other {e = app w f a} refl refl
view (proj first w e) = other {e = proj first w e} refl refl
view (proj second w e) = other {e = proj second w e} refl refl
view (case w i e a b) = other {e = case w i e a b} refl refl
view (protect m e) = other {e = protect m e} refl refl
view (mu w i e) = other {e = mu w i e} refl refl
view (literal k n) = a_literal
view (reckon plus w a b) = other {e = reckon plus w a b} refl refl
view (reckon (less i) w a b) = other {e = reckon (less i) w a b} refl refl

-- the readers of an object: r of its own record
abbrev pub own : Term → ℕ
own e = r (term_head e) 0

pub own_at : (s : Bytes) (i : ℕ) (e : Term) → At s i e → r s i ≡ own e
own_at s i e w = sym (r_is s i) ∙ ap (λ (b : Bytes). r b 0) (record_is term_code s i e w.rest w.stands)

pub at_most_one : (b : Bool) → cond b 1 0 ≤ 1
at_most_one true = omega arith
at_most_one false = omega arith

at_most : (seen : Bool) (m n : ℕ) → m ≤ n → 1 + cond seen m 0 ≤ 1 + n
at_most true m n l = omega arith
at_most false m n l = omega arith

module _ (g : Bytes) (group : ℕ) where
  -- no more sheet records than records
  lines_at_most : (e : Term) → lines g group e ≤ size e
  unfolding lines size
  lines_at_most (pair k a b) = at_most (leq g k.r group) (lines g group a + lines g group b) (size a + size b) (omega (arith, lines_at_most a, lines_at_most b))
  lines_at_most (inj d k i e) = at_most (leq g k.r group) (lines g group e) (size e) (lines_at_most e)
  lines_at_most _ = omega arith

  pub lines_size : (shown : Bool) (e : Term) → lines_if g group shown e ≤ size e
  lines_size true e = lines_at_most e
  lines_size false e = omega arith

  module _ (shown : Bool) where
    pub looked_no : (e : Term) (i n : ℕ) → is_value e ≡ false → None ≡ value_found g group shown e i n
    unfolding value_found
    looked_no e i n h = rw h

    pub looked_yes : (e : Term) (i n : ℕ) (x : Reached) → is_value e ≡ true → x.next ≡ i + size e → x.line ≡ n + lines_if g group shown e
        → Some x ≡ value_found g group shown e i n
    unfolding value_found
    looked_yes e i n x h p q = rw (h, ← p, ← q)

    -- a value was found
    pub record ValueLines (e : Term) (i n : ℕ) (x : Reached) : Type 0 where
      pub value : is_value e ≡ true
      pub end : x.next ≡ i + size e
      pub count : x.line ≡ n + lines_if g group shown e

    pub found : (e : Term) (i n : ℕ) (x : Reached) → Some x ≡ value_found g group shown e i n → ValueLines e i n x
    unfolding value_found
    found e i n x h = go (is_value e) refl h
      where
        go : (b : Bool) → is_value e ≡ b → Some x ≡ cond b (Some (record { next = i + size e; line = n + lines_if g group shown e })) None → ValueLines e i n x
        go true v p = record { value = v; end = cc; count = cc }
        go false v p = absurd (cc)

    -- no value was found
    pub lost : (e : Term) (i n : ℕ) → None ≡ value_found g group shown e i n → is_value e ≡ false
    unfolding value_found
    lost e i n h = go (is_value e) refl h
      where
        go : (b : Bool) → is_value e ≡ b → ◌≡◌ {A = Option Reached} None (cond b (Some (record { next = i + size e; line = n + lines_if g group shown e })) None) → is_value e ≡ false
        go false v h = v
        go true v h = absurd (cc)

-- a pair's and the injections' kinds are an object's
object_with_parts : (k : ℕ) → kinds.function < k → k ≤ kinds.second_injection → is_object k ≡ true
object_with_parts k l m = grind (arith, nat_tests)

-- so a term of no object's kind has none of them
pub no_such_parts : {A : Type 0} (k : ℕ) → is_object k ≡ false → kinds.function < k → k ≤ kinds.second_injection → A
no_such_parts k n l m = absurd (false≢true (sym n ∙ object_with_parts k l m))

-- what is of no object's kind is no value
pub no_object : {e : Term} → View e → is_object (kind_of e) ≡ false → is_value e ≡ false
no_object (other v k) h = v
no_object a_unit h = absurd (true≢false h)
no_object a_function h = absurd (true≢false h)
no_object a_literal h = absurd (true≢false h)
no_object a_pair h = absurd (true≢false h)
no_object (injection {d = first} l m) h = absurd (true≢false h)
no_object (injection {d = second} l m) h = absurd (true≢false h)

-- units, functions, whatever the body, and literals
pub no_parts : (g : Bytes) (group : ℕ) (shown : Bool) {e : Term} → View e → is_object (kind_of e) ≡ true → (kinds.function < kind_of e → kinds.second_injection < kind_of e)
    → (is_value e ≡ true) × (lines_if g group shown e ≡ cond shown 1 0)
unfolding is_value lines
no_parts g group shown (other v k) o h = absurd (true≢false (sym o ∙ k))
no_parts g group shown a_pair o h = absurd (omega (arith, h (omega arith)))
no_parts g group shown (injection p q) o h = absurd (omega (arith, h (omega arith)))
no_parts g group shown _ o h = (refl, refl)

-- an injection: its part is the operand
pub record Injects (e : Term) : Type 0 where
  pub one : 1 ≤ operands e
  pub value : is_value e ≡ is_value (first_operand e)
  pub sized : size e ≡ 1 + size (first_operand e)
  pub counted : (g : Bytes) (group : ℕ) (shown : Bool)
      → lines_if g group shown e ≡ cond shown 1 0 + lines_if g group (shown && leq g (own e) group) (first_operand e)

-- a pair: its parts are both operands
pub record Pairs (e : Term) : Type 0 where
  pub two : 2 ≤ operands e
  pub value : is_value e ≡ (is_value (first_operand e) && is_value (second_operand e))
  pub sized : size e ≡ 1 + (size (first_operand e) + size (second_operand e))
  pub counted : (g : Bytes) (group : ℕ) (shown : Bool)
      → lines_if g group shown e
      ≡ cond shown 1 0 + (lines_if g group (shown && leq g (own e) group) (first_operand e) + lines_if g group (shown && leq g (own e) group) (second_operand e))

pub injects : {e : Term} → View e → kinds.function < kind_of e → kind_of e ≤ kinds.second_injection → (kind_of e ≡ kinds.pair → ⊥) → Injects e
unfolding is_value lines size
injects {e} (other v k) l m n = no_such_parts (kind_of e) k l m
injects a_unit l m n = absurd (omega arith)
injects a_function l m n = absurd (omega arith)
injects a_literal l m n = absurd (omega arith)
injects a_pair l m n = absurd (n refl)
injects (injection {d} {k} {i} {e = f} p q) l m n = record { one = omega arith; value = refl; sized = refl; counted = counts }
  where
    counts : (g : Bytes) (group : ℕ) (shown : Bool)
        → lines_if g group shown (inj d k i f) ≡ cond shown 1 0 + lines_if g group (shown && leq g k.r group) f
    counts g group true = refl
    counts g group false = refl

both_or_none : (seen : Bool) (a b : ℕ) → 1 + cond seen (a + b) 0 ≡ 1 + (cond seen a 0 + cond seen b 0)
both_or_none true a b = refl
both_or_none false a b = refl

pub pairs : {e : Term} → View e → kind_of e ≡ kinds.pair → Pairs e
unfolding is_value lines size
pairs {e} (other v k) h = no_such_parts (kind_of e) k (omega arith) (omega arith)
pairs (a_pair {k} {a} {b}) h = record { two = omega arith; value = refl; sized = refl; counted = counts }
  where
    counts : (g : Bytes) (group : ℕ) (shown : Bool)
        → lines_if g group shown (pair k a b)
        ≡ cond shown 1 0 + (lines_if g group (shown && leq g k.r group) a + lines_if g group (shown && leq g k.r group) b)
    counts g group true = both_or_none (leq g k.r group) (lines g group a) (lines g group b)
    counts g group false = refl
pairs (injection p q) h = absurd (omega arith)
pairs _ h = absurd (omega arith)

-- a pair and an injection have a first operand, and are no values unless it is one
pub first_part : {e : Term} → View e → kinds.function < kind_of e → kind_of e ≤ kinds.second_injection → (1 ≤ operands e) × (is_value (first_operand e) ≡ false → is_value e ≡ false)
unfolding is_value
first_part {e} (other v k) l m = no_such_parts (kind_of e) k l m
first_part a_pair l m = (omega arith, λ v. rw v)
first_part (injection p q) l m = (omega arith, λ v. v)
first_part _ l m = absurd (omega arith)

-- The look's answers, from the operands': `own_line` is the count with the object's record, `inside` whether its parts
-- are shown.
module _ (g : Bytes) (group : ℕ) (shown inside : Bool) (e : Term) (i n own_line : ℕ) (counts : own_line ≡ n + cond shown 1 0) (shows : inside ≡ (shown && leq g (own e) group)) where
  pub look_injection : Injects e → value_found g group inside (first_operand e) (i + 1) own_line ≡ value_found g group shown e i n
  unfolding value_found
  look_injection p =
      let a : i + 1 + size (first_operand e) ≡ i + size e = omega (arith, p.sized) in
      let c = p.counted g group shown ∙ ap (λ (b : Bool). cond shown 1 0 + lines_if g group b (first_operand e)) (sym shows) in
      let b : own_line + lines_if g group inside (first_operand e) ≡ n + lines_if g group shown e = omega (arith, c, counts) in
      rw (p.value, a, b)

  pub look_pair : (x : Reached) → Pairs e → ValueLines g group inside (first_operand e) (i + 1) own_line x → value_found g group inside (second_operand e) x.next x.line ≡ value_found g group shown e i n
  unfolding value_found
  look_pair x p f =
      let a : x.next + size (second_operand e) ≡ i + size e = omega (arith, p.sized, f.end) in
      let c = p.counted g group shown ∙ ap (λ (b : Bool). cond shown 1 0 + (lines_if g group b (first_operand e) + lines_if g group b (second_operand e))) (sym shows) in
      let b : x.line + lines_if g group inside (second_operand e) ≡ n + lines_if g group shown e = omega (arith, c, f.count, counts) in
      rw (p.value, f.value, a, b)

-- what the walks ask of an object's kind
pub plain : {k : Kind} → (k ≡ the.Unit) ⊎ ((k ≡ the.Function) ⊎ (k ≡ the.Literal))
    → (is_object (kind_number k) ≡ true) × (kinds.function < kind_number k → kinds.second_injection < kind_number k)
plain (inl e) = rw e (refl, λ l. omega arith)
plain (inr (inl e)) = rw e (refl, λ l. omega arith)
plain (inr (inr e)) = rw e (refl, λ l. omega arith)

pub of_injection : {k : Kind} → (k ≡ the.FirstInjection) ⊎ (k ≡ the.SecondInjection)
    → (kinds.function < kind_number k) × (kind_number k ≤ kinds.second_injection) × (kind_number k ≡ kinds.pair → ⊥)
of_injection (inl e) = rw e (omega arith, omega arith, λ h. omega arith)
of_injection (inr e) = rw e (omega arith, omega arith, λ h. omega arith)

-- a kind that is none of a pair's and the injections'
pub no_parts_kind : (k : Kind) → (k ≡ the.Pair → ⊥) → (k ≡ the.FirstInjection → ⊥) → (k ≡ the.SecondInjection → ⊥) → kinds.function < kind_number k
    → kinds.second_injection < kind_number k
no_parts_kind the.Variable a b c l = absurd (omega arith)
no_parts_kind the.Unit a b c l = absurd (omega arith)
no_parts_kind the.Function a b c l = absurd (omega arith)
no_parts_kind the.Pair a b c l = absurd (a refl)
no_parts_kind the.FirstInjection a b c l = absurd (b refl)
no_parts_kind the.SecondInjection a b c l = absurd (c refl)
no_parts_kind the.Application a b c l = omega arith
no_parts_kind the.FirstProjection a b c l = omega arith
no_parts_kind the.SecondProjection a b c l = omega arith
no_parts_kind the.Case a b c l = omega arith
no_parts_kind the.Protect a b c l = omega arith
no_parts_kind the.Recursion a b c l = omega arith
no_parts_kind the.Literal a b c l = omega arith
no_parts_kind the.Sum a b c l = omega arith
no_parts_kind the.Less a b c l = omega arith

-- and none of the unit's, the function's and the literal's either
pub no_object_kind : (k : Kind) → (k ≡ the.Unit → ⊥) → (k ≡ the.Function → ⊥) → (k ≡ the.Literal → ⊥) → (k ≡ the.Pair → ⊥) → (k ≡ the.FirstInjection → ⊥)
    → (k ≡ the.SecondInjection → ⊥) → is_object (kind_number k) ≡ false
no_object_kind the.Variable u f n a b c = refl
no_object_kind the.Unit u f n a b c = absurd (u refl)
no_object_kind the.Function u f n a b c = absurd (f refl)
no_object_kind the.Pair u f n a b c = absurd (a refl)
no_object_kind the.FirstInjection u f n a b c = absurd (b refl)
no_object_kind the.SecondInjection u f n a b c = absurd (c refl)
no_object_kind the.Application u f n a b c = refl
no_object_kind the.FirstProjection u f n a b c = refl
no_object_kind the.SecondProjection u f n a b c = refl
no_object_kind the.Case u f n a b c = refl
no_object_kind the.Protect u f n a b c = refl
no_object_kind the.Recursion u f n a b c = refl
no_object_kind the.Literal u f n a b c = absurd (n refl)
no_object_kind the.Sum u f n a b c = refl
no_object_kind the.Less u f n a b c = refl
