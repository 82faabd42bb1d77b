-- Questions 15 and 16 of a node, in the words of the tree: its labels are groups with ir ⊑ r, and the types that it
-- names exist.
use Rattle.std.proofs.Common.{◌≡◌, refl, sym, subst, Bool, true, ◌&&◌, ◌||◌, ℕ, ◌+◌, ◌*◌, ◌/◌, ◌%◌, ◌<◌, ltb-true}
use Rattle.std.proofs.Common.{lt-ltb, eqb-true, eq-eqb, nat_eq, nat_lt, IsTrue, arith}
use Rattle.std.proofs.Math.Bool.{and-eq-true_iff}
use Rattle.calculus.specs.Security.{Property, Indirect}
use Rattle.calculus.specs.Terms.{first, second, plus, less, Term, var, unit, lam, pair, inj, app, proj, case, protect}
use Rattle.calculus.specs.Terms.{mu, literal, reckon}
use Rattle.calculus.specs.Typing.{finds_own}
use Rattle.rules.specs.Answer.{Bytes}
use Rattle.rules.specs.Groups.{rows, leq}
use Rattle.rules.specs.Types.{type_count, type_kind}
use Rattle.rules.specs.Script.{sum_of_units, ok15, ok16}
use Rattle.rules.proofs.TermCode.{term_head, two_bytes}

module _ (g : Bytes) where
  abbrev pub Label : Property → Type 0
  Label k = (k.r < rows g) × (k.ir < rows g) × (k.c < rows g) × (k.ic < rows g) × IsTrue (leq g k.ir k.r)

  abbrev pub Labelled : Term → Type 0
  Labelled (var n) = Unit {0}
  Labelled (unit k) = Label k
  Labelled (lam k i e) = Label k
  Labelled (pair k a b) = Label k
  Labelled (inj d k i e) = Label k
  Labelled (app w f a) = w < rows g
  Labelled (proj d w e) = w < rows g
  Labelled (case w i e a b) = w < rows g
  Labelled (protect m e) = (m.ir < rows g) × (m.ic < rows g)
  Labelled (mu w i e) = w < rows g
  Labelled (literal k n) = Label k
  Labelled (reckon o w a b) = w < rows g

  abbrev Asked : Property → Bool
  Asked k = nat_lt k.r (rows g) && (nat_lt k.ir (rows g) && (nat_lt k.c (rows g) && (nat_lt k.ic (rows g) && leq g k.ir k.r)))

  label : (k : Property) → Asked k ≡ true → Label k
  label k h =
      let a = (and-eq-true_iff _ _).0 h in
      let b = (and-eq-true_iff _ _).0 a.1 in
      let c = (and-eq-true_iff _ _).0 b.1 in
      let d = (and-eq-true_iff _ _).0 c.1 in
      (ltb-true k.r (rows g) a.0, ltb-true k.ir (rows g) b.0, ltb-true k.c (rows g) c.0, ltb-true k.ic (rows g) d.0, d.1)

  two_groups : (m : Indirect) → (nat_lt m.ir (rows g) && (nat_lt m.ic (rows g) && true)) ≡ true → (m.ir < rows g) × (m.ic < rows g)
  two_groups m h = grind arith

  group : (w : ℕ) → (nat_lt w (rows g) && true) ≡ true → w < rows g
  group w h = ltb-true w (rows g) ((and-eq-true_iff _ _).0 h).0

  pub labelled : (c : Term) → ok15 g (term_head c) 0 ≡ true → Labelled c
  unfolding ok15
  labelled (var n) h = tt
  labelled (unit k) h = label k h
  labelled (lam k i e) h = label k h
  labelled (pair k a b) h = label k h
  labelled (inj first k i e) h = label k h
  labelled (inj second k i e) h = label k h
  labelled (app w f a) h = group w h
  labelled (proj first w e) h = group w h
  labelled (proj second w e) h = group w h
  labelled (case w i e a b) h = group w h
  labelled (protect m e) h = two_groups m h
  labelled (mu w i e) h = group w h
  labelled (literal k n) h = label k h
  labelled (reckon plus w a b) h = group w h
  labelled (reckon (less i) w a b) h = group w h

  pub labelled_ok15 : (c : Term) → Labelled c → ok15 g (term_head c) 0 ≡ true
  unfolding ok15
  labelled_ok15 c h = grind arith

module _ (t : Bytes) where
  -- the type with this index is of a kind
  abbrev pub OfKind : ℕ → ℕ → Type 0
  OfKind k i = (i < type_count t) × (type_kind t i ≡ k)

  -- and that of a sum of two units
  abbrev pub OfUnits : ℕ → Type 0
  OfUnits i = (i < type_count t) × (sum_of_units t i ≡ true)

  abbrev pub Named : Term → Type 0
  Named (lam k i e) = i < type_count t
  Named (inj d k i e) = OfKind 1 i
  Named (case w i e a b) = (finds_own i || nat_lt i (type_count t)) ≡ true
  Named (mu w i e) = OfKind 3 i
  Named (reckon (less i) w a b) = OfUnits i
  Named _ = Unit {0}

  -- the number as its record holds it
  abbrev Stored : (ℕ → Bool) → ℕ → Type 0
  Stored test i = test (i % 256 + 256 * (i / 256)) ≡ true

  stored : (test : ℕ → Bool) (i : ℕ) → Stored test i → test i ≡ true
  stored test i = subst (λ n. test n ≡ true) (two_bytes i)

  abbrev exists : ℕ → Bool
  exists n = nat_lt n (type_count t) && true

  abbrev is_kind : ℕ → ℕ → Bool
  is_kind k n = nat_lt n (type_count t) && (nat_eq (type_kind t n) k && true)

  abbrev is_of_units : ℕ → Bool
  is_of_units n = nat_lt n (type_count t) && sum_of_units t n

  abbrev found_or_exists : ℕ → Bool
  found_or_exists n = (finds_own n || nat_lt n (type_count t)) && true

  finding : (i : ℕ) → Stored found_or_exists i → (finds_own i || nat_lt i (type_count t)) ≡ true
  finding i h = ((and-eq-true_iff (finds_own i || nat_lt i (type_count t)) true).0 (stored found_or_exists i h)).0

  existing : (i : ℕ) → Stored exists i → i < type_count t
  existing i h = ltb-true i (type_count t) ((and-eq-true_iff _ _).0 (stored exists i h)).0

  of_kind : (k i : ℕ) → Stored (is_kind k) i → OfKind k i
  of_kind k i h =
      let a = (and-eq-true_iff _ _).0 (stored (is_kind k) i h) in
      (ltb-true i (type_count t) a.0, eqb-true (type_kind t i) k ((and-eq-true_iff _ _).0 a.1).0)

  of_units : (i : ℕ) → Stored is_of_units i → OfUnits i
  of_units i h =
      let a = (and-eq-true_iff (nat_lt i (type_count t)) (sum_of_units t i)).0 (stored is_of_units i h) in
      (ltb-true i (type_count t) a.0, a.1)

  pub named : (c : Term) → ok16 t (term_head c) 0 ≡ true → Named c
  unfolding ok16
  named (lam k i e) h = existing i h
  named (inj first k i e) h = of_kind 1 i h
  named (inj second k i e) h = of_kind 1 i h
  named (proj first w e) h = tt
  named (case w i e a b) h = finding i h
  named (mu w i e) h = of_kind 3 i h
  named (reckon (less i) w a b) h = of_units i h
  named _ h = tt

  pub named_ok16 : (c : Term) → Named c → ok16 t (term_head c) 0 ≡ true
  unfolding ok16
  named_ok16 c h = grind arith
