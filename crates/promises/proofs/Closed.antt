-- What stands inside closed objects doesn't reach a sheet, and all else does.
use Rattle.std.proofs.Common.{◌≡◌, refl, sym, ap, subst, ◌∙◌, Bool, true, false, [], ◌∷◌, ◌++◌, append_assoc, ℕ, ◌≤◌}
use Rattle.std.proofs.Common.{◌/◌, ◌%◌, arith}
use Rattle.std.proofs.Math.Bool.{and-eq-true_iff, false≢true}
use Rattle.calculus.specs.Security.{Property}
use Rattle.calculus.specs.Terms.{Side, choose, Term, unit, lam, pair, inj, literal, is_value}
use Rattle.rules.specs.Answer.{Bytes}
use Rattle.rules.specs.Groups.{leq}
use Rattle.rules.specs.Script.{term}
use Rattle.rules.specs.Sheet.{sheet}
use Rattle.rules.specs.Calls.{sheet_call}
use Rattle.promises.specs.Closed.{Closed, closed_unit, closed_function, closed_pair, closed_injection, closed_literal}
use Rattle.promises.specs.Closed.{SameReaders, AlikeOutside, closed_in_both, units, functions, pairs, injections}
use Rattle.promises.specs.Closed.{literals, ClosedObjectsClose}

module _ (g : Bytes) (group : ℕ) where
  -- a closed object is one record, whatever it is
  closed_sheet : {e : Term} → Closed g group e → sheet g group e ≡ 5 ∷ 0 ∷ 0 ∷ 0 ∷ 0 ∷ 0 ∷ []
  unfolding sheet
  closed_sheet n = grind arith

  alike_sheets : {a b : Term} → AlikeOutside g group a b → sheet g group a ≡ sheet g group b
  unfolding sheet
  alike_sheets (closed_in_both h h') = closed_sheet h ∙ sym (closed_sheet h')
  alike_sheets (units c) = rw (c.0, c.1)
  alike_sheets (functions c) = rw (c.0, c.1)
  alike_sheets (pairs c h h') = rw (c.0, c.1, alike_sheets h, alike_sheets h')
  alike_sheets (injections c h) = rw (c.0, c.1, alike_sheets h)
  alike_sheets (literals c) = rw (c.0, c.1)

  -- a value as a sheet sees it
  data View : Term → Type 0 where
    hidden : {e : Term} → Closed g group e → View e
    open_unit : {k : Property} → leq g k.r group ≡ true → View (unit k)
    open_function : {k : Property} {i : ℕ} {e : Term} → leq g k.r group ≡ true → View (lam k i e)
    open_pair : {k : Property} {a b : Term} → leq g k.r group ≡ true → is_value a ≡ true → is_value b ≡ true → View (pair k a b)
    open_injection : {d : Side} {k : Property} {i : ℕ} {e : Term} → leq g k.r group ≡ true → is_value e ≡ true → View (inj d k i e)
    open_literal : {k : Property} {n : ℕ} → leq g k.r group ≡ true → View (literal k n)

  view : (e : Term) → is_value e ≡ true → View e
  unfolding is_value
  view (unit k) v = by (leq g k.r group) refl
    where
      by : (b : Bool) → leq g k.r group ≡ b → View (unit k)
      by true h = open_unit h
      by false h = hidden (closed_unit h)
  view (lam k i e) v = by (leq g k.r group) refl
    where
      by : (b : Bool) → leq g k.r group ≡ b → View (lam k i e)
      by true h = open_function h
      by false h = hidden (closed_function h)
  view (pair k a b) v = by (leq g k.r group) refl
    where
      both : (is_value a ≡ true) × (is_value b ≡ true)
      both = (and-eq-true_iff (is_value a) (is_value b)).0 v

      by : (t : Bool) → leq g k.r group ≡ t → View (pair k a b)
      by true h = open_pair h both.0 both.1
      by false h = hidden (closed_pair h)
  view (inj d k i e) v = by (leq g k.r group) refl
    where
      by : (b : Bool) → leq g k.r group ≡ b → View (inj d k i e)
      by true h = open_injection h v
      by false h = hidden (closed_injection h)
  view (literal k n) v = by (leq g k.r group) refl
    where
      by : (b : Bool) → leq g k.r group ≡ b → View (literal k n)
      by true h = open_literal h
      by false h = hidden (closed_literal h)
  view _ v = absurd (false≢true v)

  -- the sheet that a view gives
  abbrev seen : {e : Term} → View e → Bytes
  seen (hidden h) = 5 ∷ 0 ∷ 0 ∷ 0 ∷ 0 ∷ 0 ∷ []
  seen (open_unit {k} h) = 0 ∷ k.r ∷ k.ir ∷ 0 ∷ 0 ∷ 0 ∷ []
  seen (open_function {k} h) = 4 ∷ k.r ∷ k.ir ∷ 0 ∷ 0 ∷ 0 ∷ []
  seen (open_pair {k} {a} {b} h p q) = 3 ∷ k.r ∷ k.ir ∷ 0 ∷ 0 ∷ 0 ∷ (sheet g group a ++ sheet g group b)
  seen (open_injection {d} {k} {i} {e} h p) = choose d 1 2 ∷ k.r ∷ k.ir ∷ 0 ∷ 0 ∷ 0 ∷ sheet g group e
  seen (open_literal {k} {n} h) = 6 ∷ k.r ∷ k.ir ∷ 0 ∷ n % 256 ∷ n / 256 ∷ []

  is_seen : {e : Term} (v : View e) → sheet g group e ≡ seen v
  unfolding sheet
  is_seen (hidden h) = closed_sheet h
  is_seen (open_unit h) = rw h
  is_seen (open_function h) = rw h
  is_seen (open_pair h p q) = rw h
  is_seen (open_injection h p) = rw h
  is_seen (open_literal h) = rw h

  -- what the bytes of a sheet tell: a value but for what is closed, and what follows it
  record Read (a b : Term) (x y : Bytes) : Type 0 where
    alike : AlikeOutside g group a b
    rest : x ≡ y

  abbrev Readable : Term → Type 0
  Readable a = (b : Term) → is_value b ≡ true → (x y : Bytes) → sheet g group a ++ x ≡ sheet g group b ++ y → Read a b x y

  -- of the parts that are shown
  abbrev Parts : {e : Term} → View e → Type 0
  Parts (open_pair {k} {a} {b} h p q) = Readable a × Readable b
  Parts (open_injection {d} {k} {i} {e} h p) = Readable e
  Parts _ = Unit

  apart : {a b : Term} {x y xs ys : Bytes} (m n : ℕ) → m ∷ xs ≡ n ∷ ys → (m ≡ n → ⊥) → Read a b x y
  apart m n e d = absurd (d cc)

  side_kind : (d : Side) → (1 ≤ choose d 1 2) × (choose d 1 2 ≤ 2)
  side_kind d = grind arith

  same_side : (d d' : Side) → ◌≡◌ {A = ℕ} (choose d 1 2) (choose d' 1 2) → d ≡ d'
  same_side d d' e = grind arith

  -- the fields of two first records, and what follows them
  module _ {r ir r' ir' m n lo hi lo' hi' : ℕ} {xs ys : Bytes} (e : m ∷ r ∷ ir ∷ 0 ∷ lo ∷ hi ∷ xs ≡ n ∷ r' ∷ ir' ∷ 0 ∷ lo' ∷ hi' ∷ ys) where
    readers_same : (r ≡ r') × (ir ≡ ir')
    readers_same = (cc, cc)

    kinds_same : m ≡ n
    kinds_same = cc

    numbers_same : (lo ≡ lo') × (hi ≡ hi')
    numbers_same = (cc, cc)

    rests_same : xs ≡ ys
    rests_same = cc

  of_units : {k l : Property} {x y : Bytes} → SameReaders k l → x ≡ y → Read (unit k) (unit l) x y
  of_units c r = record { alike = units c; rest = r }

  of_functions : {k l : Property} {i j : ℕ} {e f : Term} {x y : Bytes} → SameReaders k l → x ≡ y → Read (lam k i e) (lam l j f) x y
  of_functions c r = record { alike = functions c; rest = r }

  of_pairs : {k l : Property} {a b a' b' : Term} {x y : Bytes} → SameReaders k l → Readable a → Readable b → is_value a' ≡ true → is_value b' ≡ true
      → (sheet g group a ++ sheet g group b) ++ x ≡ (sheet g group a' ++ sheet g group b') ++ y → Read (pair k a b) (pair l a' b') x y
  of_pairs {k} {l} {a} {b} {a'} {b'} {x} {y} c left right p q e =
      let whole = sym (append_assoc (sheet g group a) (sheet g group b) x) ∙ e ∙ append_assoc (sheet g group a') (sheet g group b') y in
      let one = left a' p (sheet g group b ++ x) (sheet g group b' ++ y) whole in
      let two = right b' q x y one.rest in
      record { alike = pairs c one.alike two.alike; rest = two.rest }

  of_injections : {d d' : Side} {k l : Property} {i j : ℕ} {e f : Term} {x y : Bytes} → d ≡ d' → SameReaders k l → Read e f x y
      → Read (inj d k i e) (inj d' l j f) x y
  of_injections {d} {d'} {k} {l} {i} {j} {e} {f} s c r =
      record { alike = subst (λ (o : Side). AlikeOutside g group (inj d k i e) (inj o l j f)) s (injections c r.alike); rest = r.rest }

  same_number : (m n : ℕ) → (m % 256 ≡ n % 256) × (m / 256 ≡ n / 256) → m ≡ n
  same_number m n h = omega (arith, h.0, h.1)

  of_literals : {k l : Property} {m n : ℕ} {x y : Bytes} → m ≡ n → SameReaders k l → x ≡ y → Read (literal k m) (literal l n) x y
  of_literals {k} {l} {m} s c r = record { alike = subst (λ (o : ℕ). AlikeOutside g group (literal k m) (literal l o)) s (literals c); rest = r }

  read_seen : {a b : Term} (v : View a) (w : View b) → Parts v → (x y : Bytes) → seen v ++ x ≡ seen w ++ y → Read a b x y
  read_seen (hidden h) (hidden h') ih x y e = record { alike = closed_in_both h h'; rest = cc }
  read_seen (hidden h) (open_unit h') ih x y e = apart 5 0 e (λ z. omega arith)
  read_seen (hidden h) (open_function h') ih x y e = apart 5 4 e (λ z. omega arith)
  read_seen (hidden h) (open_pair h' p' q') ih x y e = apart 5 3 e (λ z. omega arith)
  read_seen (hidden h) (open_injection {d = d'} h' p') ih x y e = apart 5 (choose d' 1 2) e (λ z. omega (arith, side_kind d'))
  read_seen (open_unit h) (hidden h') ih x y e = apart 0 5 e (λ z. omega arith)
  read_seen (open_unit h) (open_unit h') ih x y e = of_units (readers_same e) (rests_same e)
  read_seen (open_unit h) (open_function h') ih x y e = apart 0 4 e (λ z. omega arith)
  read_seen (open_unit h) (open_pair h' p' q') ih x y e = apart 0 3 e (λ z. omega arith)
  read_seen (open_unit h) (open_injection {d = d'} h' p') ih x y e = apart 0 (choose d' 1 2) e (λ z. omega (arith, side_kind d'))
  read_seen (open_function h) (hidden h') ih x y e = apart 4 5 e (λ z. omega arith)
  read_seen (open_function h) (open_unit h') ih x y e = apart 4 0 e (λ z. omega arith)
  read_seen (open_function h) (open_function h') ih x y e = of_functions (readers_same e) (rests_same e)
  read_seen (open_function h) (open_pair h' p' q') ih x y e = apart 4 3 e (λ z. omega arith)
  read_seen (open_function h) (open_injection {d = d'} h' p') ih x y e = apart 4 (choose d' 1 2) e (λ z. omega (arith, side_kind d'))
  read_seen (open_pair h p q) (hidden h') ih x y e = apart 3 5 e (λ z. omega arith)
  read_seen (open_pair h p q) (open_unit h') ih x y e = apart 3 0 e (λ z. omega arith)
  read_seen (open_pair h p q) (open_function h') ih x y e = apart 3 4 e (λ z. omega arith)
  read_seen (open_pair h p q) (open_pair h' p' q') ih x y e = of_pairs (readers_same e) ih.0 ih.1 p' q' (rests_same e)
  read_seen (open_pair h p q) (open_injection {d = d'} h' p') ih x y e = apart 3 (choose d' 1 2) e (λ z. omega (arith, side_kind d'))
  read_seen (open_injection {d} h p) (hidden h') ih x y e = apart (choose d 1 2) 5 e (λ z. omega (arith, side_kind d))
  read_seen (open_injection {d} h p) (open_unit h') ih x y e = apart (choose d 1 2) 0 e (λ z. omega (arith, side_kind d))
  read_seen (open_injection {d} h p) (open_function h') ih x y e = apart (choose d 1 2) 4 e (λ z. omega (arith, side_kind d))
  read_seen (open_injection {d} h p) (open_pair h' p' q') ih x y e = apart (choose d 1 2) 3 e (λ z. omega (arith, side_kind d))
  read_seen (open_injection {d} h p) (open_injection {d = d'} h' p') ih x y e = of_injections (same_side d d' (kinds_same e)) (readers_same e) (ih _ p' x y (rests_same e))
  read_seen (hidden h) (open_literal h') ih x y e = apart 5 6 e (λ z. omega arith)
  read_seen (open_unit h) (open_literal h') ih x y e = apart 0 6 e (λ z. omega arith)
  read_seen (open_function h) (open_literal h') ih x y e = apart 4 6 e (λ z. omega arith)
  read_seen (open_pair h p q) (open_literal h') ih x y e = apart 3 6 e (λ z. omega arith)
  read_seen (open_injection {d} h p) (open_literal h') ih x y e = apart (choose d 1 2) 6 e (λ z. omega (arith, side_kind d))
  read_seen (open_literal h) (hidden h') ih x y e = apart 6 5 e (λ z. omega arith)
  read_seen (open_literal h) (open_unit h') ih x y e = apart 6 0 e (λ z. omega arith)
  read_seen (open_literal h) (open_function h') ih x y e = apart 6 4 e (λ z. omega arith)
  read_seen (open_literal h) (open_pair h' p' q') ih x y e = apart 6 3 e (λ z. omega arith)
  read_seen (open_literal h) (open_injection {d = d'} h' p') ih x y e = apart 6 (choose d' 1 2) e (λ z. omega (arith, side_kind d'))
  read_seen (open_literal {n = m} h) (open_literal {n = n} h') ih x y e = of_literals (same_number m n (numbers_same e)) (readers_same e) (rests_same e)

  unit_parts : {k : Property} (v : View (unit k)) → Parts v
  unit_parts (hidden h) = tt
  unit_parts (open_unit h) = tt

  function_parts : {k : Property} {i : ℕ} {e : Term} (v : View (lam k i e)) → Parts v
  function_parts (hidden h) = tt
  function_parts (open_function h) = tt

  literal_parts : {k : Property} {n : ℕ} (v : View (literal k n)) → Parts v
  literal_parts (hidden h) = tt
  literal_parts (open_literal h) = tt

  pair_parts : {k : Property} {a b : Term} → Readable a → Readable b → (v : View (pair k a b)) → Parts v
  pair_parts f s (hidden h) = tt
  pair_parts f s (open_pair h p q) = (f, s)

  injection_parts : {d : Side} {k : Property} {i : ℕ} {e : Term} → Readable e → (v : View (inj d k i e)) → Parts v
  injection_parts f (hidden h) = tt
  injection_parts f (open_injection h p) = f

  by_view : {a : Term} (v : View a) → Parts v → Readable a
  by_view v ih b q x y e = read_seen v (view b q) ih x y (ap (λ (s : Bytes). s ++ x) (sym (is_seen v)) ∙ e ∙ ap (λ (s : Bytes). s ++ y) (is_seen (view b q)))

  readable : (a : Term) → is_value a ≡ true → Readable a
  unfolding is_value
  readable (unit k) p = let v = view (unit k) p in by_view v (unit_parts v)
  readable (lam k i e) p = let v = view (lam k i e) p in by_view v (function_parts v)
  readable (pair k a b) p =
      let both = (and-eq-true_iff (is_value a) (is_value b)).0 p in
      let v = view (pair k a b) p in
      by_view v (pair_parts (readable a both.0) (readable b both.1) v)
  readable (inj d k i e) p = let v = view (inj d k i e) p in by_view v (injection_parts (readable e p) v)
  readable (literal k n) p = let v = view (literal k n) p in by_view v (literal_parts v)
  readable _ p = absurd (false≢true p)

  read_back : (a b : Term) → is_value a ≡ true → is_value b ≡ true → sheet g group a ≡ sheet g group b → AlikeOutside g group a b
  read_back a b p q e = (readable a p b q [] [] (ap (λ (s : Bytes). s ++ []) e)).alike

pub closed_objects_close : ClosedObjectsClose
unfolding ClosedObjectsClose sheet_call
closed_objects_close g t s s' group p p' v v' =
    record {
      equal_when = (read_back g group (term s) (term s') v v', alike_sheets g group);
      equal_answers = λ h room. rw (p, p', v, v', alike_sheets g group h);
    }
