-- A value's sheet from its object's record and, where it is open, the sheets of its parts.
use Rattle.std.proofs.Common.{◌≡◌, refl, sym, ap, subst, ◌∙◌, Bool, true, false, cond, [], ◌++◌, ℕ, ◌+◌, ◌*◌, ◌≤◌, ◌<◌}
use Rattle.std.proofs.Common.{arith, length, length-append}
use Rattle.std.proofs.Math.Bool.{false≢true, and-eq-true_iff}
use Rattle.calculus.specs.Security.{Property}
use Rattle.calculus.specs.Terms.{first, second, choose, Term, var, unit, lam, pair, inj, app, proj, case, protect, mu}
use Rattle.calculus.specs.Terms.{literal, reckon, is_value}
use Rattle.rules.specs.Answer.{Bytes}
use Rattle.rules.specs.Limits.{sheet_width}
use Rattle.rules.specs.Groups.{leq}
use Rattle.rules.specs.Script.{records, size, r}
use Rattle.rules.specs.Sheet.{sheet, sheet_record, shown_record}
use Rattle.rules.proofs.PrefixLaws.{record_is}
use Rattle.rules.proofs.RecordFields.{kind_is, r_is, ir_is, number_is}
use Rattle.rules.proofs.TermCode.{term_code, term_head, two_bytes}
use Rattle.records.specs.Kinds as kinds
use Rattle.records.specs.Place.{At}
use Rattle.records.specs.Operands.{first_operand, second_operand}
use Rattle.records.proofs.Stands.{kind_of, there, at_first, at_second}
use Rattle.memory.specs.Written.{Room, Written}
use Rattle.memory.specs.declared.Writer.{Writer}
use Rattle.memory.proofs.Placed.{then, room_first, room_next}
use Rattle.sheet.specs.Shown.{shown_line, shown_kind}
use Rattle.sheet.specs.Value.{lines, SheetRoom}
use Rattle.sheet.proofs.Values.{View, other, a_unit, a_function, a_literal, a_pair, injection, view, own, Pairs, pairs}
use Rattle.sheet.proofs.Values.{first_part, no_such_parts}

-- the line of the object at record i for a reader group
abbrev pub shown : Bytes → ℕ → Bytes → ℕ → Bytes
shown g group s i = shown_line (leq g (r s i) group) s i

-- a closed object's record is all of its sheet
with_parts : (told : Bool) (k r ir : ℕ) (parts : Bytes) (n : ℕ) → length parts ≡ sheet_width * n
    → length (cond told (shown_record k r ir 0) (shown_record 5 0 0 0) ++ cond told parts []) ≡ sheet_width * (1 + cond told n 0)
with_parts true k r ir parts n h = omega (arith, h)
with_parts false k r ir parts n h = refl

without_parts : (told : Bool) (k r ir n : ℕ) → length (cond told (shown_record k r ir n) (shown_record 5 0 0 0)) ≡ sheet_width
without_parts true k r ir n = refl
without_parts false k r ir n = refl

pub sheet_length : (g : Bytes) (group : ℕ) (e : Term) → length (sheet g group e) ≡ sheet_width * lines g group e
unfolding sheet lines
sheet_length g group (unit k) = without_parts (leq g k.r group) 0 k.r k.ir 0
sheet_length g group (lam k i e) = without_parts (leq g k.r group) 4 k.r k.ir 0
sheet_length g group (pair k a b) =
    with_parts (leq g k.r group) 3 k.r k.ir (sheet g group a ++ sheet g group b) (lines g group a + lines g group b)
    (omega (arith, length-append (sheet g group a) (sheet g group b), sheet_length g group a, sheet_length g group b))
sheet_length g group (inj d k i e) = with_parts (leq g k.r group) (choose d 1 2) k.r k.ir (sheet g group e) (lines g group e) (sheet_length g group e)
sheet_length g group (literal k n) = without_parts (leq g k.r group) 6 k.r k.ir n
sheet_length g group _ = refl

-- what the object's record tells stands in the script
pub shown_at : (g : Bytes) (group : ℕ) (s : Bytes) (i : ℕ) (e : Term) → At s i e → shown g group s i ≡ shown g group (term_head e) 0
unfolding shown_kind shown_line
shown_at g group s i e w =
    rw (← kind_is s i, ← r_is s i, ← ir_is s i, ← number_is s i) refl
    ∙ ap (λ (b : Bytes). shown g group b 0) (record_is term_code s i e w.rest w.stands)

module _ (g : Bytes) (group : ℕ) where
  abbrev Open : Term → Type 0
  Open e = leq g (own e) group ≡ true

  -- a literal's number is read back from its record
  literal_sheet : (k : Property) (n : ℕ) → shown g group (term_head (literal k n)) 0 ≡ sheet g group (literal k n)
  unfolding sheet shown_line shown_kind
  literal_sheet k n = ap (λ (m : ℕ). sheet_record g group 6 k m) (two_bytes n)

  -- the object's record is all of its sheet
  abbrev pub Alone : Term → Type 0
  Alone e = shown g group (term_head e) 0 ≡ sheet g group e

  -- of a unit, a function and a literal
  pub without : {e : Term} → View e → is_value e ≡ true → (kinds.function < kind_of e → kinds.second_injection < kind_of e) → Alone e
  unfolding sheet shown_line shown_kind
  without (other n k) v l = absurd (false≢true (sym n ∙ v))
  without a_unit v l = refl
  without a_function v l = refl
  without (a_literal {k} {n}) v l = literal_sheet k n
  without a_pair v l = absurd (omega (arith, l (omega arith)))
  without (injection p q) v l = absurd (omega (arith, l (omega arith)))

  -- and of a closed object of any kind
  pub closed : {e : Term} → View e → is_value e ≡ true → leq g (own e) group ≡ false → Alone e
  unfolding sheet shown_line shown_kind
  closed (other n k) v h = absurd (false≢true (sym n ∙ v))
  closed a_unit v h = refl
  closed a_function v h = refl
  closed (a_literal {k} {n}) v h = literal_sheet k n
  closed a_pair v h = rw h
  closed (injection p q) v h = rw h

  -- the sheet of an open pair or injection goes on with its parts
  pub sheet_injection : {e : Term} → View e → Open e → kinds.function < kind_of e → kind_of e ≤ kinds.second_injection → (kind_of e ≡ kinds.pair → ⊥)
      → shown g group (term_head e) 0 ++ sheet g group (first_operand e) ≡ sheet g group e
  unfolding sheet shown_line shown_kind
  sheet_injection {e} (other v k) o l m h = no_such_parts (kind_of e) k l m
  sheet_injection a_unit o l m h = absurd (omega arith)
  sheet_injection a_function o l m h = absurd (omega arith)
  sheet_injection a_literal o l m h = absurd (omega arith)
  sheet_injection a_pair o l m h = absurd (h refl)
  sheet_injection (injection {d = first} p q) o l m h = rw o
  sheet_injection (injection {d = second} p q) o l m h = rw o

  pub sheet_pair : {e : Term} → View e → Open e → kind_of e ≡ kinds.pair
      → shown g group (term_head e) 0 ++ (sheet g group (first_operand e) ++ sheet g group (second_operand e)) ≡ sheet g group e
  unfolding sheet shown_line shown_kind
  sheet_pair {e} (other v k) o h = no_such_parts (kind_of e) k (omega arith) (omega arith)
  sheet_pair a_pair o h = rw o
  sheet_pair (injection p q) o h = absurd (omega arith)
  sheet_pair _ o h = absurd (omega arith)

  -- a value takes a line of the sheet
  pub a_line : {e : Term} → View e → is_value e ≡ true → 1 ≤ lines g group e
  unfolding lines
  a_line (other n k) v = absurd (false≢true (sym n ∙ v))
  a_line _ v = omega arith

-- the parts of a value are values
pub first_value : {e : Term} → View e → is_value e ≡ true → kinds.function < kind_of e → kind_of e ≤ kinds.second_injection → is_value (first_operand e) ≡ true
unfolding is_value
first_value (other n k) v l m = absurd (false≢true (sym n ∙ v))
first_value a_pair v l m = ((and-eq-true_iff _ _).0 v).0
first_value (injection p q) v l m = v
first_value _ v l m = absurd (omega arith)

pub second_value : {e : Term} → is_value e ≡ true → Pairs e → is_value (second_operand e) ≡ true
second_value {e} v p = ((and-eq-true_iff (is_value (first_operand e)) (is_value (second_operand e))).0 (sym p.value ∙ v)).1

-- The sheet of a value: the line of its record, and after it the sheets of its parts.
module _ (g : Bytes) (group : ℕ) {s : Bytes} {i : ℕ} (e : Term) (w : At s i e) (v : is_value e ≡ true) where
  pub part_at : kinds.function < kind_of e → kind_of e ≤ kinds.second_injection → At s (i + 1) (first_operand e)
  part_at l m = at_first s i e w (first_part (view e) l m).0

  injection_is : Open g group e → kinds.function < kind_of e → kind_of e ≤ kinds.second_injection → (kind_of e ≡ kinds.pair → ⊥) → shown g group s i ++ sheet g group (first_operand e) ≡ sheet g group e
  injection_is o l m h =
      ap (λ b. b ++ sheet g group (first_operand e)) (shown_at g group s i e w) ∙ sheet_injection g group (view e) o l m h

  pair_is : Open g group e → kind_of e ≡ kinds.pair
      → shown g group s i ++ (sheet g group (first_operand e) ++ sheet g group (second_operand e)) ≡ sheet g group e
  pair_is o h =
      ap (λ b. b ++ (sheet g group (first_operand e) ++ sheet g group (second_operand e))) (shown_at g group s i e w) ∙ sheet_pair g group (view e) o h

  -- once the line is written
  module _ {x y : Writer} (put : Written (shown g group s i) x y) where
    pub wrote_alone : Alone g group e → Written (sheet g group e) x y
    wrote_alone a = subst (λ b. Written b x y) (shown_at g group s i e w ∙ a) put

    module _ (o : Open g group e) {z : Writer} (first_wrote : Written (sheet g group (first_operand e)) y z) where
      pub wrote_injection : kinds.function < kind_of e → kind_of e ≤ kinds.second_injection → (kind_of e ≡ kinds.pair → ⊥) → Written (sheet g group e) x z
      wrote_injection l m h = subst (λ b. Written b x z) (injection_is o l m h) (then put first_wrote)

      pub wrote_pair : kind_of e ≡ kinds.pair → {end : Writer} → Written (sheet g group (second_operand e)) z end → Written (sheet g group e) x end
      wrote_pair h {end} second_wrote = subst (λ b. Written b x end) (pair_is o h) (then put (then first_wrote second_wrote))

-- what writing a part of an open object is given
module _ {g : Bytes} {group : ℕ} {s : Bytes} {i : ℕ} {x : Writer} (q : SheetRoom g group s i x) where
  -- the object's record is within the script,
  pub value_there : i < records s
  value_there = there _ _ q.tree q.at

  -- and its line within the buffer
  pub line_fits : x.end + sheet_width ≤ length x.out.now
  line_fits = omega (arith, q.fits, sheet_length g group q.tree, a_line g group (view q.tree) q.value)

  module _ (o : Open g group q.tree) {y : Writer} (put : Written (shown g group s i) x y) where
    pub injection_room : kinds.function < kind_of q.tree → kind_of q.tree ≤ kinds.second_injection → (kind_of q.tree ≡ kinds.pair → ⊥) → SheetRoom g group s (i + 1) y
    injection_room l m h =
        let e = q.tree in
        record {
          tree = first_operand e;
          at = part_at g group e q.at q.value l m;
          value = first_value (view e) q.value l m;
          fits = room_next (sheet g group (first_operand e)) put (subst (λ b. Room b x) (sym (injection_is g group e q.at q.value o l m h)) q.fits);
        }

    parts_room : kind_of q.tree ≡ kinds.pair → Room (sheet g group (first_operand q.tree) ++ sheet g group (second_operand q.tree)) y
    parts_room h =
        room_next (sheet g group (first_operand q.tree) ++ sheet g group (second_operand q.tree)) put
        (subst (λ b. Room b x) (sym (pair_is g group q.tree q.at q.value o h)) q.fits)

    pub first_room : kind_of q.tree ≡ kinds.pair → SheetRoom g group s (i + 1) y
    first_room h =
        let e = q.tree in
        let l : kinds.function < kind_of e = omega arith in
        let m : kind_of e ≤ kinds.second_injection = omega arith in
        record {
          tree = first_operand e;
          at = part_at g group e q.at q.value l m;
          value = first_value (view e) q.value l m;
          fits = room_first (sheet g group (first_operand e)) (sheet g group (second_operand e)) y (parts_room h);
        }

    pub second_room : kind_of q.tree ≡ kinds.pair → {next : ℕ} → next ≡ i + 1 + size (first_operand q.tree) → {z : Writer} → Written (sheet g group (first_operand q.tree)) y z → SheetRoom g group s next z
    second_room h {next} n first_wrote =
        let e = q.tree in
        let p = pairs (view e) h in
        record {
          tree = second_operand e;
          at = at_second s i e q.at next p.two n;
          value = second_value q.value p;
          fits = room_next (sheet g group (second_operand e)) first_wrote (parts_room h);
        }
