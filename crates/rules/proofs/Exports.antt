-- What an export's records are: those of a prefix code of their own. In the present form they are the script's, its
-- variables' numbers 0, and their names are those of the naming.
use Rattle.std.proofs.Common.{◌≡◌, refl, ap, ap₂, sym, subst, ◌∙◌, true, [], ◌++◌, append_assoc, append-nil, ℕ, suc}
use Rattle.std.proofs.Common.{◌+◌, ◌*◌, ◌-◌, ◌/◌, ◌%◌, ◌<◌, arith, length}
use Rattle.calculus.specs.Security.{Property}
use Rattle.calculus.specs.Terms.{first, second, choose, plus, less, Term, var, unit, lam, pair, inj, app, proj, case}
use Rattle.calculus.specs.Terms.{protect, mu, literal, reckon}
use Rattle.rules.specs.Answer.{Bytes, byte, accepted}
use Rattle.rules.specs.Limits.{office_width}
use Rattle.rules.specs.Rewriting.{widen_script}
use Rattle.rules.specs.Script.{full_record, script_record, object_record, encode, size, c, ic}
use Rattle.rules.specs.Names.{level_names}
use Rattle.rules.specs.Office.{office_records, first_name, second_name, first_six, nameless, with_names, ok29, q29}
use Rattle.rules.specs.Office.{office_record, office}
use Rattle.rules.proofs.Search.{each_accepted}
use Rattle.rules.proofs.Prefix.{joined, Shape, Code, record_at}
use Rattle.rules.proofs.Parts.{record_byte, record_first}
use Rattle.rules.proofs.PrefixLaws.{encode_length, alone}
use Rattle.rules.proofs.Nodes.{Every, every_here, every_below, every_of, to_records}
use Rattle.rules.proofs.TermCode.{term_shape, term_head, two_bytes}
use Rattle.rules.proofs.Counts.{up, stay, unwidened, counted}
use Rattle.rules.proofs.Names.{blank, blank_size}
use Rattle.rules.proofs.Office.{Stands, operand_1, operand_2, operand_3, head_byte, stands_whole}
use Rattle.std.proofs.lemmas.Grind.{common_steps}

-- a term with the count of binders outside it
abbrev pub office_head : ℕ × Term → Bytes
office_head (n, var m) = office_record 0 0 0 0 (n - suc m) 0
office_head (n, unit k) = office_record 1 k.r k.ir 0 0 0
office_head (n, lam k i e) = office_record 2 k.r k.ir i n 0
office_head (n, pair k a b) = office_record 3 k.r k.ir 0 0 0
office_head (n, inj d k i e) = office_record (choose d 4 5) k.r k.ir i 0 0
office_head (n, app w f a) = office_record 6 w 0 0 0 0
office_head (n, proj d w e) = office_record (choose d 7 8) w 0 0 0 0
office_head (n, case w i e a b) = office_record 9 w 0 i n n
office_head (n, protect m e) = office_record 10 0 m.ir 0 0 0
office_head (n, mu w i e) = office_record 11 w 0 i n 0
office_head (n, literal k m) = office_record 12 k.r k.ir m 0 0
office_head (n, reckon plus w a b) = office_record 13 w 0 0 0 0
office_head (n, reckon (less i) w a b) = office_record 14 w 0 i 0 0

pub head_length : (p : ℕ × Term) → length (office_head p) ≡ office_width
head_length p = grind arith

abbrev pub naming_shape : Shape (ℕ × Term)
naming_shape = counted unwidened stay up

abbrev pub office_of : ℕ × Term → Bytes
office_of p = office (level_names p.0 p.1)

pub encode_is : (p : ℕ × Term) → office_of p ≡ office_head p ++ joined office_of (naming_shape.operands p)
unfolding office level_names
encode_is p = grind (arith, common_steps)

abbrev pub office_code : Code naming_shape
office_code = record { width = office_width; head = office_head; encode = office_of; head_length = head_length; encode_is = encode_is }

pub office_length : (n : ℕ) (e : Term) → length (office (level_names n e)) ≡ office_width * size e
office_length n e = encode_length office_code (n, e)

-- The present form of n records.
abbrev pub present : ℕ → Bytes → Bytes
present n s = widen_script (first_six n s)

-- `count` records b come to the bytes a, whatever follows
pub record Comes (count : ℕ) (b a : Bytes) : Type 0 where
  pub comes : (m : ℕ) (rest : Bytes) → present (count + m) (b ++ rest) ≡ a ++ present m rest

comes_record : (k r ir n x y : ℕ) → Comes 1 (office_record k r ir n x y) (script_record k r ir n)
unfolding first_six widen_script
comes_record k r ir n x y = record {
  comes = λ m rest. let p : 1 + m ≡ suc m = omega arith in ap (λ j. present j (office_record k r ir n x y ++ rest)) p;
}

comes_then : {m n : ℕ} {b b' a a' : Bytes} → Comes m b a → Comes n b' a' → Comes (m + n) (b ++ b') (a ++ a')
comes_then {m} {n} {b} {b'} {a} {a'} h g = record {
  comes = λ j rest.
      let p : m + n + j ≡ m + (n + j) = omega arith in
      ap₂ present p (append_assoc b b' rest) ∙ h.comes (n + j) (b' ++ rest) ∙ ap (λ z. a ++ z) (g.comes j rest) ∙ sym (append_assoc a a' (present j rest));
}

-- c and ic of a record
abbrev pub Plain : Term → Type 0
Plain e = (c (term_head e) 0 ≡ 0) × (ic (term_head e) 0 ≡ 0)

comes_object : (kind : ℕ) (k : Property) (n x y : ℕ) → (k.c ≡ 0) × (k.ic ≡ 0) → Comes 1 (office_record kind k.r k.ir n x y) (object_record kind k n)
comes_object kind k n x y h =
    let p : script_record kind k.r k.ir n ≡ object_record kind k n = rw (h.0, h.1) refl in
    subst (Comes 1 (office_record kind k.r k.ir n x y)) p (comes_record kind k.r k.ir n x y)

pub export_comes : (n : ℕ) (e : Term) → Every term_shape Plain e → Comes (size e) (office (level_names n e)) (encode (blank e))
unfolding size office level_names encode blank
export_comes n (var m) h = comes_record 0 0 0 0 (n - suc m) 0
export_comes n (unit k) h = comes_object 1 k 0 0 0 (every_here h)
export_comes n (lam k i e) h = comes_then (comes_object 2 k i n 0 (every_here h)) (export_comes (suc n) e (every_below h).0)
export_comes n (pair k a b) h =
    comes_then (comes_object 3 k 0 0 0 (every_here h))
    (comes_then (export_comes n a (every_below h).0) (export_comes n b (every_below h).1.0))
export_comes n (inj first k i e) h = comes_then (comes_object 4 k i 0 0 (every_here h)) (export_comes n e (every_below h).0)
export_comes n (inj second k i e) h = comes_then (comes_object 5 k i 0 0 (every_here h)) (export_comes n e (every_below h).0)
export_comes n (app w f a) h =
    comes_then (comes_record 6 w 0 0 0 0) (comes_then (export_comes n f (every_below h).0) (export_comes n a (every_below h).1.0))
export_comes n (proj first w e) h = comes_then (comes_record 7 w 0 0 0 0) (export_comes n e (every_below h).0)
export_comes n (proj second w e) h = comes_then (comes_record 8 w 0 0 0 0) (export_comes n e (every_below h).0)
export_comes n (case w i e a b) h =
    comes_then (comes_record 9 w 0 i n n)
    (comes_then (export_comes n e (every_below h).0)
    (comes_then (export_comes (suc n) a (every_below h).1.0) (export_comes (suc n) b (every_below h).1.1.0)))
export_comes n (protect m e) h =
    let p : script_record 10 0 m.ir 0 ≡ full_record 10 0 m.ir 0 0 m.ic = rw ((every_here h).1) refl in
    comes_then (subst (Comes 1 (office_record 10 0 m.ir 0 0 0)) p (comes_record 10 0 m.ir 0 0 0)) (export_comes n e (every_below h).0)
export_comes n (mu w i e) h = comes_then (comes_record 11 w 0 i n 0) (export_comes (suc n) e (every_below h).0)
export_comes n (literal k m) h = comes_object 12 k m 0 0 (every_here h)
export_comes n (reckon plus w a b) h =
    comes_then (comes_record 13 w 0 0 0 0) (comes_then (export_comes n a (every_below h).0) (export_comes n b (every_below h).1.0))
export_comes n (reckon (less i) w a b) h =
    comes_then (comes_record 14 w 0 i 0 0) (comes_then (export_comes n a (every_below h).0) (export_comes n b (every_below h).1.0))

pub export_records : (e : Term) → office_records (office (level_names 0 e)) ≡ size e
export_records e = omega (arith, office_length 0 e)

nothing : present 0 [] ≡ []
unfolding first_six widen_script
nothing = refl

-- an export in the present form
pub export_nameless : (e : Term) → Every term_shape Plain e → nameless (office (level_names 0 e)) ≡ encode (blank e)
unfolding nameless
export_nameless e h =
    let o = office (level_names 0 e) in
    let p : office_records o ≡ size e + 0 = omega (arith, export_records e) in
    ap₂ present p (sym (append-nil o)) ∙ (export_comes 0 e h).comes 0 [] ∙ ap (λ z. encode (blank e) ++ z) nothing ∙ append-nil (encode (blank e))

-- The names of its records.
module _ (o : Bytes) where
  module _ {i : ℕ} {p : ℕ × Term} (at : Stands office_code o i p) where
    first_is : (x : ℕ) → byte (office_head p) 6 ≡ x % 256 → byte (office_head p) 7 ≡ x / 256 → first_name o i ≡ x
    first_is x f g = grind (arith, common_steps, head_byte, office_code, two_bytes)

    second_is : (x : ℕ) → byte (office_head p) 8 ≡ x % 256 → byte (office_head p) 9 ≡ x / 256 → second_name o i ≡ x
    second_is x f g =
        ap₂ (λ a b. a + 256 * b) (head_byte office_code at 8 (omega arith) ∙ f) (head_byte office_code at 9 (omega arith) ∙ g) ∙ two_bytes x

  pub export_names : (n : ℕ) (e : Term) (i : ℕ) → Stands office_code o i (n, e) → with_names o i (blank e) ≡ level_names n e
  unfolding with_names level_names blank
  export_names n (var m) i at = rw (first_is at (n - suc m) refl refl) refl
  export_names n (unit k) i at = refl
  export_names n (lam k t e) i at = rw (first_is at n refl refl, export_names (suc n) e (1 + i) (operand_1 office_code at refl)) refl
  export_names n (pair k a b) i at =
      rw (blank_size a, export_names n a (1 + i) (operand_1 office_code at refl), export_names n b (1 + i + size a) (operand_2 office_code at refl)) refl
  export_names n (inj d k t e) i at = rw (export_names n e (1 + i) (operand_1 office_code at refl)) refl
  export_names n (app w a b) i at =
      rw (blank_size a, export_names n a (1 + i) (operand_1 office_code at refl), export_names n b (1 + i + size a) (operand_2 office_code at refl)) refl
  export_names n (proj d w e) i at = rw (export_names n e (1 + i) (operand_1 office_code at refl)) refl
  export_names n (case w t e a b) i at =
      rw (
        blank_size e,
        blank_size a,
        first_is at n refl refl,
        second_is at n refl refl,
        export_names n e (1 + i) (operand_1 office_code at refl),
        export_names (suc n) a (1 + i + size e) (operand_2 office_code at refl),
        export_names (suc n) b (1 + i + size e + size a) (operand_3 office_code at refl),
      )
      refl
  export_names n (protect m e) i at = rw (export_names n e (1 + i) (operand_1 office_code at refl)) refl
  export_names n (mu w t e) i at = rw (first_is at n refl refl, export_names (suc n) e (1 + i) (operand_1 office_code at refl)) refl
  export_names n (literal k m) i at = refl
  export_names n (reckon o' w a b) i at =
      rw (blank_size a, export_names n a (1 + i) (operand_1 office_code at refl), export_names n b (1 + i + size a) (operand_2 office_code at refl)) refl

-- Question 29 of an export: what isn't used is 0.
head_ok29 : (p : ℕ × Term) → ok29 (office_head p) 0 ≡ true
unfolding ok29
head_ok29 p = grind arith

module _ (s : Bytes) (i : ℕ) where
  field : (a b : ℕ) → a < office_width → b < office_width
      → byte (record_at office_width s i) a + 256 * byte (record_at office_width s i) b ≡ byte s (office_width * i + a) + 256 * byte s (office_width * i + b)
  field a b l m = ap₂ (λ x y. x + 256 * y) (record_byte office_width s i a l) (record_byte office_width s i b m)

  ok29_record : ok29 (record_at office_width s i) 0 ≡ ok29 s i
  unfolding ok29
  ok29_record =
      rw (record_first office_width s i (omega arith), field 6 7 (omega arith) (omega arith), field 8 9 (omega arith) (omega arith), field 4 5 (omega arith) (omega arith)) refl

pub export_q29 : (e : Term) → q29 (office (level_names 0 e)) ≡ accepted tt
export_q29 e =
    let o = office (level_names 0 e) in
    each_accepted 29 (office_records o) (ok29 o)
    (λ k l. let z : k ≡ 0 + k = omega arith in
    ap (ok29 o) z ∙ sym (ok29_record o (0 + k))
    ∙ to_records office_code (λ h. ok29 h 0 ≡ true) o 0 (0, e) [] (alone office_code (0, e)) (every_of head_ok29 (0, e)) k (omega (arith, export_records e)))

pub export_stands : (e : Term) → Stands office_code (office (level_names 0 e)) 0 (0, e)
export_stands e = stands_whole office_code (0, e)
