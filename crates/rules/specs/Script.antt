-- The script: its records, its term, and questions 13 to 19 and 36 (manual, 4).
use Rattle.std.specs.Prelude.{Bool, true, false, if◌then◌else◌, not, ◌&&◌, ◌||◌, List, [], ◌∷◌, ◌++◌, ℕ, suc, ◌+◌, ◌*◌}
use Rattle.std.specs.Prelude.{◌-◌, ◌/◌, ◌%◌, max, nat_eq, nat_le, nat_lt, length, get_or, take, drop}
use Rattle.std.proofs.Math.Option.{Option, none, some}
use Rattle.calculus.specs.Security.{Property}
use Rattle.calculus.specs.Terms.{first, second, plus, less, Term, var, unit, lam, pair, inj, app, proj, case, protect}
use Rattle.calculus.specs.Terms.{mu, literal, reckon}
use Rattle.calculus.specs.Typing.{finds_own}
use Rattle.rules.specs.Answer.{Bytes, byte, Answer, accepted, refused, ◌>>◌, ask, each, first_from, all_below, ◌⇒◌}
use Rattle.rules.specs.Limits.{script_width, script_limit, depth_limit}
use Rattle.rules.specs.Groups.{rows, leq}
use Rattle.rules.specs.Types.{type_count, type_kind, end_after}

-- The number of records: 8 bytes each, without a header, which hold kind, r, ir, 0, a number of 16 bits, c and ic.
abbrev pub records : Bytes → ℕ
records s = length s / script_width

-- record i's kind
abbrev pub kind : Bytes → ℕ → ℕ
kind s i = byte s (script_width * i)

-- record i's r
abbrev pub r : Bytes → ℕ → ℕ
r s i = byte s (script_width * i + 1)

-- record i's ir
abbrev pub ir : Bytes → ℕ → ℕ
ir s i = byte s (script_width * i + 2)

-- record i's byte 3, which has to be 0
abbrev pub zero_byte : Bytes → ℕ → ℕ
zero_byte s i = byte s (script_width * i + 3)

-- record i's number, its lowest byte first
abbrev pub number : Bytes → ℕ → ℕ
number s i = byte s (script_width * i + 4) + 256 * byte s (script_width * i + 5)

-- record i's c
abbrev pub c : Bytes → ℕ → ℕ
c s i = byte s (script_width * i + 6)

-- record i's ic
abbrev pub ic : Bytes → ℕ → ℕ
ic s i = byte s (script_width * i + 7)

-- a line of the table of kinds
pub record Signature : Type 0 where
  pub operands : ℕ
  -- which fields are named
  pub r : Bool
  pub ir : Bool
  pub c : Bool
  pub ic : Bool
  pub number : Bool
  -- whether the number names a type
  pub typed : Bool

-- An object names all four groups and a protect ir and ic: so what names r and ir names c, and what names ir names ic.
abbrev pub signature : ℕ → Bool → Bool → Bool → Bool → Signature
signature o r ir n t = record { operands = o; r = r; ir = ir; c = r && ir; ic = ir; number = n; typed = t }

-- The table of kinds. A field that it doesn't name is unnamed.
unfoldable pub signatures : List Signature
signatures =
    --        operands r   ir   number type
    signature 0 false false true false  -- 0 variable
    ∷ signature 0 true true false false  -- 1 unit
    ∷ signature 1 true true true true  -- 2 function
    ∷ signature 2 true true false false  -- 3 pair
    ∷ signature 1 true true true true  -- 4 first injection
    ∷ signature 1 true true true true  -- 5 second injection
    ∷ signature 2 true false false false  -- 6 application
    ∷ signature 1 true false false false  -- 7 first projection
    ∷ signature 1 true false false false  -- 8 second projection
    ∷ signature 3 true false true true  -- 9 case
    ∷ signature 1 false true false false  -- 10 protect
    ∷ signature 1 true false true true  -- 11 recursion
    ∷ signature 0 true true true false  -- 12 literal
    ∷ signature 2 true false false false  -- 13 sum of two
    ∷ signature 2 true false true true  -- 14 less than
    ∷ []

-- a kind's line of the table; a kind past its end names nothing
unfoldable pub signature_of : ℕ → Signature
unfolding signatures
signature_of k = get_or signatures k (signature 0 false false false false)

-- the number of operands that follow a record
unfoldable pub arity : ℕ → ℕ
unfolding signature_of
arity k = (signature_of k).operands

-- a record: kind, r, ir, number, c, ic
abbrev pub full_record : ℕ → ℕ → ℕ → ℕ → ℕ → ℕ → Bytes
full_record k r ir n c ic = k ∷ r ∷ ir ∷ 0 ∷ n % 256 ∷ n / 256 ∷ c ∷ ic ∷ []

-- one with group 0 as c and ic
abbrev pub script_record : ℕ → ℕ → ℕ → ℕ → Bytes
script_record k r ir n = full_record k r ir n 0 0

-- an object's
abbrev pub object_record : ℕ → Property → ℕ → Bytes
object_record kind k n = full_record kind k.r k.ir n k.c k.ic

-- A term as records: each is followed by its operands in order, and unnamed fields are 0.
unfoldable pub encode : Term → Bytes
encode (var n) = script_record 0 0 0 n
encode (unit k) = object_record 1 k 0
encode (lam k i e) = object_record 2 k i ++ encode e
encode (pair k a b) = object_record 3 k 0 ++ (encode a ++ encode b)
encode (inj first k i e) = object_record 4 k i ++ encode e
encode (inj second k i e) = object_record 5 k i ++ encode e
encode (app w f a) = script_record 6 w 0 0 ++ (encode f ++ encode a)
encode (proj first w e) = script_record 7 w 0 0 ++ encode e
encode (proj second w e) = script_record 8 w 0 0 ++ encode e
encode (case w i e a b) = script_record 9 w 0 i ++ (encode e ++ (encode a ++ encode b))
encode (protect m e) = full_record 10 0 m.ir 0 0 m.ic ++ encode e
encode (mu w i e) = script_record 11 w 0 i ++ encode e
encode (literal k n) = object_record 12 k n
encode (reckon plus w a b) = script_record 13 w 0 0 ++ (encode a ++ encode b)
encode (reckon (less i) w a b) = script_record 14 w 0 i ++ (encode a ++ encode b)

-- what stands in where no term is
abbrev pub no_term : Term
no_term = var 0

-- the term of a record and up to three operands
abbrev pub make : ℕ → ℕ → ℕ → ℕ → ℕ → ℕ → Term → Term → Term → Term
make kind r ir n c ic a b d =
    let k : Property = record { r = r; ir = ir; c = c; ic = ic } in
    get_or
    (var n
    ∷ unit k
    ∷ lam k n a
    ∷ pair k a b
    ∷ inj first k n a
    ∷ inj second k n a
    ∷ app r a b
    ∷ proj first r a
    ∷ proj second r a
    ∷ case r n a b d
    ∷ protect (record { ir = ir; ic = ic }) a
    ∷ mu r n a
    ∷ literal k n
    ∷ reckon plus r a b
    ∷ reckon (less n) r a b
    ∷ [])
    kind no_term

-- the term that starts at the first record, and those that start after its end
unfoldable pub parse : Bytes → List Term
unfolding arity
parse (k ∷ r ∷ ir ∷ z ∷ lo ∷ hi ∷ c ∷ ic ∷ s) =
    let ts = parse s in
    make k r ir (lo + 256 * hi) c ic (get_or ts 0 no_term) (get_or ts 1 no_term) (get_or ts 2 no_term) ∷ drop (arity k) ts
parse _ = []

-- the term of a script
unfoldable pub term : Bytes → Term
unfolding parse
term s = get_or (parse s) 0 no_term

-- the number of records of a term
unfoldable pub size : Term → ℕ
size (var n) = 1
size (unit k) = 1
size (lam k i e) = 1 + size e
size (pair k a b) = 1 + (size a + size b)
size (inj d k i e) = 1 + size e
size (app w f a) = 1 + (size f + size a)
size (proj d w e) = 1 + size e
size (case w i e a b) = 1 + (size e + (size a + size b))
size (protect m e) = 1 + size e
size (mu w i e) = 1 + size e
size (literal k n) = 1
size (reckon o w a b) = 1 + (size a + size b)

-- How much deeper than a case its operands are: by two where it finds its own type, else by one (manual, 4.6).
abbrev pub weight : ℕ → ℕ
weight i = if finds_own i then 2 else 1

-- The depth of a term's deepest record; the outermost record has depth 1.
unfoldable pub depth : Term → ℕ
depth (var n) = 1
depth (unit k) = 1
depth (lam k i e) = 1 + depth e
depth (pair k a b) = 1 + max (depth a) (depth b)
depth (inj d k i e) = 1 + depth e
depth (app w f a) = 1 + max (depth f) (depth a)
depth (proj d w e) = 1 + depth e
depth (case w i e a b) = weight i + max (depth e) (max (depth a) (depth b))
depth (protect m e) = 1 + depth e
depth (mu w i e) = 1 + depth e
depth (literal k n) = 1
depth (reckon o w a b) = 1 + max (depth a) (depth b)

-- The depth of each record of a term that stands at depth n, in the records' order.
unfoldable pub depths_from : ℕ → Term → List ℕ
depths_from n (lam k i e) = n ∷ depths_from (suc n) e
depths_from n (pair k a b) = n ∷ (depths_from (suc n) a ++ depths_from (suc n) b)
depths_from n (inj d k i e) = n ∷ depths_from (suc n) e
depths_from n (app w f a) = n ∷ (depths_from (suc n) f ++ depths_from (suc n) a)
depths_from n (proj d w e) = n ∷ depths_from (suc n) e
depths_from n (case w i e a b) =
    n ∷ (depths_from (n + weight i) e ++ (depths_from (n + weight i) a ++ depths_from (n + weight i) b))
depths_from n (protect m e) = n ∷ depths_from (suc n) e
depths_from n (mu w i e) = n ∷ depths_from (suc n) e
depths_from n (reckon o w a b) = n ∷ (depths_from (suc n) a ++ depths_from (suc n) b)
depths_from n _ = n ∷ []

-- the depth of each record of a script's term
abbrev pub depths : Term → List ℕ
depths e = depths_from 1 e

-- The count of binders over each record of a term under n binders, in the records' order: a function and a recursion
-- bind one variable in their operand, a case one in each branch (operands 2 and 3).
unfoldable pub binders_from : ℕ → Term → List ℕ
binders_from n (lam k i e) = n ∷ binders_from (suc n) e
binders_from n (pair k a b) = n ∷ (binders_from n a ++ binders_from n b)
binders_from n (inj d k i e) = n ∷ binders_from n e
binders_from n (app w f a) = n ∷ (binders_from n f ++ binders_from n a)
binders_from n (proj d w e) = n ∷ binders_from n e
binders_from n (case w i e a b) = n ∷ (binders_from n e ++ (binders_from (suc n) a ++ binders_from (suc n) b))
binders_from n (protect m e) = n ∷ binders_from n e
binders_from n (mu w i e) = n ∷ binders_from (suc n) e
binders_from n (reckon o w a b) = n ∷ (binders_from n a ++ binders_from n b)
binders_from n _ = n ∷ []

-- the count of binders over each record of a script's term
abbrev pub binders : Term → List ℕ
binders e = binders_from 0 e

-- 13. Is the script whole records, 1 to 8,192 of them, and, in a run, no longer than either run buffer? Place: 0.
-- `rooms` are the lengths of the run buffers; `width` is 8, and 6 where rewriting asks it of earlier forms.
abbrev pub q13_of : ℕ → List ℕ → Bytes → Answer (Unit {0})
q13_of width rooms s =
    ask 13 0
    (nat_eq (length s % width) 0
    && (nat_le 1 (length s / width) && (nat_le (length s / width) script_limit && all_below (λ i. nat_le (length s) (get_or rooms i 0)) (length rooms))))

-- 13, of a script of records of 8 bytes
abbrev pub q13 : List ℕ → Bytes → Answer (Unit {0})
q13 rooms s = q13_of script_width rooms s

-- 14. Is the kind at most 14, byte 3 equal to 0, and every unnamed field 0? Place: the record.
unfoldable pub ok14 : Bytes → ℕ → Bool
unfolding signature_of
ok14 s i =
    let f = signature_of (kind s i) in
    nat_le (kind s i) 14
    && (nat_eq (zero_byte s i) 0
    && ((not f.r ⇒ nat_eq (r s i) 0)
    && ((not f.ir ⇒ nat_eq (ir s i) 0)
    && ((not f.number ⇒ nat_eq (number s i) 0) && ((not f.c ⇒ nat_eq (c s i) 0) && (not f.ic ⇒ nat_eq (ic s i) 0))))))

-- 14, of each record
abbrev pub q14 : Bytes → Answer (Unit {0})
q14 s = each 14 (records s) (ok14 s)

-- kinds 1 to 5 and 12: what carries a property of its own
abbrev pub is_object : ℕ → Bool
is_object kind = (nat_le 1 kind && nat_le kind 5) || nat_eq kind 12

-- 15. Are the named groups in the table, and for objects (kinds 1 to 5 and 12) is ir ⊑ r? Place: the record.
unfoldable pub ok15 : Bytes → Bytes → ℕ → Bool
unfolding signature_of
ok15 g s i =
    let f = signature_of (kind s i) in
    (f.r ⇒ nat_lt (r s i) (rows g))
    && ((f.ir ⇒ nat_lt (ir s i) (rows g))
    && ((f.c ⇒ nat_lt (c s i) (rows g)) && ((f.ic ⇒ nat_lt (ic s i) (rows g)) && (is_object (kind s i) ⇒ leq g (ir s i) (r s i)))))

-- 15, of each record
abbrev pub q15 : Bytes → Bytes → Answer (Unit {0})
q15 g s = each 15 (records s) (ok15 g s)

-- 36. Of an object (kinds 1 to 5 and 12): is ic ⊑ c? Place: the record. Of scripts it is asked between 15 and 16.
unfoldable pub ok36_object : Bytes → Bytes → ℕ → Bool
ok36_object g s i = is_object (kind s i) ⇒ leq g (ic s i) (c s i)

-- 36, of each record
abbrev pub q36_objects : Bytes → Bytes → Answer (Unit {0})
q36_objects g s = each 36 (records s) (ok36_object g s)

-- is record i a case that finds its own type?
abbrev pub own_at : Bytes → ℕ → Bool
own_at s i = nat_eq (kind s i) 9 && finds_own (number s i)

-- is type n a sum of two units?
abbrev pub sum_of_units : Bytes → ℕ → Bool
sum_of_units t n = nat_eq (type_kind t n) 1 && (nat_eq (type_kind t (n + 1)) 0 && nat_eq (type_kind t (n + 2)) 0)

-- 16. Does the named type exist (a case with number 65,535 names none), and is it a sum for kinds 4 and 5, a function
-- for 11, and a sum of two units for 14? Place: the record.
unfoldable pub ok16 : Bytes → Bytes → ℕ → Bool
unfolding signature_of
ok16 t s i =
    ((signature_of (kind s i)).typed ⇒ own_at s i || nat_lt (number s i) (type_count t))
    && ((nat_eq (kind s i) 4 || nat_eq (kind s i) 5 ⇒ nat_eq (type_kind t (number s i)) 1)
    && ((nat_eq (kind s i) 11 ⇒ nat_eq (type_kind t (number s i)) 3) && (nat_eq (kind s i) 14 ⇒ sum_of_units t (number s i))))

-- 16, of each record
abbrev pub q16 : Bytes → Bytes → Answer (Unit {0})
q16 t s = each 16 (records s) (ok16 t s)

-- the record after the term that starts at record i
unfoldable pub term_end : Bytes → ℕ → Option ℕ
unfolding end_after arity
term_end s i = end_after (λ j. arity (kind s j)) (records s - i) 1 i

-- a term's end against the record count
abbrev pub exactly : ℕ → Option ℕ → Answer (Unit {0})
exactly n none = refused 17 n
exactly n (some e) = ask 17 e (nat_eq e n)

-- 17. Is the script exactly one whole term? Place: the record count if it is cut short, else the first record that is
-- left over.
abbrev pub q17 : Bytes → Answer (Unit {0})
q17 s = exactly (records s) (term_end s 0)

-- 18. Is the record's depth at most 256? Place: the record. `ds` are the depths of the records.
unfoldable pub ok18 : List ℕ → ℕ → Bool
ok18 ds i = nat_le (get_or ds i 0) depth_limit

-- 18, of each record
abbrev pub q18 : Bytes → Answer (Unit {0})
q18 s = each 18 (records s) (ok18 (depths (term s)))

-- 19. Is a variable's number below the count of binders over it? Place: the record. `bs` are those counts.
unfoldable pub ok19 : List ℕ → Bytes → ℕ → Bool
ok19 bs s i = nat_eq (kind s i) 0 ⇒ nat_lt (number s i) (get_or bs i 0)

-- 19, of each record
abbrev pub q19 : Bytes → Answer (Unit {0})
q19 s = each 19 (records s) (ok19 (binders (term s)) s)

-- the bytes from record i to before record e, if there is such an end
abbrev pub slice : Bytes → ℕ → Option ℕ → Bytes
slice s i none = []
slice s i (some e) = take (script_width * (e - i)) (drop (script_width * i) s)

-- a part, where the questions were answered yes, and else the empty part
abbrev pub part_if : Answer (Unit {0}) → Bytes → Bytes
part_if (accepted u) part = part
part_if (refused q p) part = []

-- The look-up of a subterm: the part of the script from record i to the end of the term that starts there. It is empty
-- where 13, 14 or 17 is answered no of the whole script, or the index is past the end (manual, 4.8).
unfoldable pub subterm : Bytes → ℕ → Bytes
unfolding first_from ok14 term_end
subterm s i =
    part_if
    (do
      q13 [] s
      q14 s
      q17 s)
    (slice s i (term_end s i))
