-- Scripts of the old office program, with names, and their import and export (manual, 7.9 and 7.10). Their records have
-- 10 bytes: kind, r, ir, 0, number, first name, second name.
use Rattle.std.specs.Prelude.{Bool, not, ◌&&◌, ◌||◌, List, [], ◌∷◌, ◌++◌, ℕ, zero, suc, ◌+◌, ◌*◌, ◌/◌, ◌%◌, nat_eq}
use Rattle.std.specs.Prelude.{nat_le, nat_lt, length, get_or, take, drop}
use Rattle.calculus.specs.Terms.{first, second, plus, less, Term, var, unit, lam, pair, inj, app, proj, case, protect}
use Rattle.calculus.specs.Terms.{mu, literal, reckon}
use Rattle.rules.specs.Answer.{Bytes, byte, Answer, accepted, ◌>>◌, ask, each, first_from, ◌⇒◌}
use Rattle.rules.specs.Limits.{old_script_width, office_width, office_limit}
use Rattle.rules.specs.Script.{records, encode, size, term}
use Rattle.rules.specs.Calls.{types_check, form_check, script_check, q27}
use Rattle.rules.specs.Rewriting.{widen_script}
use Rattle.rules.specs.Names.{Named, named_var, named_unit, named_lam, named_pair, named_inj, named_app, named_proj}
use Rattle.rules.specs.Names.{named_case, named_protect, named_mu, named_literal, named_reckon, nearest, meant, scopes}
use Rattle.rules.specs.Names.{level_names}

-- the number of records
abbrev pub office_records : Bytes → ℕ
office_records s = length s / office_width

-- record i's kind
abbrev pub office_kind : Bytes → ℕ → ℕ
office_kind s i = byte s (office_width * i)

-- record i's number
abbrev pub office_number : Bytes → ℕ → ℕ
office_number s i = byte s (office_width * i + 4) + 256 * byte s (office_width * i + 5)

-- record i's first name
abbrev pub first_name : Bytes → ℕ → ℕ
first_name s i = byte s (office_width * i + 6) + 256 * byte s (office_width * i + 7)

-- record i's second name
abbrev pub second_name : Bytes → ℕ → ℕ
second_name s i = byte s (office_width * i + 8) + 256 * byte s (office_width * i + 9)

-- the first six bytes of each of n records
unfoldable pub first_six : ℕ → Bytes → Bytes
first_six zero s = []
first_six (suc n) s = take old_script_width s ++ first_six n (drop office_width s)

-- The records in the present form: of the first six bytes, with c and ic as group 0. A variable's number is not yet
-- what it means.
unfoldable pub nameless : Bytes → Bytes
unfolding first_six widen_script
nameless s = widen_script (first_six (office_records s) s)

-- the term at record i with the names of its records: a variable has its own name as first name
unfoldable pub with_names : Bytes → ℕ → Term → Named
unfolding size
with_names s i (var n) = named_var (first_name s i)
with_names s i (unit k) = named_unit k
with_names s i (lam k t e) = named_lam k t (first_name s i) (with_names s (1 + i) e)
with_names s i (pair k a b) = named_pair k (with_names s (1 + i) a) (with_names s (1 + i + size a) b)
with_names s i (inj d k t e) = named_inj d k t (with_names s (1 + i) e)
with_names s i (app w f a) = named_app w (with_names s (1 + i) f) (with_names s (1 + i + size f) a)
with_names s i (proj d w e) = named_proj d w (with_names s (1 + i) e)
with_names s i (case w t e a b) =
    named_case w t (first_name s i) (second_name s i) (with_names s (1 + i) e) (with_names s (1 + i + size e) a) (with_names s (1 + i + size e + size a) b)
with_names s i (protect m e) = named_protect m (with_names s (1 + i) e)
with_names s i (mu w t e) = named_mu w t (first_name s i) (with_names s (1 + i) e)
with_names s i (literal k n) = named_literal k n
with_names s i (reckon o w a b) = named_reckon o w (with_names s (1 + i) a) (with_names s (1 + i + size a) b)

-- the term with names of a script
unfoldable pub named_term : Bytes → Named
unfolding nameless term with_names
named_term s = with_names s 0 (term (nameless s))

-- 28. Is the old office script whole records of 10 bytes, 1 to 6,000 of them? Place: 0.
abbrev pub q28 : Bytes → Answer (Unit {0})
q28 s = ask 28 0 (nat_eq (length s % office_width) 0 && (nat_le 1 (office_records s) && nat_le (office_records s) office_limit))

-- Which kinds have a first name: a variable its own, and functions, cases and recursions one that they bind.
abbrev pub has_first_name : ℕ → Bool
has_first_name kind = nat_eq kind 0 || (nat_eq kind 2 || (nat_eq kind 9 || nat_eq kind 11))

-- Which kinds have a second name: a case, that of its second branch's binder.
abbrev pub has_second_name : ℕ → Bool
has_second_name kind = nat_eq kind 9

-- 29. Are the names that the kind doesn't use 0, and, of a variable, the number? Place: the record.
unfoldable pub ok29 : Bytes → ℕ → Bool
ok29 s i =
    (not (has_first_name (office_kind s i)) ⇒ nat_eq (first_name s i) 0)
    && ((not (has_second_name (office_kind s i)) ⇒ nat_eq (second_name s i) 0) && (nat_eq (office_kind s i) 0 ⇒ nat_eq (office_number s i) 0))

-- 29, of each record
abbrev pub q29 : Bytes → Answer (Unit {0})
q29 s = each 29 (office_records s) (ok29 s)

-- 30. Of a variable: has its name a binder over it? Place: the record. `ns` are the names of the binders over each
-- record.
unfoldable pub ok30 : List (List ℕ) → Bytes → ℕ → Bool
unfolding nearest
ok30 ns s i = nat_eq (office_kind s i) 0 ⇒ nat_lt (nearest (first_name s i) (get_or ns i [])) (length (get_or ns i []))

-- 30, of each record
abbrev pub q30 : Bytes → Answer (Unit {0})
q30 s = each 30 (office_records s) (ok30 (scopes [] (named_term s)) s)

-- the imported script: what the old one's term means
unfoldable pub import_of : Bytes → Bytes
unfolding encode meant named_term
import_of s = encode (meant [] (named_term s))

-- Import: asks 2 to 12, 28, 14 to 18 of the first six bytes with 36 after 15, 29, 30 and 27, with the length of the new
-- script's buffer.
unfoldable pub import_call : Bytes → Bytes → Bytes → ℕ → Answer Bytes
unfolding types_check form_check nameless first_from ok29 ok30 scopes named_term import_of
import_call g t s room = do
  types_check g t
  q28 s
  form_check g t (nameless s)
  q29 s
  q30 s
  q27 (import_of s) room
  accepted (import_of s)

-- a record: kind, r, ir, number and the two names
abbrev pub office_record : ℕ → ℕ → ℕ → ℕ → ℕ → ℕ → Bytes
office_record k r ir n x y = k ∷ r ∷ ir ∷ 0 ∷ n % 256 ∷ n / 256 ∷ x % 256 ∷ x / 256 ∷ y % 256 ∷ y / 256 ∷ []

-- A term with names as records: a variable has number 0, and what isn't used is 0. Creators aren't written.
unfoldable pub office : Named → Bytes
office (named_var x) = office_record 0 0 0 0 x 0
office (named_unit k) = office_record 1 k.r k.ir 0 0 0
office (named_lam k i x e) = office_record 2 k.r k.ir i x 0 ++ office e
office (named_pair k a b) = office_record 3 k.r k.ir 0 0 0 ++ (office a ++ office b)
office (named_inj first k i e) = office_record 4 k.r k.ir i 0 0 ++ office e
office (named_inj second k i e) = office_record 5 k.r k.ir i 0 0 ++ office e
office (named_app w f a) = office_record 6 w 0 0 0 0 ++ (office f ++ office a)
office (named_proj first w e) = office_record 7 w 0 0 0 0 ++ office e
office (named_proj second w e) = office_record 8 w 0 0 0 0 ++ office e
office (named_case w i x y e a b) = office_record 9 w 0 i x y ++ (office e ++ (office a ++ office b))
office (named_protect m e) = office_record 10 0 m.ir 0 0 0 ++ office e
office (named_mu w i x e) = office_record 11 w 0 i x 0 ++ office e
office (named_literal k n) = office_record 12 k.r k.ir n 0 0
office (named_reckon plus w a b) = office_record 13 w 0 0 0 0 ++ (office a ++ office b)
office (named_reckon (less i) w a b) = office_record 14 w 0 i 0 0 ++ (office a ++ office b)

-- the exported script: no binder is outside of its term
unfoldable pub export_of : Bytes → Bytes
unfolding term level_names office
export_of s = office (level_names 0 (term s))

-- 28 of an export. Has the script at most 6,000 records? Place: 0.
abbrev pub q28_of_export : Bytes → Answer (Unit {0})
q28_of_export s = ask 28 0 (nat_le (records s) office_limit)

-- Export: asks 2 to 19, 28 and 27, with the length of the old script's buffer.
unfoldable pub export_call : Bytes → Bytes → Bytes → ℕ → Answer Bytes
unfolding script_check export_of
export_call g t s room = do
  script_check [] g t s
  q28_of_export s
  q27 (export_of s) room
  accepted (export_of s)
