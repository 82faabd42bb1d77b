-- The types table: its records, its types, and questions 8 to 12 and 36 (manual, 3.1 to 3.3).
use Rattle.std.specs.Prelude.{Bool, true, not, if◌then◌else◌, ◌&&◌, ◌||◌, List, [], ◌∷◌, ◌++◌, ℕ, zero, suc, ◌+◌, ◌*◌}
use Rattle.std.specs.Prelude.{◌-◌, ◌/◌, ◌%◌, nat_eq, nat_le, nat_lt, length, get_or, drop}
use Rattle.std.proofs.Math.Option.{Option, none, some}
use Rattle.calculus.specs.Security.{Property}
use Rattle.calculus.specs.Types.{Leaf, one, number, Former, sum, product, function, Ty, leaf, node, type_limit}
use Rattle.rules.specs.Answer.{Bytes, byte, Answer, ask, each, is_absent, ◌⇒◌}
use Rattle.rules.specs.Limits.{type_width, table_limit}
use Rattle.rules.specs.Groups.{rows, leq}

-- The number of records: 6 bytes each, without a header, which hold kind, r, ir, 0, c and ic.
abbrev pub type_count : Bytes → ℕ
type_count t = length t / type_width

-- record i's kind
abbrev pub type_kind : Bytes → ℕ → ℕ
type_kind t i = byte t (type_width * i)

-- record i's r
abbrev pub type_r : Bytes → ℕ → ℕ
type_r t i = byte t (type_width * i + 1)

-- record i's ir
abbrev pub type_ir : Bytes → ℕ → ℕ
type_ir t i = byte t (type_width * i + 2)

-- record i's byte 3, which has to be 0
abbrev pub type_zero : Bytes → ℕ → ℕ
type_zero t i = byte t (type_width * i + 3)

-- record i's c
abbrev pub type_c : Bytes → ℕ → ℕ
type_c t i = byte t (type_width * i + 4)

-- record i's ic
abbrev pub type_ic : Bytes → ℕ → ℕ
type_ic t i = byte t (type_width * i + 5)

-- How many types follow a record of this kind as its sides, left and then right: none after unit (0) and number (4),
-- two after sum (1), pair (2) and function (3).
abbrev pub sides : ℕ → ℕ
sides kind = if nat_eq kind 0 || nat_eq kind 4 then 0 else 2

-- the kind of a type without sides
abbrev pub leaf_kind : Leaf → ℕ
leaf_kind one = 0
leaf_kind number = 4

-- the kind of a type with two sides
abbrev pub former_kind : Former → ℕ
former_kind sum = 1
former_kind product = 2
former_kind function = 3

-- a record as bytes
abbrev pub type_record : ℕ → Property → Bytes
type_record kind k = kind ∷ k.r ∷ k.ir ∷ 0 ∷ k.c ∷ k.ic ∷ []

-- a type as records
unfoldable pub encode_type : Ty → Bytes
encode_type (leaf b k) = type_record (leaf_kind b) k
encode_type (node f k s t) = type_record (former_kind f) k ++ (encode_type s ++ encode_type t)

-- what stands in where no type is
abbrev pub no_type : Ty
no_type = leaf one (record { r = 0; ir = 0; c = 0; ic = 0 })

-- the type of a record in front of the types that follow it
abbrev pub make_type : ℕ → Property → Ty → Ty → Ty
make_type kind k s t = get_or (leaf one k ∷ node sum k s t ∷ node product k s t ∷ node function k s t ∷ leaf number k ∷ []) kind no_type

-- the type that starts at the first record, and those that start after its end
unfoldable pub parse_types : Bytes → List Ty
parse_types (k ∷ r ∷ ir ∷ z ∷ c ∷ ic ∷ t) =
    let ts = parse_types t in
    make_type k (record { r = r; ir = ir; c = c; ic = ic }) (get_or ts 0 no_type) (get_or ts 1 no_type) ∷ drop (sides k) ts
parse_types _ = []

-- The type that starts at record i: every record starts one, and types are named by it.
unfoldable pub type_at : Bytes → ℕ → Ty
unfolding parse_types
type_at t i = get_or (parse_types (drop (type_width * i) t)) 0 no_type

-- The record after the last of `need` types or terms that follow one another from record i on, where record j is
-- followed by `operands j` of its own and `left` records are left; none where they run out.
unfoldable pub end_after : (ℕ → ℕ) → ℕ → ℕ → ℕ → Option ℕ
end_after operands zero zero i = some i
end_after operands zero (suc need) i = none
end_after operands (suc left) zero i = some i
end_after operands (suc left) (suc need) i = end_after operands left (need + operands i) (suc i)

-- the record after the type that starts at record i
unfoldable pub type_end : Bytes → ℕ → Option ℕ
unfolding end_after
type_end t i = end_after (λ j. sides (type_kind t j)) (type_count t - i) 1 i

-- how many sides are still to come when record i is reached
unfoldable pub pending : Bytes → ℕ → ℕ
pending t zero = 0
pending t (suc i) = (pending t i - 1) + sides (type_kind t i)

-- record i starts an outermost type
abbrev pub outermost : Bytes → ℕ → Bool
outermost t i = nat_eq (pending t i) 0

-- 8. Are the types whole records, 1 to 4,096 of them? Place: 0. `width` is 6, and 4 where rewriting asks it of earlier
-- forms.
abbrev pub q8_of : ℕ → Bytes → Answer (Unit {0})
q8_of width t = ask 8 0 (nat_eq (length t % width) 0 && (nat_le 1 (length t / width) && nat_le (length t / width) table_limit))

-- 8, of a table of records of 6 bytes
abbrev pub q8 : Bytes → Answer (Unit {0})
q8 t = q8_of type_width t

-- 9. Is the kind at most 4, byte 3 (counted from 0) equal to 0, and are r, ir, c and ic below n, the number of groups?
-- Place: the record.
unfoldable pub ok9 : ℕ → Bytes → ℕ → Bool
ok9 n t i =
    nat_le (type_kind t i) 4 && (nat_eq (type_zero t i) 0 && (nat_lt (type_r t i) n && (nat_lt (type_ir t i) n && (nat_lt (type_c t i) n && nat_lt (type_ic t i) n))))

-- 9, of each type record
abbrev pub q9 : Bytes → Bytes → Answer (Unit {0})
q9 g t = each 9 (type_count t) (ok9 (rows g) t)

-- 10. Is ir ⊑ r? Place: the record.
unfoldable pub ok10 : Bytes → Bytes → ℕ → Bool
ok10 g t i = leq g (type_ir t i) (type_r t i)

-- 10, of each type record
abbrev pub q10 : Bytes → Bytes → Answer (Unit {0})
q10 g t = each 10 (type_count t) (ok10 g t)

-- 36. Is ic ⊑ c? Place: the record. Of types it is asked between 10 and 11.
unfoldable pub ok36_type : Bytes → Bytes → ℕ → Bool
ok36_type g t i = leq g (type_ic t i) (type_c t i)

-- 36, of each type record
abbrev pub q36_types : Bytes → Bytes → Answer (Unit {0})
q36_types g t = each 36 (type_count t) (ok36_type g t)

-- 11. If record i starts an outermost type, does that end with or before the table? Place: the first record of the
-- unfinished one.
unfoldable pub ok11 : Bytes → ℕ → Bool
unfolding pending type_end
ok11 t i = outermost t i ⇒ not (is_absent (type_end t i))

-- 11, of each outermost type
abbrev pub q11 : Bytes → Answer (Unit {0})
q11 t = each 11 (type_count t) (ok11 t)

-- ends a type that starts at record i after at most 63 records, if it ends?
abbrev pub short : Option ℕ → ℕ → Bool
short none i = true
short (some e) i = nat_le (e - i) type_limit

-- 12. If record i starts an outermost type, has that at most 63 records? Place: its first record.
unfoldable pub ok12 : Bytes → ℕ → Bool
unfolding pending type_end
ok12 t i = outermost t i ⇒ short (type_end t i) i

-- 12, of each outermost type
abbrev pub q12 : Bytes → Answer (Unit {0})
q12 t = each 12 (type_count t) (ok12 t)
