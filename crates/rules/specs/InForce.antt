-- Amendments: a studio's list of scripts, the list of its amendments, the check of both, and the script in force
-- (manual, 7.7).
use Rattle.std.specs.Prelude.{◌≡◌, Bool, true, false, if◌then◌else◌, not, ◌&&◌, ◌||◌, ℕ, zero, suc, ◌+◌, ◌*◌, ◌/◌, ◌%◌}
use Rattle.std.specs.Prelude.{◌<◌, nat_eq, nat_le, nat_lt, length}
use Rattle.std.proofs.Math.Option.{Option, none, some}
use Rattle.calculus.specs.Subtyping.{subtype}
use Rattle.rules.specs.Answer.{Bytes, byte, Answer, accepted, ◌>>◌, ask, each, first_from, first_below, last_below}
use Rattle.rules.specs.Limits.{listed_width, entry_width, listed_limit, no_script}
use Rattle.rules.specs.Groups.{join, meet, properties_of}
use Rattle.rules.specs.Types.{type_count, type_at}
use Rattle.rules.specs.Comparison.{Comparison, same, strictly_below, neither, equal_types, comparison}
use Rattle.rules.specs.Calls.{types_check}

-- a 16-bit number, lowest byte first
abbrev pub number_at : Bytes → ℕ → ℕ
number_at b i = byte b i + 256 * byte b (i + 1)

-- the number of scripts: 2 bytes for each
abbrev pub script_count : Bytes → ℕ
script_count l = length l / listed_width

-- the index of script i's type in the types table
abbrev pub type_of : Bytes → ℕ → ℕ
type_of l i = number_at l (listed_width * i)

-- the number of entries: 4 bytes for each, which hold the script that it lists, and the one that it replaces, or 65,535
abbrev pub entry_count : Bytes → ℕ
entry_count a = length a / entry_width

-- the script that entry e lists
abbrev pub entry_first : Bytes → ℕ → ℕ
entry_first a e = number_at a (entry_width * e)

-- the script that entry e replaces
abbrev pub entry_replaced : Bytes → ℕ → ℕ
entry_replaced a e = number_at a (entry_width * e + 2)

-- does entry e replace no script?
abbrev pub replaces_none : Bytes → ℕ → Bool
replaces_none a e = nat_eq (entry_replaced a e) no_script

-- is i one of the first n numbers of a column?
unfoldable pub among : (ℕ → ℕ) → ℕ → ℕ → Bool
among column zero i = false
among column (suc n) i = nat_eq (column n) i || among column n i

-- is script i listed: named first by an entry before e?
abbrev pub is_listed : Bytes → ℕ → ℕ → Bool
is_listed a e i = among (entry_first a) e i

-- is script i replaced by an entry before e?
abbrev pub is_replaced : Bytes → ℕ → ℕ → Bool
is_replaced a e i = among (entry_replaced a) e i

-- 40 of the lists. Are both whole records, and are there at most 65,535 scripts? Place: 0.
abbrev pub q40_lengths : Bytes → Bytes → Answer (Unit {0})
q40_lengths l a = ask 40 0 (nat_eq (length l % listed_width) 0 && (nat_le (script_count l) listed_limit && nat_eq (length a % entry_width) 0))

-- 25 of a list. Is the index of script i's type below the record count of the types table? Place: the script.
unfoldable pub ok25 : Bytes → Bytes → ℕ → Bool
ok25 t l i = nat_lt (type_of l i) (type_count t)

-- 25, of each script
abbrev pub q25_scripts : Bytes → Bytes → Answer (Unit {0})
q25_scripts t l = each 25 (script_count l) (ok25 t l)

-- 40 of an entry. Is its first number below the count of scripts, and listed by no earlier entry; and is its second
-- 65,535, or below that count and listed by an earlier entry? Place: the entry.
unfoldable pub ok40 : Bytes → Bytes → ℕ → Bool
unfolding among
ok40 l a e =
    nat_lt (entry_first a e) (script_count l)
    && (not (is_listed a e (entry_first a e))
    && (replaces_none a e || nat_lt (entry_replaced a e) (script_count l) && is_listed a e (entry_replaced a e)))

-- 41. Is the second number 65,535, or replaced by no earlier entry? Place: the entry.
unfoldable pub ok41 : Bytes → ℕ → Bool
unfolding among
ok41 a e = replaces_none a e || not (is_replaced a e (entry_replaced a e))

-- are both types of this comparison related, so that the first may stand for the second?
abbrev pub same_or_below : Comparison → Bool
same_or_below same = true
same_or_below strictly_below = true
same_or_below neither = false

-- the comparison of script i's type with script j's
abbrev pub scripts_compared : Bytes → Bytes → Bytes → ℕ → ℕ → Comparison
scripts_compared g t l i j = comparison (properties_of g) (type_at t (type_of l i)) (type_at t (type_of l j))

-- 42. Is the second number 65,535, or is the first script's type the same as or below the second's? Place: the entry.
unfoldable pub ok42 : Bytes → Bytes → Bytes → Bytes → ℕ → Bool
unfolding subtype equal_types type_at join meet last_below
ok42 g t l a e = replaces_none a e || same_or_below (scripts_compared g t l (entry_first a e) (entry_replaced a e))

-- the questions of entry e, in their order
unfoldable pub entry_check : Bytes → Bytes → Bytes → Bytes → ℕ → Answer (Unit {0})
unfolding ok40 ok41 ok42
entry_check g t l a e = do
  ask 40 e (ok40 l a e)
  ask 41 e (ok41 a e)
  ask 42 e (ok42 g t l a e)

-- the questions of the first n entries
unfoldable pub entries_check : Bytes → Bytes → Bytes → Bytes → ℕ → Answer (Unit {0})
unfolding entry_check
entries_check g t l a zero = accepted tt
entries_check g t l a (suc n) = ◌>>◌ (entries_check g t l a n) (entry_check g t l a n)

-- the questions of a call: 2 to 12, then 40 and 25 of the lists, then those of each entry
unfoldable pub lists_check : Bytes → Bytes → Bytes → Bytes → Answer (Unit {0})
unfolding types_check first_from ok25 entries_check
lists_check g t l a = do
  types_check g t
  q40_lengths l a
  q25_scripts t l
  entries_check g t l a (entry_count a)

-- the entry that replaces script i, if there is one
abbrev pub replacement : Bytes → ℕ → Option ℕ
replacement a i = first_below (λ e. nat_eq (entry_replaced a e) i) (entry_count a)

-- the end of following replacements from script i: at most n of them
unfoldable pub end_of_replacements : Bytes → ℕ → ℕ → ℕ
unfolding first_from
end_of_replacements a zero i = i
end_of_replacements a (suc n) i = elim (replacement a i) [ none ↦ i | some e ↦ end_of_replacements a n (entry_first a e) ]

-- The script in force from script i: none where no entry names i first, and else the end of following replacements. No
-- entry is followed twice.
unfoldable pub script_in_force : Bytes → ℕ → ℕ
unfolding among end_of_replacements
script_in_force a i = if is_listed a (entry_count a) i then end_of_replacements a (entry_count a) i else no_script

-- the call: the lists' questions, and the script in force from an index; none is an answer
unfoldable pub in_force : Bytes → Bytes → Bytes → Bytes → ℕ → Answer ℕ
unfolding lists_check script_in_force
in_force g t l a i = do
  lists_check g t l a
  accepted (script_in_force a i)

-- The same as a relation: from script i, n replacements lead to script j.
pub data LeadsTo (a : Bytes) : ℕ → ℕ → ℕ → Type 0 where
  stays : {i : ℕ} → LeadsTo a i 0 i
  replaced_by : {i n j : ℕ} (e : ℕ) → e < entry_count a → entry_replaced a e ≡ i → (i ≡ no_script → ⊥) → LeadsTo a (entry_first a e) n j → LeadsTo a i (suc n) j

-- an entry names script i first
abbrev pub NamedFirst : Bytes → ℕ → Type 0
NamedFirst a i = (e : ℕ) × (e < entry_count a) × (entry_first a e ≡ i)

-- script j is in force from script i: an entry names i first, and following replacements from there ends at j
pub record InForceFrom (a : Bytes) (i j : ℕ) : Type 0 where
  pub named : NamedFirst a i
  pub replacements : ℕ
  pub leads : LeadsTo a i replacements j
  pub last : (e : ℕ) → e < entry_count a → entry_replaced a e ≡ j → ⊥
