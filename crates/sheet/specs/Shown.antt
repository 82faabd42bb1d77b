-- An object's record on the sheet, from its record in the script.
use Rattle.std.specs.Prelude.{Bool, if◌then◌else◌, ℕ, nat_eq}
use Rattle.rules.specs.Answer.{Bytes}
use Rattle.rules.specs.Script.{kind, r, ir, number}
use Rattle.rules.specs.Sheet.{shown_record}
use Rattle.records.specs.Kinds as kinds
use Rattle.sheet.specs.declared.Line.{Line}
use Rattle.sheet.specs.declared.Shown.{Shown}
use Rattle.sheet.specs.declared.Shown.TheVariants.{Unit, First, Second, Pair, Function, Closed, Number}

-- the numbers of the sheet's kinds
abbrev pub shown_number : Shown → ℕ
shown_number Unit = 0
shown_number First = 1
shown_number Second = 2
shown_number Pair = 3
shown_number Function = 4
shown_number Closed = 5
shown_number Number = 6

-- the sheet's kinds: 6 a literal, 4 a function, 3 a pair, 1 and 2 a first and a second injection, 0 a unit
unfoldable pub shown_kind : ℕ → ℕ
shown_kind kind =
    if nat_eq kind kinds.literal then 6
    else (if nat_eq kind kinds.function then 4
    else (if nat_eq kind kinds.pair then 3
    else (if nat_eq kind kinds.first_injection then 1
    else (if nat_eq kind kinds.second_injection then 2 else 0))))

-- the number that is shown of an object of this kind: a literal's, and 0 of all else
abbrev pub literal_number : ℕ → ℕ → ℕ
literal_number kind n = if nat_eq kind kinds.literal then n else 0

-- the line of the object at record i, told or closed
unfoldable pub shown_line : Bool → Bytes → ℕ → Bytes
unfolding shown_kind
shown_line told s i =
    if told then shown_record (shown_kind (kind s i)) (r s i) (ir s i) (literal_number (kind s i) (number s i))
    else shown_record 5 0 0 0

-- a line as a sheet record
abbrev pub bytes_of : Line → Bytes
bytes_of line = shown_record (shown_number line.kind) line.r.0 line.ir.0 line.number
