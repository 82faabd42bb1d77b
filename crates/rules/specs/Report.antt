-- The report program: the whole text that it prints, as a function of the bytes of its files (manual, 7.3).
use Rattle.std.specs.Prelude.{true, false, if◌then◌else◌, ◌∷◌, ◌++◌, ℕ, zero, suc, ◌+◌, ◌*◌, ◌/◌, ◌%◌, nat_lt, nat_eq}
use Rattle.std.specs.Prelude.{take}
use mathlib.Core.List as list
use Rattle.std.proofs.Math.Option.{Option, none, some}
use Prim.Native.String.{String}
use Prim.Native.Char.{code}
use Prim.Native.String as string
use Rattle.calculus.specs.Types.{Ty, size_t}
use Rattle.rules.specs.Answer.{Bytes, Answer, accepted, refused}
use Rattle.rules.specs.Limits.{word_width, report_budget, report_buffer, report_sheet}
use Rattle.rules.specs.Script.{encode, size}
use Rattle.rules.specs.Run.{Ran}
use Rattle.rules.specs.Calls.{zeros, check_call, run_call, sheet_call}
use Rattle.rules.specs.Reach.{verdict}
use Rattle.rules.specs.Words.{word, words_check}

-- the bytes of a text of letters, spaces and newlines
unfoldable pub text : String → Bytes
text string.[] = list.[]
text (string.◌∷◌ c s) = code c ∷ text s

-- the digits of n in front of what follows; so many digits at most
unfoldable pub digits : ℕ → ℕ → Bytes → Bytes
digits zero n rest = rest
digits (suc most) n rest = elim (nat_lt n 10) [ true ↦ (48 + n) ∷ rest | false ↦ digits most (n / 10) ((48 + n % 10) ∷ rest) ]

-- a number in decimal, which of 64 bits has at most 20 digits
unfoldable pub decimal_digits : ℕ → Bytes
unfolding digits
decimal_digits n = digits 20 n list.[]

-- a word as a record of a words table: its letters, then zero bytes
abbrev pub word_record : String → Bytes
word_record s = take word_width (text s ++ zeros word_width)

-- our words, as a words table: unit, first, second, pair, function, closed, number
unfoldable pub our_words : Bytes
unfolding text
our_words =
    word_record "unit"
    ++ word_record "first"
    ++ word_record "second"
    ++ word_record "pair"
    ++ word_record "function"
    ++ word_record "closed"
    ++ word_record "number"

-- a word and a number
abbrev pub word_and_number : String → ℕ → Bytes
word_and_number s n = text s ++ decimal_digits n

-- the line of a refusal: question and place
unfoldable pub refusal_line : ℕ → ℕ → Bytes
unfolding text decimal_digits
refusal_line q p = word_and_number "refused " q ++ word_and_number " at " p ++ text "\n"

-- the line of an accepted script: its type's record count
unfoldable pub accepted_line : ℕ → Bytes
unfolding text decimal_digits
accepted_line n = word_and_number "accepted " n ++ text "\n"

-- the line of a run: end, steps and records
unfoldable pub run_line : ℕ → ℕ → ℕ → Bytes
unfolding text decimal_digits
run_line end steps records = word_and_number "end " end ++ word_and_number " steps " steps ++ word_and_number " records " records ++ text "\n"

-- an open literal's number, printed after ir; other records print none
abbrev pub printed_number : ℕ → ℕ → Bytes
printed_number kind n = if nat_eq kind 6 then word_and_number " " n else list.[]

-- a line of the sheet: word, r and ir, and a literal's number, in the words of a table w
unfoldable pub sheet_line : Bytes → ℕ → ℕ → ℕ → ℕ → Bytes
unfolding text decimal_digits word
sheet_line w kind r ir n = word w kind ++ word_and_number " " r ++ word_and_number " " ir ++ printed_number kind n ++ text "\n"

-- a line for each of its records
unfoldable pub sheet_lines : Bytes → Bytes → Bytes
unfolding sheet_line
sheet_lines w (k ∷ r ∷ ir ∷ z ∷ lo ∷ hi ∷ b) = sheet_line w k r ir (lo + 256 * hi) ++ sheet_lines w b
sheet_lines w _ = list.[]

-- The sheet's lines, or a refusal's: an accepted script's sheet isn't refused, but a text has to be given for every
-- answer.
abbrev pub sheet_text : Bytes → Answer Bytes → Bytes
sheet_text w (accepted b) = sheet_lines w b
sheet_text w (refused q p) = refusal_line q p

-- the sheet of the run's last term for group 0, only where the run ended 0
unfoldable pub value_text : Bytes → Bytes → Bytes → Ran → Bytes
unfolding sheet_call encode sheet_lines refusal_line
value_text w g t x = elim (nat_eq x.end 0) [ true ↦ sheet_text w (sheet_call g t (encode x.last) 0 report_sheet) | false ↦ list.[] ]

-- the text after the check of an accepted script: the run's line, and the sheet's
unfoldable pub run_text : Bytes → Bytes → Bytes → Answer Ran → Bytes
unfolding run_line value_text refusal_line size
run_text w g t (accepted x) = run_line x.end x.steps (size x.last) ++ value_text w g t x
run_text w g t (refused q p) = refusal_line q p

-- the text of a check's answer, and what follows an accepted one
unfoldable pub checked_text : Bytes → Bytes → Bytes → Bytes → Answer Ty → Bytes
unfolding accepted_line run_text refusal_line run_call size_t
checked_text w g t s (accepted type) = accepted_line (size_t type) ++ run_text w g t (run_call g t s report_budget report_buffer report_buffer)
checked_text w g t s (refused q p) = refusal_line q p

-- Checks, runs with budget 1,000 in two buffers of 65,536 bytes, and shows the sheet for group 0.
unfoldable pub script_text : Bytes → Bytes → Bytes → Bytes → Bytes
unfolding checked_text check_call
script_text w groups types script = checked_text w groups types script (verdict groups types script)

-- A refused table of words prints one line, and nothing else; otherwise the rest follows.
abbrev pub after_words : Answer (Unit {0}) → Bytes → Bytes
after_words (accepted u) rest = rest
after_words (refused q p) rest = refusal_line q p

-- The whole text. The table of words is tried before question 1; none stands for no file `words`, which means ours.
unfoldable pub report : Option Bytes → Bytes → Bytes → Bytes → Bytes
unfolding script_text refusal_line words_check our_words
report none groups types script = script_text our_words groups types script
report (some w) groups types script = after_words (words_check w) (script_text w groups types script)
