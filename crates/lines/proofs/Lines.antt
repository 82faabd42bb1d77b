-- The lines of the report, from their numbers, and how long they can be.
use Rattle.std.proofs.Common.{Bool, true, false, cond, nat_eq, ◌≡◌, ℕ, ◌+◌, ◌*◌, ◌/◌, ◌≤◌, ◌<◌, [], ◌∷◌, ◌++◌, length}
use Rattle.std.proofs.Common.{get_or, refl, ap, ◌∙◌, arith, length-append}
use Rattle.std.proofs.lemmas.Fmt.{length-decimal-le}
use Rattle.rules.specs.Answer.{Bytes, Octets}
use Rattle.rules.specs.Limits.{sheet_width}
use Rattle.rules.specs.Report.{text, decimal_digits, word_and_number, refusal_line, accepted_line, run_line}
use Rattle.rules.specs.Report.{printed_number, sheet_line, sheet_lines}
use Rattle.rules.proofs.Octets.{octets_drop}
use Rattle.text.proofs.Digits.{decimal_is, decimal_length}
use Rattle.text.proofs.Words.{word_length}

-- lengths
pub refusal_length : (q p : ℕ) → length (refusal_line q p) ≤ 53
unfolding refusal_line text
refusal_length q p = simp length-append (omega (arith, decimal_length q, decimal_length p))

pub accepted_length : (n : ℕ) → length (accepted_line n) ≤ 30
unfolding accepted_line text
accepted_length n = simp length-append (omega (arith, decimal_length n))

pub run_length : (end steps records : ℕ) → length (run_line end steps records) ≤ 81
unfolding run_line text
run_length a b c = simp length-append (omega (arith, decimal_length a, decimal_length b, decimal_length c))

-- a number of 16 bits has at most 5 digits
short_length : (n : ℕ) → n < 65536 → length (decimal_digits n) ≤ 5
short_length n l = rw (← decimal_is n (omega arith)) (length-decimal-le 5 n (omega arith) (omega arith) (omega arith))

number_length : (k n : ℕ) → n < 65536 → length (printed_number k n) ≤ 6
unfolding text
number_length k n l = go (nat_eq k 6)
  where
    go : (b : Bool) → length (cond b (word_and_number " " n) []) ≤ 6
    go true = simp length-append (omega (arith, short_length n l))
    go false = omega arith

line_length : (w : Bytes) (k r ir n : ℕ) → n < 65536 → length (sheet_line w k r ir n) ≤ 61
unfolding sheet_line text
line_length w k r ir n l = simp length-append (omega (arith, word_length w k, decimal_length r, decimal_length ir, number_length k n l))

-- the first line of a sheet, and the others
pub sheet_lines_first : (w : Bytes) (k r ir z lo hi : ℕ) (b : Bytes) → sheet_lines w (k ∷ r ∷ ir ∷ z ∷ lo ∷ hi ∷ b) ≡ sheet_line w k r ir (lo + 256 * hi) ++ sheet_lines w b
unfolding sheet_lines
sheet_lines_first w k r ir z lo hi b = refl

-- at most 61 bytes for each whole record
pub sheet_length : (w b : Bytes) → Octets b → length (sheet_lines w b) ≤ 61 * (length b / sheet_width)
unfolding sheet_lines
sheet_length w (k ∷ r ∷ ir ∷ z ∷ lo ∷ hi ∷ b) o =
    let first = sheet_line w k r ir (lo + 256 * hi) in
    let n = ap length (sheet_lines_first w k r ir z lo hi b) ∙ length-append first (sheet_lines w b) in
    omega (arith, n, line_length w k r ir (lo + 256 * hi) (omega (arith, o 4, o 5)), sheet_length w b (octets_drop 6 (k ∷ r ∷ ir ∷ z ∷ lo ∷ hi ∷ b) o))
sheet_length w _ o = omega arith

-- nothing is left of a sheet that has no whole record
pub no_line : (w b : Bytes) → length b < sheet_width → sheet_lines w b ≡ []
unfolding sheet_lines
no_line w (k ∷ r ∷ ir ∷ z ∷ lo ∷ hi ∷ b) l = absurd (omega arith)
no_line w _ l = refl

-- the line of a record, by its bytes,
abbrev pub line : Bytes → Bytes → Bytes
line w b = sheet_line w (get_or b 0 0) (get_or b 1 0) (get_or b 2 0) (get_or b 4 0 + 256 * get_or b 5 0)

-- and those of the records after it
pub one_line : (w b rest : Bytes) → length b ≡ sheet_width → sheet_lines w (b ++ rest) ≡ line w b ++ sheet_lines w rest
one_line w (k ∷ r ∷ ir ∷ z ∷ lo ∷ hi ∷ []) rest l = sheet_lines_first w k r ir z lo hi rest
one_line w _ rest l = absurd (omega arith)
