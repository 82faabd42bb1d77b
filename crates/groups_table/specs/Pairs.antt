-- Questions 5 and 6 of two groups: what `ok5` and `ok6` ask of a row with each other one.
use Rattle.std.specs.Prelude.{Bool, ℕ}
use Rattle.rules.specs.Answer.{Bytes, first_below, ◌⇒◌}
use Rattle.rules.specs.Limits.{group_limit}
use Rattle.rules.specs.Groups.{row, bit, is_row_within, in_both_rows, row_of_lowest}

-- if bit h is in row g: is row h within row g?
abbrev pub pair5 : Bytes → ℕ → ℕ → Bool
pair5 t g h = bit (row t g) h ⇒ is_row_within (row t h) (row t g)

-- have rows g and h a bit in common, and are their common bits the row of the lowest?
abbrev pub pair6 : Bytes → ℕ → ℕ → Bool
pair6 t g h = row_of_lowest t (in_both_rows t g h) (first_below (in_both_rows t g h) group_limit)
