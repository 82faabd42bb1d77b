-- Room in the written buffer: no text of the report is longer, whatever the files hold. A number has at most 20 digits,
-- a literal's at most 5, and a word at most 12 letters.
use Rattle.std.specs.Prelude.{ℕ, ◌+◌, ◌*◌}
use Rattle.rules.specs.Limits.{script_limit}

-- the sheet's lines, at most 61 bytes each
abbrev pub value_room : ℕ
value_room = 61 * script_limit

-- and the run's line before them
abbrev pub run_room : ℕ
run_room = 81 + value_room

-- and the first line before that
abbrev pub report_room : ℕ
report_room = 30 + run_room
