-- Stripping: the group bytes of each record of a script, a term or a types table become 0, and every other byte stays
-- (manual, 7.1).
use Rattle.std.specs.Prelude.{Bool, if◌then◌else◌, ◌||◌, [], ◌∷◌, ℕ, suc, ◌+◌, ◌%◌, nat_eq, nat_le}
use Rattle.rules.specs.Answer.{Bytes}
use Rattle.rules.specs.Limits.{type_width, script_width}

-- is byte j of a record of `width` bytes a group: r, ir, or one of the last two, c and ic?
abbrev pub group_byte : ℕ → ℕ → Bool
group_byte width j = (nat_eq j 1 || nat_eq j 2) || nat_le width (j + 2)

-- byte i and those after it, in records of `width` bytes; a last record that is cut short is stripped as far as it goes
unfoldable pub strip_from : ℕ → ℕ → Bytes → Bytes
strip_from width i [] = []
strip_from width i (b ∷ s) = (if group_byte width (i % width) then 0 else b) ∷ strip_from width (suc i) s

-- bytes 1, 2, 6 and 7 of each record become 0
abbrev pub strip_script : Bytes → Bytes
strip_script s = strip_from script_width 0 s

-- bytes 1, 2, 4 and 5 of each record become 0
abbrev pub strip_types : Bytes → Bytes
strip_types t = strip_from type_width 0 t

-- The table of one group, over which stripped files are read: a single row, the word 1.
abbrev pub one_group : Bytes
one_group = 1 ∷ 0 ∷ 0 ∷ 0 ∷ []
