-- Rewriting types and scripts of earlier forms: c and ic, which they haven't, become group 0 (manual, 7.12 and 9.13).
-- To its questions an old file is the widened one, but for 8 and 13, which ask its own length. Places are indexes of
-- records, so they are the same.
use Rattle.std.specs.Prelude.{[], ◌∷◌, ℕ, ◌/◌, length}
use Rattle.rules.specs.Answer.{Bytes, Answer, accepted, refused, ◌>>◌}
use Rattle.rules.specs.Limits.{old_type_width, old_script_width}
use Rattle.rules.specs.Types.{q8_of}
use Rattle.rules.specs.Script.{q13_of}
use Rattle.rules.specs.Calls.{groups_check, types_check, script_check, q27, filled_after}

-- A widened types table: kind, r, ir and 0 of each record, and then c and ic as group 0. What is cut short is no
-- record.
unfoldable pub widen_types : Bytes → Bytes
widen_types (k ∷ r ∷ ir ∷ z ∷ t) = k ∷ r ∷ ir ∷ z ∷ 0 ∷ 0 ∷ widen_types t
widen_types _ = []

-- A widened script: kind, r, ir, 0 and the number of each record, and then c and ic as group 0.
unfoldable pub widen_script : Bytes → Bytes
widen_script (k ∷ r ∷ ir ∷ z ∷ lo ∷ hi ∷ s) = k ∷ r ∷ ir ∷ z ∷ lo ∷ hi ∷ 0 ∷ 0 ∷ widen_script s
widen_script _ = []

-- questions 2 to 12 of an old types table
unfoldable pub old_types_check : Bytes → Bytes → Answer (Unit {0})
unfolding groups_check types_check widen_types
old_types_check g t = do
  groups_check g
  q8_of old_type_width t
  types_check g (widen_types t)

-- questions 2 to 19 of an old script over an old types table
unfoldable pub old_script_check : Bytes → Bytes → Bytes → Answer (Unit {0})
unfolding old_types_check script_check widen_types widen_script
old_script_check g t s = do
  old_types_check g t
  q13_of old_script_width [] s
  script_check [] g (widen_types t) (widen_script s)

-- Rewriting a types table: its questions, then 27 of the widened table with the length of its buffer; the answer is its
-- bytes.
unfoldable pub rewriting_types : Bytes → Bytes → ℕ → Answer Bytes
unfolding old_types_check widen_types
rewriting_types g t room = do
  old_types_check g t
  q27 (widen_types t) room
  accepted (widen_types t)

-- Rewriting a script: the questions of both, then 27 of the widened script with the length of its buffer; the answer is
-- its bytes.
unfoldable pub rewriting_script : Bytes → Bytes → Bytes → ℕ → Answer Bytes
unfolding old_script_check widen_script
rewriting_script g t s room = do
  old_script_check g t s
  q27 (widen_script s) room
  accepted (widen_script s)

-- what a rewriting call reports: the record count
unfoldable pub rewritten_records : ℕ → Answer Bytes → Answer ℕ
rewritten_records width (accepted b) = accepted (length b / width)
rewritten_records width (refused q p) = refused q p

-- its buffer: the new bytes in front, later bytes kept; kept on a refusal
abbrev pub rewritten_after : Answer Bytes → Bytes → Bytes
rewritten_after x old = filled_after x old
