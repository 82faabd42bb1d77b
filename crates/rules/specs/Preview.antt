-- The preview of a step, and the move that makes it (manual, 6.6).
use Rattle.std.specs.Prelude.{◌&&◌, ℕ, ◌+◌, min, nat_eq}
use Rattle.rules.specs.Answer.{Bytes, Answer, accepted, refused, ◌>>=◌, ◌>>◌, ask}
use Rattle.rules.specs.Step.{End, at_value, moves, may_not, wrong_kind, too_big, end_number, end_count}
use Rattle.rules.specs.Script.{records, size}
use Rattle.rules.specs.Calls.{step_call}

-- What a preview gives: the step's end, the record count after it (the script's own unless the end is 1), and the
-- number of steps so far. `room` is the length of the buffer that the step would write to. Nothing is written.
pub record Preview : Type 0 where
  pub end : ℕ
  pub count : ℕ
  pub steps : ℕ

-- The preview: asks 2 to 19, and repeats the number of steps so far, which is the caller's.
unfoldable pub preview_call : Bytes → Bytes → Bytes → ℕ → ℕ → Answer Preview
unfolding step_call size
preview_call g t s room steps = do
  x ← step_call g t s room
  accepted (record { end = end_number x; count = end_count (records s) x; steps = steps })

-- 35. Are the given end and count those of the step of this script in a buffer of this length? Place: 0.
abbrev pub q35 : Preview → ℕ → End → Answer (Unit {0})
q35 v own x = ask 35 0 (nat_eq v.end (end_number x) && nat_eq v.count (end_count own x))

-- The move: given a preview and the script, it asks 2 to 19 and 35, and makes the step.
unfoldable pub move_call : Bytes → Bytes → Bytes → ℕ → Preview → Answer End
unfolding step_call size
move_call g t s room v = do
  x ← step_call g t s room
  q35 v (records s) x
  accepted x

-- the largest number of 64 bits
abbrev pub largest_steps : ℕ
largest_steps = 18446744073709551615

-- The number of steps after a move: one more at end 1, but the largest number stays; the same at any other end.
abbrev pub steps_with : ℕ → End → ℕ
steps_with n (moves e) = min (n + 1) largest_steps
steps_with n _ = n

-- what a move answers of the number of steps
unfoldable pub moved_steps : Preview → Answer End → Answer ℕ
moved_steps v (accepted x) = accepted (steps_with v.steps x)
moved_steps v (refused q p) = refused q p
