-- A preview followed by a move leaves what the single step leaves (manual, 6.6 and 11).
use Rattle.std.specs.Prelude.{◌≡◌, ◌↔◌, if◌then◌else◌, ℕ, ◌+◌, min, nat_eq, length}
use Rattle.rules.specs.Answer.{Bytes, accepted, refused}
use Rattle.rules.specs.Script.{records}
use Rattle.rules.specs.Step.{End, end_number, end_count}
use Rattle.rules.specs.Calls.{step_call, written_after}
use Rattle.rules.specs.Preview.{Preview, preview_call, move_call, largest_steps, moved_steps}

-- What a preview promises its move, for a written buffer with the content `old` and a number of steps so far.
pub record PreviewThenMove (g t s old : Bytes) (steps : ℕ) : Type 0 where
  -- the preview is refused as the step is, and no other
  pub refused_alike : (q place : ℕ) → (preview_call g t s (length old) steps ≡ refused q place) ↔ (step_call g t s (length old) ≡ refused q place)
  -- the move with what the preview gave answers what the step answers, and leaves its bytes
  pub same_answer : (v : Preview) → preview_call g t s (length old) steps ≡ accepted v → move_call g t s (length old) v ≡ step_call g t s (length old)
  pub same_bytes : (v : Preview) → preview_call g t s (length old) steps ≡ accepted v
      → written_after (move_call g t s (length old) v) old ≡ written_after (step_call g t s (length old)) old
  -- a move with end 1 raises the number of steps by one, and the largest number stays
  pub counts : (v : Preview) → preview_call g t s (length old) steps ≡ accepted v
      → (v.steps ≡ steps) × (moved_steps v (move_call g t s (length old) v) ≡ accepted (if nat_eq v.end 1 then min (steps + 1) largest_steps else steps))
  -- Any other preview, a stale or a forged one, is taken where its end and count are those of the step, and nowhere
  -- else.
  pub takes : (v : Preview) (x : End)
      → (move_call g t s (length old) v ≡ accepted x)
      ↔ ((step_call g t s (length old) ≡ accepted x) × (v.end ≡ end_number x) × (v.count ≡ end_count (records s) x))

unfoldable pub PreviewedMoves : Type 0
PreviewedMoves = (g t s old : Bytes) (steps : ℕ) → PreviewThenMove g t s old steps
