-- A preview, and the move that takes it back.
use Rattle.std.proofs.Common.{◌≡◌, ap, cond, ◌↔◌, ℕ, ◌+◌, min, nat_eq, length, arith}
use Rattle.rules.specs.Answer.{Bytes, Answer, accepted, refused, ◌>>=◌, ◌>>◌}
use Rattle.rules.specs.Script.{records}
use Rattle.rules.specs.Step.{End, end_number, end_count}
use Rattle.rules.specs.Calls.{step_call, written_after}
use Rattle.rules.specs.Preview.{Preview, q35, preview_call, move_call, largest_steps, steps_with, moved_steps}
use Rattle.promises.specs.Preview.{PreviewThenMove}

-- the end and the count of the preview of a step that answers m, where the script has `own` records, and the move's
-- answer
module _ (own : ℕ) where
  abbrev shown : ℕ → End → Preview
  shown steps x = record { end = end_number x; count = end_count own x; steps = steps }

  abbrev preview_of : ℕ → Answer End → Answer Preview
  preview_of steps m = ◌>>=◌ m (λ x. accepted (shown steps x))

  abbrev move_of : Preview → Answer End → Answer End
  move_of v m = ◌>>=◌ m (λ x. ◌>>◌ (q35 v own x) (accepted x))

  refusals : (steps : ℕ) (m : Answer End) (q place : ℕ) → (preview_of steps m ≡ refused q place) ↔ (m ≡ refused q place)
  refusals steps m q place = grind arith

  taken_back : (steps : ℕ) (m : Answer End) (v : Preview) → preview_of steps m ≡ accepted v → move_of v m ≡ m
  taken_back steps m v h = grind arith

  takes : (m : Answer End) (v : Preview) (x : End) → (move_of v m ≡ accepted x) ↔ ((m ≡ accepted x) × (v.end ≡ end_number x) × (v.count ≡ end_count own x))
  takes m v x = grind arith

  counted : (steps : ℕ) (m : Answer End) (v : Preview) → preview_of steps m ≡ accepted v
      → (v.steps ≡ steps) × (moved_steps v m ≡ accepted (cond (nat_eq v.end 1) (min (steps + 1) largest_steps) steps))
  unfolding moved_steps
  counted steps m v h = grind arith

pub preview_then_move : (g t s old : Bytes) (steps : ℕ) → PreviewThenMove g t s old steps
unfolding preview_call move_call
preview_then_move g t s old steps =
    let m = step_call g t s (length old) in
    let same = taken_back (records s) steps m in
    record {
      refused_alike = refusals (records s) steps m;
      same_answer = same;
      same_bytes = λ v h. ap (λ (x : Answer End). written_after x old) (same v h);
      counts = λ v h. rw (same v h) (counted (records s) steps m v h);
      takes = takes (records s) m;
    }
