-- What the exports pass on.
use Rattle.std.proofs.Common.{◌≡◌, refl, ℕ}
use Rattle.rules.specs.Answer.{Bytes, Answer, accepted, refused}
use Rattle.rules.specs.Step.{End}
use Rattle.rules.specs.Calls.{step_call, step_report}
use Rattle.packing.specs.Packed.{Bounded, bounded_no, counted_yes, counted_no, StepCounted}
use Rattle.packing.proofs.Bounds.{step_bounded}
use Rattle.packing.proofs.Exported.{step_count}

pub step_counted : (g t s : Bytes) (room : ℕ) → StepCounted (step_report s (step_call g t s room))
step_counted g t s room = go (step_call g t s room) refl (step_bounded g t s room)
  where
    go : (a : Answer End) → step_call g t s room ≡ a → Bounded a → StepCounted (step_report s a)
    go (accepted x) e b = counted_yes (step_count g t s room x e)
    go (refused q p) e (bounded_no l m n) = counted_no n
