-- What the exported run passes on.
use Rattle.std.proofs.Common.{◌≡◌, refl, ℕ}
use Rattle.rules.specs.Answer.{Bytes, Octets, Answer, accepted, refused}
use Rattle.rules.specs.Run.{Ran}
use Rattle.rules.specs.Calls.{run_call, run_report}
use Rattle.packing.specs.Packed.{steps_after, Bounded, bounded_no, counted_yes, counted_no, RunCounted}
use Rattle.packing.proofs.Bounds.{run_bounded}
use Rattle.packing.proofs.Exported.{run_ends}
use Rattle.wigneld.specs.Exported.{steps_told}

pub run_counted : (g t s : Bytes) (budget first scratch : ℕ) → Octets s → RunCounted (run_report (run_call g t s budget first scratch))
unfolding run_report
run_counted g t s budget first scratch o = go (run_call g t s budget first scratch) refl (run_bounded g t s budget first scratch)
  where
    go : (a : Answer Ran) → run_call g t s budget first scratch ≡ a → Bounded a → RunCounted (run_report a)
    go (accepted x) e b = counted_yes (run_ends g t s budget first scratch x o e).last
    go (refused q p) e (bounded_no l m n) = counted_no n

pub steps_same : (a : Answer Ran) (old : Bytes) → steps_told (run_report a) old ≡ steps_after a old
unfolding run_report
steps_same (accepted x) old = refl
steps_same (refused q p) old = refl
