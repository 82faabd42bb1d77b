-- Every statement holds by computation.
use Rattle.std.proofs.Common.{refl}
use Rattle.rules.specs.PreviewExamples.{PreviewExamples}
use Rattle.rules.specs.Script.{encode, size, depth}
use Rattle.rules.specs.Step.{exceeds}
use Rattle.rules.specs.Calls.{step_call}
use Rattle.rules.specs.Preview.{preview_call, move_call, moved_steps}

pub preview_examples : PreviewExamples
unfolding encode size depth exceeds step_call preview_call move_call moved_steps
preview_examples = record {
  value_shown = refl;
  moved_shown = refl;
  may_not_shown = refl;
  wrong_kind_shown = refl;
  too_big_shown = refl;
  largest_shown = refl;
  refused_shown = refl;
  made = refl;
  written = refl;
  answered_value = refl;
  answered_too_big = refl;
  unwritten = refl;
  other_end = refl;
  other_count = refl;
  wide_end = refl;
  wide_count = refl;
  refused_unwritten = refl;
  after_19 = refl;
  after_36 = refl;
  other_room = refl;
  shorter_room = refl;
  stale_taken = refl;
  stale_refused = refl;
  raised_once = refl;
  next_to_largest = refl;
  largest_stays = refl;
  value_keeps = refl;
  may_not_keeps = refl;
  wrong_kind_keeps = refl;
  too_big_keeps = refl;
  refusal_counts_nothing = refl;
}
