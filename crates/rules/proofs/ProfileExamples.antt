-- Every statement holds by computation.
use Rattle.std.proofs.Common.{refl}
use Rattle.rules.specs.ProfileExamples.{ProfileExamples}
use Rattle.rules.specs.Calls.{type_records}
use Rattle.rules.specs.Profile.{profile_checking}

pub profile_examples : ProfileExamples
unfolding type_records profile_checking
profile_examples = record {
  without = refl;
  alone = refl;
  first_of_two = refl;
  unbound_first = refl;
  typing_later = refl;
  buffers_before_39 = refl;
  work_unchanged = refl;
  answer_unchanged = refl;
  work_cleared_at_21 = refl;
}
