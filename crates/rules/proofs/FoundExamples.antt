-- Every statement holds by computation.
use Rattle.std.proofs.Common.{refl}
use Rattle.rules.specs.FoundExamples.{FoundExamples}
use Rattle.rules.specs.Answer.{first_from, last_below}
use Rattle.rules.specs.Groups.{meet}
use Rattle.rules.specs.Types.{encode_type}
use Rattle.rules.specs.Script.{encode, size, depth, term, depths_from, binders_from, ok18}
use Rattle.rules.specs.Step.{exceeds}
use Rattle.rules.specs.Strip.{strip_from}
use Rattle.rules.specs.Calls.{check_call, type_bytes, step_call}

pub found_examples : FoundExamples
unfolding first_from last_below meet encode_type encode size depth term depths_from binders_from ok18 exceeds strip_from check_call type_bytes step_call
found_examples = record {
  found = refl;
  found_raised = refl;
  joined_not_larger = refl;
  met = refl;
  meet_not_smaller = refl;
  no_common_type = refl;
  second_branch_first = refl;
  first_branch_first = refl;
  reader_as_ever = refl;
  work_cleared_at_31 = refl;
  no_own_function = refl;
  no_own_injection = refl;
  no_own_recursion = refl;
  own_256 = refl;
  own_257 = refl;
  own_fits = refl;
  own_exceeds = refl;
  own_steps = refl;
  own_stripped = refl;
}
