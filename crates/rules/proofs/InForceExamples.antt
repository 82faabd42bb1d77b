-- Every statement holds by computation.
use Rattle.std.proofs.Common.{refl}
use Rattle.rules.specs.InForce.{in_force}
use Rattle.rules.specs.InForceExamples.{numbers, InForceExamples}

pub in_force_examples : InForceExamples
unfolding numbers in_force
in_force_examples = record {
  empty = refl;
  no_amendment = refl;
  from_first = refl;
  from_middle = refl;
  from_last = refl;
  unreplaced = refl;
  two_after_one_another = refl;
  unnamed = refl;
  past_list = refl;
  no_index = refl;
  wide_index = refl;
  same_type = refl;
  lower_type = refl;
  groups_first = refl;
  types_first = refl;
  half_a_script = refl;
  half_an_entry = refl;
  no_such_type = refl;
  wide_type = refl;
  first_past = refl;
  first_none = refl;
  replaced_past = refl;
  replaced_65534 = refl;
  first_again = refl;
  replaced_unlisted = refl;
  replaced_listed_later = refl;
  replaces_itself = refl;
  replaced_again = refl;
  higher_type = refl;
  lower_entry = refl;
  listed_and_replaced = refl;
  replaced_and_higher = refl;
}
