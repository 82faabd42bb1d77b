-- Every statement holds by computation.
use Rattle.std.proofs.Common.{refl}
use Rattle.rules.specs.WordExamples.{WordExamples}
use Rattle.rules.specs.Words.{word, words_check}
use Rattle.rules.specs.Report.{text, our_words, report}

pub word_examples : WordExamples
unfolding text our_words word words_check report
word_examples = record {
  ours_pass = refl;
  missing_means_ours = λ g t s. refl;
  word_0 = refl;
  word_1 = refl;
  word_2 = refl;
  word_3 = refl;
  word_4 = refl;
  word_5 = refl;
  word_6 = refl;
  no_word_7 = refl;
  empty = refl;
  six_words = refl;
  byte_short = refl;
  byte_long = refl;
  one_letter = refl;
  a_to_z = refl;
  twelve_letters = refl;
  twelve_printed = refl;
  no_letter = refl;
  zero_first = refl;
  letter_after_zero = refl;
  last_byte_after_zero = refl;
  capital = refl;
  capital_within = refl;
  before_a = refl;
  after_z = refl;
  space = refl;
  lower_index = refl;
  later_place = refl;
  last_of_three = refl;
  begins_alike = refl;
  twelve_alike = refl;
  all_33_first = refl;
  own_report = refl;
  refused_report = refl;
  refused_before_2 = refl;
}
