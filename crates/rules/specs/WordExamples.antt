-- Examples of a studio's own words, and of the order of questions 32 to 34.
use Rattle.std.specs.Prelude.{◌≡◌, [], ◌∷◌, ◌++◌, ℕ, suc, ◌*◌, take, drop}
use Rattle.std.proofs.Math.Option.{none, some}
use Prim.Native.String.{String}
use Rattle.rules.specs.Answer.{Bytes, Answer, accepted, refused}
use Rattle.rules.specs.Limits.{word_width}
use Rattle.rules.specs.Calls.{zeros}
use Rattle.rules.specs.Words.{words_check}
use Rattle.rules.specs.Words as words
use Rattle.rules.specs.Report.{text, word_record, our_words, report}
use Rattle.rules.specs.Cases.{groups, types, case_term}

-- a table with another record i
abbrev pub put : ℕ → Bytes → Bytes → Bytes
put i b w = take (word_width * i) w ++ b ++ drop (word_width * suc i) w

-- the check of our words with another record i
abbrev pub with_record : ℕ → Bytes → Answer (Unit {0})
with_record i b = words_check (put i b our_words)

-- the check of our words with another word i
abbrev pub with_word : ℕ → String → Answer (Unit {0})
with_word i s = with_record i (word_record s)

-- Each field is one table with its answer, computed.
pub record WordExamples : Type 0 where
  -- ours pass their own test, and a missing file means them
  pub ours_pass : words_check our_words ≡ accepted tt
  pub missing_means_ours : (g t s : Bytes) → report none g t s ≡ report (some our_words) g t s
  pub word_0 : words.word our_words 0 ≡ text "unit"
  pub word_1 : words.word our_words 1 ≡ text "first"
  pub word_2 : words.word our_words 2 ≡ text "second"
  pub word_3 : words.word our_words 3 ≡ text "pair"
  pub word_4 : words.word our_words 4 ≡ text "function"
  pub word_5 : words.word our_words 5 ≡ text "closed"
  pub word_6 : words.word our_words 6 ≡ text "number"
  pub no_word_7 : words.word our_words 7 ≡ []
  -- 32: 84 bytes, the length of seven words; an empty file is no missing one
  pub empty : words_check [] ≡ refused 32 0
  pub six_words : words_check (take 72 our_words) ≡ refused 32 0
  pub byte_short : words_check (take 83 our_words) ≡ refused 32 0
  pub byte_long : words_check (our_words ++ (0 ∷ [])) ≡ refused 32 0
  -- 33: 1 to 12 letters, then zero bytes
  pub one_letter : with_word 3 "p" ≡ accepted tt
  pub a_to_z : with_word 3 "az" ≡ accepted tt
  pub twelve_letters : with_word 5 "abcdefghijkl" ≡ accepted tt
  pub twelve_printed : words.word (put 5 (text "abcdefghijkl") our_words) 5 ≡ text "abcdefghijkl"
  pub no_letter : with_record 5 (zeros 12) ≡ refused 33 5
  pub zero_first : with_record 0 (0 ∷ text "unit" ++ zeros 7) ≡ refused 33 0
  pub letter_after_zero : with_record 2 (text "sec" ++ (0 ∷ text "ond") ++ zeros 5) ≡ refused 33 2
  pub last_byte_after_zero : with_record 2 (text "second" ++ zeros 5 ++ text "x") ≡ refused 33 2
  pub capital : with_word 5 "Closed" ≡ refused 33 5
  pub capital_within : with_word 5 "close_d" ≡ refused 33 5
  pub before_a : with_record 1 (96 ∷ zeros 11) ≡ refused 33 1
  pub after_z : with_record 1 (123 ∷ zeros 11) ≡ refused 33 1
  pub space : with_word 4 "two words" ≡ refused 33 4
  pub lower_index : words_check (put 4 (zeros 12) (put 1 (word_record "Q") our_words)) ≡ refused 33 1
  -- 34: the later of two equal words; one that an earlier one begins differs from it
  pub later_place : with_word 4 "first" ≡ refused 34 4
  pub last_of_three : words_check (put 3 (word_record "unit") (put 5 (word_record "unit") our_words)) ≡ refused 34 3
  pub begins_alike : with_word 3 "firsts" ≡ accepted tt
  pub twelve_alike : words_check (put 0 (text "abcdefghijkl") (put 5 (text "abcdefghijkm") our_words)) ≡ accepted tt
  -- 33 of all words before 34 of any
  pub all_33_first : words_check (put 1 (word_record "unit") (put 5 (word_record "Closed") our_words)) ≡ refused 33 5
  -- The report in own words; a refused table prints one line, and nothing else is looked at.
  pub own_report : report (some (put 0 (word_record "einheit") (put 5 (word_record "verschlossen") our_words))) groups types (case_term 1 0 1)
      ≡ text "accepted 3\nend 0 steps 2 records 2\nfirst 0 0\neinheit 0 0\n"
  pub refused_report : report (some []) groups types (case_term 1 1 1) ≡ text "refused 32 at 0\n"
  pub refused_before_2 : report (some (put 1 (word_record "unit") our_words)) [] [] [] ≡ text "refused 34 at 1\n"
