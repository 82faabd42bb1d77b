-- A studio's own words for the report: 7 records of 12 bytes, and questions 32 to 34 (manual, 7.4).
use Rattle.std.specs.Prelude.{Bool, not, ◌&&◌, ℕ, ◌+◌, ◌*◌, nat_eq, nat_le, length, take, drop}
use Rattle.std.proofs.Math.Option.{Option, none, some}
use Rattle.rules.specs.Answer.{Bytes, byte, Answer, ◌>>◌, ask, each, first_from, first_below, all_below, ◌⇒◌}
use Rattle.rules.specs.Limits.{word_width, word_limit, words_length}

-- byte j of word i
abbrev pub word_byte : Bytes → ℕ → ℕ → ℕ
word_byte w i j = byte w (word_width * i + j)

-- the letters a to z
abbrev pub is_letter : ℕ → Bool
is_letter c = nat_le 97 c && nat_le c 122

-- the found number, or 12
abbrev pub or_12 : Option ℕ → ℕ
or_12 none = word_width
or_12 (some n) = n

-- how many letters word i starts with: the place of its first byte that is none
unfoldable pub letters : Bytes → ℕ → ℕ
unfolding first_from
letters w i = or_12 (first_below (λ j. not (is_letter (word_byte w i j))) word_width)

-- the text of word i: its letters
unfoldable pub word : Bytes → ℕ → Bytes
unfolding letters
word w i = take (letters w i) (drop (word_width * i) w)

-- 32. Has the table of words 84 bytes? Place: 0.
abbrev pub q32 : Bytes → Answer (Unit {0})
q32 w = ask 32 0 (nat_eq (length w) words_length)

-- is word i zero bytes from byte n on?
abbrev pub zeros_from : Bytes → ℕ → ℕ → Bool
zeros_from w i n = all_below (λ j. nat_le n j ⇒ nat_eq (word_byte w i j) 0) word_width

-- 33. Has the word at least one letter, and after its first letters zero bytes alone? Place: the word.
unfoldable pub ok33 : Bytes → ℕ → Bool
unfolding letters first_from
ok33 w i = nat_le 1 (letters w i) && zeros_from w i (letters w i)

-- 33, of each word
abbrev pub q33 : Bytes → Answer (Unit {0})
q33 w = each 33 word_limit (ok33 w)

-- Are words i and j the same in every byte?
unfoldable pub same_word : Bytes → ℕ → ℕ → Bool
unfolding first_from
same_word w i j = all_below (λ k. nat_eq (word_byte w i k) (word_byte w j k)) word_width

-- 34. Does the word differ from every word before it? Place: the word.
unfoldable pub ok34 : Bytes → ℕ → Bool
unfolding first_from same_word
ok34 w i = all_below (λ j. not (same_word w i j)) i

-- 34, of each word, once all have passed 33
abbrev pub q34 : Bytes → Answer (Unit {0})
q34 w = each 34 word_limit (ok34 w)

-- questions 32 to 34
unfoldable pub words_check : Bytes → Answer (Unit {0})
unfolding first_from ok33 ok34
words_check w = do
  q32 w
  q33 w
  q34 w
