-- What bit h of a word is, apart from how it is taken: the binary digit of weight 2^h.
use Rattle.std.specs.Prelude.{◌≡◌, Bool, if◌then◌else◌, ℕ, zero, suc, ◌+◌, ◌*◌, ◌^◌, ◌<◌}
use Rattle.rules.specs.Groups.{bit}

-- the word of n digits, the lowest first
unfoldable pub word_of : (ℕ → Bool) → ℕ → ℕ
word_of digit zero = 0
word_of digit (suc n) = (if digit 0 then 1 else 0) + 2 * word_of (λ h. digit (suc h)) n

-- every word of n bits is that of its bits, and of n digits, bit h is digit h
pub record BitsAreDigits (n : ℕ) : Type 0 where
  pub every_word : (word : ℕ) → word < 2 ^ n → word_of (bit word) n ≡ word
  pub right : (digit : ℕ → Bool) (h : ℕ) → h < n → bit (word_of digit n) h ≡ digit h

unfoldable pub BitsOfWords : Type 0
BitsOfWords = (n : ℕ) → BitsAreDigits n
