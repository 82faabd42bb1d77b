-- The bits of a word are its binary digits.
use Rattle.std.proofs.Common.{◌≡◌, refl, ap, ◌∙◌, Bool, true, false, cond, ℕ, zero, suc, ◌+◌, ◌*◌, ◌/◌, ◌%◌, ◌^◌, ◌<◌}
use Rattle.std.proofs.Common.{arith, eq-eqb, ne_eqb, nat_eq}
use Rattle.rules.specs.Groups.{bit}
use Rattle.lattice.proofs.Bits.{bit_suc, bit_zero, half_lt, digit_lt}
use Rattle.lattice.specs.Digits.{word_of, BitsAreDigits, BitsOfWords}

word_same : (n : ℕ) (a b : ℕ → Bool) → ((h : ℕ) → a h ≡ b h) → word_of a n ≡ word_of b n
unfolding word_of
word_same zero a b e = refl
word_same (suc n) a b e = rw (e 0, word_same n (λ h. a (suc h)) (λ h. b (suc h)) (λ h. e (suc h)))

-- the lowest digit, as a number
low : (x : ℕ) → cond (nat_eq (x % 2) 1) 1 0 ≡ x % 2
low x = go (x % 2) (digit_lt x)
  where
    go : (d : ℕ) → d < 2 → cond (nat_eq d 1) 1 0 ≡ d
    go zero l = refl
    go (suc zero) l = refl
    go (suc (suc d)) l = absurd (omega arith)

every_word : (n word : ℕ) → word < 2 ^ n → word_of (bit word) n ≡ word
unfolding word_of
every_word zero word l = omega arith
every_word (suc n) word l =
    omega (
      arith,
      ap (λ (b : Bool). cond b 1 0) (bit_zero word) ∙ low word,
      word_same n (λ h. bit word (suc h)) (bit (word / 2)) (bit_suc word) ∙ every_word n (word / 2) (half_lt n l),
    )

-- a word's half and lowest digit
halved : (b : Bool) (y : ℕ) → (cond b 1 0 + 2 * y) / 2 ≡ y
halved true y = omega arith
halved false y = omega arith

lowest : (b : Bool) (y : ℕ) → nat_eq ((cond b 1 0 + 2 * y) % 2) 1 ≡ b
lowest true y = eq-eqb ((1 + 2 * y) % 2) 1 (omega arith)
lowest false y = ne_eqb ((0 + 2 * y) % 2) 1 (λ e. omega arith)

right : (n : ℕ) (digit : ℕ → Bool) (h : ℕ) → h < n → bit (word_of digit n) h ≡ digit h
unfolding word_of
right zero digit h l = absurd (omega arith)
right (suc n) digit zero l = bit_zero (word_of digit (suc n)) ∙ lowest (digit 0) (word_of (λ k. digit (suc k)) n)
right (suc n) digit (suc h) l =
    bit_suc (word_of digit (suc n)) h
    ∙ ap (λ (x : ℕ). bit x h) (halved (digit 0) (word_of (λ k. digit (suc k)) n))
    ∙ right n (λ k. digit (suc k)) h (omega arith)

pub bits_are_digits : (n : ℕ) → BitsAreDigits n
bits_are_digits n = record { every_word = every_word n; right = right n }

pub bits_of_words : BitsOfWords
unfolding BitsOfWords
bits_of_words = bits_are_digits
