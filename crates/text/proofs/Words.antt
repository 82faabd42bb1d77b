-- The words of the sheet's kinds.
use Rattle.std.proofs.Common.{◌≡◌, ℕ, ◌*◌, ◌≤◌, [], ◌∷◌, length, take, drop, refl, ap, ◌∙◌, arith, length-take}
use Rattle.std.proofs.Common.{length-drop}
use Rattle.std.proofs.Math.Seq.{take-nil}
use Rattle.rules.specs.Answer.{Bytes}
use Rattle.rules.specs.Limits.{word_width, word_limit, words_length}
use Rattle.rules.specs.Words.{letters, word}
use Rattle.words.proofs.WordBytes.{letters_few}

-- no word has more than 12 letters
pub word_length : (w : Bytes) (k : ℕ) → length (word w k) ≤ word_width
unfolding word
word_length w k = omega (arith, length-take (letters w k) (drop (word_width * k) w), letters_few w k)

-- a kind past the last has no word
pub no_word : (w : Bytes) (k : ℕ) → length w ≡ words_length → word_limit ≤ k → word w k ≡ []
unfolding word
no_word w k e l = ap (take (letters w k)) (none_left (drop (word_width * k) w) (simp length-drop (omega arith))) ∙ take-nil (letters w k)
  where
    none_left : (b : Bytes) → length b ≡ 0 → b ≡ []
    none_left [] z = refl
    none_left (x ∷ b) z = absurd (omega arith)
