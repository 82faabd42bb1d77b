-- Stripping keeps the length.
use Rattle.std.proofs.Common.{◌≡◌, refl, ap, [], ◌∷◌, ℕ, suc, length}
use Rattle.rules.specs.Answer.{Bytes}
use Rattle.rules.specs.Strip.{strip_from}

pub strip_length : (w i : ℕ) (s : Bytes) → length (strip_from w i s) ≡ length s
unfolding strip_from
strip_length w i [] = refl
strip_length w i (b ∷ s) = ap suc (strip_length w (suc i) s)
