-- Bytes are below 256, also in parts.
use Rattle.std.proofs.Common.{[], ◌∷◌, ◌++◌, ℕ, zero, suc, arith, take, drop}
use Rattle.rules.specs.Answer.{Bytes, Octets}

pub octets_append : (a b : Bytes) → Octets a → Octets b → Octets (a ++ b)
octets_append [] b p q i = q i
octets_append (x ∷ a) b p q zero = p zero
octets_append (x ∷ a) b p q (suc i) = octets_append a b (λ j. p (suc j)) q i

pub octets_drop : (n : ℕ) (s : Bytes) → Octets s → Octets (drop n s)
octets_drop zero s p = p
octets_drop (suc n) [] p = λ i. omega arith
octets_drop (suc n) (x ∷ s) p = octets_drop n s (λ j. p (suc j))

pub octets_take : (n : ℕ) (s : Bytes) → Octets s → Octets (take n s)
octets_take zero s p i = omega arith
octets_take (suc n) [] p i = omega arith
octets_take (suc n) (x ∷ s) p zero = p zero
octets_take (suc n) (x ∷ s) p (suc i) = octets_take n s (λ j. p (suc j)) i
