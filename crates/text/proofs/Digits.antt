-- The digits of a number are those that std writes, and 20 at most.
use Rattle.std.proofs.Common.{◌≡◌, ℕ, zero, suc, ◌+◌, ◌/◌, ◌%◌, ◌^◌, ◌<◌, ◌≤◌, [], ◌∷◌, length, sym, ap, ◌∙◌, ◌⊎◌, inl}
use Rattle.std.proofs.Common.{inr, arith, lt-ltb, le-ltb, append-nil}
use Rattle.std.specs.Fmt as std
use Rattle.std.proofs.lemmas.Bool.{cases_lt}
use Rattle.std.proofs.lemmas.Fmt.{PrependsLastDigit, decimal_from_prepends, length-decimal-le}
use Rattle.rules.specs.Answer.{Bytes}
use Rattle.rules.specs.Report.{digits, decimal_digits}

prepends : PrependsLastDigit digits
unfolding digits
prepends = record { one = λ k n acc l. rw (lt-ltb n 10 l, digits); more = λ k n acc l. rw (le-ltb n 10 l, digits) }

pub decimal_is : (n : ℕ) → n < 2 ^ 64 → std.decimal n ≡ decimal_digits n
unfolding decimal_digits
decimal_is n l =
    sym (decimal_from_prepends digits prepends 20 n [] l (length-decimal-le 20 n (omega arith) (omega arith) l) ∙ append-nil (std.decimal n))

digits_length : (k n : ℕ) (rest : Bytes) → length (digits k n rest) ≤ k + length rest
unfolding digits
digits_length zero n rest = omega arith
digits_length (suc k) n rest = go (cases_lt n 10) (digits_length k (n / 10) ((48 + n % 10) ∷ rest))
  where
    go : (n < 10) ⊎ (10 ≤ n) → length (digits k (n / 10) ((48 + n % 10) ∷ rest)) ≤ k + length ((48 + n % 10) ∷ rest)
        → length (digits (suc k) n rest) ≤ suc k + length rest
    go (inl l) ih = omega (arith, ap length (prepends.one k n rest l))
    go (inr l) ih = omega (arith, ap length (prepends.more k n rest l))

pub decimal_length : (n : ℕ) → length (decimal_digits n) ≤ 20
unfolding decimal_digits
decimal_length n = omega (arith, digits_length 20 n [])
