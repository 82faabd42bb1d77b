-- Answers of calls, and the search through rows or records in rising order (manual, 9.1).
use Rattle.std.specs.Prelude.{Bool, true, false, not, List, ℕ, zero, suc, ◌<◌, get_or}
use Rattle.std.proofs.Math.Option.{Option, none, some}

-- a lent slice's content
abbrev pub Bytes : Type 0
Bytes = List ℕ

-- byte i, counted from 0; 0 past the end
abbrev pub byte : Bytes → ℕ → ℕ
byte b i = get_or b i 0

-- What a lent slice holds are numbers below 256.
abbrev pub Octets : Bytes → Type 0
Octets b = (i : ℕ) → byte b i < 256

-- accepted with a result, or refused with the question's number and the place
pub data Answer (A : Type 0) : Type 0 where
  accepted : A → Answer A
  refused : ℕ → ℕ → Answer A

-- One question after another: the first no ends them.
abbrev pub ◌>>=◌ : {A B : Type 0} → Answer A → (A → Answer B) → Answer B
◌>>=◌ (accepted a) f = f a
◌>>=◌ (refused q p) f = refused q p

-- the same of an answer that is only yes or no
abbrev pub ◌>>◌ : {A B : Type 0} → Answer A → Answer B → Answer B
◌>>◌ (accepted a) b = b
◌>>◌ (refused q p) b = refused q p

-- question q with a given place
abbrev pub ask : ℕ → ℕ → Bool → Answer (Unit {0})
ask q place true = accepted tt
ask q place false = refused q place

-- the first of i, i + 1, .., i + n - 1 that passes the test
unfoldable pub first_from : (ℕ → Bool) → ℕ → ℕ → Option ℕ
first_from test zero i = none
first_from test (suc n) i = elim (test i) [ true ↦ some i | false ↦ first_from test n (suc i) ]

-- the first number below n that passes the test
abbrev pub first_below : (ℕ → Bool) → ℕ → Option ℕ
first_below test n = first_from test n 0

-- the last number below n that passes the test
unfoldable pub last_below : (ℕ → Bool) → ℕ → Option ℕ
last_below test zero = none
last_below test (suc n) = elim (test n) [ true ↦ some n | false ↦ last_below test n ]

-- is there none?
abbrev pub is_absent : {A : Type 0} → Option A → Bool
is_absent none = true
is_absent (some a) = false

-- do all numbers below n pass the test?
abbrev pub all_below : (ℕ → Bool) → ℕ → Bool
all_below test n = is_absent (first_below (λ i. not (test i)) n)

-- a no at a place, if there is one
abbrev pub refused_at : ℕ → Option ℕ → Answer (Unit {0})
refused_at q none = accepted tt
refused_at q (some place) = refused q place

-- Question q of each of n rows or records in rising order; the place is the first that is answered no.
abbrev pub each : ℕ → ℕ → (ℕ → Bool) → Answer (Unit {0})
each q n ok = refused_at q (first_below (λ i. not (ok i)) n)

-- Does b hold if the first does?
infixr 25 ◌⇒◌
abbrev pub ◌⇒◌ : Bool → Bool → Bool
true ⇒ b = b
false ⇒ b = true
