-- A set of 16-bit numbers as bits.
use Rattle.std.specs.Prelude.{◌≡◌, Bool, ℕ, ◌/◌, ◌%◌, ◌<◌}
use Rattle.rules.specs.Answer.{Bytes, byte}
use Rattle.rules.specs.Groups.{bit}
use Rattle.rules.specs.InForce.{among}

-- 2^16
abbrev pub number_count : ℕ
number_count = 65536

-- is i in the set?
abbrev pub is_marked : Bytes → ℕ → Bool
is_marked s i = bit (byte s (i / 8)) (i % 8)

-- the set is the first n numbers of a column
pub record Marks (column : ℕ → ℕ) (n : ℕ) (s : Bytes) : Type 0 where
  pub each : (i : ℕ) → i < number_count → is_marked s i ≡ among column n i
