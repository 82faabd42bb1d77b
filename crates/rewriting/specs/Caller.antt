-- One record of a script, as the callers are written: records of any width, over types of any width.
use Rattle.std.specs.Prelude.{◌≡◌, Bool, ℕ, ◌+◌, ◌*◌, set}
use Rattle.rules.specs.Answer.{Bytes, byte}
use Rattle.rules.specs.Callers.{recursion_of_type, caller}

-- the number of record i, where records have this width
abbrev pub record_number_at : ℕ → Bytes → ℕ → ℕ
record_number_at width s i = byte s (width * i + 4) + 256 * byte s (width * i + 5)

-- is record i a recursion of a type of the table?
abbrev pub recursion_at : ℕ → ℕ → Bytes → Bytes → ℕ → Bool
recursion_at type_bytes width t s i = recursion_of_type type_bytes t (byte s (width * i)) (record_number_at width s i)

-- what is put into its byte 1
abbrev pub caller_at : ℕ → ℕ → Bytes → Bytes → ℕ → ℕ
caller_at type_bytes width t s i =
    caller type_bytes t (byte s (width * i)) (byte s (width * i + 1)) (record_number_at width s i)

-- s' is s with the caller of record i written, and b says whether it is so written
pub record WrittenAt (type_bytes width : ℕ) (t s : Bytes) (i : ℕ) (b : Bool) (s' : Bytes) : Type 0 where
  pub wrote : b ≡ recursion_at type_bytes width t s i
  pub script : s' ≡ set s (width * i + 1) (caller_at type_bytes width t s i)
