-- Types and numbers of a table of an earlier form.
use Rattle.std.proofs.Common.{length, ℕ, ◌*◌, ◌+◌, ◌/◌}
use Rattle.rules.specs.Answer.{Bytes, byte}
use Rattle.rules.specs.Limits.{old_script_width, old_type_width}

abbrev pub old_type_count : Bytes → ℕ
old_type_count t = length t / old_type_width

abbrev pub old_type_r : Bytes → ℕ → ℕ
old_type_r t i = byte t (old_type_width * i + 1)

abbrev pub old_number : Bytes → ℕ → ℕ
old_number s i = byte s (old_script_width * i + 4) + 256 * byte s (old_script_width * i + 5)
