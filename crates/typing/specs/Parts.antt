-- The part of the script that an operand is, and the part of the work buffer that is lent for it.
use Rattle.std.specs.Prelude.{◌≡◌, if◌then◌else◌, ℕ, ◌+◌, ◌*◌, length, nat_eq}
use Rattle.calculus.specs.Terms.{Term}
use Rattle.rules.specs.Answer.{Bytes}
use Rattle.rules.specs.Limits.{script_width, answer_length}
use Rattle.rules.specs.Script.{size}
use Rattle.records.specs.Place.{At}

-- where the second operand's part of the work buffer starts, of a node of o operands
abbrev pub kept_between : ℕ → ℕ
kept_between o = if nat_eq o 2 then answer_length else 0

-- operand j of the o of a node whose part is s, counted from 1, starts at record i; the last one ends with the part
pub record OperandAt (s : Bytes) (o j i : ℕ) : Type 0 where
  pub tree : Term
  pub at : At s i tree
  pub whole : j ≡ o → length s ≡ script_width * (i + size tree)

-- the part of s from record i to record `end` is an operand's
pub record PartOf (s : Bytes) (i end : ℕ) : Type 0 where
  pub tree : Term
  pub at : At s i tree
  pub ends : end ≡ i + size tree
