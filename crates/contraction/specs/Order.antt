-- A groups table's rows stand in order, and the rows up to a group.
use Rattle.std.specs.Prelude.{ℕ, ◌+◌, ◌*◌, ◌≤◌, take, IsTrue}
use Rattle.rules.specs.Answer.{Bytes}
use Rattle.rules.specs.Limits.{row_width}
use Rattle.rules.specs.Groups.{leq, join}

-- A group is below none before it, and its join with 0 isn't past it. Every table that passes questions 2 to 7 is so.
pub record InOrder (t : Bytes) : Type 0 where
  pub rising : (g h : ℕ) → IsTrue (leq t g h) → g ≤ h
  pub from_zero : (g : ℕ) → join t 0 g ≤ g

-- the rows of groups 0 to g
abbrev pub up_to : Bytes → ℕ → Bytes
up_to t g = take (row_width * (g + 1)) t
