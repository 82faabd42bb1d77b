-- How a step ends, and what is too big (manual, 6.4).
use Rattle.std.specs.Prelude.{Bool, if◌then◌else◌, ◌||◌, ℕ, ◌/◌, nat_lt}
use Rattle.calculus.specs.Security.{Security}
use Rattle.calculus.specs.Types.{Ty}
use Rattle.calculus.specs.Terms.{Term}
use Rattle.calculus.specs.Reduction.{Outcome, value, moved, denied, stuck, step}
use Rattle.rules.specs.Limits.{script_width, script_limit, depth_limit}
use Rattle.rules.specs.Script.{size, depth}

-- how a step ends, with the new term where it moves
pub data End : Type 0 where
  at_value : End
  moves : Term → End
  may_not : End
  wrong_kind : End
  too_big : End

-- Ends as numbers: 0 value, 1 moved, 2 the reader may not, 3 wrong kind, 4 too big.
abbrev pub end_number : End → ℕ
end_number at_value = 0
end_number (moves e) = 1
end_number may_not = 2
end_number wrong_kind = 3
end_number too_big = 4

-- Too big: over 8,192 records, over as many as the written buffer holds, or deeper than 256.
unfoldable pub exceeds : ℕ → Term → Bool
exceeds room e = nat_lt script_limit (size e) || (nat_lt (room / script_width) (size e) || nat_lt depth_limit (depth e))

-- the end of a step: of a term that moved, its measure decides
abbrev pub end_of_outcome : ℕ → Outcome → End
end_of_outcome room value = at_value
end_of_outcome room (moved e) = if exceeds room e then too_big else moves e
end_of_outcome room denied = may_not
end_of_outcome room stuck = wrong_kind

-- a step that writes to a buffer of `room` bytes
unfoldable pub step_in : Security → (ℕ → Ty) → ℕ → Term → End
step_in S tab room e = end_of_outcome room (step S tab e)

-- the record count that a step reports, where the script's own is given
abbrev pub end_count : ℕ → End → ℕ
end_count own (moves e) = size e
end_count own _ = own
