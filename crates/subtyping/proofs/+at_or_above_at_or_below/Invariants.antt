-- The measure is the length of the first part.
use Rattle.std.proofs.Common.{length}
use Rattle.subtyping.proofs.+at_or_above_at_or_below.Given as goal

abbrev pub decreases-at_or_above : goal.decreases-at_or_above
decreases-at_or_above l = length l.upper.now

abbrev pub decreases-at_or_below : goal.decreases-at_or_below
decreases-at_or_below l = length l.lower.now
