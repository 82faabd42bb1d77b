-- The measure is how far the first type's record is from the buffer's end.
use Rattle.std.proofs.Common.{length, ◌-◌}
use Rattle.common_types.proofs.+common.Given as goal

abbrev pub decreases-common : goal.decreases-common
decreases-common l = length l.work.now - l.at
