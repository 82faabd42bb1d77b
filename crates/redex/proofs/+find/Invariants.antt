-- The measure is the depth that is left.
use Rattle.std.proofs.Common.{◌-◌}
use Rattle.rules.specs.Limits.{depth_limit}
use Rattle.redex.proofs.+find.Given as goal

abbrev pub decreases-find : goal.decreases-find
decreases-find l = depth_limit - l.depth
