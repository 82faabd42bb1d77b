-- A call's record falls to the right in the script.
use Rattle.std.proofs.Common.{◌-◌, length}
use Rattle.sheet.proofs.+write.Given as goal

abbrev pub decreases-write : goal.decreases-write
decreases-write l = length l.value.now - l.i
