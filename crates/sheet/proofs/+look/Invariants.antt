-- A call's record falls to the right in the script.
use Rattle.std.proofs.Common.{◌-◌, length}
use Rattle.sheet.proofs.+look.Given as goal

abbrev pub decreases-look : goal.decreases-look
decreases-look l = length l.value.now - l.i
