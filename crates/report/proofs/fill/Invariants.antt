-- The bytes read so far are at the front of the buffer.
use Rattle.std.proofs.Common.{length, ◌-◌, ◌≤◌}
use Rattle.report.proofs.fill.Given as goal

abbrev pub invariant-loop-n : goal.invariant-loop-n
invariant-loop-n g l = l.n ≤ length l.buffer

abbrev pub decreases-loop-n : goal.decreases-loop-n
decreases-loop-n g l = length l.initial.buffer - l.n
