-- The walk over the type goes on at i with as many sides to come as are pending.
use Rattle.std.proofs.Common.{◌≡◌, ◌+◌, ◌-◌, ◌≤◌}
use Rattle.rules.specs.Types.{type_count, type_end}
use Rattle.types.proofs.Counting.{walk}
use Rattle.types.proofs.type_records.Given as goal

abbrev pub invariant-loop-pending : goal.invariant-loop-pending
invariant-loop-pending l = (l.i ≤ type_count l.part) × (l.pending ≤ l.i + 1) × (type_end l.part 0 ≡ walk l.part l.pending l.i)

abbrev pub decreases-loop-pending : goal.decreases-loop-pending
decreases-loop-pending l = type_count l.part - l.i
