-- The pending count goes on at i as it began at `start`, and has grown by at most 2 a record.
use Rattle.std.proofs.Common.{◌≡◌, ◌≤◌, ◌<◌, ◌+◌, ◌-◌, ◌*◌}
use Rattle.rules.specs.Types.{end_after}
use Rattle.rules.specs.Script.{kind, records, arity, term_end}
use Rattle.records.proofs.term_end.Given as goal

abbrev pub invariant-loop-i : goal.invariant-loop-i
invariant-loop-i l =
    (0 < l.pending) × (l.pending ≤ 2 * (l.i - l.start) + 1) × (end_after (λ j. arity (kind l.script j)) (records l.script - l.i) l.pending l.i ≡ term_end l.script l.start)
