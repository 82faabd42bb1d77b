use Rattle.std.proofs.Common.{◌≡◌}
use Rattle.rules.specs.Limits.{sheet_width}
use Rattle.lines.proofs.SoFar.{SoFar}
use Rattle.lines.proofs.sheet_lines.Given as goal

abbrev pub invariant-loop-record : goal.invariant-loop-record
invariant-loop-record l =
    (l.record-iterator.size ≡ sheet_width) × SoFar l.words l.sheet l.record-iterator.rest.now l.initial.text l.text
