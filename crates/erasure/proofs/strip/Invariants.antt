-- The bytes before i are stripped.
use Rattle.std.proofs.Common.{◌≡◌}
use Rattle.rules.specs.Strip.{strip_from}
use Rattle.erasure.proofs.Stripped.{stored}
use Rattle.erasure.proofs.strip.Given as goal

abbrev pub invariant-loop-i : goal.invariant-loop-i
invariant-loop-i l = l.bytes ≡ stored l.i (strip_from l.width 0 l.fn.bytes) l.fn.bytes
