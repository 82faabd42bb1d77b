-- The callers before record i are written, and so many were counted.
use Rattle.std.proofs.Common.{◌≡◌, ◌≤◌, length}
use Rattle.rewriting.proofs.Callers.{Passed}
use Rattle.rewriting.proofs.write_callers_of.Given as goal

abbrev pub invariant-loop-i : goal.invariant-loop-i
invariant-loop-i l =
    (length l.script ≡ length l.initial.script) × (l.written ≤ l.i)
    × ((wide : 6 ≤ l.width) → Passed l.type_width l.width wide l.types l.initial.script l.script l.i l.written)
