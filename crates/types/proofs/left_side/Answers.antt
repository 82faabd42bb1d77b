-- The left side follows the first record.
use Rattle.std.proofs.Common.{arith, length-drop}
use Rattle.types.proofs.Parts.{to_end, long, sided_left}
use Rattle.types.proofs.left_side.Goals as goal

pub slice_bounds-result-count : goal.slice_bounds-result-count
slice_bounds-result-count c = long c.requires.held

pub slice_bounds-result-start : goal.slice_bounds-result-start
slice_bounds-result-start c = long c.requires.held

pub returns-clause-side : goal.returns-clause-side
returns-clause-side c t h = rw to_end (sided_left c.requires t h)

pub returns-clause-shorter : goal.returns-clause-shorter
returns-clause-shorter c = rw to_end (simp length-drop (omega (arith, long c.requires.held)))
