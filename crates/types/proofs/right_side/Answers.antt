-- The right side follows the left one.
use Rattle.std.proofs.Common.{arith, length-drop}
use Rattle.types.proofs.Parts.{to_end, counted_right, counted_fits}
use Rattle.types.proofs.right_side.Goals as goal

pub overflow_mul-at : goal.overflow_mul-at
overflow_mul-at c = omega (arith, counted_fits c.requires)

pub overflow_add-at : goal.overflow_add-at
overflow_add-at c = omega (arith, counted_fits c.requires)

pub slice_bounds-result-count : goal.slice_bounds-result-count
slice_bounds-result-count c = omega (arith, counted_fits c.requires)

pub slice_bounds-result-start : goal.slice_bounds-result-start
slice_bounds-result-start c = omega (arith, counted_fits c.requires)

pub returns-clause-side : goal.returns-clause-side
returns-clause-side c t h = rw to_end (counted_right c.requires t h)

pub returns-clause-shorter : goal.returns-clause-shorter
returns-clause-shorter c = rw to_end (simp length-drop (omega (arith, counted_fits c.requires)))
