-- A side's first record is within s.
use Rattle.std.proofs.Common.{arith}
use Rattle.inference.proofs.Front.{held_within}
use Rattle.inference.proofs.side_of.Goals as goal

pub slice_bounds-result-count : goal.slice_bounds-result-count
slice_bounds-result-count c = omega (arith, held_within c.side_at-from.result c.args.s.now (c.side_at-from.ensures c.requires.type c.requires.held))

pub slice_bounds-result-start : goal.slice_bounds-result-start
slice_bounds-result-start c = omega (arith, held_within c.side_at-from.result c.args.s.now (c.side_at-from.ensures c.requires.type c.requires.held))
