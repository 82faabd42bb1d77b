use Rattle.std.proofs.Common.{sym, ◌∙◌, arith}
use Rattle.lattice.proofs.Meets.{past_table, searched_more, meet_found, meet_none}
use Rattle.lattice.proofs.meet.Goals as goal

pub loop-k-init : goal.loop-k-init
loop-k-init c =
    let e = c.rows_to_search-k.ensures in
    (e.within, past_table c.args.groups.now c.args.g c.args.h _ e.within e.zeros)

pub returns-then-below_both : goal.returns-then-below_both
returns-then-below_both c =
    meet_found c.args.groups.now c.args.g c.args.h c.loop-k.k (omega arith) c.loop-k.invariant.1
    (sym c.below_both.ensures ∙ c.if-below_both.true)

pub loop-k-preserved : goal.loop-k-preserved
loop-k-preserved c = (
  omega arith,
  searched_more c.args.groups.now c.args.g c.args.h c.loop-k.k (omega arith) c.loop-k.invariant.1
      (sym c.below_both.ensures ∙ c.if-below_both.false),
)

pub returns : goal.returns
returns c = meet_none c.args.groups.now c.args.g c.args.h c.loop-k.k (omega arith) c.loop-k.invariant.1
