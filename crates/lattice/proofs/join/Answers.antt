-- Trailing zeros of the common bits are the lowest of them.
use Rattle.std.proofs.Common.{ap, ◌∙◌, arith}
use Rattle.rules.specs.Groups.{row}
use Rattle.lattice.proofs.Words.{join_none, join_some}
use Rattle.lattice.proofs.join.Goals as goal

pub returns-then-both-eq0 : goal.returns-then-both-eq0
returns-then-both-eq0 c =
    let t = c.args.groups.now in
    join_none t c.args.g c.args.h _ _ (c.row.ensures ∙ ap (row t) c.from.ensures) (c.row-2.ensures ∙ ap (row t) c.from-2.ensures) c.if-both-eq0.true

pub returns : goal.returns
returns c =
    let t = c.args.groups.now in
    join_some t c.args.g c.args.h _ _ (c.row.ensures ∙ ap (row t) c.from.ensures) (c.row-2.ensures ∙ ap (row t) c.from-2.ensures) (omega arith) (omega arith) c.if-both-eq0.false
