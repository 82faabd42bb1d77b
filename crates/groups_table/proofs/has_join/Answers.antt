-- The common bits as one word, and the row of the lowest as another.
use Rattle.std.proofs.Common.{ap, ◌∙◌, eq-eqb, arith, not}
use Rattle.groups_table.proofs.Rows.{common_none, common_row}
use Rattle.groups_table.proofs.has_join.Goals as goal

pub returns-then-both-ne0 : goal.returns-then-both-ne0
returns-then-both-ne0 c =
    common_row c.args.groups.now c.args.g c.args.other _ _ c.row.ensures c.row-2.ensures (omega arith) (omega arith)
    c.if-both-ne0.true _ c.row-then-both-ne0.ensures (omega arith)

pub returns-else-both-ne0 : goal.returns-else-both-ne0
returns-else-both-ne0 c =
    ap not (eq-eqb _ 0 c.if-both-ne0.false)
    ∙ common_none c.args.groups.now c.args.g c.args.other _ _ c.row.ensures c.row-2.ensures c.if-both-ne0.false
