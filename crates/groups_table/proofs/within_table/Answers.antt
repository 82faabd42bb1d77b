use Rattle.std.proofs.Common.{arith}
use Rattle.rules.specs.Answer.{first_from}
use Rattle.rules.specs.Groups.{rows, row, ok3}
use Rattle.groups_table.proofs.Rows.{bits_below}
use Rattle.groups_table.proofs.within_table.Goals as goal

pub returns : goal.returns
unfolding ok3 first_from
returns c =
    let t = c.args.groups.now in
    rw (c.from.ensures, c.row_count.ensures, c.row.ensures)
    (bits_below (row t c.args.g) (rows t) (omega arith) (omega arith))
