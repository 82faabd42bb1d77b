-- A word is within another where their common bits are the word.
use Rattle.std.proofs.Common.{sym, arith}
use Rattle.groups_table.proofs.Rows.{pair5_on}
use Rattle.groups_table.proofs.transitive_through.Goals as goal

pub returns : goal.returns
returns c =
    pair5_on c.args.groups.now c.args.g c.args.above _ _ c.row-whole.ensures c.row-part.ensures
    (sym c.if-not-bit.ensures) (omega arith) (omega arith)
