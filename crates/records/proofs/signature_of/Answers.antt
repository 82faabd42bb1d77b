-- Past the table nothing is named.
use Rattle.std.proofs.Common.{sym, ◌∙◌, arith}
use Rattle.rules.specs.Script.{signatures}
use Rattle.records.proofs.Table.{past_table}
use Rattle.records.proofs.signature_of.Goals as goal

pub returns-in-Err : goal.returns-in-Err
unfolding signatures
returns-in-Err c = c.entry.ensures ∙ sym (past_table _ (omega (arith, c.in-Err.ensures.1)))
