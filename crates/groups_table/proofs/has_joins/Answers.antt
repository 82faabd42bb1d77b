use Rattle.std.proofs.Common.{rules}
use Rattle.rules.specs.Answer.{first_from}
use Rattle.rules.specs.Groups.{ok6}
use Rattle.groups_table.specs.Pairs.{pair6}
use Rattle.groups_table.proofs.has_joins.Goals as goal

pub returns : goal.returns
unfolding ok6 first_from
returns c = rw (← c.row_count-n.ensures) (c.all.ensures (pair6 c.args.groups.now c.args.g) (λ i b l h. search rules))
