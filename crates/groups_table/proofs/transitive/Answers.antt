use Rattle.std.proofs.Common.{rules}
use Rattle.rules.specs.Answer.{first_from}
use Rattle.rules.specs.Groups.{ok5}
use Rattle.groups_table.specs.Pairs.{pair5}
use Rattle.groups_table.proofs.transitive.Goals as goal

pub returns : goal.returns
unfolding ok5 first_from
returns c = c.all.ensures (pair5 c.args.groups.now c.args.g) (λ i b l h. search rules)
