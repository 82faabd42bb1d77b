use Rattle.std.proofs.Common.{rules, ap, ◌∙◌}
use Rattle.rules.specs.Answer.{ask, first_from}
use Rattle.rules.specs.Groups.{row, bit, ok7}
use Rattle.groups_table.proofs.question_7.Goals as goal

pub returns : goal.returns
unfolding ok7 first_from
returns c =
    rw (← c.row_count.ensures)
    (c.ask.ensures ∙ ap (ask 7 0) (c.all-all.ensures (bit (row c.args.groups.now 0)) (λ i b l h. rw (← c.row-lowest.ensures) (search rules))))
