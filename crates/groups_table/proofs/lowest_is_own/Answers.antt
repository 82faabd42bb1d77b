use Rattle.std.proofs.Common.{ℕ, ap, ◌∙◌}
use Rattle.rules.specs.Answer.{first_from, first_below}
use Rattle.rules.specs.Limits.{group_limit}
use Rattle.rules.specs.Groups.{bit, holds_number, ok4}
use Rattle.groups_table.proofs.Rows.{lowest_is}
use Rattle.groups_table.proofs.lowest_is_own.Goals as goal

pub returns : goal.returns
unfolding ok4 first_from
returns c =
    lowest_is _ _ c.requires ∙ ap (λ (w : ℕ). holds_number (first_below (bit w) group_limit) c.args.g) c.row.ensures
