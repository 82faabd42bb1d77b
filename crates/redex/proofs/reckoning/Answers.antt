-- The node and its two operands stand there, and their kinds and groups are those of the term.
use Rattle.std.proofs.Common.{sym, ap₂, ◌∙◌, ◌&&◌, nat_eq}
use Rattle.records.specs.Kinds as kinds
use Rattle.records.proofs.Stands.{there}
use Rattle.redex.proofs.Answers.{reckoning_answer}
use Rattle.redex.proofs.reckoning.Goals as goal

pub may_read_both-may-requires : goal.may_read_both-may-requires
may_read_both-may-requires c = let q = c.requires.stands in record { first = there _ _ _ q.left; second = there _ _ _ q.right }

pub returns : goal.returns
returns c tab e q =
    c.verdict.ensures
    ∙ reckoning_answer q.at c.args.groups.now tab c.args.second c.args.depth _ _ q
    (ap₂ (λ x y. nat_eq x kinds.literal && nat_eq y kinds.literal) (sym c.kind_of-left.ensures) (sym c.kind_of-right.ensures) ∙ sym c.both_literals-fits.ensures)
    (sym c.may_read_both-may.ensures)
