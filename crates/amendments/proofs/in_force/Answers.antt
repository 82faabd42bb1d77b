use Rattle.std.proofs.Common.{arith}
use Rattle.rules.specs.InForce.{in_force}
use Rattle.answer.proofs.Passed.{left_by}
use Rattle.amendments.proofs.Looked.{looked_up, too_wide}
use Rattle.amendments.proofs.in_force.Goals as goal

pub returns-in_err-lists_check : goal.returns-in_err-lists_check
unfolding in_force
returns-in_err-lists_check c = left_by _ _ _ _ c.in_err-lists_check.ensures c.from_residual.ensures.1

pub returns-in_default : goal.returns-in_default
returns-in_default c =
    too_wide c.args.groups.now c.args.types.now c.args.scripts.now c.args.amendments.now c.in_ok-lists_check.ensures c.args.index
    (omega (arith, c.in_default.ensures))

pub returns : goal.returns
returns c =
    looked_up c.args.groups.now c.args.types.now c.args.scripts.now c.args.amendments.now c.in_ok-lists_check.ensures c.args.index _ _ _
    c.in-Ok.ensures.1 c.newest.ensures c.unwrap_or.ensures
