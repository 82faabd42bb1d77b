use Rattle.std.proofs.Common.{[]}
use Rattle.rules.specs.Groups.{rows}
use Rattle.rules.specs.Calls.{script_check, q25}
use Rattle.answer.proofs.Passed.{then_asked, stopped}
use Rattle.sheet.specs.Before.{before_26}
use Rattle.sheet.proofs.asked.Goals as goal

pub returns-in_default : goal.returns-in_default
unfolding before_26
returns-in_default c =
    stopped (script_check [] c.args.groups.now c.args.types.now c.args.value.now) (q25 0 c.args.group (rows c.args.groups.now)) c.in_default.is c.in_default.ensures

pub returns : goal.returns
unfolding before_26
returns c =
    then_asked (script_check [] c.args.groups.now c.args.types.now c.args.value.now) (q25 0 c.args.group (rows c.args.groups.now)) c.in-Ok.ensures
    (rw (← c.row_count.ensures) c.ask.ensures)
