-- 37, 21 and 38, one after another.
use Rattle.rules.specs.Answer.{◌>>◌}
use Rattle.rules.specs.Groups.{properties_of}
use Rattle.rules.specs.Typing.{q21}
use Rattle.rules.specs.Packet.{q37, q38}
use Rattle.packet.specs.Checks.{call_check}
use Rattle.packet.proofs.Passing.{said_yes, after_yes, at_no}
use Rattle.packet.proofs.call_check.Goals as goal

pub returns-in_default : goal.returns-in_default
unfolding call_check
returns-in_default c s u h k =
    let S = properties_of c.args.groups.now in
    at_no (q37 s) (◌>>◌ (q21 S 0 s c.args.group.0) (q38 S u s)) c.in_default.is (c.ask_applied-function.ensures s h)

pub returns-in_default-may : goal.returns-in_default-may
unfolding call_check
returns-in_default-may c s u h k =
    let S = properties_of c.args.groups.now in
    after_yes (q37 s) (◌>>◌ (q21 S 0 s c.args.group.0) (q38 S u s)) c.in-Ok.is (c.ask_applied-function.ensures s h)
    (at_no (q21 S 0 s c.args.group.0) (q38 S u s) c.in_default-may.is (c.ask_reader-may.ensures s h))

pub returns : goal.returns
unfolding call_check
returns c s u h k =
    let S = properties_of c.args.groups.now in
    after_yes (q37 s) (◌>>◌ (q21 S 0 s c.args.group.0) (q38 S u s)) c.in-Ok.is (c.ask_applied-function.ensures s h)
    (after_yes (q21 S 0 s c.args.group.0) (q38 S u s) c.in-Ok-may.is (c.ask_reader-may.ensures s h)
    (c.ask_entry.ensures u s k h (said_yes (q37 s) c.in-Ok.is (c.ask_applied-function.ensures s h))))
