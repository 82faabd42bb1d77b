-- 13 of the application, and then 18.
use Rattle.rules.specs.Script.{q13}
use Rattle.rules.specs.Packet.{application, q18_whole}
use Rattle.std.proofs.Common.{[], ◌∷◌}
use Rattle.packet.specs.Checks.{size_check}
use Rattle.packet.proofs.Passing.{after_yes, at_no}
use Rattle.packet.proofs.size_check.Goals as goal

pub returns-in_default : goal.returns-in_default
unfolding size_check
returns-in_default c group =
    let a = c.args in
    let whole = application group a.script.now a.entry.now in
    at_no (q13 (a.first ∷ a.scratch ∷ []) whole) (q18_whole whole) c.in_default.is (c.ask_script_length-fits.ensures group)

pub returns : goal.returns
unfolding size_check
returns c group =
    let a = c.args in
    let whole = application group a.script.now a.entry.now in
    after_yes (q13 (a.first ∷ a.scratch ∷ []) whole) (q18_whole whole) c.in-Ok.is (c.ask_script_length-fits.ensures group) (c.ask_depth.ensures group)
