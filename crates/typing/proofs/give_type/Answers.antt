-- The type is handed over before the work buffer is cleared.
use Rattle.std.proofs.Common.{ap, ◌∙◌}
use Rattle.rules.specs.Calls.{zeros}
use Rattle.typing.proofs.Outcome.{typed, given}
use Rattle.typing.proofs.give_type.Goals as goal

pub returns : goal.returns
returns c =
    let a = c.args in
    given a.groups.now a.types.now a.script.now a.work.now a.answer.now c.type_script-x.ensures (c.clear.ensures ∙ ap zeros c.type_script-x.auto.work)
    (c.hand_over.ensures (record { old = a.work.now; answer = typed a.groups.now a.types.now a.script.now a.work.now a.answer.now; meets = c.type_script-x.ensures }))
