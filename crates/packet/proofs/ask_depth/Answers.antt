-- One record deeper than the deeper operand.
use Rattle.std.proofs.Common.{ap₂, ◌∙◌, max}
use Rattle.packet.proofs.Sizes.{asked_18}
use Rattle.packet.proofs.ask_depth.Goals as goal

pub returns : goal.returns
returns c group =
    let a = c.args in
    c.ask.ensures
    ∙ asked_18 group a.script.now a.entry.now c.requires.script c.requires.entry c.max-deeper.result
    (c.max-deeper.ensures ∙ ap₂ max c.depth_of.ensures c.depth_of-2.ensures)
