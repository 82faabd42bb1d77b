-- The application's records are counted, and not its bytes.
use Rattle.std.proofs.Common.{◌∙◌}
use Rattle.packet.proofs.Sizes.{asked_13}
use Rattle.packet.proofs.ask_script_length.Goals as goal

pub returns : goal.returns
returns c group =
    let a = c.args in
    c.ask.ensures
    ∙ asked_13 group a.script.now a.entry.now c.requires.script c.requires.entry c.application_records-records.result a.first a.scratch c.application_records-records.ensures
