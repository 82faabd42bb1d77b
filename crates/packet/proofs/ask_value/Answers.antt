-- What the search finds of a value.
use Rattle.std.proofs.Common.{ap, ◌∙◌, [], arith}
use Rattle.rules.specs.Answer.{ask}
use Rattle.promises.proofs.Checked.{script_passed}
use Rattle.records.proofs.Stands.{at_start}
use Rattle.rules.specs.Script.{term}
use Rattle.packet.proofs.Values.{tells_value}
use Rattle.packet.proofs.ask_value.Goals as goal

pub find-found-requires : goal.find-found-requires
find-found-requires c =
    let e = c.args.entry.now in
    let P = script_passed [] c.args.groups.now c.args.types.now e c.requires.script c.requires.passed in
    record { tree = term e; at = at_start e P.encoded; shallow = omega (arith, P.fit.shallow) }

pub returns : goal.returns
returns c =
    let e = c.args.entry.now in
    let P = script_passed [] c.args.groups.now c.args.types.now e c.requires.script c.requires.passed in
    c.ask.ensures ∙ ap (ask 26 0) (c.is_value.ensures ∙ tells_value c.find-found.result (c.find-found.ensures (term e) (at_start e P.encoded)))
