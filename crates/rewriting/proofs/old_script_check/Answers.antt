use Rattle.std.proofs.Common.{[], refl, ◌∙◌}
use Rattle.std.proofs.Math.Path.{ap₂}
use Rattle.rules.specs.Answer.{◌>>◌}
use Rattle.rules.specs.Limits.{old_script_width}
use Rattle.rules.specs.Script.{q13_of}
use Rattle.rules.specs.Calls.{script_check}
use Rattle.rules.specs.Rewriting.{widen_types, widen_script, old_types_check, old_script_check}
use Rattle.answer.proofs.Passed.{then_asked}
use Rattle.rewriting.proofs.Widened.{script_written}
use Rattle.rewriting.proofs.Asked.{types_front, script_front}
use Rattle.rewriting.proofs.old_script_check.Goals as goal

pub returns-clause-asked : goal.returns-clause-asked
unfolding old_script_check
returns-clause-asked c =
    let g = c.args.groups.now in
    let t = c.args.types.now in
    let s = c.args.script.now in
    let w = c.args.wide.now in
    let table = types_front t c.args.table.now (c.in-Ok.ensures.written refl) in
    let later = script_check [] g (widen_types t) (widen_script s) in
    then_asked (old_types_check g t) (◌>>◌ (q13_of old_script_width [] s) later) c.in-Ok.ensures.asked
    (then_asked (q13_of old_script_width [] s) later c.in-Ok-a13.ensures
    (c.script_check.ensures ∙ ap₂ (script_check [] g) table (script_front s w (script_written s w c.widen.ensures))))

pub returns-clause-written : goal.returns-clause-written
returns-clause-written c e = script_written c.args.script.now c.args.wide.now c.widen.ensures
