use Rattle.std.proofs.Common.{ap, ◌∙◌}
use Rattle.rules.specs.Answer.{◌>>◌}
use Rattle.rules.specs.Limits.{old_type_width}
use Rattle.rules.specs.Types.{q8_of}
use Rattle.rules.specs.Calls.{groups_check, types_check}
use Rattle.rules.specs.Rewriting.{widen_types, old_types_check}
use Rattle.answer.proofs.Passed.{then_asked}
use Rattle.rewriting.proofs.Widened.{types_written}
use Rattle.rewriting.proofs.Asked.{types_front}
use Rattle.rewriting.proofs.old_types_check.Goals as goal

pub returns-clause-asked : goal.returns-clause-asked
unfolding old_types_check
returns-clause-asked c =
    let g = c.args.groups.now in
    let t = c.args.types.now in
    let w = c.args.wide.now in
    then_asked (groups_check g) (◌>>◌ (q8_of old_type_width t) (types_check g (widen_types t))) c.in-Ok.ensures
    (then_asked (q8_of old_type_width t) (types_check g (widen_types t)) c.in-Ok-a8.ensures
    (c.types_check.ensures ∙ ap (types_check g) (types_front t w (types_written t w c.widen.ensures))))

pub returns-clause-written : goal.returns-clause-written
returns-clause-written c e = types_written c.args.types.now c.args.wide.now c.widen.ensures
