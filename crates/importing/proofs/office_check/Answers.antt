use Rattle.std.proofs.Common.{ap, ◌∙◌}
use Rattle.rules.specs.Answer.{◌>>◌}
use Rattle.rules.specs.Calls.{types_check, form_check}
use Rattle.rules.specs.Office.{nameless, q28, q29}
use Rattle.answer.proofs.Passed.{then_asked, stopped}
use Rattle.importing.specs.Check.{office_check}
use Rattle.importing.proofs.Asked.{nameless_front}
use Rattle.importing.proofs.office_check.Goals as goal

pub returns-in_default-a18-clause-asked : goal.returns-in_default-a18-clause-asked
unfolding office_check
returns-in_default-a18-clause-asked c =
    let g = c.args.groups.now in
    let t = c.args.types.now in
    let s = c.args.old.now in
    let form = form_check g t (nameless s) in
    then_asked (types_check g t) (◌>>◌ (q28 s) (◌>>◌ form (q29 s))) c.in-Ok.ensures
    (then_asked (q28 s) (◌>>◌ form (q29 s)) c.in-Ok-a28.ensures
    (stopped form (q29 s) c.in_default-a18.is (c.in_default-a18.ensures ∙ ap (form_check g t) (nameless_front s c.args.wide.now c.widen_office.ensures))))

pub returns-clause-asked : goal.returns-clause-asked
unfolding office_check
returns-clause-asked c =
    let g = c.args.groups.now in
    let t = c.args.types.now in
    let s = c.args.old.now in
    let form = form_check g t (nameless s) in
    then_asked (types_check g t) (◌>>◌ (q28 s) (◌>>◌ form (q29 s))) c.in-Ok.ensures
    (then_asked (q28 s) (◌>>◌ form (q29 s)) c.in-Ok-a28.ensures
    (then_asked form (q29 s) (c.in-Ok-a18.ensures ∙ ap (form_check g t) (nameless_front s c.args.wide.now c.widen_office.ensures)) c.question_29.ensures))
