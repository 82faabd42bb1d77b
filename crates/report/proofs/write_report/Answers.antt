use Rattle.std.proofs.Common.{arith}
use Rattle.report.proofs.Texts.{ours_report, own_report, words_refused, refusal_fits}
use Rattle.report.proofs.write_report.Goals as goal

pub returns-in_default : goal.returns-in_default
returns-in_default c =
    rw (c.in_default.is, ← ours_report _ c.args.groups.now c.args.types.now c.args.script.now c.our_words.ensures) c.script_text.ensures

pub refused_line-requires : goal.refused_line-requires
refused_line-requires c = refusal_fits _ _ _ _ (omega (arith, c.requires))

pub returns-in-Ok : goal.returns-in-Ok
returns-in-Ok c =
    let checked = c.in-Ok.ensures in
    rw (c.in-Some.is, ← own_report c.in-Some.supplied.now c.args.groups.now c.args.types.now c.args.script.now checked.accepted, ← checked.table) c.script_text-in-Ok.ensures

pub returns-in-Err : goal.returns-in-Err
returns-in-Err c =
    rw (c.in-Some.is, ← words_refused c.in-Some.supplied.now c.args.groups.now c.args.types.now c.args.script.now _ _ c.in-Err.ensures.refused, ← c.number.ensures, ← c.from-question.ensures) c.refused_line.ensures
