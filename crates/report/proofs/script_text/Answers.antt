use Rattle.std.proofs.Common.{arith}
use Rattle.memory.proofs.Placed.{then}
use Rattle.report.specs.Room.{run_room}
use Rattle.report.proofs.Texts.{script_accepted, script_refused, refusal_fits, accepted_fits, after_accepted}
use Rattle.report.proofs.script_text.Goals as goal

pub accepted_line-requires : goal.accepted_line-requires
accepted_line-requires c = accepted_fits _ _ _ (omega (arith, c.requires))

pub run_text-requires : goal.run_text-requires
run_text-requires c = after_accepted _ run_room c.accepted_line.ensures c.requires

pub refusal_line-requires : goal.refusal_line-requires
refusal_line-requires c = refusal_fits _ _ _ _ (omega (arith, c.requires))

pub returns-in-Ok : goal.returns-in-Ok
returns-in-Ok c =
    rw (script_accepted c.args.words.now c.args.groups.now c.args.types.now c.args.script.now _ c.in-Ok.ensures.outcome.says) (then c.accepted_line.ensures c.run_text.ensures)

pub returns-in-Err : goal.returns-in-Err
returns-in-Err c =
    rw (script_refused c.args.words.now c.args.groups.now c.args.types.now c.args.script.now _ _ c.in-Err.ensures.outcome.says) c.refusal_line.ensures
