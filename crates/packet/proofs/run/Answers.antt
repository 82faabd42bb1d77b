-- It starts where the application was built.
use Rattle.std.proofs.Common.{min, arith, length}
use Rattle.rules.specs.Script.{term}
use Rattle.rules.specs.Packet.{application}
use Rattle.evaluation.specs.Runs.{front_term}
use Rattle.packet.proofs.Started.{run_loaded, run_front, same_ends}
use Rattle.packet.proofs.run.Goals as goal

pub run_term-requires : goal.run_term-requires
run_term-requires c =
    let a = c.args in
    let b = c.build.new.first in
    run_loaded c.requires a.first.now b c.application_records-records.result c.build.ensures c.application_records-records.ensures (min (length b) (length a.scratch.now))
    (omega (arith, c.requires.in_first, c.requires.in_scratch, c.build.auto.first))

pub returns : goal.returns
returns c =
    let a = c.args in
    let b = c.build.new.first in
    same_ends a.groups.now a.types.now a.budget a.first.now b a.scratch.now _ _ c.run_term.result (front_term b c.application_records-records.result)
    (term (application a.group.0 a.script.now a.entry.now)) c.build.auto.first
    (run_front c.requires a.first.now b c.application_records-records.result c.build.ensures c.application_records-records.ensures) c.run_term.ensures
