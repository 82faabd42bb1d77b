-- 26 and 25, and then those of the two types and of the application.
use Rattle.std.proofs.Common.{arith}
use Rattle.rules.specs.Answer.{◌>>◌}
use Rattle.rules.specs.Groups.{rows}
use Rattle.rules.specs.Script.{term}
use Rattle.rules.specs.Calls.{q25, q26}
use Rattle.packet.specs.Checks.{call_check, size_check, from_26}
use Rattle.packet.proofs.Passing.{said_yes, after_yes, at_no, whole_of, narrow}
use Rattle.packet.proofs.from_26.Goals as goal

pub returns-in_default : goal.returns-in_default
unfolding from_26
returns-in_default c q =
    let a = c.args in
    let call = call_check a.groups.now a.group q.script_type q.entry_type in
    let size = size_check a.script.now a.entry.now a.group a.first a.scratch in
    at_no (q26 (term a.entry.now)) (◌>>◌ (q25 0 a.group (rows a.groups.now)) (◌>>◌ call size)) c.in_default.is c.ask_value-value.ensures

pub returns-in_default-given : goal.returns-in_default-given
unfolding from_26
returns-in_default-given c q =
    let a = c.args in
    let call = call_check a.groups.now a.group q.script_type q.entry_type in
    let size = size_check a.script.now a.entry.now a.group a.first a.scratch in
    let given = q25 0 a.group (rows a.groups.now) in
    after_yes (q26 (term a.entry.now)) (◌>>◌ given (◌>>◌ call size)) c.in-Ok.is c.ask_value-value.ensures
    (at_no given (◌>>◌ call size) c.in_default-given.is c.ask_given-given.ensures)

pub overflow_cast-reader : goal.overflow_cast-reader
overflow_cast-reader c =
    let a = c.args in
    let given = said_yes (q25 0 a.group (rows a.groups.now)) c.in-Ok-given.is c.ask_given-given.ensures in
    omega (arith, narrow a.groups.now a.types.now a.script.now a.group c.requires.script_passed given)

pub returns-in_default-called : goal.returns-in_default-called
unfolding from_26
returns-in_default-called c q =
    let a = c.args in
    let call = call_check a.groups.now a.group q.script_type q.entry_type in
    let size = size_check a.script.now a.entry.now a.group a.first a.scratch in
    let given = q25 0 a.group (rows a.groups.now) in
    after_yes (q26 (term a.entry.now)) (◌>>◌ given (◌>>◌ call size)) c.in-Ok.is c.ask_value-value.ensures
    (after_yes given (◌>>◌ call size) c.in-Ok-given.is c.ask_given-given.ensures
    (at_no call size c.in_default-called.is (c.call_check-called.ensures q.script_type q.entry_type q.script_held q.entry_held)))

pub size_check-requires : goal.size_check-requires
size_check-requires c =
    let a = c.args in
    record {
      script = whole_of a.groups.now a.types.now a.script.now c.requires.script_passed;
      entry = whole_of a.groups.now a.types.now a.entry.now c.requires.entry_passed;
    }

pub returns : goal.returns
unfolding from_26
returns c q =
    let a = c.args in
    let call = call_check a.groups.now a.group q.script_type q.entry_type in
    let size = size_check a.script.now a.entry.now a.group a.first a.scratch in
    let given = q25 0 a.group (rows a.groups.now) in
    after_yes (q26 (term a.entry.now)) (◌>>◌ given (◌>>◌ call size)) c.in-Ok.is c.ask_value-value.ensures
    (after_yes given (◌>>◌ call size) c.in-Ok-given.is c.ask_given-given.ensures
    (after_yes call size c.in-Ok-called.is (c.call_check-called.ensures q.script_type q.entry_type q.script_held q.entry_held) (c.size_check.ensures a.group)))
