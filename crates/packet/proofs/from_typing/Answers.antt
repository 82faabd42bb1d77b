-- The script's type is apart while the entry is typed.
use Rattle.std.proofs.Common.{ap, arith}
use Rattle.answer.specs.Said.{answer_of}
use Rattle.packet.proofs.Apart.{type_found}
use Rattle.packet.proofs.Course.{apart_yes, script_untyped, entry_refused, entry_passed, entry_untyped, goes_on}
use Rattle.packet.proofs.Course.{tables_passed, typed_of}
use Rattle.packet.proofs.from_typing.Goals as goal

pub returns-in_err-type_apart : goal.returns-in_err-type_apart
returns-in_err-type_apart c =
    let a = c.args in
    script_untyped a.groups.now a.types.now a.script.now a.entry.now a.group a.profile a.first a.scratch c.from_residual.result c.type_apart.ensures
    c.in_err-type_apart.was c.from_residual.ensures.1

pub returns-in_err-entry_check : goal.returns-in_err-entry_check
returns-in_err-entry_check c =
    let a = c.args in
    entry_refused a.groups.now a.types.now a.script.now a.entry.now a.group a.profile a.first a.scratch c.in_err-entry_check.field-0.0 c.from_residual-in_err-entry_check.result
    (apart_yes c.type_apart.ensures (ap answer_of c.in_ok-type_apart.was)) c.in_err-entry_check.ensures c.from_residual-in_err-entry_check.ensures.1

pub type_script-requires : goal.type_script-requires
type_script-requires c =
    let a = c.args in
    let T = tables_passed a.groups.now a.types.now a.script.now a.entry.now a.group a.profile a.first a.scratch c.requires.accepted in
    record {
      checked = entry_passed a.groups.now a.types.now a.script.now a.entry.now a.group a.profile a.first a.scratch T c.in_ok-entry_check.ensures;
      room = omega (arith, c.requires.work, c.type_apart.auto.work);
    }

pub returns-in_err-type_script : goal.returns-in_err-type_script
returns-in_err-type_script c =
    let a = c.args in
    entry_untyped a.groups.now a.types.now a.script.now a.entry.now a.group a.profile a.first a.scratch c.from_residual-in_err-type_script.result
    (apart_yes c.type_apart.ensures (ap answer_of c.in_ok-type_apart.was)) c.in_ok-entry_check.ensures c.type_script.ensures c.in_err-type_script.was
    c.from_residual-in_err-type_script.ensures.1

pub from_26-requires : goal.from_26-requires
from_26-requires c =
    let a = c.args in
    typed_of a.groups.now a.types.now a.script.now a.entry.now a.group a.profile a.first a.scratch c.requires.accepted (λ k. omega (arith, c.type_inv.entry k))
    (apart_yes c.type_apart.ensures (ap answer_of c.in_ok-type_apart.was)) c.in_ok-entry_check.ensures c.type_script.ensures c.in_ok-type_script.was

pub returns : goal.returns
returns c =
    let a = c.args in
    let F = apart_yes c.type_apart.ensures (ap answer_of c.in_ok-type_apart.was) in
    goes_on a.groups.now a.types.now a.script.now a.entry.now a.group a.profile a.first a.scratch F c.in_ok-entry_check.ensures
    (type_found c.type_script.ensures c.in_ok-type_script.was).is
    (c.from_26.ensures
    (typed_of a.groups.now a.types.now a.script.now a.entry.now a.group a.profile a.first a.scratch c.requires.accepted (λ k. omega (arith, c.type_inv.entry k))
    F c.in_ok-entry_check.ensures c.type_script.ensures c.in_ok-type_script.was))
