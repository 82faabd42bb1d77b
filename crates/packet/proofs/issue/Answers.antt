-- Refused before typing, or from it on with the work buffer cleared, or run.
use Rattle.std.proofs.Common.{ap, ◌∙◌, arith}
use Rattle.rules.specs.Answer.{Octets}
use Rattle.rules.specs.Calls.{zeros}
use Rattle.answer.proofs.Passed.{returned}
use Rattle.packet.proofs.Issued.{refused_early, refused_later, begun_well, narrow, runnable, ended, says}
use Rattle.packet.proofs.issue.Goals as goal

pub returns-in_err-before_typing : goal.returns-in_err-before_typing
returns-in_err-before_typing c =
    let a = c.args in
    let h = refused_early a.groups.now a.types.now a.script.now a.entry.now (λ k. omega (arith, c.type_inv.groups k)) (λ k. omega (arith, c.type_inv.script k))
    (λ k. omega (arith, c.type_inv.entry k)) a.group a.budget a.profile a.work.now a.first.now a.scratch.now a.sheet.now c.in_err-before_typing.field-0.0
    c.in_err-before_typing.ensures (returned c.from_residual.result c.from_residual.ensures.1) in
    record {
      answer = h.0;
      lent = record { work_is = h.1; first_is = h.2; scratch_is = h.3; sheet_is = h.4 };
      promise = h.5;
    }

pub from_typing-asked-requires : goal.from_typing-asked-requires
from_typing-asked-requires c =
    let a = c.args in
    let b = begun_well a.groups.now a.types.now a.script.now a.entry.now (λ k. omega (arith, c.type_inv.groups k)) (λ k. omega (arith, c.type_inv.script k))
    (λ k. omega (arith, c.type_inv.entry k)) a.group a.budget a.profile a.work.now a.first.now a.scratch.now a.sheet.now c.in_ok-before_typing.ensures in
    record { accepted = b.0; work = b.1 }

pub returns-in_err-asked : goal.returns-in_err-asked
returns-in_err-asked c =
    let a = c.args in
    let h = refused_later a.groups.now a.types.now a.script.now a.entry.now (λ k. omega (arith, c.type_inv.groups k)) (λ k. omega (arith, c.type_inv.script k))
    (λ k. omega (arith, c.type_inv.entry k)) a.group a.budget a.profile a.work.now a.first.now a.scratch.now a.sheet.now c.in_err-asked.field-0.0
    c.in_ok-before_typing.ensures c.in_err-asked.ensures (returned c.from_residual-in_err-asked.result c.from_residual-in_err-asked.ensures.1)
    (c.clear.ensures ∙ ap zeros c.from_typing-asked.auto.work) in
    record {
      answer = h.0;
      lent = record { work_is = h.1; first_is = h.2; scratch_is = h.3; sheet_is = h.4 };
      promise = h.5;
    }

pub overflow_cast-reader : goal.overflow_cast-reader
overflow_cast-reader c =
    let a = c.args in
    let n = narrow a.groups.now a.types.now a.script.now a.entry.now (λ k. omega (arith, c.type_inv.groups k)) (λ k. omega (arith, c.type_inv.script k))
    (λ k. omega (arith, c.type_inv.entry k)) a.group a.budget a.profile a.work.now a.first.now a.scratch.now a.sheet.now c.in_ok-before_typing.ensures c.in_ok-asked.ensures in
    omega (arith, n)

pub run-halt-requires : goal.run-halt-requires
run-halt-requires c =
    let a = c.args in
    runnable a.groups.now a.types.now a.script.now a.entry.now (λ k. omega (arith, c.type_inv.groups k)) (λ k. omega (arith, c.type_inv.script k))
    (λ k. omega (arith, c.type_inv.entry k)) a.group a.budget a.profile a.work.now a.first.now a.scratch.now a.sheet.now c.in_ok-before_typing.ensures c.in_ok-asked.ensures

pub packet_of-requires : goal.packet_of-requires
packet_of-requires c =
    let a = c.args in
    ended a.groups.now a.types.now a.script.now a.entry.now (λ k. omega (arith, c.type_inv.groups k)) (λ k. omega (arith, c.type_inv.script k))
    (λ k. omega (arith, c.type_inv.entry k)) a.group a.budget a.profile a.work.now a.first.now a.scratch.now a.sheet.now c.in_ok-before_typing.ensures c.in_ok-asked.ensures
    c.run-halt.ensures c.run-halt.auto.first

pub returns : goal.returns
returns c =
    let a = c.args in
    let groups : Octets a.groups.now = λ k. omega (arith, c.type_inv.groups k) in
    let script : Octets a.script.now = λ k. omega (arith, c.type_inv.script k) in
    let entry : Octets a.entry.now = λ k. omega (arith, c.type_inv.entry k) in
    let q = ended a.groups.now a.types.now a.script.now a.entry.now groups script entry a.group a.budget a.profile a.work.now a.first.now a.scratch.now a.sheet.now
    c.in_ok-before_typing.ensures c.in_ok-asked.ensures c.run-halt.ensures c.run-halt.auto.first in
    let h = says a.groups.now a.types.now a.script.now a.entry.now groups script entry a.group a.budget a.profile a.work.now a.first.now a.scratch.now a.sheet.now
    c.in_ok-before_typing.ensures c.in_ok-asked.ensures c.run-halt.ensures c.run-halt.auto.first c.packet_of.result (c.clear.ensures ∙ ap zeros c.from_typing-asked.auto.work)
    (c.packet_of.ensures.answer q, c.packet_of.ensures.sheet q) in
    record {
      answer = h.0;
      lent = record { work_is = h.1; first_is = h.2; scratch_is = h.3; sheet_is = h.4 };
      promise = h.5;
    }
