use Rattle.std.proofs.Common.{◌≡◌, refl, sym, ap, ap₂, ◌∙◌, ℕ, length, rules}
use Rattle.std.specs.Borrow.{MutBor}
use Rattle.rules.specs.Answer.{Bytes}
use Rattle.rules.specs.Script.{term}
use Rattle.rules.specs.Office.{import_of}
use Rattle.answer.specs.Said.{answer_of}
use Rattle.answer.proofs.Passed.{returned}
use Rattle.memory.specs.Splice.{splice}
use Rattle.records.proofs.Stands.{at_start}
use Rattle.importing.proofs.Whole.{kinds_same, ready, asked_is, written_is}
use Rattle.importing.proofs.question_30.Goals as goal

pub resolve-requires : goal.resolve-requires
resolve-requires c =
    let a = c.args in
    let q = c.requires in
    record { ready = ready a.script.now a.old.now q.nameless q.whole a.names.now c.new-out.result a.new.now q.shallow q.levels q.room (c.new-out.ensures.empty, c.new-out.ensures.lent) refl; same_kinds = kinds_same a.script.now a.old.now q.nameless q.whole }

pub returns-in_err-resolve-clause-asked : goal.returns-in_err-resolve-clause-asked
returns-in_err-resolve-clause-asked c =
    let a = c.args in
    let q = c.requires in
    ap answer_of (returned _ c.from_residual.ensures.1)
    ∙ asked_is a.script.now a.old.now q.nameless q.whole a.names.now c.resolve.new.names c.new-out.result c.resolve.new.out
    (c.in_err-resolve.ensures (term a.script.now) (at_start a.script.now q.whole))

pub returns-clause-asked : goal.returns-clause-asked
returns-clause-asked c =
    let a = c.args in
    let q = c.requires in
    asked_is a.script.now a.old.now q.nameless q.whole a.names.now c.resolve.new.names c.new-out.result c.resolve.new.out
    (c.in_ok-resolve.ensures (term a.script.now) (at_start a.script.now q.whole))

pub returns-clause-written : goal.returns-clause-written
returns-clause-written c e =
    let a = c.args in
    let q = c.requires in
    let m = written_is a.script.now a.old.now q.nameless q.whole a.names.now c.resolve.new.names c.new-out.result c.resolve.new.out
    (c.in_ok-resolve.ensures (term a.script.now) (at_start a.script.now q.whole)) _ refl in
    let h : c.resolve.new.out.out.now ≡ splice 0 (import_of a.old.now) a.new.now =
    m.holds ∙ ap₂ (λ (n : ℕ) (o : MutBor Bytes). splice n (import_of a.old.now) o.now) c.new-out.ensures.empty c.new-out.ensures.lent in
    search rules
