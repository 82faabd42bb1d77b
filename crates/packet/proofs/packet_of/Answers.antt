-- A value's sheet, or none.
use Rattle.std.proofs.Common.{◌≡◌, refl, sym, ap, ◌∙◌, true, ℕ, ◌*◌, take, nat_eq, eqb-true, length}
use Rattle.rules.specs.Answer.{Bytes, ◌>>◌, accepted}
use Rattle.rules.specs.Limits.{script_width}
use Rattle.rules.specs.Sheet.{sheet}
use Rattle.rules.specs.Calls.{q27, sheet_call}
use Rattle.answer.proofs.Passed.{returned}
use Rattle.packet.specs.Reports.{said_packet}
use Rattle.packet.specs.Runs.{LeftByRun}
use Rattle.reduction.specs.Steps.{reported_end}
use Rattle.evaluation.specs.declared.Halt.{Halt}
use Rattle.packet.proofs.Pages.{otherwise, at_value, reporting}
use Rattle.packet.proofs.packet_of.Goals as goal

-- the sheet's call asks 27 alone
shown : {g t first : Bytes} {group : ℕ} {a : Halt} (q : LeftByRun g t group a first) (v : Bytes) (room : ℕ) → nat_eq (reported_end a.stop) 0 ≡ true → v ≡ take (script_width * a.records) first
    → sheet_call g t v group room ≡ ◌>>◌ (q27 (sheet g group q.ran.last) room) (accepted (sheet g group q.ran.last))
shown {g} {t} {first} {group} {a} q v room h e =
    ap (λ b. sheet_call g t b group room) (e ∙ q.holds) ∙ q.shows (sym q.told.end ∙ eqb-true (reported_end a.stop) 0 h) room

pub returns-then-not-is_at_value : goal.returns-then-not-is_at_value
returns-then-not-is_at_value c =
    let a = c.args in
    let p = λ (q : LeftByRun a.groups.now a.types.now a.group a.halt a.first.now).
    otherwise a.groups.now a.group q.ran a.halt q.told a.sheet.now (sym c.if-not-is_at_value.ensures) in
    record { answer = λ q. (p q).0; sheet = λ q. (p q).1 }

pub returns-in_err-records : goal.returns-in_err-records
returns-in_err-records c =
    let a = c.args in
    let h = sym c.if-not-is_at_value.ensures in
    let p = λ (q : LeftByRun a.groups.now a.types.now a.group a.halt a.first.now).
    at_value a.groups.now a.group q.ran a.halt q.told a.sheet.now h c.page.result _ (shown q _ (length a.sheet.now) h refl) c.page.ensures.answer c.page.ensures.sheet in
    record {
      answer = λ q. ap said_packet (returned c.from_residual.result c.from_residual.ensures.1)
          ∙ sym (ap (reporting a.groups.now a.group q.ran a.halt q.told a.sheet.now) c.in_err-records.was) ∙ (p q).0;
      sheet = λ q. (p q).1;
    }

pub returns : goal.returns
returns c =
    let a = c.args in
    let h = sym c.if-not-is_at_value.ensures in
    let p = λ (q : LeftByRun a.groups.now a.types.now a.group a.halt a.first.now).
    at_value a.groups.now a.group q.ran a.halt q.told a.sheet.now h c.page.result _ (shown q _ (length a.sheet.now) h refl) c.page.ensures.answer c.page.ensures.sheet in
    record {
      answer = λ q. sym (ap (reporting a.groups.now a.group q.ran a.halt q.told a.sheet.now) c.in_ok-records.was) ∙ (p q).0;
      sheet = λ q. (p q).1;
    }
