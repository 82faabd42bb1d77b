use Rattle.std.proofs.Common.{Option, None, Some, not, true, false, true≢false, refl, ◌≡◌, ℕ, ◌*◌, ◌≤◌, length, take}
use Rattle.std.proofs.Common.{sym, ap, arith}
use Rattle.std.proofs.lemmas.List.{length-take-le}
use Rattle.rules.specs.Answer.{Bytes, Octets, Answer, accepted}
use Rattle.rules.specs.Limits.{sheet_width, report_sheet}
use Rattle.rules.specs.Calls.{sheet_call, sheet_records, sheet_after}
use Rattle.rules.specs.Report.{sheet_lines, sheet_text}
use Rattle.memory.proofs.Placed.{nothing}
use Rattle.std.specs.Option.{option_eq}
use Rattle.reduction.specs.contracts.StopPartialEq.TheImpl.{eq-value}
use Rattle.reduction.specs.declared.Stop.{Stop}
use Rattle.reduction.specs.declared.Stop.TheVariants.{Value, MayNot, WrongKind, TooBig}
use Rattle.reduction.specs.Steps.{reported_end}
use Rattle.report.specs.Room.{value_room}
use Rattle.report.proofs.SheetBytes.{value_octets}
use Rattle.report.proofs.Texts.{page_fits, count_within, counted_lines, sheet_refusal, no_value, a_value, refusal_fits}
use Rattle.report.proofs.Texts.{sheet_room}
use Rattle.report.proofs.value_text.Goals as goal

-- a value's sheet was written, of n records
module _ (g t v : Bytes) {n : ℕ} (counted : accepted n ≡ sheet_records (sheet_call g t v 0 report_sheet)) where
  abbrev answer : Answer Bytes
  answer = sheet_call g t v 0 report_sheet

  within : sheet_width * n ≤ report_sheet
  within = count_within answer n report_sheet counted (page_fits g t v 0 report_sheet)

  -- its lines, in a table's words
  module _ (w old : Bytes) {page : Bytes} (after : page ≡ sheet_after answer old) where
    lines : sheet_lines w (take (sheet_width * n) page) ≡ sheet_text w answer
    lines = counted_lines w answer n old page counted after

    lines_length : Octets g → Octets v → length (sheet_lines w (take (sheet_width * n) page)) ≤ value_room
    lines_length o p =
        omega (arith, ap length lines, sheet_room w answer (λ b h. (page_fits g t v 0 report_sheet b h, value_octets g t v 0 report_sheet o p b h)))

-- the test of a stop is one of its number
value_stop : (stop : Option Stop) → not (option_eq eq-value.it stop (Some Value)) ≡ false → reported_end stop ≡ 0
value_stop (Some Value) e = refl
value_stop _ e = absurd (true≢false e)

other_stop : (stop : Option Stop) → not (option_eq eq-value.it stop (Some Value)) ≡ true → reported_end stop ≡ 0 → ⊥
other_stop (Some Value) e z = true≢false (sym e)
other_stop _ e z = omega arith

pub returns-then-ne : goal.returns-then-ne
returns-then-ne c x e h =
    let a = c.args in
    let none = no_value a.words.now a.groups.now a.types.now x _ e (other_stop a.stop (sym c.if-ne.ensures)) in
    rw none (nothing a.text.now (omega (arith, c.requires)))

pub overflow_mul-sheet : goal.overflow_mul-sheet
overflow_mul-sheet c = omega (arith, within c.args.groups.now c.args.types.now c.args.value.now c.in-Ok.ensures.answer)

pub slice_bounds-sheet-end : goal.slice_bounds-sheet-end
slice_bounds-sheet-end c = omega (arith, within c.args.groups.now c.args.types.now c.args.value.now c.in-Ok.ensures.answer)

pub slice_bounds-sheet_lines-end : goal.slice_bounds-sheet_lines-end
slice_bounds-sheet_lines-end c =
    let l = within c.args.groups.now c.args.types.now c.args.value.now c.in-Ok.ensures.answer in
    sym (length-take-le (sheet_width * c.in-Ok.count) c.page.new.sheet (omega (arith, l)))

pub sheet_lines-requires : goal.sheet_lines-requires
sheet_lines-requires c =
    let a = c.args in
    let l = lines_length a.groups.now a.types.now a.value.now c.in-Ok.ensures.answer a.words.now _ c.in-Ok.ensures.sheet
    (λ j. omega (arith, c.type_inv.groups j)) (λ j. omega (arith, c.type_inv.value j)) in
    omega (arith, l, c.requires)

pub refusal_line-requires : goal.refusal_line-requires
refusal_line-requires c = refusal_fits _ _ _ _ (omega (arith, c.requires))

pub returns-in-Ok : goal.returns-in-Ok
returns-in-Ok c x e h =
    let a = c.args in
    let l = lines a.groups.now a.types.now a.value.now c.in-Ok.ensures.answer a.words.now _ c.in-Ok.ensures.sheet in
    let v = a_value a.words.now a.groups.now a.types.now a.value.now x _ e (value_stop a.stop (sym c.if-ne.ensures)) h in
    rw (v, ← l) c.sheet_lines.ensures

pub returns-in-Err : goal.returns-in-Err
returns-in-Err c x e h =
    let a = c.args in
    let l = sheet_refusal a.words.now _ _ _ c.in-Err.ensures.answer in
    let v = a_value a.words.now a.groups.now a.types.now a.value.now x _ e (value_stop a.stop (sym c.if-ne.ensures)) h in
    rw (v, ← l) c.refusal_line.ensures
