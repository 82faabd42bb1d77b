-- A refusal is the answer; after a yes to all but room, what was imported is handed over.
use Rattle.std.proofs.Common.{◌≡◌, refl, sym, ap, ◌∙◌, ◌*◌, length, take, length-take-le, arith}
use Rattle.rules.specs.Answer.{Bytes, Octets, ◌>>◌}
use Rattle.rules.specs.Limits.{script_width}
use Rattle.rules.specs.Script.{encode, term, depth}
use Rattle.rules.specs.Office.{office_records, nameless, q30, import_of}
use Rattle.answer.specs.Said.{answer_of}
use Rattle.answer.proofs.Passed.{returned}
use Rattle.rewriting.specs.Widened.{after_27}
use Rattle.rewriting.proofs.Asked.{refused_delivered, delivered}
use Rattle.importing.specs.Check.{office_check}
use Rattle.importing.proofs.Asked.{importing_is, nameless_front, few_records, encoded, shallow, imported_front}
use Rattle.importing.proofs.import.Goals as goal

pub returns-in_err-office_check : goal.returns-in_err-office_check
returns-in_err-office_check c =
    let g = c.args.groups.now in
    let t = c.args.types.now in
    let s = c.args.old.now in
    let w = c.args.script.now in
    refused_delivered script_width (office_check g t s) (◌>>◌ (q30 s) (after_27 (import_of s) (length w))) w c.in_err-office_check.ensures.asked
    (importing_is g t s (length w)) (ap answer_of (returned _ c.from_residual.ensures.1))

pub slice_bounds-wide-end : goal.slice_bounds-wide-end
slice_bounds-wide-end c = omega (arith, few_records c.args.groups.now c.args.types.now c.args.old.now c.in_ok-office_check.ensures.asked, c.office_check.auto.wide)

pub slice_bounds-question_30-end : goal.slice_bounds-question_30-end
slice_bounds-question_30-end c =
    sym (length-take-le _ c.office_check.new.wide
    (omega (arith, few_records c.args.groups.now c.args.types.now c.args.old.now c.in_ok-office_check.ensures.asked, c.office_check.auto.wide)))

pub question_30-requires : goal.question_30-requires
question_30-requires c =
    let g = c.args.groups.now in
    let t = c.args.types.now in
    let s = c.args.old.now in
    let yes = c.in_ok-office_check.ensures.asked in
    let octets : Octets s = λ k. omega (arith, c.type_inv.old k) in
    let p = nameless_front s _ (c.in_ok-office_check.ensures.written refl) in record {
      nameless = p;
      whole = rw p (encoded g t s yes octets);
      shallow = rw p (shallow g t s yes octets);
      levels = refl;
      room = omega (arith, few_records g t s yes, c.office_check.auto.wide, length-take-le (script_width * office_records s) c.office_check.new.wide (omega (arith, few_records g t s yes, c.office_check.auto.wide)));
    }

pub returns-in_err-question_30 : goal.returns-in_err-question_30
returns-in_err-question_30 c =
    let g = c.args.groups.now in
    let t = c.args.types.now in
    let s = c.args.old.now in
    let w = c.args.script.now in
    let later = after_27 (import_of s) (length w) in
    delivered script_width (office_check g t s) (◌>>◌ (q30 s) later) w w c.in_ok-office_check.ensures.asked (importing_is g t s (length w)) refl
    (refused_delivered script_width (q30 s) later w c.in_err-question_30.ensures.asked refl (ap answer_of (returned _ c.from_residual-in_err-question_30.ensures.1)))

pub slice_bounds-new-end : goal.slice_bounds-new-end
slice_bounds-new-end c = omega (arith, few_records c.args.groups.now c.args.types.now c.args.old.now c.in_ok-office_check.ensures.asked, c.question_30.auto.new)

pub slice_bounds-hand_over-end : goal.slice_bounds-hand_over-end
slice_bounds-hand_over-end c =
    sym (length-take-le _ c.question_30.new.new
    (omega (arith, few_records c.args.groups.now c.args.types.now c.args.old.now c.in_ok-office_check.ensures.asked, c.question_30.auto.new)))

pub returns : goal.returns
returns c =
    let g = c.args.groups.now in
    let t = c.args.types.now in
    let s = c.args.old.now in
    let w = c.args.script.now in
    let yes = c.in_ok-office_check.ensures.asked in
    let octets : Octets s = λ k. omega (arith, c.type_inv.old k) in
    let later = after_27 (import_of s) (length w) in
    let p = imported_front g t s yes octets _ (c.in_ok-question_30.ensures.written refl) in
    delivered script_width (office_check g t s) (◌>>◌ (q30 s) later) w _ yes (importing_is g t s (length w)) refl
    (delivered script_width (q30 s) later w _ c.in_ok-question_30.ensures.asked refl (ap (λ (b : Bytes). after_27 b (length w)) p) c.hand_over.ensures)
