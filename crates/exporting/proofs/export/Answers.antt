-- A refusal is the answer; after a yes the term is written.
use Rattle.std.proofs.Common.{rules, ◌≡◌, refl, sym, ap, ◌∙◌, [], ◌*◌, ◌/◌, length, arith, nat_le}
use Rattle.rules.specs.Answer.{Bytes, Octets, Answer, accepted, ◌>>◌, ask}
use Rattle.rules.specs.Limits.{office_width, office_limit}
use Rattle.rules.specs.Script.{term, records}
use Rattle.rules.specs.Calls.{script_check, q27, fill_front}
use Rattle.rules.specs.Rewriting.{rewritten_records, rewritten_after}
use Rattle.rules.specs.Office.{export_of, q28_of_export, export_call}
use Rattle.answer.specs.Said.{answer_of}
use Rattle.answer.proofs.Passed.{returned}
use Rattle.memory.specs.Splice.{splice}
use Rattle.memory.proofs.Laws.{splice_front}
use Rattle.records.proofs.Stands.{at_start}
use Rattle.rewriting.specs.Widened.{after_27}
use Rattle.rewriting.proofs.Asked.{refused_delivered, delivered}
use Rattle.exporting.proofs.Whole.{exporting_is, encoded, exported_length, fits, ready, written}
use Rattle.exporting.proofs.export.Goals as goal

pub returns-in_err-script_check : goal.returns-in_err-script_check
returns-in_err-script_check c =
    let g = c.args.groups.now in
    let t = c.args.types.now in
    let s = c.args.script.now in
    let w = c.args.old.now in
    refused_delivered office_width (script_check [] g t s) (◌>>◌ (q28_of_export s) (after_27 (export_of s) (length w))) w c.in_err-script_check.ensures
    (exporting_is g t s (length w)) (ap answer_of (returned _ c.from_residual.ensures.1))

pub returns-in_err-ask : goal.returns-in_err-ask
returns-in_err-ask c =
    let g = c.args.groups.now in
    let t = c.args.types.now in
    let s = c.args.script.now in
    let w = c.args.old.now in
    let later = after_27 (export_of s) (length w) in
    delivered office_width (script_check [] g t s) (◌>>◌ (q28_of_export s) later) w w c.in_ok-script_check.ensures (exporting_is g t s (length w)) refl
    (refused_delivered office_width (q28_of_export s) later w (c.in_err-ask.ensures ∙ ap (λ n. ask 28 0 (nat_le n office_limit)) c.record_count-count.ensures) refl
    (ap answer_of (returned _ c.from_residual-in_err-ask.ensures.1)))

pub returns-in_err-ask-2 : goal.returns-in_err-ask-2
returns-in_err-ask-2 c =
    let g = c.args.groups.now in
    let t = c.args.types.now in
    let s = c.args.script.now in
    let w = c.args.old.now in
    let octets : Octets s = λ k. omega (arith, c.type_inv.script k) in
    let yes = c.in_ok-script_check.ensures in
    let later = after_27 (export_of s) (length w) in
    delivered office_width (script_check [] g t s) (◌>>◌ (q28_of_export s) later) w w yes (exporting_is g t s (length w)) refl
    (delivered office_width (q28_of_export s) later w w (c.in_ok-ask.ensures ∙ ap (λ n. ask 28 0 (nat_le n office_limit)) c.record_count-count.ensures) refl refl
    (refused_delivered office_width (q27 (export_of s) (length w)) (accepted (export_of s)) w (c.in_err-ask-2.ensures ∙ fits g t s octets yes (length w) c.record_count-count.ensures) refl
    (ap answer_of (returned _ c.from_residual-in_err-ask-2.ensures.1))))

pub write-requires : goal.write-requires
write-requires c =
    let s = c.args.script.now in
    let octets : Octets s = λ k. omega (arith, c.type_inv.script k) in
    ready c.args.groups.now c.args.types.now s octets c.in_ok-script_check.ensures c.new-out.result c.args.old.now c.record_count-count.ensures c.in_ok-ask-2.ensures
    (c.new-out.ensures.empty, c.new-out.ensures.lent) refl

pub returns : goal.returns
unfolding rewritten_records
returns c =
    let g = c.args.groups.now in
    let t = c.args.types.now in
    let s = c.args.script.now in
    let w = c.args.old.now in
    let octets : Octets s = λ k. omega (arith, c.type_inv.script k) in
    let yes = c.in_ok-script_check.ensures in
    let later = after_27 (export_of s) (length w) in
    let n : c.record_count-count.result ≡ length (export_of s) / office_width = omega (arith, c.record_count-count.ensures, exported_length g t s octets yes) in
    let h : c.write.new.out.out.now ≡ fill_front (export_of s) w =
    written g t s octets yes w (c.write.ensures (term s) (at_start s (encoded g t s octets yes))) (c.new-out.ensures.empty, c.new-out.ensures.lent) refl ∙ splice_front (export_of s) w in
    let d =
    delivered office_width (script_check [] g t s) (◌>>◌ (q28_of_export s) later) w c.write.new.out.out.now yes (exporting_is g t s (length w)) refl
    (delivered office_width (q28_of_export s) later w _ (c.in_ok-ask.ensures ∙ ap (λ n. ask 28 0 (nat_le n office_limit)) c.record_count-count.ensures) refl refl
    (delivered office_width (q27 (export_of s) (length w)) (accepted (export_of s)) w _ (c.in_ok-ask-2.ensures ∙ fits g t s octets yes (length w) c.record_count-count.ensures) refl refl
    record { answer = ap accepted n; written = h })) in
    let m = (c.write.ensures (term s) (at_start s (encoded g t s octets yes))).wrote in
    let after : c.write.new.out.out.now ≡ rewritten_after (export_call g t s (length w)) w = d.written in
    record { answer = d.answer; written = search rules }
