-- A whole script: what its walk is given, and what stands in front of the lent buffer.
use Rattle.std.proofs.Common.{◌≡◌, refl, sym, ap, ap₂, ◌∙◌, [], ℕ, ◌*◌, ◌≤◌, arith, nat_le, leb-true, length}
use Rattle.std.specs.Borrow.{MutBor}
use Rattle.rules.specs.Answer.{Bytes, Octets, accepted, ◌>>◌, ask}
use Rattle.rules.specs.Limits.{office_width, depth_limit}
use Rattle.rules.specs.Script.{encode, term, depth, records, q13, q18, q19}
use Rattle.rules.specs.Calls.{types_check, form_check, own_check, script_check, q27}
use Rattle.rules.specs.Office.{export_of, export_call, q28_of_export}
use Rattle.rules.proofs.Asked.{ask_true, and_then}
use Rattle.rules.proofs.Form.{form_yes}
use Rattle.rules.proofs.Depth.{q18_depth}
use Rattle.rules.proofs.Scripts.{Whole, whole}
use Rattle.rules.proofs.Exports.{office_length}
use Rattle.memory.specs.Splice.{splice}
use Rattle.memory.specs.declared.Writer.{Writer}
use Rattle.records.proofs.Stands.{at_start}
use Rattle.rewriting.specs.Widened.{after_27}
use Rattle.exporting.specs.Export.{Exportable, Exported}

pub exporting_is : (g t s : Bytes) (room : ℕ) → ◌>>◌ (script_check [] g t s) (◌>>◌ (q28_of_export s) (after_27 (export_of s) room)) ≡ export_call g t s room
unfolding export_call
exporting_is g t s room = refl

module _ (g t s : Bytes) (octets : Octets s) (yes : accepted tt ≡ script_check [] g t s) where
  record Read : Type 0 where
    stands : Whole s
    low : depth (term s) ≤ depth_limit

  read : Read
  unfolding own_check script_check
  read =
      let a = and_then (types_check g t) _ (sym yes) in
      let b = and_then (q13 [] s) _ a.1 in
      let f = form_yes g t s (and_then (form_check g t s) (q19 s) b.1).0 in
      let w = whole [] s octets b.0 f.fields f.one_term in
      record { stands = w; low = q18_depth (term s) (ap q18 w.encoded ∙ f.shallow) }

  pub encoded : encode (term s) ≡ s
  encoded = read.stands.encoded

  pub exported_length : length (export_of s) ≡ office_width * records s
  unfolding export_of
  exported_length = omega (arith, office_length 0 (term s), read.stands.sized)

  -- question 27 of what is to be written, by the record count
  pub fits : (room : ℕ) {n : ℕ} → n ≡ records s → ask 27 0 (nat_le (office_width * n) room) ≡ q27 (export_of s) room
  fits room {n} e = ap (λ x. ask 27 0 (nat_le x room)) (ap (λ x. office_width * x) e ∙ sym exported_length)

  pub ready : (out : Writer) (old : Bytes) {n : ℕ} {lent : MutBor Bytes} → n ≡ records s → accepted tt ≡ ask 27 0 (nat_le (office_width * n) (length old))
      → (out.end ≡ 0) × (out.out ≡ lent) → lent.now ≡ old → Exportable s 0 0 out
  ready out old {n} {lent} c f e m = record {
    tree = term s;
    at = at_start s encoded;
    shallow = omega (arith, read.low);
    room =
        let l : office_width * n ≤ length old = leb-true (office_width * n) (length old) (ask_true 27 0 _ (sym f)) in
        omega (arith, e.0, ap (λ (x : MutBor Bytes). length x.now) e.1, ap length m, l, c, read.stands.sized);
  }

  -- what was written, in the lent buffer
  pub written : {out out' : Writer} {next : ℕ} (old : Bytes) {lent : MutBor Bytes} → Exported 0 0 (term s) out next out' → (out.end ≡ 0) × (out.out ≡ lent) → lent.now ≡ old
      → out'.out.now ≡ splice 0 (export_of s) old
  unfolding export_of
  written old x e m =
      x.wrote.holds
      ∙ ap₂ (λ (n : ℕ) (b : Bytes). splice n (export_of s) b) e.0 (ap (λ (o : MutBor Bytes). o.now) e.1 ∙ m)
