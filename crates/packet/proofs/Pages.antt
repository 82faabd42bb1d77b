-- The packet of a run: with a sheet where it ended with a value.
use Rattle.std.proofs.Common.{◌≡◌, refl, sym, ap, ap₂, ◌∙◌, Bool, true, false, ℕ, nat_eq, nat_le, length, Result, Ok}
use Rattle.std.proofs.Common.{Err}
use Rattle.rules.specs.Answer.{Bytes, Answer, accepted, refused, ◌>>◌, ask}
use Rattle.rules.specs.Run.{Ran}
use Rattle.rules.specs.Sheet.{sheet}
use Rattle.rules.specs.Calls.{q27, sheet_records, sheet_after, Report}
use Rattle.rules.specs.Packet.{Packet, packet_of_run, packet_report, packet_page_after}
use Rattle.promises.proofs.Answers.{accepted≢refused, accepted_inj}
use Rattle.answer.specs.Numbers.{question_number}
use Rattle.answer.specs.Said.{answer_of}
use Rattle.answer.specs.declared.Refusal.{Refusal}
use Rattle.reduction.specs.Steps.{reported_end}
use Rattle.evaluation.specs.Runs.{Told}
use Rattle.evaluation.specs.declared.Halt.{Halt}

abbrev report : ℕ → ℕ → ℕ → Answer Report
report end steps count = accepted (record { end = end; steps = steps; count = count })

module _ (g : Bytes) (group : ℕ) (x : Ran) (a : Halt) (told : Told x a) (old : Bytes) where
  abbrev page : Bytes
  page = sheet g group x.last

  abbrev whole : Answer Packet
  whole = packet_of_run g group (length old) x

  abbrev packet : Bytes → Packet
  packet b = record { ran = x; page = b }

  -- what the halt tells, with this count
  abbrev counting : ℕ → Answer Report
  counting n = report (reported_end a.stop) a.steps n

  counted : (n : ℕ) → counting n ≡ report x.end x.steps n
  counted n = ap₂ (λ (e s : ℕ). report e s n) told.end told.steps

  end_is : (b : Bool) → nat_eq (reported_end a.stop) 0 ≡ b → nat_eq x.end 0 ≡ b
  end_is b h = ap (λ (n : ℕ). nat_eq n 0) (sym told.end) ∙ h

  pub otherwise : nat_eq (reported_end a.stop) 0 ≡ false → (counting a.records ≡ packet_report whole) × (old ≡ packet_page_after whole old)
  unfolding packet_report
  otherwise h =
      let z = end_is false h in
      rw z (counted a.records ∙ rw z (ap (report x.end x.steps) told.records), refl)

  -- what the sheet's call answers, as a report
  abbrev pub reporting : Result ℕ Refusal → Answer Report
  reporting (Ok n) = counting n
  reporting (Err e) = refused (question_number e.question) e.place

  abbrev asked : {A : Type 0} → Bool → A → Answer A
  asked b p = ◌>>◌ (ask 27 0 b) (accepted p)

  told_so : nat_eq x.end 0 ≡ true → (b : Bool) (r : Result ℕ Refusal) {new : Bytes} → answer_of r ≡ sheet_records (asked b page) → new ≡ sheet_after (asked b page) old
      → (reporting r ≡ packet_report (asked b (packet page))) × (new ≡ packet_page_after (asked b (packet page)) old)
  unfolding packet_report sheet_records
  told_so z true (Ok n) h k = (counted n ∙ rw z (ap (report x.end x.steps) (accepted_inj h)), k)
  told_so z true (Err e) h k = accepted≢refused (sym h)
  told_so z false (Ok n) h k = accepted≢refused h
  told_so z false (Err e) h k = (cc, k)

  pub at_value : nat_eq (reported_end a.stop) 0 ≡ true → (r : Result ℕ Refusal) (s : Answer Bytes) {new : Bytes} → s ≡ ◌>>◌ (q27 page (length old)) (accepted page)
      → answer_of r ≡ sheet_records s → new ≡ sheet_after s old → (reporting r ≡ packet_report whole) × (new ≡ packet_page_after whole old)
  at_value h r s {new} e k l =
      let z = end_is true h in
      let b = nat_le (length page) (length old) in
      rw z (told_so z b r (k ∙ ap sheet_records e) (l ∙ ap (λ (y : Answer Bytes). sheet_after y old) e))
