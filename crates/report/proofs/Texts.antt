-- The report's texts from what the calls answer, and how long they can be.
use Rattle.std.proofs.Common.{◌≡◌, ℕ, zero, suc, ◌+◌, ◌*◌, ◌-◌, ◌/◌, ◌≤◌, Bool, true, false, [], ◌∷◌, ◌++◌, length}
use Rattle.std.proofs.Common.{take, drop, refl, sym, ap, ◌∙◌, arith, length-append, nat_le, nat_eq}
use Rattle.std.proofs.Math.Option.{Option, none, some}
use Rattle.std.proofs.lemmas.Bool.{leb-true, ne_eqb}
use Rattle.std.proofs.lemmas.List.{take_at}
use Rattle.calculus.specs.Types.{Ty, size_t}
use Rattle.rules.specs.Answer.{Bytes, Octets, Answer, accepted, refused}
use Rattle.rules.specs.Limits.{script_width, sheet_width, script_limit, report_budget, report_buffer, report_sheet}
use Rattle.rules.specs.Groups.{rows}
use Rattle.rules.specs.Script.{encode, term, size}
use Rattle.rules.specs.Sheet.{sheet}
use Rattle.rules.specs.Run.{Ran}
use Rattle.rules.specs.Calls.{zeros, q25, q26, q27, script_check, type_records, run_call, Report, run_report}
use Rattle.rules.specs.Calls.{first_after, sheet_call, sheet_records, sheet_after}
use Rattle.rules.specs.Reach.{verdict}
use Rattle.rules.specs.Report.{refusal_line, accepted_line, run_line, sheet_line, sheet_lines, sheet_text, value_text}
use Rattle.rules.specs.Report.{run_text, checked_text, script_text, after_words, our_words, report}
use Rattle.rules.specs.Words.{words_check}
use Rattle.promises.proofs.Answers.{accepted_inj}
use Rattle.promises.proofs.Checked.{Fit}
use Rattle.rules.proofs.Asked.{ask_true, and_then}
use Rattle.substitution.proofs.Reading.{term_length}
use Rattle.packing.proofs.Exported.{run_ends}
use Rattle.memory.specs.Written.{Written}
use Rattle.memory.specs.declared.Writer.{Writer}
use Rattle.memory.proofs.Placed.{keeps}
use Rattle.lines.proofs.Lines.{refusal_length, accepted_length, run_length, sheet_length, sheet_lines_first, no_line}
use Rattle.report.proofs.SheetBytes.{term_octets, last_fits}
use Rattle.report.specs.Room.{value_room, run_room, report_room}

-- no answer is both
either : {A : Type 0} {q p : ℕ} {a : A} → accepted a ≡ refused q p → ⊥
either e = let z : ◌≡◌ {A = ℕ} 0 1 = cc in omega (arith, z)

-- question 27: the sheet fits its buffer
pub page_fits : (g t s : Bytes) (group room : ℕ) (b : Bytes) → sheet_call g t s group room ≡ accepted b → length b ≤ room
unfolding sheet_call
page_fits g t s group room b e =
    let e1 = (and_then (script_check [] g t s) _ e).1 in
    let e2 = (and_then (q25 0 group (rows g)) _ e1).1 in
    let e3 = (and_then (q26 (term s)) _ e2).1 in
    let e4 = and_then (q27 (sheet g group (term s)) room) _ e3 in
    omega
    (arith, leb-true (length (sheet g group (term s))) room (ask_true 27 0 (nat_le (length (sheet g group (term s))) room) e4.0), ap length (accepted_inj e4.1))

-- the counted records lie in the sheet's buffer,
pub count_within : (a : Answer Bytes) (count room : ℕ) → accepted count ≡ sheet_records a → ((b : Bytes) → a ≡ accepted b → length b ≤ room)
    → sheet_width * count ≤ room
unfolding sheet_records
count_within (accepted b) count room e f = omega (arith, accepted_inj e, f b refl)
count_within (refused q p) count room e f = absurd (either e)

whole_lines : (w : Bytes) (n : ℕ) (b rest : Bytes) → n ≡ length b / sheet_width
    → sheet_lines w (take (sheet_width * n) (b ++ rest)) ≡ sheet_lines w b
unfolding sheet_lines
whole_lines w zero b rest e = sym (no_line w b (omega arith))
whole_lines w (suc n) [] rest e = absurd (omega arith)
whole_lines w (suc n) (k ∷ []) rest e = absurd (omega arith)
whole_lines w (suc n) (k ∷ r ∷ []) rest e = absurd (omega arith)
whole_lines w (suc n) (k ∷ r ∷ ir ∷ []) rest e = absurd (omega arith)
whole_lines w (suc n) (k ∷ r ∷ ir ∷ z ∷ []) rest e = absurd (omega arith)
whole_lines w (suc n) (k ∷ r ∷ ir ∷ z ∷ lo ∷ []) rest e = absurd (omega arith)
whole_lines w (suc n) (k ∷ r ∷ ir ∷ z ∷ lo ∷ hi ∷ b) rest e =
    let six : sheet_width * suc n ≡ suc (suc (suc (suc (suc (suc (sheet_width * n)))))) = omega arith in
    ap (λ (m : ℕ). sheet_lines w (take m (k ∷ r ∷ ir ∷ z ∷ lo ∷ hi ∷ (b ++ rest)))) six
    ∙ sheet_lines_first w k r ir z lo hi (take (sheet_width * n) (b ++ rest))
    ∙ ap (λ (x : Bytes). sheet_line w k r ir (lo + 256 * hi) ++ x) (whole_lines w n b rest (omega arith))
    ∙ sym (sheet_lines_first w k r ir z lo hi b)

-- and their lines are the sheet's
pub counted_lines : (w : Bytes) (a : Answer Bytes) (count : ℕ) (old page : Bytes) → accepted count ≡ sheet_records a → page ≡ sheet_after a old
    → sheet_lines w (take (sheet_width * count) page) ≡ sheet_text w a
unfolding sheet_records
counted_lines w (accepted b) count old page e h =
    ap (λ (x : Bytes). sheet_lines w (take (sheet_width * count) x)) h ∙ whole_lines w count b (drop (length b) old) (accepted_inj e)
counted_lines w (refused q p) count old page e h = absurd (either e)

pub sheet_refusal : (w : Bytes) (a : Answer Bytes) (q p : ℕ) → refused q p ≡ sheet_records a → refusal_line q p ≡ sheet_text w a
unfolding sheet_records
sheet_refusal w (accepted b) q p e = absurd (either (sym e))
sheet_refusal w (refused q' p') q p e = cc

-- no text of a value at another end
pub no_value : (w g t : Bytes) (x : Ran) (end : ℕ) → x.end ≡ end → (end ≡ 0 → ⊥) → value_text w g t x ≡ []
unfolding value_text
no_value w g t x end e n = rw (ne_eqb x.end 0 (λ z. n (sym e ∙ z)), value_text)

pub a_value : (w g t v : Bytes) (x : Ran) (end : ℕ) → x.end ≡ end → end ≡ 0 → encode x.last ≡ v
    → value_text w g t x ≡ sheet_text w (sheet_call g t v 0 report_sheet)
unfolding value_text
a_value w g t v x end e z h =
    let k : x.end ≡ 0 = e ∙ z in
    rw k (ap (λ (b : Bytes). sheet_text w (sheet_call g t b 0 report_sheet)) h)

-- a run that ended with these numbers
pub record Ended (a : Answer Ran) (end steps records : ℕ) : Type 0 where
  pub ran : Ran
  pub is : a ≡ accepted ran
  pub end_is : ran.end ≡ end
  pub steps_is : ran.steps ≡ steps
  pub records_is : size ran.last ≡ records

pub ended : (a : Answer Ran) (end steps records : ℕ) → accepted (record { end = end; steps = steps; count = records }) ≡ run_report a
    → Ended a end steps records
unfolding run_report
ended (accepted x) end steps records e =
    let h = accepted_inj e in
    record {
      ran = x;
      is = refl;
      end_is = sym (ap (λ (r : Report). r.end) h);
      steps_is = sym (ap (λ (r : Report). r.steps) h);
      records_is = sym (ap (λ (r : Report). r.count) h);
    }
ended (refused q p) end steps records e = absurd (either e)

-- its last term stands in front of the first buffer
pub last_in_front : (a : Answer Ran) (end steps records : ℕ) (old w : Bytes) (x : Ended a end steps records) → w ≡ first_after a old
    → encode x.ran.last ≡ take (script_width * records) w
last_in_front a end steps records old w x h =
    let e : Bytes = encode x.ran.last in
    let rest : Bytes = zeros (length old - length e) in
    let l : length e ≡ script_width * records = term_length x.ran.last ∙ ap (λ (n : ℕ). script_width * n) x.records_is in
    sym (ap (take (script_width * records)) (h ∙ ap (λ (b : Answer Ran). first_after b old) x.is) ∙ take_at e rest (script_width * records) l)

-- and has at most 8,192 records
pub few_records : (g t s : Bytes) (budget first scratch end steps records : ℕ) → Octets s → Ended (run_call g t s budget first scratch) end steps records
    → records ≤ script_limit
few_records g t s budget first scratch end steps records o x = omega (arith, (run_ends g t s budget first scratch x.ran o x.is).last, x.records_is)

pub run_accepted : (w g t : Bytes) (a : Answer Ran) (end steps records : ℕ) (x : Ended a end steps records)
    → run_text w g t a ≡ run_line end steps records ++ value_text w g t x.ran
unfolding run_text
run_accepted w g t a end steps records x =
    let e1 = x.end_is in
    let e2 = x.steps_is in
    let e3 = x.records_is in
    let line : run_line x.ran.end x.ran.steps (size x.ran.last) ≡ run_line end steps records = cc in
    ap (run_text w g t) x.is ∙ ap (λ (b : Bytes). b ++ value_text w g t x.ran) line

pub run_refused : (w g t : Bytes) (a : Answer Ran) (q p : ℕ) → refused q p ≡ run_report a → run_text w g t a ≡ refusal_line q p
unfolding run_text run_report
run_refused w g t (accepted x) q p e = absurd (either (sym e))
run_refused w g t (refused q' p') q p e = cc

pub script_accepted : (w g t s : Bytes) (records : ℕ) → accepted records ≡ type_records (verdict g t s)
    → script_text w g t s ≡ accepted_line records ++ run_text w g t (run_call g t s report_budget report_buffer report_buffer)
unfolding script_text checked_text type_records
script_accepted w g t s records = go (verdict g t s)
  where
    go : (a : Answer Ty) → accepted records ≡ type_records a
        → checked_text w g t s a ≡ accepted_line records ++ run_text w g t (run_call g t s report_budget report_buffer report_buffer)
    go (accepted type) h = cc
    go (refused q p) h = absurd (either h)

pub script_refused : (w g t s : Bytes) (q p : ℕ) → refused q p ≡ type_records (verdict g t s) → script_text w g t s ≡ refusal_line q p
unfolding script_text checked_text type_records
script_refused w g t s q p = go (verdict g t s)
  where
    go : (a : Answer Ty) → refused q p ≡ type_records a → checked_text w g t s a ≡ refusal_line q p
    go (accepted type) h = absurd (either (sym h))
    go (refused q' p') h = cc

-- the words first: none supplied, accepted, refused
pub ours_report : (v g t s : Bytes) → v ≡ our_words → script_text v g t s ≡ report none g t s
unfolding report
ours_report v g t s e = ap (λ (b : Bytes). script_text b g t s) e

pub own_report : (w g t s : Bytes) → words_check w ≡ accepted tt → script_text w g t s ≡ report (some w) g t s
unfolding report
own_report w g t s e = sym (ap (λ (a : Answer (Unit {0})). after_words a (script_text w g t s)) e)

pub words_refused : (w g t s : Bytes) (q p : ℕ) → words_check w ≡ refused q p → refusal_line q p ≡ report (some w) g t s
unfolding report
words_refused w g t s q p e = sym (ap (λ (a : Answer (Unit {0})). after_words a (script_text w g t s)) e)

-- lengths: room for the longest line is room for each
pub refusal_fits : (q p at room : ℕ) → at + 53 ≤ room → at + length (refusal_line q p) ≤ room
refusal_fits q p at room l = omega (arith, refusal_length q p)

pub accepted_fits : (records at room : ℕ) → at + 30 ≤ room → at + length (accepted_line records) ≤ room
accepted_fits records at room l = omega (arith, accepted_length records)

-- and what is left after the first line
pub after_accepted : (records room : ℕ) {x y : Writer} → Written (accepted_line records) x y → x.end + (30 + room) ≤ length x.out.now → y.end + room ≤ length y.out.now
after_accepted records room w l = omega (arith, w.ends, keeps w, accepted_length records)

pub after_run : (end steps records room : ℕ) {x y : Writer} → Written (run_line end steps records) x y → x.end + (81 + room) ≤ length x.out.now → y.end + room ≤ length y.out.now
after_run end steps records room w l = omega (arith, w.ends, keeps w, run_length end steps records)

pub run_line_fits : (end steps records at room : ℕ) → at + 81 ≤ room → at + length (run_line end steps records) ≤ room
run_line_fits end steps records at room l = omega (arith, run_length end steps records)

pub sheet_room : (w : Bytes) (a : Answer Bytes) → ((b : Bytes) → a ≡ accepted b → (length b ≤ report_sheet) × Octets b) → length (sheet_text w a) ≤ value_room
sheet_room w (accepted b) f = let p = f b refl in omega (arith, sheet_length w b p.1, p.0)
sheet_room w (refused q p) f = omega (arith, refusal_length q p)

pub value_length : (w g t : Bytes) (x : Ran) → Octets g → Fit g t x.last → length (value_text w g t x) ≤ value_room
unfolding value_text
value_length w g t x octets F = go (nat_eq x.end 0) refl
  where
    a : Answer Bytes
    a = sheet_call g t (encode x.last) 0 report_sheet

    go : (b : Bool) → nat_eq x.end 0 ≡ b → length (value_text w g t x) ≤ value_room
    go true e = rw (e, value_text) (sheet_room w a (λ b h. (page_fits g t (encode x.last) 0 report_sheet b h, term_octets g t x.last 0 report_sheet octets F b h)))
    go false e = rw (e, value_text) (omega arith)

run_text_length : (w g t : Bytes) (a : Answer Ran) → Octets g → ((x : Ran) → a ≡ accepted x → Fit g t x.last) → length (run_text w g t a) ≤ run_room
unfolding run_text
run_text_length w g t (accepted x) octets F =
    omega
    (arith, length-append (run_line x.end x.steps (size x.last)) (value_text w g t x), run_length x.end x.steps (size x.last), value_length w g t x octets (F x refl))
run_text_length w g t (refused q p) octets F = omega (arith, refusal_length q p)

script_length : (w g t s : Bytes) → Octets g → Octets s → length (script_text w g t s) ≤ report_room
unfolding script_text checked_text
script_length w g t s octets_g octets_s = go (verdict g t s)
  where
    go : (a : Answer Ty) → length (checked_text w g t s a) ≤ report_room
    go (accepted type) =
        let r : Bytes = run_text w g t (run_call g t s report_budget report_buffer report_buffer) in
        omega
        (arith, length-append (accepted_line (size_t type)) r, accepted_length (size_t type), run_text_length w g t (run_call g t s report_budget report_buffer report_buffer) octets_g (last_fits g t s report_budget report_buffer report_buffer octets_g octets_s))
    go (refused q p) = omega (arith, refusal_length q p)

-- No report is longer, whatever the files hold.
pub report_length : (words : Option Bytes) (g t s : Bytes) → Octets g → Octets s → length (report words g t s) ≤ report_room
unfolding report
report_length none g t s octets_g octets_s = script_length our_words g t s octets_g octets_s
report_length (some w) g t s octets_g octets_s = go (words_check w)
  where
    go : (a : Answer (Unit {0})) → length (after_words a (script_text w g t s)) ≤ report_room
    go (accepted u) = script_length w g t s octets_g octets_s
    go (refused q p) = omega (arith, refusal_length q p)
