-- A packet's refusal has one of the 42 questions and a place of at most 8,192, and its count is no more: one number
-- holds either.
use Rattle.std.proofs.Common.{◌≡◌, refl, sym, ◌∙◌, subst, Bool, true, false, cond, [], ◌∷◌, ℕ, ◌/◌, ◌≤◌, min, arith}
use Rattle.std.proofs.Common.{nat_eq, nat_le, nat_lt, length}
use Rattle.calculus.specs.Types.{Ty, function, top}
use Rattle.calculus.specs.Subtyping.{subtype, below}
use Rattle.calculus.specs.Terms.{is_value}
use Rattle.rules.specs.Answer.{Bytes, Octets, Answer, accepted, refused, ◌>>=◌, ◌>>◌, ask}
use Rattle.rules.specs.Limits.{work_length, depth_limit, script_width, script_limit, sheet_width}
use Rattle.rules.specs.Groups.{rows, properties_of}
use Rattle.rules.specs.Types.{type_at}
use Rattle.rules.specs.Script.{records, term, size, depth, q13}
use Rattle.rules.specs.Typing.{has_form, left, q21, typing}
use Rattle.rules.specs.Run.{Ran, run}
use Rattle.rules.specs.Sheet.{sheet}
use Rattle.rules.specs.Calls.{q25, q26, q27, own_check, script_check}
use Rattle.rules.specs.Profile.{ok39, q39}
use Rattle.rules.specs.Packet.{application, q1_work, q39_if, q37, q38, before_typing, application_check, desk_check}
use Rattle.rules.specs.Packet.{Packet, packet_of_run, packet_call, packet_count, packet_report}
use Rattle.rules.proofs.Asked.{and_then}
use Rattle.promises.proofs.Answers.{go_on}
use Rattle.promises.proofs.Checked.{script_passed}
use Rattle.promises.proofs.Packet.{packet_by_hand, ready}
use Rattle.promises.proofs.PacketQuestions.{issuing_is}
use Rattle.packing.specs.Packed.{Bounded, bounded_yes, bounded_no, counted_yes, counted_no, RunCounted}
use Rattle.packing.proofs.Bounds.{then, front, each_bounded, at_13, at_27, own_bounded, script_bounded, own_records}
use Rattle.packing.proofs.Bounds.{script_records, typing_bounded}
use Rattle.packing.proofs.Exported.{run_ends}
use Rattle.sheet.proofs.Sheets.{sheet_length}
use Rattle.sheet.proofs.Values.{lines_size}

after_type : (m : Answer Ty) (f : Ty → Answer (Unit {0})) → Bounded m → ((s : Ty) → Bounded (f s)) → Bounded (◌>>=◌ m f)
after_type (accepted s) f b h = h s
after_type (refused q p) f (bounded_no l m n) h = bounded_no l m n

bounded_39 : (profile : ℕ) (s : Bytes) → records s ≤ script_limit → Bounded (q39_if profile s)
unfolding q39_if
bounded_39 profile s l = go (nat_eq profile 0)
  where
    go : (b : Bool) → Bounded (cond b (accepted tt) (q39 s))
    go true = bounded_yes
    go false = each_bounded 39 (records s) (ok39 s) (omega arith) (omega arith) l

module _ (g t script entry : Bytes) (O : Octets script) (E : Octets entry) (group profile work first scratch : ℕ) where
  application_bounded : (s u : Ty) → Bounded (application_check g script entry group first scratch s u)
  unfolding application_check
  application_bounded s u =
      let S = properties_of g in
      let whole = application group script entry in
      then (q26 (term entry)) _ (front 26 (is_value (term entry)) (omega arith) (omega arith)) λ e26.
      then (q25 0 group (rows g)) _ (front 25 (nat_lt group (rows g)) (omega arith) (omega arith)) λ e25.
      then (q37 s) _ (front 37 (has_form function s) (omega arith) (omega arith)) λ e37.
      then (q21 S 0 s group) _ (front 21 (S.permits (top s) group) (omega arith) (omega arith)) λ e21.
      then (q38 S u s) _ (front 38 (subtype S below u (left s)) (omega arith) (omega arith)) λ e38.
      then (q13 (first ∷ scratch ∷ []) whole) _ (at_13 script_width (first ∷ scratch ∷ []) whole) λ e13.
      front 18 (nat_le (depth (term whole)) depth_limit) (omega arith) (omega arith)

  begun_bounded : Bounded (before_typing g t script profile work)
  unfolding before_typing
  begun_bounded =
      then (q1_work work) _ (front 1 (nat_le work_length work) (omega arith) (omega arith)) λ e1.
      then (script_check [] g t script) _ (script_bounded [] g t script) λ e19. bounded_39 profile script (script_records [] g t script e19)

  begun_passed : before_typing g t script profile work ≡ accepted tt → script_check [] g t script ≡ accepted tt
  unfolding before_typing
  begun_passed h = (and_then (script_check [] g t script) (q39_if profile script) (and_then (q1_work work) _ h).1).0

  desk_bounded : Bounded (desk_check g t script entry group profile work first scratch)
  unfolding desk_check script_check
  desk_bounded =
      then (before_typing g t script profile work) _ begun_bounded λ b.
      let p = begun_passed b in
      let T = (script_passed [] g t script O p).types in
      after_type (typing (properties_of g) (type_at t) [] 0 (term script)) _ (typing_bounded g t script O p) λ s.
      then (own_check [] g t entry) _ (own_bounded [] g t entry) λ e.
      then (q39_if profile entry) _ (bounded_39 profile entry (own_records [] g t entry e)) λ e39.
      after_type (typing (properties_of g) (type_at t) [] 0 (term entry)) _ (typing_bounded g t entry E (go_on T e)) λ u. application_bounded s u

-- a sheet has no more records than its value
page_small : (g : Bytes) (group : ℕ) (x : Ran) → size x.last ≤ script_limit → length (sheet g group x.last) / sheet_width ≤ script_limit
page_small g group x l = omega (arith, sheet_length g group x.last, lines_size g group true x.last, l)

counted : (p : Packet) → packet_count p ≤ script_limit → RunCounted (packet_report (accepted p))
unfolding packet_report
counted p l = counted_yes l

refused_27 : {place : ℕ} → place ≤ script_limit → RunCounted (packet_report (refused 27 place))
unfolding packet_report
refused_27 l = counted_no l

report_counted : (g : Bytes) (group room : ℕ) (x : Ran) → size x.last ≤ script_limit → RunCounted (packet_report (packet_of_run g group room x))
report_counted g group room x l = go (nat_eq x.end 0) refl (nat_le (length (sheet g group x.last)) room)
  where
    packet : Bytes → Packet
    packet b = record { ran = x; page = b }

    go : (b : Bool) → nat_eq x.end 0 ≡ b → (c : Bool)
        → RunCounted (packet_report (cond b (◌>>◌ (ask 27 0 c) (accepted (packet (sheet g group x.last)))) (accepted (packet []))))
    go true h true = counted (packet (sheet g group x.last)) (rw h (page_small g group x l))
    go true h false = refused_27 (omega arith)
    go false h c = counted (packet []) (rw h l)

refused_counted : {q place : ℕ} → Bounded {A = Unit {0}} (refused q place) → RunCounted (packet_report (refused q place))
unfolding packet_report
refused_counted (bounded_no l m n) = counted_no n

pub packet_counted : (g t script entry : Bytes) (group budget profile work : ℕ) (first scratch : Bytes) (room : ℕ) → Octets g → Octets script → Octets entry
    → RunCounted (packet_report (packet_call g t script entry group budget profile work (length first) (length scratch) room))
packet_counted g t script entry group budget profile work first scratch room G O E =
    subst (λ (a : Answer Packet). RunCounted (packet_report a)) (sym (issuing_is g t script entry group budget profile work (length first) (length scratch) room))
    (go (desk_check g t script entry group profile work (length first) (length scratch)) refl (desk_bounded g t script entry O E group profile work (length first) (length scratch)))
  where
    whole : Bytes
    whole = application group script entry

    ran : Ran
    ran = run (properties_of g) (type_at t) (min (length first) (length scratch)) budget (term whole)

    go : (a : Answer (Unit {0})) → desk_check g t script entry group profile work (length first) (length scratch) ≡ a → Bounded a
        → RunCounted (packet_report (◌>>◌ a (packet_of_run g group room ran)))
    go (accepted u) h b =
        let R = ready g t script entry G O E group budget profile work (length first) (length scratch) h in
        let A = (packet_by_hand g t script entry group budget profile work first scratch room G O E).equals h in
        let L = run_ends g t whole budget (length first) (length scratch) ran R.octets (sym A.same_run ∙ R.runs) in
        report_counted g group room ran L.last
    go (refused q place) h b = refused_counted b
