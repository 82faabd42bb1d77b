-- The packet's questions, one after another, and what its buffers hold.
use Rattle.std.proofs.Common.{◌≡◌, refl, ap, ◌∙◌, Bool, true, false, cond, List, [], ◌∷◌, ◌++◌, ℕ, min, eqb-true}
use Rattle.std.proofs.Common.{nat_eq, nat_le, nat_lt, length, arith}
use Rattle.calculus.specs.Types.{Ty, function, top}
use Rattle.calculus.specs.Subtyping.{subtype, below}
use Rattle.calculus.specs.Terms.{is_value}
use Rattle.rules.specs.Answer.{Bytes, Answer, accepted, refused, ◌>>=◌, ◌>>◌}
use Rattle.rules.specs.Limits.{work_length, script_width, depth_limit}
use Rattle.rules.specs.Groups.{rows, properties_of}
use Rattle.rules.specs.Types.{type_at}
use Rattle.rules.specs.Script.{records, term, depth, q13}
use Rattle.rules.specs.Typing.{has_form, left, q21, typing}
use Rattle.rules.specs.Run.{Ran, run}
use Rattle.rules.specs.Sheet.{sheet}
use Rattle.rules.specs.Calls.{fill_front, q25, q26, q27, own_check, script_check, first_after, scratch_after}
use Rattle.rules.specs.Profile.{ok39, q39}
use Rattle.rules.specs.Packet.{application, q1_work, q39_if, q37, q38, q18_whole, before_typing, application_check}
use Rattle.rules.specs.Packet.{desk_check, desk_run, Packet, packet_of_run, packet_call, desk_work_after}
use Rattle.rules.specs.Packet.{packet_page_after}
use Rattle.rules.proofs.Asked.{and_then}
use Rattle.promises.specs.Questions.{Question, question, yes, none_left, first_no_here}
use Rattle.promises.specs.Packet.{typing_question, found_type, of_beginning, of_application, of_entry, of_desk, page_question, PacketQuestions}
use Rattle.promises.proofs.Answers.{accepted≢refused, accepted_inj}
use Rattle.promises.proofs.Deciding.{Own, own_yes, Decided, says_yes, refuses, decides, ask_own, each_own, decided_one}
use Rattle.promises.proofs.Deciding.{decided_then, decided_yes, then_found}
use Rattle.promises.proofs.EveryCallAnswers.{own_13, own_decided, script_decided}
use Rattle.std.proofs.lemmas.Grind.{common_steps}

-- Typing between the other questions: where it finds a type, they go on with that.
decided_typed : {A : Type 0} (m : Answer Ty) (f : Ty → Answer A) (qs : Ty → List Question) → ((s : Ty) → Decided (qs s) (f s))
    → Decided (typing_question m ∷ qs (found_type m)) (◌>>=◌ m f)
decided_typed (accepted s) f qs D = decided_then (accepted tt) (f s) (decided_one own_yes) (D s)
decided_typed (refused q place) f qs D = refuses (first_no_here refl)

own_39 : (profile : ℕ) (s : Bytes) → Own 39 (q39_if profile s)
unfolding q39_if
own_39 profile s = go (nat_eq profile 0)
  where
    go : (b : Bool) → Own 39 (cond b (accepted tt) (q39 s))
    go true = own_yes
    go false = each_own 39 (records s) (ok39 s)

begins_decided : (g t script : Bytes) (profile work : ℕ) → Decided (of_beginning g t script profile work) (before_typing g t script profile work)
unfolding before_typing
begins_decided g t script profile work =
    decided_then (q1_work work) _ (decided_one (ask_own 1 0 (nat_le work_length work)))
    (decided_then (script_check [] g t script) (q39_if profile script) (script_decided [] g t script) (decided_one (own_39 profile script)))

application_decided : (g script entry : Bytes) (group first scratch : ℕ) (s u : Ty)
    → Decided (of_application g script entry group first scratch s u) (application_check g script entry group first scratch s u)
unfolding application_check
application_decided g script entry group first scratch s u =
    let S = properties_of g in
    let whole = application group script entry in
    decided_then (q26 (term entry)) _ (decided_one (ask_own 26 0 (is_value (term entry))))
    (decided_then (q25 0 group (rows g)) _ (decided_one (ask_own 25 0 (nat_lt group (rows g))))
    (decided_then (q37 s) _ (decided_one (ask_own 37 0 (has_form function s)))
    (decided_then (q21 S 0 s group) _ (decided_one (ask_own 21 0 (S.permits (top s) group)))
    (decided_then (q38 S u s) _ (decided_one (ask_own 38 0 (subtype S below u (left s))))
    (decided_then (q13 (first ∷ scratch ∷ []) whole) (q18_whole whole) (decided_one (own_13 script_width (first ∷ scratch ∷ []) whole))
    (decided_one (ask_own 18 0 (nat_le (depth (term whole)) depth_limit))))))))

module _ (g t script entry : Bytes) (group budget profile work first scratch : ℕ) where
  abbrev of_script_type : Answer Ty
  of_script_type = typing (properties_of g) (type_at t) [] 0 (term script)

  abbrev of_entry_type : Answer Ty
  of_entry_type = typing (properties_of g) (type_at t) [] 0 (term entry)

  abbrev after_entry : Ty → Answer (Unit {0})
  after_entry s = ◌>>=◌ of_entry_type (λ u. application_check g script entry group first scratch s u)

  abbrev after_script : Ty → Answer (Unit {0})
  after_script s = ◌>>◌ (own_check [] g t entry) (◌>>◌ (q39_if profile entry) (after_entry s))

  entry_typed : (s : Ty)
      → Decided (typing_question of_entry_type ∷ of_application g script entry group first scratch s (found_type of_entry_type)) (after_entry s)
  entry_typed s =
      decided_typed of_entry_type (λ u. application_check g script entry group first scratch s u) (λ u. of_application g script entry group first scratch s u)
      (λ u. application_decided g script entry group first scratch s u)

  script_typed : (s : Ty)
      → Decided (of_entry g t entry profile ++ (typing_question of_entry_type ∷ of_application g script entry group first scratch s (found_type of_entry_type))) (after_script s)
  script_typed s =
      decided_then (own_check [] g t entry) _ (own_decided [] g t entry)
      (decided_then (q39_if profile entry) (after_entry s) (decided_one (own_39 profile entry)) (entry_typed s))

  abbrev asked : Answer (Unit {0})
  asked = desk_check g t script entry group profile work first scratch

  abbrev ran : Ran
  ran = run (properties_of g) (type_at t) (min first scratch) budget (term (application group script entry))

  desk_decided : Decided (of_desk g t script entry group profile work first scratch) asked
  unfolding desk_check
  desk_decided =
      decided_then (before_typing g t script profile work) (◌>>=◌ of_script_type after_script) (begins_decided g t script profile work)
      (decided_typed of_script_type after_script
      (λ s. of_entry g t entry profile ++ (typing_question of_entry_type ∷ of_application g script entry group first scratch s (found_type of_entry_type))) script_typed)

  run_decided : Decided (of_desk g t script entry group profile work first scratch) (desk_run g t script entry group budget profile work first scratch)
  unfolding desk_run
  run_decided = decided_then asked (accepted ran) desk_decided (decided_yes ran)

  -- what is answered of a run, by whether a packet is issued
  abbrev packet_if : ℕ → Bytes → Ran → Bool → Answer Packet
  packet_if room page x b =
      cond b (◌>>◌ (q27 page room) (accepted (record { ran = x; page = page }))) (accepted (record { ran = x; page = [] }))

  page_decided : (room : ℕ) (x : Ran) → Decided (page_question g group room x ∷ []) (packet_of_run g group room x)
  page_decided room x = go (nat_eq x.end 0)
    where
      page : Bytes
      page = sheet g group x.last

      go : (b : Bool) → Decided (question 27 (cond b (q27 page room) (accepted tt)) ∷ []) (packet_if room page x b)
      go true = decided_then (q27 page room) _ (decided_one (ask_own 27 0 (nat_le (length page) room))) (decided_yes _)
      go false = says_yes (yes refl none_left)

  -- the packet after its questions
  pub issuing_is : (room : ℕ) → packet_call g t script entry group budget profile work first scratch room ≡ ◌>>◌ asked (packet_of_run g group room ran)
  unfolding packet_call desk_run
  issuing_is room = then_found asked ran (packet_of_run g group room)

  issue_decided : (room : ℕ)
      → Decided (of_desk g t script entry group profile work first scratch ++ (page_question g group room ran ∷ []))
      (packet_call g t script entry group budget profile work first scratch room)
  issue_decided room = rw (issuing_is room) (decided_then asked (packet_of_run g group room ran) desk_decided (page_decided room ran))

  -- a run's refusal is the packet's
  refused_alike : (room q place : ℕ) → desk_run g t script entry group budget profile work first scratch ≡ refused q place
      → packet_call g t script entry group budget profile work first scratch room ≡ refused q place
  unfolding packet_call
  refused_alike room q place e = rw e refl

  only_27 : (room : ℕ) (x : Ran) (q place : ℕ) → desk_run g t script entry group budget profile work first scratch ≡ accepted x
      → packet_call g t script entry group budget profile work first scratch room ≡ refused q place → (q ≡ 27) × (place ≡ 0) × (x.end ≡ 0)
  unfolding packet_call
  only_27 room x q place e k = grind (arith, common_steps)

  -- and where it isn't issued, it has no sheet
  unissued : (room : ℕ) (x : Packet) → packet_call g t script entry group budget profile work first scratch room ≡ accepted x → (x.ran.end ≡ 0 → ⊥) → x.page ≡ []
  unissued room x e n = grind (arith, and_then, issuing_is, nat_eq, packet_if, accepted_inj, eqb-true)

  pub packet_questions : (room : ℕ) → PacketQuestions g t script entry group budget profile work first scratch room
  packet_questions room = record {
    begins = decides (begins_decided g t script profile work);
    runs = decides run_decided;
    issues = decides (issue_decided room);
    work_kept = λ q place e old. ap (λ (x : Answer (Unit {0})). desk_work_after x old) e;
    work_cleared = λ e old. ap (λ (x : Answer (Unit {0})). desk_work_after x old) e;
    run_kept = λ q place e old. (
      refused_alike room q place e,
      ap (λ (x : Answer Ran). first_after x old) e,
      ap (λ (x : Answer Ran). scratch_after x old) e,
    );
    only_27 = only_27 room;
    page_kept = λ q place e old. ap (λ (x : Answer Packet). packet_page_after x old) e;
    no_page = λ x e n old.
        ap (λ (y : Answer Packet). packet_page_after y old) e ∙ ap (λ (b : Bytes). fill_front b old) (unissued room x e n);
  }
