-- What a packet promises: it is the sheet that is had by building the application by hand (manual, 7.8 and 11).
use Rattle.std.specs.Prelude.{◌≡◌, true, ◌↔◌, if◌then◌else◌, List, [], ◌∷◌, ◌++◌, ℕ, ◌≤◌, min, nat_eq, length}
use Rattle.calculus.specs.Types.{Ty}
use Rattle.calculus.specs.Terms.{is_value}
use Rattle.rules.specs.Answer.{Bytes, Octets, Answer, accepted, refused, ◌>>=◌}
use Rattle.rules.specs.Limits.{work_length}
use Rattle.rules.specs.Groups.{rows, properties_of}
use Rattle.rules.specs.Types.{no_type, type_at}
use Rattle.rules.specs.Script.{encode, term, q13}
use Rattle.rules.specs.Typing.{q21, typing}
use Rattle.rules.specs.Run.{Ran, run}
use Rattle.rules.specs.Sheet.{sheet}
use Rattle.rules.specs.Calls.{zeros, q25, q26, q27, run_call, first_after, scratch_after, sheet_call}
use Rattle.rules.specs.Reach.{Accepted}
use Rattle.rules.specs.Profile.{q39, AcceptedInProfile}
use Rattle.rules.specs.Packet.{application, q1_work, q39_if, q37, q38, q18_whole, before_typing, desk_check, desk_run}
use Rattle.rules.specs.Packet.{Packet, packet_call, desk_work_after, packet_page_after}
use Rattle.promises.specs.Questions.{Question, question, of_groups, of_types, of_script, QuestionsDecide}
use Rattle.promises.specs.Promises.{AcceptedRun}
use Rattle.promises.specs.Profile.{Finishes}

-- Typing asks its questions in the order of its own definition: here it stands for the one that it refuses by.
abbrev pub typing_question : Answer Ty → Question
typing_question (accepted s) = question 20 (accepted tt)
typing_question (refused q place) = question q (refused q place)

-- the type that it finds
abbrev pub found_type : Answer Ty → Ty
found_type (accepted s) = s
found_type (refused q place) = no_type

-- before the script's typing
abbrev pub of_beginning : Bytes → Bytes → Bytes → ℕ → ℕ → List Question
of_beginning g t script profile work =
    question 1 (q1_work work) ∷ [] ++ of_groups g ++ of_types g t ++ of_script [] g t script ++ (question 39 (q39_if profile script) ∷ [])

-- from the entry's on; s and u are the found types
abbrev pub of_application : Bytes → Bytes → Bytes → ℕ → ℕ → ℕ → Ty → Ty → List Question
of_application g script entry group first scratch s u =
    question 26 (q26 (term entry))
    ∷ question 25 (q25 0 group (rows g))
    ∷ question 37 (q37 s)
    ∷ question 21 (q21 (properties_of g) 0 s group)
    ∷ question 38 (q38 (properties_of g) u s)
    ∷ question 13 (q13 (first ∷ scratch ∷ []) (application group script entry))
    ∷ question 18 (q18_whole (application group script entry))
    ∷ []

-- of the entry, up to its typing
abbrev pub of_entry : Bytes → Bytes → Bytes → ℕ → List Question
of_entry g t entry profile = of_script [] g t entry ++ (question 39 (q39_if profile entry) ∷ [])

-- all of them before the run
abbrev pub of_desk : Bytes → Bytes → Bytes → Bytes → ℕ → ℕ → ℕ → ℕ → ℕ → List Question
of_desk g t script entry group profile work first scratch =
    let s = typing (properties_of g) (type_at t) [] 0 (term script) in
    let u = typing (properties_of g) (type_at t) [] 0 (term entry) in
    of_beginning g t script profile work
    ++ (typing_question s ∷ of_entry g t entry profile ++ (typing_question u ∷ of_application g script entry group first scratch (found_type s) (found_type u)))

-- 27, which is asked of a run that ended 0
abbrev pub page_question : Bytes → ℕ → ℕ → Ran → Question
page_question g group room x = question 27 (if nat_eq x.end 0 then q27 (sheet g group x.last) room else accepted tt)

-- Every call of the desk answers: by the first no of its questions, and its buffers are left as the rules say. Given
-- are the lengths of its work, first, scratch and sheet's buffer.
pub record PacketQuestions (g t script entry : Bytes) (group budget profile work first scratch room : ℕ) : Type 0 where
  -- each part of the call answers by the first no of its questions: before typing,
  pub begins : QuestionsDecide (of_beginning g t script profile work) (before_typing g t script profile work)
  -- up to the run,
  pub runs : QuestionsDecide (of_desk g t script entry group profile work first scratch) (desk_run g t script entry group budget profile work first scratch)
  -- and the whole call
  pub issues : QuestionsDecide
      (of_desk g t script entry group profile work first scratch
      ++ (page_question g group room (run (properties_of g) (type_at t) (min first scratch) budget (term (application group script entry))) ∷ []))
      (packet_call g t script entry group budget profile work first scratch room)
  -- the work buffer: unchanged before the script's typing, zeros whatever refuses afterwards
  pub work_kept : (q place : ℕ) → before_typing g t script profile work ≡ refused q place → (old : Bytes)
      → desk_work_after (before_typing g t script profile work) old ≡ old
  pub work_cleared : before_typing g t script profile work ≡ accepted tt → (old : Bytes)
      → desk_work_after (before_typing g t script profile work) old ≡ zeros (length old)
  -- a refusal before the run is the packet's, and leaves the run's buffers as they were
  pub run_kept : (q place : ℕ) → desk_run g t script entry group budget profile work first scratch ≡ refused q place → (old : Bytes)
      → (packet_call g t script entry group budget profile work first scratch room ≡ refused q place)
      × (first_after (desk_run g t script entry group budget profile work first scratch) old ≡ old)
      × (scratch_after (desk_run g t script entry group budget profile work first scratch) old ≡ old)
  -- 27 alone refuses after the run, and keeps what the run left
  pub only_27 : (ran : Ran) (q place : ℕ) → desk_run g t script entry group budget profile work first scratch ≡ accepted ran
      → packet_call g t script entry group budget profile work first scratch room ≡ refused q place → (q ≡ 27) × (place ≡ 0) × (ran.end ≡ 0)
  -- no refusal and no other end writes a sheet
  pub page_kept : (q place : ℕ) → packet_call g t script entry group budget profile work first scratch room ≡ refused q place → (old : Bytes)
      → packet_page_after (packet_call g t script entry group budget profile work first scratch room) old ≡ old
  pub no_page : (x : Packet) → packet_call g t script entry group budget profile work first scratch room ≡ accepted x → (x.ran.end ≡ 0 → ⊥) → (old : Bytes)
      → packet_page_after (packet_call g t script entry group budget profile work first scratch room) old ≡ old

-- by hand: the sheet of the last term of a run that ended 0, for the group
abbrev pub page_by_hand : Bytes → Bytes → ℕ → ℕ → Ran → Answer Bytes
page_by_hand g t group room x = if nat_eq x.end 0 then sheet_call g t (encode x.last) group room else accepted []

-- by hand: the run of the application's bytes, and then the sheet
abbrev pub by_hand : Bytes → Bytes → Bytes → ℕ → ℕ → ℕ → ℕ → ℕ → Answer Packet
by_hand g t whole group budget first scratch room =
    ◌>>=◌ (run_call g t whole budget first scratch) (λ x. ◌>>=◌ (page_by_hand g t group room x) (λ b. accepted (record { ran = x; page = b })))

-- What the desk may rely on once its questions are answered yes, for any content of the run's buffers.
pub record AsByHand (g t script entry : Bytes) (group budget profile work : ℕ) (first scratch : Bytes) (room : ℕ) : Type 0 where
  -- checking accepts the application
  pub type : Ty
  pub accepts : Accepted g t (application group script entry) type
  -- its run and the packet's are one, and so are the bytes that they leave
  pub same_run : desk_run g t script entry group budget profile work (length first) (length scratch)
      ≡ run_call g t (application group script entry) budget (length first) (length scratch)
  pub same_packet : packet_call g t script entry group budget profile work (length first) (length scratch) room
      ≡ by_hand g t (application group script entry) group budget (length first) (length scratch) room
  -- so all that is promised of an accepted script's run holds of it
  pub promise : AcceptedRun g t (application group script entry) type budget first scratch
  pub same_ran : desk_run g t script entry group budget profile work (length first) (length scratch) ≡ accepted promise.ran
  pub not_2 : promise.ran.end ≡ 2 → ⊥
  pub not_3 : promise.ran.end ≡ 3 → ⊥
  -- and under the profile, that it finishes
  pub in_profile : (profile ≡ 0 → ⊥) → AcceptedInProfile g t (application group script entry) type × Finishes g t (application group script entry)

-- What the questions before the run ask, in other words: script and entry are accepted, the entry is a value, and the
-- application is accepted and has room. So 25, 37, 21, 38, 13 and 18 leave out just the applications that checking or a
-- run would refuse.
pub record Applicable (g t script entry : Bytes) (group profile work first scratch : ℕ) : Type 0 where
  pub room_to_type : work_length ≤ work
  pub script_type : Ty
  pub script_accepted : Accepted g t script script_type
  pub entry_type : Ty
  pub entry_accepted : Accepted g t entry entry_type
  pub value : is_value (term entry) ≡ true
  pub type : Ty
  pub accepts : Accepted g t (application group script entry) type
  pub first_holds : length (application group script entry) ≤ first
  pub scratch_holds : length (application group script entry) ≤ scratch
  pub free : (profile ≡ 0 → ⊥) → (q39 script ≡ accepted tt) × (q39 entry ≡ accepted tt)

-- What is promised of every call of the desk.
pub record PacketByHand (g t script entry : Bytes) (group budget profile work : ℕ) (first scratch : Bytes) (room : ℕ) : Type 0 where
  -- every call answers
  pub asks : PacketQuestions g t script entry group budget profile work (length first) (length scratch) room
  -- where its questions are yes, the packet is that by hand
  pub equals : desk_check g t script entry group profile work (length first) (length scratch) ≡ accepted tt
      → AsByHand g t script entry group budget profile work first scratch room
  -- and they are yes just where the application can be run
  pub runs_when : (desk_check g t script entry group profile work (length first) (length scratch) ≡ accepted tt)
      ↔ Applicable g t script entry group profile work (length first) (length scratch)

unfoldable pub PacketsByHand : Type 0
PacketsByHand =
    (g t script entry : Bytes) (group budget profile work : ℕ) (first scratch : Bytes) (room : ℕ) → Octets g → Octets script → Octets entry
    → PacketByHand g t script entry group budget profile work first scratch room
