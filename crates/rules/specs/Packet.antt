-- The loan desk's packet: the sheet, for the desk's group, of a script applied to an entry as that group (manual, 7.8
-- and 9.12).
use Rattle.std.specs.Prelude.{[], ◌∷◌, ◌++◌, if◌then◌else◌, ℕ, ◌/◌, min, nat_eq, nat_le, length}
use Rattle.calculus.specs.Security.{Security}
use Rattle.calculus.specs.Types.{Ty, function, size_t}
use Rattle.calculus.specs.Subtyping.{subtype, below}
use Rattle.calculus.specs.Common.{nearest_type}
use Rattle.calculus.specs.Terms.{is_value, substitute, raise_value}
use Rattle.calculus.specs.Numbers.{literal_of, reckon_result}
use Rattle.calculus.specs.Reduction.{step, operand_first, if_permitted, apply, project, branch, unroll, calculate}
use Rattle.rules.specs.Answer.{Bytes, Answer, accepted, refused, ◌>>=◌, ◌>>◌, ask, first_from, last_below}
use Rattle.rules.specs.Limits.{work_length, depth_limit, sheet_width}
use Rattle.rules.specs.Groups.{rows, join, meet, properties_of}
use Rattle.rules.specs.Types.{type_at}
use Rattle.rules.specs.Script.{term, size, depth, q13}
use Rattle.rules.specs.Typing.{has_form, left, q21, typing}
use Rattle.rules.specs.Step.{step_in, exceeds}
use Rattle.rules.specs.Run.{Ran, run}
use Rattle.rules.specs.Sheet.{sheet}
use Rattle.rules.specs.Calls.{zeros, filled_after, q25, q26, q27, own_check, script_check, Report}
use Rattle.rules.specs.Profile.{ok39, q39}

-- The application: its record, made as the group, then the bytes of script and entry as they stand.
abbrev pub application : ℕ → Bytes → Bytes → Bytes
application group script entry = 6 ∷ group ∷ 0 ∷ 0 ∷ 0 ∷ 0 ∷ 0 ∷ 0 ∷ (script ++ entry)

-- 1 of a packet, which has no answer buffer. Is the work buffer at least 96,768 bytes long? Place: 0.
abbrev pub q1_work : ℕ → Answer (Unit {0})
q1_work work = ask 1 0 (nat_le work_length work)

-- 39 of the script or of the entry, after 19, where the desk limits itself to the profile: 0 is no profile.
unfoldable pub q39_if : ℕ → Bytes → Answer (Unit {0})
unfolding first_from ok39
q39_if profile s = if nat_eq profile 0 then accepted tt else q39 s

-- 37. Is the script's type a function? Place: 0.
abbrev pub q37 : Ty → Answer (Unit {0})
q37 s = ask 37 0 (has_form function s)

-- 38. Is the entry's type at or below the function's left side? Place: 0. u is the entry's type, s the script's.
abbrev pub q38 : Security → Ty → Ty → Answer (Unit {0})
q38 S u s = ask 38 0 (subtype S below u (left s))

-- 18 of the application: is its depth at most 256? Place: 0, whichever record is deeper.
abbrev pub q18_whole : Bytes → Answer (Unit {0})
q18_whole s = ask 18 0 (nat_le (depth (term s)) depth_limit)

-- the questions before the script's typing, with the length of the work buffer
unfoldable pub before_typing : Bytes → Bytes → Bytes → ℕ → ℕ → Answer (Unit {0})
unfolding script_check q39_if
before_typing g t script profile work = do
  q1_work work
  script_check [] g t script
  q39_if profile script

-- The questions after both typings, all at place 0: 26 of the entry, 25 of the group, 37, 21, 38, and 13 and 18 of the
-- application. Given are the lengths of the first and the scratch buffer, and the types found of script and entry.
unfoldable pub application_check : Bytes → Bytes → Bytes → ℕ → ℕ → ℕ → Ty → Ty → Answer (Unit {0})
unfolding is_value depth subtype term join meet last_below
application_check g script entry group first scratch s u = do
  q26 (term entry)
  q25 0 group (rows g)
  q37 s
  q21 (properties_of g) 0 s group
  q38 (properties_of g) u s
  q13 (first ∷ scratch ∷ []) (application group script entry)
  q18_whole (application group script entry)

-- All questions before the run: those of the script with its typing, then those of the entry (13 without the run's
-- buffers; 2 to 12 have been asked), then those of the application. With the lengths of the work, the first and the
-- scratch buffer.
unfoldable pub desk_check : Bytes → Bytes → Bytes → Bytes → ℕ → ℕ → ℕ → ℕ → ℕ → Answer (Unit {0})
unfolding before_typing own_check q39_if application_check typing size size_t subtype type_at term join meet last_below nearest_type
desk_check g t script entry group profile work first scratch = do
  before_typing g t script profile work
  s ← typing (properties_of g) (type_at t) [] 0 (term script)
  own_check [] g t entry
  q39_if profile entry
  u ← typing (properties_of g) (type_at t) [] 0 (term entry)
  application_check g script entry group first scratch s u

-- the run of the application: its buffers end as after any run, whatever comes after it
unfoldable pub desk_run : Bytes → Bytes → Bytes → Bytes → ℕ → ℕ → ℕ → ℕ → ℕ → ℕ → Answer Ran
unfolding desk_check run is_value step_in step operand_first if_permitted apply project branch unroll calculate literal_of reckon_result substitute raise_value exceeds size depth type_at term join meet last_below nearest_type
desk_run g t script entry group budget profile work first scratch = do
  desk_check g t script entry group profile work first scratch
  accepted (run (properties_of g) (type_at t) (min first scratch) budget (term (application group script entry)))

-- what the desk gets: the run, and the bytes of the sheet, none where no packet is issued
pub record Packet : Type 0 where
  pub ran : Ran
  pub page : Bytes

-- Only a run that ended 0 gives a sheet, which 27 asks to fit its buffer; any other end is reported without one. With
-- the length of the sheet's buffer.
abbrev pub packet_of_run : Bytes → ℕ → ℕ → Ran → Answer Packet
packet_of_run g group room x =
    if nat_eq x.end 0 then ◌>>◌ (q27 (sheet g group x.last) room) (accepted (record { ran = x; page = sheet g group x.last })) else accepted (record { ran = x; page = [] })

-- The whole call: the questions, the run and 27, with the lengths of the work, the first, the scratch and the sheet's
-- buffer.
unfoldable pub packet_call : Bytes → Bytes → Bytes → Bytes → ℕ → ℕ → ℕ → ℕ → ℕ → ℕ → ℕ → Answer Packet
unfolding desk_run sheet
packet_call g t script entry group budget profile work first scratch room = do
  x ← desk_run g t script entry group budget profile work first scratch
  packet_of_run g group room x

-- What is reported: end, steps and a count, of the sheet's records at end 0 and of the last term's at any other.
abbrev pub packet_count : Packet → ℕ
packet_count x = if nat_eq x.ran.end 0 then length x.page / sheet_width else size x.ran.last

-- the report of a packet
unfoldable pub packet_report : Answer Packet → Answer Report
unfolding size
packet_report (accepted x) = accepted (record { end = x.ran.end; steps = x.ran.steps; count = packet_count x })
packet_report (refused q p) = refused q p

-- the work buffer after the questions before typing: zeros if typing began, whatever comes then; else kept
abbrev pub desk_work_after : Answer (Unit {0}) → Bytes → Bytes
desk_work_after (accepted u) old = zeros (length old)
desk_work_after (refused q p) old = old

-- the sheet that a packet's call gives to its buffer
abbrev pub page_of : Answer Packet → Answer Bytes
page_of (accepted x) = accepted x.page
page_of (refused q p) = refused q p

-- the sheet's buffer after the call: kept on a refusal and at any other end
abbrev pub packet_page_after : Answer Packet → Bytes → Bytes
packet_page_after x old = filled_after (page_of x) old
