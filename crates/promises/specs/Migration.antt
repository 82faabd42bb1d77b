-- Migration (manual, 7.12 and 11): scripts of forms 1 and 2, rewritten with c and ic as group 0 and, from form 1, with
-- r of its type in each recursion, are checked and run as they were. The rules of those forms stand here over widened
-- bytes, of which they read neither c nor ic, and run in buffers of as many records.
use Rattle.std.specs.Prelude.{◌≡◌, [], ◌↔◌, ℕ, ◌≤◌, ◌<◌, length, IsTrue}
use Rattle.calculus.specs.Security.{Property, Reader, Security}
use Rattle.calculus.specs.Types.{Ty, top}
use Rattle.calculus.specs.Terms.{Term}
use Rattle.calculus.specs.Relabelling.{Labels, relabel_t, relabel}
use Rattle.calculus.specs.Callers.{called_as, as_written, as_typed}
use Rattle.calculus.specs.Creators.{readers, rewriting_labels}
use Rattle.rules.specs.Answer.{Bytes, Octets, Answer, accepted}
use Rattle.rules.specs.Groups.{leq, meet, groups_of}
use Rattle.rules.specs.Types.{type_count, type_at}
use Rattle.rules.specs.Script.{encode, term}
use Rattle.rules.specs.Typing.{right, q21}
use Rattle.rules.specs.Step.{End}
use Rattle.rules.specs.Run.{Ran}
use Rattle.rules.specs.Callers.{old_records, old_kind, old_r, write_callers}
use Rattle.rules.specs.Rewriting.{widen_types, widen_script, old_script_check, rewriting_types, rewriting_script}
use Rattle.rules.specs.Calls.{groups_check, types_check, script_check, check_call, check_call_by, step_call}
use Rattle.rules.specs.Calls.{step_call_by, step_report, run_call, run_call_by, run_report}
use Rattle.promises.specs.Runs.{Reaches, ReachesBy}

-- The two earlier forms of records without creators: form 1, and form 2, in which a recursion carries the group of its
-- calls.
pub data Form : Type 0 where
  form_1 form_2 : Form

-- Question 14 of form 1 asks that byte 1 of a recursion is 0; in form 2 it holds a group.
abbrev pub Existing : Form → Bytes → Type 0
Existing form_1 s = (i : ℕ) → i < old_records s → old_kind s i ≡ 11 → old_r s i ≡ 0
Existing form_2 s = Unit {0}

-- who a recursive call is made as
abbrev pub caller_in : Form → Property → Reader → Reader
caller_in form_1 = as_typed
caller_in form_2 = as_written

-- the rules of a form
abbrev pub earlier : Form → Bytes → Security
earlier form g = called_as (caller_in form) (readers (groups_of g))

-- from form 1, r of its type is put in each recursion
abbrev pub with_callers : Form → Bytes → Bytes → Bytes
with_callers form_1 t s = write_callers t s
with_callers form_2 t s = s

-- the rewritten script
abbrev pub new_script : Form → Bytes → Bytes → Bytes
new_script form t s = widen_script (with_callers form t s)

-- what becomes of the labels of a term over the old types t
abbrev pub new_labels : Form → Bytes → Labels
new_labels form t = rewriting_labels (caller_in form) (type_at (widen_types t))

-- the rewritten term
abbrev pub new_term : Form → Bytes → Term → Term
new_term form t e = relabel (new_labels form t) e

-- a step by the rules of a form
abbrev pub earlier_step : Form → Bytes → Bytes → ℕ → Bytes → Answer End
earlier_step form g t room s = step_call_by (earlier form g) g (widen_types t) s room

-- What becomes of one script that is rewritten.
pub record Migrated (form : Form) (g t s : Bytes) : Type 0 where
  -- questions 2 to 19 of the old bytes: the same answer with the callers put in
  pub asked : old_script_check g t (with_callers form t s) ≡ old_script_check g t s
  -- where it is yes, both calls give the new bytes to a buffer that has room for them
  pub types_rewritten : old_script_check g t s ≡ accepted tt → (room : ℕ) → length (widen_types t) ≤ room
      → rewriting_types g t room ≡ accepted (widen_types t)
  pub script_rewritten : old_script_check g t s ≡ accepted tt → (room : ℕ) → length (new_script form t s) ≤ room
      → rewriting_script g t (with_callers form t s) room ≡ accepted (new_script form t s)
  -- the same question and place, or the same type,
  pub checked : (work answer : ℕ)
      → check_call work answer g (widen_types t) (new_script form t s) ≡ check_call_by (earlier form g) work answer g (widen_types t) (widen_script s)
  -- whose c and ic are group 0
  pub uncreated : (work answer : ℕ) (found : Ty) → check_call work answer g (widen_types t) (new_script form t s) ≡ accepted found
      → relabel_t (new_labels form t) found ≡ found
  -- the same question and place, or the same end and record count
  pub stepped : (room : ℕ)
      → step_report (new_script form t s) (step_call g (widen_types t) (new_script form t s) room)
      ≡ step_report (widen_script s) (earlier_step form g t room (widen_script s))
  -- the same question and place, or the same end, steps made and record count
  pub reported : (budget first scratch : ℕ)
      → run_report (run_call g (widen_types t) (new_script form t s) budget first scratch)
      ≡ run_report (run_call_by (earlier form g) g (widen_types t) (widen_script s) budget first scratch)
  -- the last term is the earlier one's, rewritten
  pub last : (budget first scratch : ℕ) (now before : Ran) → run_call g (widen_types t) (new_script form t s) budget first scratch ≡ accepted now
      → run_call_by (earlier form g) g (widen_types t) (widen_script s) budget first scratch ≡ accepted before
      → now.last ≡ new_term form t before.last
  -- and so is every term that is reached, where the questions are yes; else no step is made, as `stepped` says
  pub reached : script_check [] g (widen_types t) (widen_script s) ≡ accepted tt → (room budget : ℕ) (u : Bytes)
      → Reaches g (widen_types t) room budget (new_script form t s) u
      ↔ ((v : Bytes) × ReachesBy (earlier_step form g t room) budget (widen_script s) v × (u ≡ encode (new_term form t (term v))))

-- What is promised of all files of these forms.
pub record Migration : Type 0 where
  pub migrated : (form : Form) (g t s : Bytes) → Octets g → Octets t → Octets s → Existing form s → Migrated form g t s
  -- Form 1 didn't put question 21 to a recursion: with its rules the answer is yes.
  pub unasked_21 : (g t : Bytes) → Octets g → types_check g t ≡ accepted tt → (i place : ℕ) (w : Reader) → i < type_count t
      → q21 (earlier form_1 g) place (type_at t i) ((earlier form_1 g).caller (top (type_at t i)) w) ≡ accepted tt
  -- Nor did it ask the second half of 23, on creators: over rewritten types that holds.
  pub unasked_23 : (g t : Bytes) → Octets g → groups_check g ≡ accepted tt → (i : ℕ) (w : Reader)
      → IsTrue (leq g (top (right (type_at (widen_types t) i))).c (meet g (top (type_at (widen_types t) i)).ic w))
