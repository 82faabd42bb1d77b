-- The calls: each as its questions in order and its answer, and what every lent buffer holds afterwards, from its old
-- content (manual, 9). A buffer that is to be filled is given by its length.
use Rattle.std.specs.Prelude.{◌&&◌, if◌then◌else◌, List, [], ◌∷◌, ◌++◌, ℕ, ◌-◌, ◌/◌, min, nat_le, nat_lt, length, drop}
use Rattle.std.specs.Prelude.{replicate}
use Rattle.calculus.specs.Security.{Security}
use Rattle.calculus.specs.Types.{Ty, size_t}
use Rattle.calculus.specs.Subtyping.{subtype}
use Rattle.calculus.specs.Common.{nearest_type}
use Rattle.calculus.specs.Terms.{Term, substitute, raise_value, is_value}
use Rattle.calculus.specs.Numbers.{literal_of, reckon_result}
use Rattle.calculus.specs.Reduction.{step, operand_first, if_permitted, apply, project, branch, unroll, calculate}
use Rattle.rules.specs.Answer.{Bytes, Answer, accepted, refused, ◌>>◌, ask, first_from, last_below}
use Rattle.rules.specs.Limits.{work_length, answer_length, sheet_width}
use Rattle.rules.specs.Groups.{rows, join, meet, ok3, ok4, ok5, ok6, ok7, q2, q3, q4, q5, q6, q7, properties_of}
use Rattle.rules.specs.Types.{type_count, encode_type, type_at, ok9, ok10, ok36_type, ok11, ok12, q8, q9, q10}
use Rattle.rules.specs.Types.{q36_types, q11, q12}
use Rattle.rules.specs.Comparison.{equal_types, Comparison, comparison}
use Rattle.rules.specs.Script.{records, encode, term, size, depth, depths_from, binders_from, term_end, ok14, ok15}
use Rattle.rules.specs.Script.{ok36_object, ok16, ok18, ok19, q13, q14, q15, q36_objects, q16, q17, q18, q19}
use Rattle.rules.specs.Typing.{of_typing, typing}
use Rattle.rules.specs.Step.{End, at_value, moves, may_not, wrong_kind, too_big, end_number, end_count, step_in}
use Rattle.rules.specs.Step.{exceeds}
use Rattle.rules.specs.Run.{Ran, run}
use Rattle.rules.specs.Sheet.{sheet}

-- a buffer whose front is filled and whose later bytes keep their content
abbrev pub fill_front : Bytes → Bytes → Bytes
fill_front bytes old = bytes ++ drop (length bytes) old

-- n zero bytes
abbrev pub zeros : ℕ → Bytes
zeros n = replicate n 0

-- a buffer whose front an answer's bytes fill; a refusal leaves it as it was
abbrev pub filled_after : Answer Bytes → Bytes → Bytes
filled_after (accepted bytes) old = fill_front bytes old
filled_after (refused q p) old = old

-- questions 2 to 7: the groups check
unfoldable pub groups_check : Bytes → Answer (Unit {0})
unfolding first_from ok3 ok4 ok5 ok6 ok7
groups_check g = do
  q2 g
  q3 g
  q4 g
  q5 g
  q6 g
  q7 g

-- questions 2 to 12, with 36 between 10 and 11: the types check
unfoldable pub types_check : Bytes → Bytes → Answer (Unit {0})
unfolding groups_check first_from ok9 ok10 ok36_type ok11 ok12
types_check g t = do
  groups_check g
  q8 t
  q9 g t
  q10 g t
  q36_types g t
  q11 t
  q12 t

-- 25. Is the given index or group in its table? Place: 0, or 1 for a second index.
abbrev pub q25 : ℕ → ℕ → ℕ → Answer (Unit {0})
q25 place index count = ask 25 place (nat_lt index count)

-- The comparison of the types at two indexes: asks 2 to 12, then 25 of the first and of the second.
unfoldable pub compare_call : Bytes → Bytes → ℕ → ℕ → Answer Comparison
unfolding types_check subtype equal_types type_at join meet last_below nearest_type
compare_call g t i j = do
  types_check g t
  q25 0 i (type_count t)
  q25 1 j (type_count t)
  accepted (comparison (properties_of g) (type_at t i) (type_at t j))

-- questions 14 to 18, with 36 after 15
unfoldable pub form_check : Bytes → Bytes → Bytes → Answer (Unit {0})
unfolding first_from ok14 ok15 ok36_object ok16 term_end ok18 depths_from term
form_check g t s = do
  q14 s
  q15 g s
  q36_objects g s
  q16 t s
  q17 s
  q18 s

-- questions 13 to 19: a script's own, over tables that have passed; `rooms` are the lengths of a run's buffers
unfoldable pub own_check : List ℕ → Bytes → Bytes → Bytes → Answer (Unit {0})
unfolding form_check first_from ok19 binders_from term
own_check rooms g t s = do
  q13 rooms s
  form_check g t s
  q19 s

-- questions 2 to 19
unfoldable pub script_check : List ℕ → Bytes → Bytes → Bytes → Answer (Unit {0})
unfolding types_check own_check
script_check rooms g t s = do
  types_check g t
  own_check rooms g t s

-- 1. Are the work and the answer buffer at least 96,768 and 378 bytes long? Place: 0.
abbrev pub q1 : ℕ → ℕ → Answer (Unit {0})
q1 work answer = ask 1 0 (nat_le work_length work && nat_le answer_length answer)

-- Checking by rules S: asks 1 to 24, with the lengths of the work and the answer buffer, and answers the found type.
abbrev pub check_call_by : Security → ℕ → ℕ → Bytes → Bytes → Bytes → Answer Ty
check_call_by S work answer g t s = do
  q1 work answer
  script_check [] g t s
  typing S (type_at t) [] 0 (term s)

-- checking, by the rules over the groups table
unfoldable pub check_call : ℕ → ℕ → Bytes → Bytes → Bytes → Answer Ty
unfolding script_check typing size size_t subtype type_at term join meet last_below nearest_type
check_call work answer g t s = check_call_by (properties_of g) work answer g t s

-- what a check reports: the record count of the found type
unfoldable pub type_records : Answer Ty → Answer ℕ
unfolding size_t
type_records (accepted s) = accepted (size_t s)
type_records (refused q p) = refused q p

-- the bytes of the found type
unfoldable pub type_bytes : Answer Ty → Answer Bytes
unfolding encode_type
type_bytes (accepted s) = accepted (encode_type s)
type_bytes (refused q p) = refused q p

-- the answer buffer after a check: the found type in front, later bytes kept; kept on a refusal
abbrev pub answer_after : Answer Ty → Bytes → Bytes
answer_after (accepted s) old = fill_front (encode_type s) old
answer_after (refused q p) old = old

-- The work buffer after a check: all zeros once typing has begun, whatever it answers, and kept where a question before
-- it refuses.
abbrev pub work_after : Answer Ty → Bytes → Bytes
work_after (accepted s) old = zeros (length old)
work_after (refused q p) old = if of_typing q then zeros (length old) else old

-- A step by rules S: asks 2 to 19, with the length of the written buffer, and answers how the step ends.
abbrev pub step_call_by : Security → Bytes → Bytes → Bytes → ℕ → Answer End
step_call_by S g t s room = do
  script_check [] g t s
  accepted (step_in S (type_at t) room (term s))

-- a step, by the rules over the groups table
unfoldable pub step_call : Bytes → Bytes → Bytes → ℕ → Answer End
unfolding script_check step_in step operand_first if_permitted apply project branch unroll calculate literal_of reckon_result substitute raise_value exceeds size depth type_at term join meet last_below nearest_type
step_call g t s room = step_call_by (properties_of g) g t s room

-- what a step reports: its end, and the record count, the script's own unless it moved
pub record StepReport : Type 0 where
  pub end : ℕ
  pub count : ℕ

-- the report of a step of script s
abbrev pub step_report : Bytes → Answer End → Answer StepReport
step_report s (accepted x) = accepted (record { end = end_number x; count = end_count (records s) x })
step_report s (refused q p) = refused q p

-- the written buffer: at end 1 the new term in front, later bytes kept; kept at any other end
abbrev pub front_after : End → Bytes → Bytes
front_after (moves e) old = fill_front (encode e) old
front_after _ old = old

-- the written buffer after the call: kept on a refusal
abbrev pub written_after : Answer End → Bytes → Bytes
written_after (accepted x) old = front_after x old
written_after (refused q p) old = old

-- A run by rules S: asks 2 to 19, with the lengths of the first and the scratch buffer. What is too big is judged with
-- the shorter.
abbrev pub run_call_by : Security → Bytes → Bytes → Bytes → ℕ → ℕ → ℕ → Answer Ran
run_call_by S g t s budget first scratch = do
  script_check (first ∷ scratch ∷ []) g t s
  accepted (run S (type_at t) (min first scratch) budget (term s))

-- a run, by the rules over the groups table
unfoldable pub run_call : Bytes → Bytes → Bytes → ℕ → ℕ → ℕ → Answer Ran
unfolding script_check run is_value step_in step operand_first if_permitted apply project branch unroll calculate literal_of reckon_result substitute raise_value exceeds size depth type_at term join meet last_below nearest_type
run_call g t s budget first scratch = run_call_by (properties_of g) g t s budget first scratch

-- what a run reports: its end, the steps made, and the record count of the last term
pub record Report : Type 0 where
  pub end : ℕ
  pub steps : ℕ
  pub count : ℕ

-- the report of a run
unfoldable pub run_report : Answer Ran → Answer Report
unfolding size
run_report (accepted x) = accepted (record { end = x.end; steps = x.steps; count = size x.last })
run_report (refused q p) = refused q p

-- the first buffer after a run: the last term, then zeros; kept on a refusal
abbrev pub first_after : Answer Ran → Bytes → Bytes
first_after (accepted x) old = encode x.last ++ zeros (length old - length (encode x.last))
first_after (refused q p) old = old

-- the scratch buffer after a run: all zeros; kept on a refusal
abbrev pub scratch_after : Answer Ran → Bytes → Bytes
scratch_after (accepted x) old = zeros (length old)
scratch_after (refused q p) old = old

-- 26. Is the script a value? Place: 0.
abbrev pub q26 : Term → Answer (Unit {0})
q26 e = ask 26 0 (is_value e)

-- 27. Is the answer at most as long as its buffer? Place: 0.
abbrev pub q27 : Bytes → ℕ → Answer (Unit {0})
q27 bytes room = ask 27 0 (nat_le (length bytes) room)

-- The sheet for a reader group, with the length of its buffer: asks 2 to 19, 25, 26 and 27, and answers the sheet's
-- bytes.
unfoldable pub sheet_call : Bytes → Bytes → Bytes → ℕ → ℕ → Answer Bytes
unfolding script_check is_value sheet term
sheet_call g t s group room = do
  script_check [] g t s
  q25 0 group (rows g)
  q26 (term s)
  q27 (sheet g group (term s)) room
  accepted (sheet g group (term s))

-- what the call reports: the sheet's record count
unfoldable pub sheet_records : Answer Bytes → Answer ℕ
sheet_records (accepted b) = accepted (length b / sheet_width)
sheet_records (refused q p) = refused q p

-- the sheet's buffer: the sheet in front, later bytes kept; kept on a refusal
abbrev pub sheet_after : Answer Bytes → Bytes → Bytes
sheet_after x old = filled_after x old
