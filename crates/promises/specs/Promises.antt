-- The three promises of all calls (manual, 11): every call answers, accepted by the rules and least, and a run of an
-- accepted script.
use Rattle.std.specs.Prelude.{◌≡◌, true, false, ◌↔◌, [], ◌∷◌, ◌++◌, ℕ, suc, ◌-◌, ◌≤◌, ◌<◌, min, length}
use Rattle.calculus.specs.Types.{Ty}
use Rattle.calculus.specs.Subtyping.{Subtype}
use Rattle.calculus.specs.Terms.{Term, is_value}
use Rattle.calculus.specs.Reduction.{Reduces}
use Rattle.calculus.specs.Stuck.{StuckAt, DeniedAt}
use Rattle.calculus.specs.Typing.{HasType}
use Rattle.rules.specs.Answer.{Bytes, Octets, accepted, refused}
use Rattle.rules.specs.Groups.{rows, properties_of}
use Rattle.rules.specs.Types.{type_count, type_at, encode_type}
use Rattle.rules.specs.Script.{records, encode, term, size}
use Rattle.rules.specs.Typing.{of_typing, typing}
use Rattle.rules.specs.Step.{at_value, moves, may_not, wrong_kind, too_big, exceeds, step_in}
use Rattle.rules.specs.Run.{Ran}
use Rattle.rules.specs.Strip.{strip_script, strip_types, one_group}
use Rattle.rules.specs.Sheet.{sheet}
use Rattle.rules.specs.Calls.{zeros, q1, q25, q26, q27, groups_check, types_check, compare_call, script_check}
use Rattle.rules.specs.Calls.{check_call, type_bytes, answer_after, work_after, step_call, written_after, run_call}
use Rattle.rules.specs.Calls.{run_report, first_after, scratch_after, sheet_call, sheet_after}
use Rattle.rules.specs.Rewriting.{widen_types, widen_script, rewriting_types, rewriting_script, rewritten_after}
use Rattle.rules.specs.Reach.{verdict, Accepted}
use Rattle.rules.specs.Profile.{q39, profile_checking}
use Rattle.rules.specs.Preview.{Preview, q35, preview_call, move_call}
use Rattle.promises.specs.Runs.{MovesTo, Repeats, Reaches}
use Rattle.promises.specs.Questions.{question, of_groups, of_types, of_script, of_old_types, of_old_script}
use Rattle.promises.specs.Questions.{QuestionsDecide, Checks}

-- Every call answers: any bytes of any length get the call's yes, or the first no among its questions in their order,
-- with its place. A refusal changes no lent byte, but that a work buffer in use ends as zeros. Look-up and strip ask
-- nothing that they could refuse.
pub record EveryCallAnswers (g t s : Bytes) : Type 0 where
  -- the groups check asks 2 to 7
  pub groups : QuestionsDecide (of_groups g) (groups_check g)
  -- the types check asks 2 to 12
  pub types : QuestionsDecide (of_groups g ++ of_types g t) (types_check g t)
  -- the comparison asks 2 to 12, then 25 of either index
  pub comparison : (i j : ℕ)
      → QuestionsDecide (of_groups g ++ of_types g t ++ (question 25 (q25 0 i (type_count t)) ∷ question 25 (q25 1 j (type_count t)) ∷ [])) (compare_call g t i j)
  -- checking asks 1 to 19, then those of typing
  pub check : (work answer : ℕ)
      → Checks (question 1 (q1 work answer) ∷ [] ++ of_groups g ++ of_types g t ++ of_script [] g t s) (typing (properties_of g) (type_at t) [] 0 (term s))
      (check_call work answer g t s)
  -- the profile check asks 39 after 19
  pub profile : (work answer : ℕ)
      → Checks (question 1 (q1 work answer) ∷ [] ++ of_groups g ++ of_types g t ++ of_script [] g t s ++ (question 39 (q39 s) ∷ []))
      (typing (properties_of g) (type_at t) [] 0 (term s))
      (profile_checking work answer g t s)
  -- typing asks its questions in the order of its definition, and each of a record of the script
  pub typing_asks : (q place : ℕ) → typing (properties_of g) (type_at t) [] 0 (term s) ≡ refused q place → (of_typing q ≡ true) × (place < size (term s))
  -- a step asks 2 to 19
  pub step : (room : ℕ) → QuestionsDecide (of_groups g ++ of_types g t ++ of_script [] g t s) (step_call g t s room)
  -- a preview asks 2 to 19
  pub preview : (room steps : ℕ) → QuestionsDecide (of_groups g ++ of_types g t ++ of_script [] g t s) (preview_call g t s room steps)
  -- a move asks 35 after them
  pub move : (room : ℕ) (v : Preview)
      → QuestionsDecide
      (of_groups g
      ++ of_types g t
      ++ of_script [] g t s
      ++ (question 35 (q35 v (records s) (step_in (properties_of g) (type_at t) room (term s))) ∷ []))
      (move_call g t s room v)
  -- a run asks 2 to 19, 13 with both buffers
  pub run : (budget first scratch : ℕ)
      → QuestionsDecide (of_groups g ++ of_types g t ++ of_script (first ∷ scratch ∷ []) g t s) (run_call g t s budget first scratch)
  -- the sheet asks 2 to 19, 25, 26 and 27
  pub page : (group room : ℕ)
      → QuestionsDecide
      (of_groups g
      ++ of_types g t
      ++ of_script [] g t s
      ++ (question 25 (q25 0 group (rows g)) ∷ question 26 (q26 (term s)) ∷ question 27 (q27 (sheet g group (term s)) room) ∷ []))
      (sheet_call g t s group room)
  -- the rewriting of types and of a script of an earlier form
  pub types_rewriting : (room : ℕ)
      → QuestionsDecide (of_groups g ++ of_old_types g t ++ (question 27 (q27 (widen_types t) room) ∷ [])) (rewriting_types g t room)
  pub script_rewriting : (room : ℕ)
      → QuestionsDecide (of_groups g ++ of_old_types g t ++ of_old_script g t s ++ (question 27 (q27 (widen_script s) room) ∷ [])) (rewriting_script g t s room)
  -- A refused check keeps the answer buffer; the work buffer is zeros where typing refuses, and else kept.
  pub check_keeps : (work answer q place : ℕ) → check_call work answer g t s ≡ refused q place → (old : Bytes)
      → (answer_after (check_call work answer g t s) old ≡ old)
      × (of_typing q ≡ false → work_after (check_call work answer g t s) old ≡ old)
      × (of_typing q ≡ true → work_after (check_call work answer g t s) old ≡ zeros (length old))
  pub profile_keeps : (work answer q place : ℕ) → profile_checking work answer g t s ≡ refused q place → (old : Bytes)
      → (answer_after (profile_checking work answer g t s) old ≡ old)
      × (of_typing q ≡ false → work_after (profile_checking work answer g t s) old ≡ old)
      × (of_typing q ≡ true → work_after (profile_checking work answer g t s) old ≡ zeros (length old))
  -- every other refused call keeps its buffers
  pub step_keeps : (room q place : ℕ) → step_call g t s room ≡ refused q place → (old : Bytes) → written_after (step_call g t s room) old ≡ old
  pub move_keeps : (room q place : ℕ) (v : Preview) → move_call g t s room v ≡ refused q place → (old : Bytes) → written_after (move_call g t s room v) old ≡ old
  pub run_keeps : (budget first scratch q place : ℕ) → run_call g t s budget first scratch ≡ refused q place → (old : Bytes)
      → (first_after (run_call g t s budget first scratch) old ≡ old) × (scratch_after (run_call g t s budget first scratch) old ≡ old)
  pub page_keeps : (group room q place : ℕ) → sheet_call g t s group room ≡ refused q place → (old : Bytes) → sheet_after (sheet_call g t s group room) old ≡ old
  pub types_rewriting_keeps : (room q place : ℕ) → rewriting_types g t room ≡ refused q place → (old : Bytes)
      → rewritten_after (rewriting_types g t room) old ≡ old
  pub script_rewriting_keeps : (room q place : ℕ) → rewriting_script g t s room ≡ refused q place → (old : Bytes)
      → rewritten_after (rewriting_script g t s room) old ≡ old

-- what the rules give the script's term
abbrev pub Typed : Bytes → Bytes → Bytes → Ty → Type 0
Typed g t s type = HasType (properties_of g) (type_at t) [] (term s) type

-- the term of one step's new bytes
abbrev pub StepsTo : Bytes → Bytes → Bytes → Term → Type 0
StepsTo g t s e = Reduces (properties_of g) (type_at t) (term s) e

-- Accepted by the rules, and least: a script is accepted exactly where the typing rules, within the limits, give it a
-- type. The reported type is one that they give, at or below every other. Each step, and so each run, goes to the term
-- that the reduction rules name.
pub record AcceptedByTheRules (g t s : Bytes) : Type 0 where
  -- A script that passes and that the rules give a type is accepted with one that is at or below it,
  pub accepts : script_check [] g t s ≡ accepted tt → (type : Ty) → Typed g t s type → (least : Ty) × Accepted g t s least × Subtype (properties_of g) least type
  -- and only such scripts are.
  pub only : (type : Ty) → Accepted g t s type → (script_check [] g t s ≡ accepted tt) × Typed g t s type
  -- the reported bytes are the type's
  pub reports : (type : Ty) → Accepted g t s type → type_bytes (verdict g t s) ≡ accepted (encode_type type)
  -- a script that passes is its term, as bytes
  pub encoded : script_check [] g t s ≡ accepted tt → encode (term s) ≡ s
  -- A step moves to what the reduction rules name, where that isn't too big,
  pub moves_when : (room : ℕ) (e : Term) → script_check [] g t s ≡ accepted tt
      → (step_call g t s room ≡ accepted (moves e)) ↔ (StepsTo g t s e × (exceeds room e ≡ false))
  -- it is too big where that is,
  pub too_big_when : (room : ℕ) → script_check [] g t s ≡ accepted tt
      → (step_call g t s room ≡ accepted too_big) ↔ ((e : Term) × StepsTo g t s e × (exceeds room e ≡ true))
  -- and the other ends are told exactly where they are so.
  pub value_when : (room : ℕ) → script_check [] g t s ≡ accepted tt → (step_call g t s room ≡ accepted at_value) ↔ (is_value (term s) ≡ true)
  pub wrong_when : (room : ℕ) → script_check [] g t s ≡ accepted tt → (step_call g t s room ≡ accepted wrong_kind) ↔ StuckAt (type_at t) (term s)
  pub denied_when : (room : ℕ) → script_check [] g t s ≡ accepted tt → (step_call g t s room ≡ accepted may_not) ↔ DeniedAt (properties_of g) (term s)
  -- a run is answered with the end, the steps and the last term of repeating the step, and these are the only ones
  pub repeats : (budget first scratch : ℕ) (ran : Ran) → run_call g t s budget first scratch ≡ accepted ran → (end steps : ℕ) (last : Bytes)
      → Repeats g t (min first scratch) budget s end steps last ↔ ((end ≡ ran.end) × (steps ≡ ran.steps) × (last ≡ encode ran.last))

-- A run of an accepted script, whatever the budget and the two buffers, each with room for the script: it isn't refused
-- and never ends 2 or 3, and every term that it reaches has a type at or below the reported one. Stripped of groups
-- over the one-group table, with the same budget and lengths, it has the same end, steps and record count, and its last
-- term is the first run's, stripped.
pub record AcceptedRun (g t s : Bytes) (type : Ty) (budget : ℕ) (first scratch : Bytes) : Type 0 where
  -- the run's answer
  pub ran : Ran
  pub runs : run_call g t s budget (length first) (length scratch) ≡ accepted ran
  -- it never ends 2 or 3
  pub not_2 : ran.end ≡ 2 → ⊥
  pub not_3 : ran.end ≡ 3 → ⊥
  -- the terms after 0, 1, 2, .. steps of this run, from the script to its last term: it reaches these and no other
  pub after : ℕ → Bytes
  pub from_script : after 0 ≡ s
  pub each_moves : (i : ℕ) → i < ran.steps → MovesTo g t (min (length first) (length scratch)) (after i) (after (suc i))
  pub to_last : after ran.steps ≡ encode ran.last
  pub reaches : (u : Bytes) → Reaches g t (min (length first) (length scratch)) budget s u ↔ ((i : ℕ) × (i ≤ ran.steps) × (u ≡ after i))
  pub reached : (u : Bytes) → Reaches g t (min (length first) (length scratch)) budget s u
      → (lower : Ty) × Accepted g t u lower × Typed g t u lower × Subtype (properties_of g) lower type
  -- the stripped run
  pub bare : Ran
  pub bare_runs : run_call one_group (strip_types t) (strip_script s) budget (length first) (length scratch) ≡ accepted bare
  pub same_report : run_report (accepted bare) ≡ run_report (accepted ran)
  pub last_stripped : first_after (accepted bare) first
      ≡ strip_script (encode ran.last) ++ zeros (length first - length (encode ran.last))
  pub scratches : (scratch_after (accepted ran) scratch ≡ zeros (length scratch)) × (scratch_after (accepted bare) scratch ≡ zeros (length scratch))

-- Of all bytes.
unfoldable pub CallsAnswer : Type 0
CallsAnswer = (g t s : Bytes) → EveryCallAnswers g t s

unfoldable pub Acceptance : Type 0
Acceptance = (g t s : Bytes) → Octets g → Octets s → AcceptedByTheRules g t s

unfoldable pub AcceptedRuns : Type 0
AcceptedRuns =
    (g t s : Bytes) (type : Ty) (budget : ℕ) (first scratch : Bytes) → Octets g → Octets s → Accepted g t s type → length s ≤ length first
    → length s ≤ length scratch → AcceptedRun g t s type budget first scratch
