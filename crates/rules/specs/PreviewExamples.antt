-- Examples of what a preview gives, what a move takes, and the number of steps.
use Rattle.std.specs.Prelude.{◌≡◌, [], ◌∷◌, ◌++◌, ℕ}
use Rattle.rules.specs.Answer.{Bytes, Answer, accepted, refused}
use Rattle.rules.specs.Calls.{StepReport, step_report, written_after}
use Rattle.rules.specs.Preview.{Preview, preview_call, move_call, moved_steps}
use Rattle.rules.specs.Cases.{groups, types, case_term, loop}
use Rattle.rules.specs.Examples.{var, unit, pair, proj, protect}
use Rattle.rules.specs.CreatorExamples.{unit_by}

-- a preview with this end, count and number of steps
abbrev pub preview : ℕ → ℕ → ℕ → Preview
preview end count steps = record { end = end; count = count; steps = steps }

-- the preview of a step in a buffer of so many bytes
abbrev pub previewed : ℕ → Bytes → ℕ → Answer Preview
previewed room s steps = preview_call groups types s room steps

-- what a move reports
abbrev pub reported : ℕ → Bytes → Preview → Answer StepReport
reported room s v = step_report s (move_call groups types s room v)

-- the number of steps after it
abbrev pub counted : ℕ → Bytes → Preview → Answer ℕ
counted room s v = moved_steps v (move_call groups types s room v)

-- a step's end and record count
abbrev pub ended : ℕ → ℕ → Answer StepReport
ended end count = accepted (record { end = end; count = count })

-- a protect of two records, whose step leaves one
abbrev pub small : Bytes
small = protect 0 ++ unit 0 0

-- Each field is one call with its answer, computed.
pub record PreviewExamples : Type 0 where
  -- a preview: the end, the count after the step or the script's own, and the caller's number
  pub value_shown : previewed 24 (pair 0 0 ++ unit 0 0 ++ unit 0 0) 7 ≡ accepted (preview 0 3 7)
  pub moved_shown : previewed 104 (loop 0 0) 7 ≡ accepted (preview 1 13 7)
  pub may_not_shown : previewed 56 (case_term 1 1 0) 7 ≡ accepted (preview 2 7 7)
  pub wrong_kind_shown : previewed 16 (proj 0 ++ unit 0 0) 7 ≡ accepted (preview 3 2 7)
  pub too_big_shown : previewed 96 (loop 0 0) 7 ≡ accepted (preview 4 7 7)
  pub largest_shown : previewed 8 small 18446744073709551615 ≡ accepted (preview 1 1 18446744073709551615)
  pub refused_shown : previewed 8 (var 0) 7 ≡ refused 19 0
  -- a move with its own preview
  pub made : reported 8 small (preview 1 1 7) ≡ ended 1 1
  pub written : written_after (move_call groups types small 9 (preview 1 1 7)) (9 ∷ 9 ∷ 9 ∷ 9 ∷ 9 ∷ 9 ∷ 9 ∷ 9 ∷ 9 ∷ []) ≡ unit 0 0 ++ (9 ∷ [])
  pub answered_value : reported 8 (unit 0 0) (preview 0 1 7) ≡ ended 0 1
  pub answered_too_big : reported 7 small (preview 4 2 7) ≡ ended 4 2
  pub unwritten : written_after (move_call groups types small 7 (preview 4 2 7)) (9 ∷ 9 ∷ []) ≡ 9 ∷ 9 ∷ []
  -- 35 of another end or another count, both as wide as they come
  pub other_end : reported 8 small (preview 4 1 7) ≡ refused 35 0
  pub other_count : reported 8 small (preview 1 2 7) ≡ refused 35 0
  pub wide_end : reported 8 small (preview 257 1 7) ≡ refused 35 0
  pub wide_count : reported 8 small (preview 1 4294967297 7) ≡ refused 35 0
  pub refused_unwritten : written_after (move_call groups types small 8 (preview 1 2 7)) (9 ∷ 9 ∷ []) ≡ 9 ∷ 9 ∷ []
  -- it comes after 19, and after 36
  pub after_19 : reported 8 (var 0) (preview 5 9 7) ≡ refused 19 0
  pub after_36 : reported 8 (unit_by 0 1) (preview 5 9 7) ≡ refused 36 0
  -- a preview of another buffer or of another script is taken where it shows the same
  pub other_room : reported 8 small (preview 1 1 7) ≡ reported 900 small (preview 1 1 7)
  pub shorter_room : reported 7 small (preview 1 1 7) ≡ refused 35 0
  pub stale_taken : reported 8 (protect 1 ++ unit 1 0) (preview 1 1 7) ≡ ended 1 1
  pub stale_refused : reported 8 (unit 0 0) (preview 1 1 7) ≡ refused 35 0
  -- the number of steps goes up with end 1 and no other, the largest stays, and no number is refused
  pub raised_once : counted 8 small (preview 1 1 7) ≡ accepted 8
  pub next_to_largest : counted 8 small (preview 1 1 18446744073709551614) ≡ accepted 18446744073709551615
  pub largest_stays : counted 8 small (preview 1 1 18446744073709551615) ≡ accepted 18446744073709551615
  pub value_keeps : counted 8 (unit 0 0) (preview 0 1 7) ≡ accepted 7
  pub may_not_keeps : counted 56 (case_term 1 1 0) (preview 2 7 7) ≡ accepted 7
  pub wrong_kind_keeps : counted 16 (proj 0 ++ unit 0 0) (preview 3 2 7) ≡ accepted 7
  pub too_big_keeps : counted 7 small (preview 4 2 7) ≡ accepted 7
  pub refusal_counts_nothing : counted 8 small (preview 0 1 7) ≡ refused 35 0
