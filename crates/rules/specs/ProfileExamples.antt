-- Examples of the profile check: where 39 is refused, and its place beside its neighbours.
use Rattle.std.specs.Prelude.{◌≡◌, [], ◌∷◌, ◌++◌}
use Rattle.calculus.specs.Types.{Ty}
use Rattle.rules.specs.Answer.{Bytes, Answer, accepted, refused}
use Rattle.rules.specs.Limits.{work_length, answer_length}
use Rattle.rules.specs.Calls.{type_records, answer_after, work_after}
use Rattle.rules.specs.Profile.{profile_checking}
use Rattle.rules.specs.Cases.{groups, types, case_term}
use Rattle.rules.specs.Examples.{var, unit, pair, app}
use Rattle.rules.specs.CallExamples.{recursion}

-- the profile check with buffers that are long enough
abbrev pub profile_verdict : Bytes → Answer Ty
profile_verdict s = profile_checking work_length answer_length groups types s

-- Each field is one script with its answer, computed.
pub record ProfileExamples : Type 0 where
  pub without : type_records (profile_verdict (case_term 1 1 1)) ≡ accepted 3
  pub alone : type_records (profile_verdict (recursion 0)) ≡ refused 39 0
  -- the first of two, neither of which is the outermost record
  pub first_of_two : type_records (profile_verdict (pair 0 0 ++ recursion 0 ++ recursion 0)) ≡ refused 39 1
  -- after 19, and before typing
  pub unbound_first : type_records (profile_verdict (pair 0 0 ++ recursion 0 ++ var 0)) ≡ refused 19 4
  pub typing_later : type_records (profile_verdict (pair 0 0 ++ app 0 ++ unit 0 0 ++ unit 0 0 ++ recursion 0)) ≡ refused 39 4
  pub buffers_before_39 : type_records (profile_checking 0 0 groups types (recursion 0)) ≡ refused 1 0
  -- nothing is written before typing
  pub work_unchanged : work_after (profile_verdict (recursion 0)) (9 ∷ 9 ∷ []) ≡ 9 ∷ 9 ∷ []
  pub answer_unchanged : answer_after (profile_verdict (recursion 0)) (9 ∷ 9 ∷ []) ≡ 9 ∷ 9 ∷ []
  pub work_cleared_at_21 : work_after (profile_verdict (case_term 1 1 0)) (9 ∷ 9 ∷ []) ≡ 0 ∷ 0 ∷ []
