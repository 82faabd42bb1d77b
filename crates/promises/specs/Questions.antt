-- A call's questions as a list, and what its answer says of them: the first no gives its number and place.
use Rattle.std.specs.Prelude.{◌≡◌, ◌↔◌, List, [], ◌∷◌, ◌++◌, ℕ}
use Rattle.rules.specs.Answer.{Bytes, Answer, accepted, refused, ◌>>◌}
use Rattle.rules.specs.Groups.{q2, q3, q4, q5, q6, q7}
use Rattle.rules.specs.Limits.{old_type_width, old_script_width}
use Rattle.rules.specs.Types.{q8_of, q8, q9, q10, q36_types, q11, q12}
use Rattle.rules.specs.Script.{q13_of, q13, q14, q15, q36_objects, q16, q17, q18, q19}
use Rattle.rules.specs.Rewriting.{widen_types, widen_script}
use Rattle.rules.specs.Office.{nameless, q28, q29, q30}

-- a question's number and its answer
pub record Question : Type 0 where
  pub number : ℕ
  pub answer : Answer (Unit {0})

-- a question of this number and answer
abbrev pub question : ℕ → Answer (Unit {0}) → Question
question n a = record { number = n; answer = a }

-- Questions 2 to 7.
abbrev pub of_groups : Bytes → List Question
of_groups g = question 2 (q2 g) ∷ question 3 (q3 g) ∷ question 4 (q4 g) ∷ question 5 (q5 g) ∷ question 6 (q6 g) ∷ question 7 (q7 g) ∷ []

-- Questions 9 to 12, with 36 between 10 and 11.
abbrev pub from_9 : Bytes → Bytes → List Question
from_9 g t = question 9 (q9 g t) ∷ question 10 (q10 g t) ∷ question 36 (q36_types g t) ∷ question 11 (q11 t) ∷ question 12 (q12 t) ∷ []

-- Questions 8 to 12.
abbrev pub of_types : Bytes → Bytes → List Question
of_types g t = question 8 (q8 t) ∷ from_9 g t

-- Questions 14 to 18, with 36 between 15 and 16.
abbrev pub of_form : Bytes → Bytes → Bytes → List Question
of_form g t s =
    question 14 (q14 s)
    ∷ question 15 (q15 g s)
    ∷ question 36 (q36_objects g s)
    ∷ question 16 (q16 t s)
    ∷ question 17 (q17 s)
    ∷ question 18 (q18 s)
    ∷ []

-- Questions 14 to 19.
abbrev pub from_14 : Bytes → Bytes → Bytes → List Question
from_14 g t s = of_form g t s ++ (question 19 (q19 s) ∷ [])

-- Questions 13 to 19; `rooms` are the lengths of a run's buffers.
abbrev pub of_script : List ℕ → Bytes → Bytes → Bytes → List Question
of_script rooms g t s = question 13 (q13 rooms s) ∷ from_14 g t s

-- The types' questions of a file of forms 1 and 2: 8 of the old length, the others of the widened records.
abbrev pub of_old_types : Bytes → Bytes → List Question
of_old_types g t = question 8 (q8_of old_type_width t) ∷ from_9 g (widen_types t)

-- The script's questions of such a file: 13 of the old length, the others of the widened records.
abbrev pub of_old_script : Bytes → Bytes → Bytes → List Question
of_old_script g t s = question 13 (q13_of old_script_width [] s) ∷ from_14 g (widen_types t) (widen_script s)

-- Import's questions of the script: 28, then 14 to 18 of the first six bytes of each record, then 29 and 30.
abbrev pub of_office : Bytes → Bytes → Bytes → List Question
of_office g t s = question 28 (q28 s) ∷ [] ++ of_form g t (nameless s) ++ (question 29 (q29 s) ∷ question 30 (q30 s) ∷ [])

-- all are answered yes
pub data AllYes : List Question → Type 0 where
  none_left : AllYes []
  yes : {x : Question} {qs : List Question} → x.answer ≡ accepted tt → AllYes qs → AllYes (x ∷ qs)

-- the first that is answered no has this number, and this is its place
pub data FirstNo : List Question → ℕ → ℕ → Type 0 where
  first_no_here : {x : Question} {qs : List Question} {place : ℕ} → x.answer ≡ refused x.number place → FirstNo (x ∷ qs) x.number place
  first_no_later : {x : Question} {qs : List Question} {q place : ℕ} → x.answer ≡ accepted tt → FirstNo qs q place → FirstNo (x ∷ qs) q place

-- A call that asks these questions and nothing else: it says yes exactly when all are answered yes, and refuses exactly
-- by the first no.
pub record QuestionsDecide {A : Type 0} (qs : List Question) (a : Answer A) : Type 0 where
  pub yes_when : ((x : A) × (a ≡ accepted x)) ↔ AllYes qs
  pub no_when : (q place : ℕ) → (a ≡ refused q place) ↔ FirstNo qs q place

-- Checking asks these questions first, and the first no is its answer; where all are answered yes, its answer is
-- typing's.
pub record Checks {A : Type 0} (qs : List Question) (typed a : Answer A) : Type 0 where
  pub asked : Answer (Unit {0})
  pub decides : QuestionsDecide qs asked
  pub goes_on : a ≡ ◌>>◌ asked typed
