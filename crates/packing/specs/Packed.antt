-- An exported answer: one number of 64 bits, and a run's steps as bytes.
use Rattle.std.specs.Prelude.{if◌then◌else◌, [], ◌∷◌, ℕ, zero, suc, ◌+◌, ◌*◌, ◌/◌, ◌%◌, ◌≤◌, ◌<◌, nat_eq, length, take}
use Rattle.rules.specs.Answer.{Bytes, Answer, accepted, refused}
use Rattle.rules.specs.Limits.{script_limit, listed_limit, last_question}
use Rattle.rules.specs.Run.{Ran}
use Rattle.rules.specs.Comparison.{Comparison, comparison_number}
use Rattle.rules.specs.Calls.{StepReport, Report, fill_front}
use Rattle.rules.specs.Preview.{Preview}

-- 2^32
abbrev pub half : ℕ
half = 4294967296

-- Refused is question * 2^32 + place; otherwise the upper half is 0 and the lower half is the call's number.
abbrev pub packed_number : Answer ℕ → ℕ
packed_number (accepted n) = n
packed_number (refused q p) = q * half + p

-- the answer that a caller reads off a packed number
abbrev pub unpacked_answer : ℕ → Answer ℕ
unpacked_answer n = if nat_eq (n / half) 0 then accepted (n % half) else refused (n / half) (n % half)

-- an answer that one number holds
pub data Holds : Answer ℕ → Type 0 where
  holds_yes : {n : ℕ} → n < half → Holds (accepted n)
  holds_no : {q p : ℕ} → 1 ≤ q → q ≤ last_question → p < half → Holds (refused q p)

-- an answer whose refusal, if it is one, has a question's number, and a place that isn't past 8,192
pub data Bounded {A : Type 0} : Answer A → Type 0 where
  bounded_yes : {a : A} → Bounded (accepted a)
  bounded_no : {q p : ℕ} → 1 ≤ q → q ≤ last_question → p ≤ script_limit → Bounded (refused q p)

-- The same of the lists of scripts and of amendments, whose places go up to 65,535.
pub data BoundedByLists {A : Type 0} : Answer A → Type 0 where
  lists_yes : {a : A} → BoundedByLists (accepted a)
  lists_no : {q p : ℕ} → 1 ≤ q → q ≤ last_question → p ≤ listed_limit → BoundedByLists (refused q p)

-- a report whose record count, or a refusal whose place, is at most a script's: one number holds either
pub data Counted {A : Type 0} (count : A → ℕ) : Answer A → Type 0 where
  counted_yes : {x : A} → count x ≤ script_limit → Counted count (accepted x)
  counted_no : {q p : ℕ} → p ≤ script_limit → Counted count (refused q p)

-- a step's report whose count, or a refusal whose place, is at most a script's
abbrev pub StepCounted : Answer StepReport → Type 0
StepCounted = Counted (λ x. x.count)

-- a run's report whose count, or a refusal whose place, is at most a script's
abbrev pub RunCounted : Answer Report → Type 0
RunCounted = Counted (λ x. x.count)

-- a preview whose end is one of a step's and whose count is at most a script's, or such a refusal
pub data PreviewCounted : Answer Preview → Type 0 where
  preview_yes : {x : Preview} → x.end ≤ 4 → x.count ≤ script_limit → PreviewCounted (accepted x)
  preview_no : {q p : ℕ} → p ≤ script_limit → PreviewCounted (refused q p)

-- an answer as a number, by what is counted of what was found
abbrev pub lower_half : {A : Type 0} → (A → ℕ) → Answer A → Answer ℕ
lower_half count (accepted x) = accepted (count x)
lower_half count (refused q p) = refused q p

-- the lower half of a check that finds nothing: 0
abbrev pub check_lower : Answer (Unit {0}) → Answer ℕ
check_lower = lower_half (λ x. 0)

-- the lower half of a comparison: its number
abbrev pub comparison_lower : Answer Comparison → Answer ℕ
comparison_lower = lower_half comparison_number

-- 2^16
abbrev pub quarter : ℕ
quarter = 65536

-- the lower half of a step, a run or a preview: end * 2^16 + records
abbrev pub end_and_count : ℕ → ℕ → ℕ
end_and_count end count = end * quarter + count

-- the end that a caller reads off that
abbrev pub end_of : ℕ → ℕ
end_of n = n / quarter

-- the count that a caller reads off that
abbrev pub count_of : ℕ → ℕ
count_of n = n % quarter

-- the lower half of a step's answer
abbrev pub step_lower : Answer StepReport → Answer ℕ
step_lower = lower_half (λ x. end_and_count x.end x.count)

-- the lower half of a run's answer
abbrev pub run_lower : Answer Report → Answer ℕ
run_lower = lower_half (λ x. end_and_count x.end x.count)

-- the lower half of a preview's answer
abbrev pub preview_lower : Answer Preview → Answer ℕ
preview_lower = lower_half (λ x. end_and_count x.end x.count)

-- the lowest bytes of a number, the lowest first
unfoldable pub low_bytes : ℕ → ℕ → Bytes
low_bytes zero n = []
low_bytes (suc k) n = n % 256 ∷ low_bytes k (n / 256)

-- a number of steps has 64 bits: 8 bytes
abbrev pub steps_width : ℕ
steps_width = 8

-- a slice with a number of steps written: as many of its bytes as there is room for, later bytes kept
abbrev pub steps_in : ℕ → Bytes → Bytes
steps_in n old = fill_front (take (length old) (low_bytes steps_width n)) old

-- the number that these lowest bytes of a slice hold; bytes that it hasn't are 0
unfoldable pub low_number : ℕ → Bytes → ℕ
low_number zero s = 0
low_number (suc k) [] = 0
low_number (suc k) (b ∷ s) = b + 256 * low_number k s

-- the number of steps that a slice holds, in 8 bytes or fewer
abbrev pub steps_of : Bytes → ℕ
steps_of s = low_number steps_width s

-- a number of steps that a call answers, in a lent slice
abbrev pub steps_left : Answer ℕ → Bytes → Bytes
steps_left (accepted n) old = steps_in n old
steps_left (refused q p) old = old

-- the slice of steps after a run: the steps made, or kept on a refusal
abbrev pub steps_after : Answer Ran → Bytes → Bytes
steps_after (accepted x) old = steps_in x.steps old
steps_after (refused q p) old = old
