-- A walk over a term in script order that carries a number for each record and stops at the first whose number fails
-- a test.
use Rattle.std.specs.Prelude.{Bool, true, false, List, [], ◌∷◌, ℕ, suc, get_or, nat_eq, nat_le, nat_lt}
use Rattle.calculus.specs.Terms.{Term}
use Rattle.rules.specs.Answer.{Bytes, Answer, accepted, refused, ◌⇒◌, each}
use Rattle.rules.specs.Limits.{depth_limit}
use Rattle.rules.specs.Script.{records, kind, number, term, depths_from, binders_from}
use Rattle.records.specs.Kinds as kinds
use Rattle.records.specs.Binders.{binds}

-- question q of the records from i on, of each of which something is given, such as a number; accepted with the
-- record after the last
unfoldable pub scan_records : {A : Type 0} → ℕ → (ℕ → A → Bool) → ℕ → List A → Answer ℕ
scan_records q ok i [] = accepted i
scan_records q ok i (n ∷ ns) = elim (ok i n) [ true ↦ scan_records q ok (suc i) ns | false ↦ refused q i ]

-- what a walk counts: how deep a record stands, or the binders over it
pub data WalkCount : Type 0 where
  depth_count : WalkCount
  binder_count : WalkCount

-- the question that asks of what a walk counts
abbrev pub question_of_count : WalkCount → ℕ
question_of_count depth_count = 18
question_of_count binder_count = 19

-- the number of a script's first record
abbrev pub root : WalkCount → ℕ
root depth_count = 1
root binder_count = 0

-- question 18 of a record at depth n, and question 19 of record i under n binders
abbrev pub count_within : WalkCount → Bytes → ℕ → ℕ → Bool
count_within depth_count s i n = nat_le n depth_limit
count_within binder_count s i n = nat_eq (kind s i) kinds.variable ⇒ nat_lt (number s i) n

-- the number of each record of a term whose own has number n
abbrev pub numbers_from : WalkCount → ℕ → Term → List ℕ
numbers_from depth_count n e = depths_from n e
numbers_from binder_count n e = binders_from n e

-- by how much the number of operand j, counted from 0, exceeds that of its record, which has this weight and this kind
abbrev pub increment : WalkCount → ℕ → ℕ → ℕ → ℕ
increment depth_count weight kind j = weight
increment binder_count weight kind j = binds kind j

-- the question of each record of the term that a script is
abbrev pub count_question : WalkCount → Bytes → Answer (Unit {0})
count_question q s = each (question_of_count q) (records s) (λ i. count_within q s i (get_or (numbers_from q (root q) (term s)) i 0))
