-- Questions 8 to 12, with 36 after 10, and 25 one after another.
use Rattle.std.proofs.Common.{◌≡◌, refl, ap, sym, ◌∙◌, ltb-true, ℕ, ◌<◌, nat_lt, Bool, true, false, cond, Some, None}
use Rattle.std.proofs.Common.{Result, Err, IsErrAnd}
use Rattle.calculus.specs.Security.{Security}
use Rattle.calculus.specs.Types.{Ty, size_t}
use Rattle.calculus.specs.Subtyping.{subtype}
use Rattle.calculus.specs.Subtyping as directions
use Rattle.rules.specs.Answer.{Bytes, Answer, ask, accepted, ◌>>◌, first_from}
use Rattle.rules.specs.Types.{ok9, ok10, ok36_type, ok11, ok12, q8, q9, q10, q36_types, q11, q12}
use Rattle.rules.specs.Comparison.{equal_types, Comparison, same, strictly_below, neither, comparison}
use Rattle.rules.specs.Calls.{groups_check, types_check}
use Rattle.subtyping.specs.Compared.{relation_of}
use Rattle.answer.specs.declared.Refusal.{Refusal}
use Rattle.answer.specs.Said.{answer_of}
use Rattle.answer.proofs.Passed.{returned, left_by}
use Rattle.types_table.specs.declared.Comparison as declared
use Rattle.types_table.specs.Answered.{said_comparison, comparison_answer, comparison_of}
use Rattle.rules.proofs.Asked.{ask_true, and_then}

-- what is left to ask from a question on
abbrev pub from_11 : Bytes → Answer (Unit {0})
from_11 t = do
  q11 t
  q12 t

abbrev pub from_36 : Bytes → Bytes → Answer (Unit {0})
from_36 g t = do
  q36_types g t
  from_11 t

abbrev pub from_10 : Bytes → Bytes → Answer (Unit {0})
from_10 g t = do
  q10 g t
  from_36 g t

abbrev pub from_9 : Bytes → Bytes → Answer (Unit {0})
from_9 g t = do
  q9 g t
  from_10 g t

abbrev pub from_8 : Bytes → Bytes → Answer (Unit {0})
from_8 g t = do
  q8 t
  from_9 g t

pub types_check_is : (g t : Bytes) → ◌>>◌ (groups_check g) (from_8 g t) ≡ types_check g t
unfolding types_check groups_check first_from ok9 ok10 ok36_type ok11 ok12
types_check_is g t = refl

pub record Yes (g t : Bytes) : Type 0 where
  pub to_7 : groups_check g ≡ accepted tt
  pub to_8 : q8 t ≡ accepted tt
  pub to_9 : q9 g t ≡ accepted tt
  pub to_10 : q10 g t ≡ accepted tt
  pub to_36 : q36_types g t ≡ accepted tt
  pub to_11 : q11 t ≡ accepted tt
  pub to_12 : q12 t ≡ accepted tt

pub all_yes : (g t : Bytes) → types_check g t ≡ accepted tt → Yes g t
all_yes g t e =
    let a = and_then (groups_check g) (from_8 g t) (types_check_is g t ∙ e) in
    let b = and_then (q8 t) (from_9 g t) a.1 in
    let c = and_then (q9 g t) (from_10 g t) b.1 in
    let d = and_then (q10 g t) (from_36 g t) c.1 in
    let f = and_then (q36_types g t) (from_11 t) d.1 in
    let h = and_then (q11 t) (q12 t) f.1 in
    record { to_7 = a.0; to_8 = b.0; to_9 = c.0; to_10 = d.0; to_36 = f.0; to_11 = h.0; to_12 = h.1 }

-- a refusal that `?` returns is the comparison's
pub passed_on : (a : Answer (Unit {0})) (b : Answer Comparison) (r : Result declared.Comparison Refusal) (e : Refusal) → answer_of {A = Unit {0}} (Err e) ≡ a → IsErrAnd r (λ x. x ≡ e)
    → comparison_answer r ≡ ◌>>◌ a b
passed_on a b r e h p = ap comparison_answer (returned r p) ∙ left_by a b (Err e) e h refl

-- question 25 of a count that the code has read
pub counted : {o : Answer (Unit {0})} {n m : ℕ} (place i : ℕ) → n ≡ m → o ≡ ask 25 place (nat_lt i n) → o ≡ ask 25 place (nat_lt i m)
counted place i e h = h ∙ ap (λ n. ask 25 place (nat_lt i n)) e

-- the index of a yes
pub inside : (place i n : ℕ) → accepted tt ≡ ask 25 place (nat_lt i n) → i < n
inside place i n e = ltb-true i n (ask_true 25 place (nat_lt i n) (sym e))

-- what the walk found is the comparison
told_cases : (b c : Bool) (n : ℕ) → said_comparison (comparison_of (cond b (Some (record { same = c; records = n })) None)) ≡ cond b (cond c same strictly_below) neither
told_cases true true n = refl
told_cases true false n = refl
told_cases false c n = refl

pub told_is : (S : Security) (s t : Ty) → said_comparison (comparison_of (relation_of S directions.below s t)) ≡ comparison S s t
told_is S s t = told_cases (subtype S directions.below s t) (equal_types s t) (size_t s)
