-- Every call's refusal has one of the 42 questions and a place of at most 8,192, and what it gives has its bound too:
-- all of it fits the exported number. Assumes nothing.
use Rattle.std.proofs.Common.{Result, Ok, Err, IfErr, ◌<◌, sym, subst, ◌≡◌, refl, Bool, true, false, not, ◌&&◌, ◌||◌}
use Rattle.std.proofs.Common.{List, [], ◌∷◌, ℕ, zero, suc, ◌+◌, ◌-◌, ◌/◌, ◌%◌, ◌≤◌, arith, eqb-true, leb-true, nat_eq}
use Rattle.std.proofs.Common.{nat_le, nat_lt, length, get_or}
use Rattle.std.proofs.Math.Option.{Option, none, some}
use Rattle.calculus.specs.Terms.{is_value}
use Rattle.rules.specs.Answer.{Bytes, Octets, Answer, accepted, refused, ◌>>=◌, ◌>>◌, ask, first_from, refused_at, each}
use Rattle.rules.specs.Answer.{all_below}
use Rattle.rules.specs.Limits.{row_width, type_width, script_width, old_type_width, old_script_width, group_limit}
use Rattle.rules.specs.Limits.{table_limit, script_limit, word_limit, words_length, last_question, work_length}
use Rattle.rules.specs.Limits.{answer_length, office_width, office_limit}
use Rattle.rules.specs.Groups.{rows, properties_of, ok3, ok4, ok5, ok6, ok7, q2, q3, q4, q5, q6}
use Rattle.rules.specs.Types.{type_count, type_at, ok9, ok10, ok36_type, ok11, ok12, q8_of, q8, q9, q10, q36_types, q11}
use Rattle.rules.specs.Script.{records, arity, kind, term, size, depths, binders, term_end, exactly, ok14, ok15}
use Rattle.rules.specs.Script.{ok36_object, ok16, ok18, ok19, q13_of, q13, q14, q15, q36_objects, q16, q17, q19}
use Rattle.rules.specs.Typing.{of_typing, typing}
use Rattle.rules.specs.Sheet.{sheet}
use Rattle.rules.specs.Step.{End, end_number, end_count}
use Rattle.rules.specs.Preview.{Preview, q35, preview_call, move_call}
use Rattle.rules.specs.Words.{q32, q33, ok33, ok34, words_check}
use Rattle.rules.specs.Calls.{q1, q25, q26, q27, groups_check, types_check, compare_call, form_check, own_check}
use Rattle.rules.specs.Calls.{script_check, check_call, step_call, run_call, sheet_call}
use Rattle.rules.specs.Profile.{ok39, q39, profile_checking}
use Rattle.rules.specs.Rewriting.{widen_types, widen_script, old_types_check, old_script_check, rewriting_types}
use Rattle.rules.specs.Rewriting.{rewriting_script}
use Rattle.rules.specs.Names.{scopes}
use Rattle.rules.specs.Office.{office_records, nameless, named_term, ok29, ok30, q28, q29, q30, import_of, import_call}
use Rattle.rules.specs.Office.{export_of, q28_of_export, export_call}
use Rattle.rules.proofs.Form.{form_yes}
use Rattle.rules.proofs.Office.{q28_measured, nameless_records}
use Rattle.rules.proofs.ScriptLength.{q13_fitting}
use Rattle.rules.proofs.Scripts.{whole}
use Rattle.rules.proofs.WayBack.{end_bound}
use Rattle.packing.specs.Packed.{half, Bounded, bounded_yes, bounded_no}
use Rattle.answer.specs.declared.Refusal.{Refusal}
use Rattle.answer.specs.Numbers.{question_number}
use Rattle.answer.specs.Said.{answer_of}
use Rattle.promises.proofs.Places.{Placed, placed_yes, placed_no, typing_placed}
use Rattle.rules.proofs.Asked.{and_then, few_rows, few_types}

-- no place is too large to be packed
pub place_small : {A : Type 0} (r : Result A Refusal) {a : Answer A} → answer_of r ≡ a → Bounded a → IfErr r (λ e. e.place < half)
place_small {A = A} (Ok x) e b = tt
place_small {A = A} (Err y) e b = go (subst Bounded (sym e) b)
  where
    go : Bounded {A = A} (refused (question_number y.question) y.place) → y.place < half
    go (bounded_no l m n) = omega arith

pub then : {B : Type 0} (a : Answer (Unit {0})) (b : Answer B) → Bounded a → (a ≡ accepted tt → Bounded b) → Bounded (◌>>◌ a b)
then (accepted tt) b x f = f refl
then (refused q p) b (bounded_no l m n) f = bounded_no l m n

ask_bounded : (q p : ℕ) (b : Bool) → 1 ≤ q → q ≤ last_question → p ≤ script_limit → Bounded (ask q p b)
ask_bounded q p true l m n = bounded_yes
ask_bounded q p false l m n = bounded_no l m n

from_bounded : (q : ℕ) (test : ℕ → Bool) (n i : ℕ) → 1 ≤ q → q ≤ last_question → i + n ≤ script_limit → Bounded (refused_at q (first_from test n i))
unfolding first_from
from_bounded q test zero i l m b = bounded_yes
from_bounded q test (suc n) i l m b = go (test i) refl (from_bounded q test n (suc i) l m (omega arith))
  where
    go : (x : Bool) → test i ≡ x → Bounded (refused_at q (first_from test n (suc i))) → Bounded (refused_at q (first_from test (suc n) i))
    go true e ih = rw (e, first_from) (bounded_no {p = i} l m (omega arith))
    go false e ih = rw (e, first_from) ih

pub each_bounded : (q n : ℕ) (ok : ℕ → Bool) → 1 ≤ q → q ≤ last_question → n ≤ script_limit → Bounded (each q n ok)
each_bounded q n ok l m b = from_bounded q (λ i. not (ok i)) n 0 l m (omega arith)

exactly_bounded : (n : ℕ) (o : Option ℕ) → n ≤ script_limit → ((e : ℕ) → o ≡ some e → e ≤ n) → Bounded (exactly n o)
exactly_bounded n none b f = bounded_no {q = 17} (omega arith) (omega arith) b
exactly_bounded n (some e) b f = ask_bounded 17 e (nat_eq e n) (omega arith) (omega arith) (omega (arith, f e refl))

-- a question whose place is 0
pub front : (q : ℕ) (b : Bool) → 1 ≤ q → q ≤ last_question → Bounded (ask q 0 b)
front q b l m = ask_bounded q 0 b l m (omega arith)

at_8 : (width : ℕ) (t : Bytes) → Bounded (q8_of width t)
at_8 width t =
    front 8 (nat_eq (length t % width) 0 && (nat_le 1 (length t / width) && nat_le (length t / width) table_limit)) (omega arith) (omega arith)

pub at_13 : (width : ℕ) (rooms : List ℕ) (s : Bytes) → Bounded (q13_of width rooms s)
at_13 width rooms s =
    front 13
    (nat_eq (length s % width) 0
    && (nat_le 1 (length s / width) && (nat_le (length s / width) script_limit && all_below (λ i. nat_le (length s) (get_or rooms i 0)) (length rooms))))
    (omega arith) (omega arith)

pub at_27 : (bytes : Bytes) (room : ℕ) → Bounded (q27 bytes room)
at_27 bytes room = front 27 (nat_le (length bytes) room) (omega arith) (omega arith)

pub groups_bounded : (g : Bytes) → Bounded (groups_check g)
unfolding groups_check
groups_bounded g =
    then (q2 g) _ (front 2 (nat_eq (length g % row_width) 0 && (nat_le 1 (rows g) && nat_le (rows g) group_limit)) (omega arith) (omega arith)) λ e2.
    let n : rows g ≤ script_limit = omega (arith, few_rows g e2) in
    then (q3 g) _ (each_bounded 3 (rows g) (ok3 g) (omega arith) (omega arith) n) λ e3.
    then (q4 g) _ (each_bounded 4 (rows g) (ok4 g) (omega arith) (omega arith) n) λ e4.
    then (q5 g) _ (each_bounded 5 (rows g) (ok5 g) (omega arith) (omega arith) n) λ e5.
    then (q6 g) _ (each_bounded 6 (rows g) (ok6 g) (omega arith) (omega arith) n) λ e6.
    front 7 (ok7 g) (omega arith) (omega arith)

pub words_bounded : (w : Bytes) → Bounded (words_check w)
unfolding words_check
words_bounded w =
    then (q32 w) _ (front 32 (nat_eq (length w) words_length) (omega arith) (omega arith)) λ e32.
    then (q33 w) _ (each_bounded 33 word_limit (ok33 w) (omega arith) (omega arith) (omega arith)) λ e33.
    each_bounded 34 word_limit (ok34 w) (omega arith) (omega arith) (omega arith)

pub types_bounded : (g t : Bytes) → Bounded (types_check g t)
unfolding types_check
types_bounded g t =
    then (groups_check g) _ (groups_bounded g) λ e7.
    then (q8 t) _ (at_8 type_width t) λ e8.
    let n : type_count t ≤ script_limit = omega (arith, few_types t e8) in
    then (q9 g t) _ (each_bounded 9 (type_count t) (ok9 (rows g) t) (omega arith) (omega arith) n) λ e9.
    then (q10 g t) _ (each_bounded 10 (type_count t) (ok10 g t) (omega arith) (omega arith) n) λ e10.
    then (q36_types g t) _ (each_bounded 36 (type_count t) (ok36_type g t) (omega arith) (omega arith) n) λ e36.
    then (q11 t) _ (each_bounded 11 (type_count t) (ok11 t) (omega arith) (omega arith) n) λ e11.
    each_bounded 12 (type_count t) (ok12 t) (omega arith) (omega arith) n

pub compare_bounded : (g t : Bytes) (i j : ℕ) → Bounded (compare_call g t i j)
unfolding compare_call
compare_bounded g t i j =
    then (types_check g t) _ (types_bounded g t) λ e12.
    then (q25 0 i (type_count t)) _ (front 25 (nat_lt i (type_count t)) (omega arith) (omega arith)) λ e25.
    then (q25 1 j (type_count t)) _ (ask_bounded 25 1 (nat_lt j (type_count t)) (omega arith) (omega arith) (omega arith)) λ f25. bounded_yes

-- 14 to 18 of so many records
form_bounded : (g t s : Bytes) → records s ≤ script_limit → Bounded (form_check g t s)
unfolding form_check term_end
form_bounded g t s n =
    then (q14 s) _ (each_bounded 14 (records s) (ok14 s) (omega arith) (omega arith) n) λ e14.
    then (q15 g s) _ (each_bounded 15 (records s) (ok15 g s) (omega arith) (omega arith) n) λ e15.
    then (q36_objects g s) _ (each_bounded 36 (records s) (ok36_object g s) (omega arith) (omega arith) n) λ e36.
    then (q16 t s) _ (each_bounded 16 (records s) (ok16 t s) (omega arith) (omega arith) n) λ e16.
    then (q17 s) _ (exactly_bounded (records s) (term_end s 0) n (λ e h. omega (arith, end_bound (λ j. arity (kind s j)) (records s - 0) 1 0 e h))) λ e17.
    each_bounded 18 (records s) (ok18 (depths (term s))) (omega arith) (omega arith) n

pub own_bounded : (rooms : List ℕ) (g t s : Bytes) → Bounded (own_check rooms g t s)
unfolding own_check
own_bounded rooms g t s =
    then (q13 rooms s) _ (at_13 script_width rooms s) λ e13.
    let n : records s ≤ script_limit = (q13_fitting rooms s e13).limited in
    then (form_check g t s) _ (form_bounded g t s n) λ e18. each_bounded 19 (records s) (ok19 (binders (term s)) s) (omega arith) (omega arith) n

pub script_bounded : (rooms : List ℕ) (g t s : Bytes) → Bounded (script_check rooms g t s)
unfolding script_check
script_bounded rooms g t s = then (types_check g t) _ (types_bounded g t) λ e12. own_bounded rooms g t s

-- how many records a script has that passes
pub own_records : (rooms : List ℕ) (g t s : Bytes) → own_check rooms g t s ≡ accepted tt → records s ≤ script_limit
unfolding own_check
own_records rooms g t s e = (q13_fitting rooms s (and_then (q13 rooms s) _ e).0).limited

pub script_records : (rooms : List ℕ) (g t s : Bytes) → script_check rooms g t s ≡ accepted tt → records s ≤ script_limit
unfolding script_check
script_records rooms g t s e = own_records rooms g t s (and_then (types_check g t) (own_check rooms g t s) e).1

pub step_bounded : (g t s : Bytes) (room : ℕ) → Bounded (step_call g t s room)
unfolding step_call
step_bounded g t s room = then (script_check [] g t s) _ (script_bounded [] g t s) λ e. bounded_yes

-- what follows a step that isn't refused
after_step : {B : Type 0} (a : Answer End) (f : End → Answer B) → Bounded a → ((x : End) → Bounded (f x)) → Bounded (◌>>=◌ a f)
after_step (accepted x) f b h = h x
after_step (refused q p) f (bounded_no l m n) h = bounded_no l m n

pub preview_bounded : (g t s : Bytes) (room steps : ℕ) → Bounded (preview_call g t s room steps)
unfolding preview_call
preview_bounded g t s room steps = after_step (step_call g t s room) _ (step_bounded g t s room) λ x. bounded_yes

pub move_bounded : (g t s : Bytes) (room : ℕ) (v : Preview) → Bounded (move_call g t s room v)
unfolding move_call
move_bounded g t s room v = after_step (step_call g t s room) _ (step_bounded g t s room) λ x.
    then (q35 v (records s) x) _ (front 35 (nat_eq v.end (end_number x) && nat_eq v.count (end_count (records s) x)) (omega arith) (omega arith)) λ e. bounded_yes

pub run_bounded : (g t s : Bytes) (budget first scratch : ℕ) → Bounded (run_call g t s budget first scratch)
unfolding run_call
run_bounded g t s budget first scratch = then (script_check (first ∷ scratch ∷ []) g t s) _ (script_bounded (first ∷ scratch ∷ []) g t s) λ e. bounded_yes

pub page_bounded : (g t s : Bytes) (group room : ℕ) → Bounded (sheet_call g t s group room)
unfolding sheet_call
page_bounded g t s group room =
    then (script_check [] g t s) _ (script_bounded [] g t s) λ e19.
    then (q25 0 group (rows g)) _ (front 25 (nat_lt group (rows g)) (omega arith) (omega arith)) λ e25.
    then (q26 (term s)) _ (front 26 (is_value (term s)) (omega arith) (omega arith)) λ e26.
    then (q27 (sheet g group (term s)) room) _ (at_27 (sheet g group (term s)) room) λ e27. bounded_yes

-- a rewriting: questions 8 and 13 of the old bytes, then those of the new ones
old_types_bounded : (g t : Bytes) → Bounded (old_types_check g t)
unfolding old_types_check
old_types_bounded g t =
    then (groups_check g) _ (groups_bounded g) λ e7.
    then (q8_of old_type_width t) _ (at_8 old_type_width t) λ e8. types_bounded g (widen_types t)

old_script_bounded : (g t s : Bytes) → Bounded (old_script_check g t s)
unfolding old_script_check
old_script_bounded g t s =
    then (old_types_check g t) _ (old_types_bounded g t) λ e12.
    then (q13_of old_script_width [] s) _ (at_13 old_script_width [] s) λ e13. script_bounded [] g (widen_types t) (widen_script s)

pub rewriting_types_bounded : (g t : Bytes) (room : ℕ) → Bounded (rewriting_types g t room)
unfolding rewriting_types
rewriting_types_bounded g t room =
    then (old_types_check g t) _ (old_types_bounded g t) λ e12. then (q27 (widen_types t) room) _ (at_27 (widen_types t) room) λ e27. bounded_yes

pub rewriting_script_bounded : (g t s : Bytes) (room : ℕ) → Bounded (rewriting_script g t s room)
unfolding rewriting_script
rewriting_script_bounded g t s room =
    then (old_script_check g t s) _ (old_script_bounded g t s) λ e19. then (q27 (widen_script s) room) _ (at_27 (widen_script s) room) λ e27. bounded_yes

-- import and export
pub importing_bounded : (g t s : Bytes) (room : ℕ) → Bounded (import_call g t s room)
unfolding import_call
importing_bounded g t s room =
    then (types_check g t) _ (types_bounded g t) λ e12.
    then (q28 s) _ (front 28 (nat_eq (length s % office_width) 0 && (nat_le 1 (office_records s) && nat_le (office_records s) office_limit)) (omega arith) (omega arith)) λ e28.
    let n : office_records s ≤ script_limit = omega (arith, (q28_measured s e28).limited) in
    then (form_check g t (nameless s)) _ (form_bounded g t (nameless s) (omega (arith, nameless_records s))) λ e18.
    then (q29 s) _ (each_bounded 29 (office_records s) (ok29 s) (omega arith) (omega arith) n) λ e29.
    then (q30 s) _ (each_bounded 30 (office_records s) (ok30 (scopes [] (named_term s)) s) (omega arith) (omega arith) n) λ e30.
    then (q27 (import_of s) room) _ (at_27 (import_of s) room) λ e27. bounded_yes

pub exporting_bounded : (g t s : Bytes) (room : ℕ) → Bounded (export_call g t s room)
unfolding export_call
exporting_bounded g t s room =
    then (script_check [] g t s) _ (script_bounded [] g t s) λ e19.
    then (q28_of_export s) _ (front 28 (nat_le (records s) office_limit) (omega arith) (omega arith)) λ e28.
    then (q27 (export_of s) room) _ (at_27 (export_of s) room) λ e27. bounded_yes

-- typing refuses at a record of the script, which has at most 8,192
typing_range : (q : ℕ) → of_typing q ≡ true → (20 ≤ q) × (q ≤ 31)
typing_range q h = go (nat_le 20 q) refl
  where
    is_31 : nat_eq q 31 ≡ true → (20 ≤ q) × (q ≤ 31)
    is_31 e = let n = eqb-true q 31 e in (omega arith, omega arith)

    within : (b : Bool) → nat_le q 24 ≡ b → 20 ≤ q → b || nat_eq q 31 ≡ true → (20 ≤ q) × (q ≤ 31)
    within true e l k = (l, omega (arith, leb-true q 24 e))
    within false e l k = is_31 k

    go : (b : Bool) → nat_le 20 q ≡ b → (20 ≤ q) × (q ≤ 31)
    go true e = within (nat_le q 24) refl (leb-true 20 q e) (rw e at h)
    go false e = is_31 (rw e at h)

placed_bounded : {A : Type 0} {end : ℕ} (m : Answer A) → Placed end m → end ≤ script_limit → Bounded m
placed_bounded m placed_yes l = bounded_yes
placed_bounded m (placed_no {q} {place} x c) l =
    let r = typing_range q x in
    bounded_no {q = q} {p = place} (omega (arith, r.0)) (omega (arith, r.1)) (omega arith)

pub script_small : (rooms : List ℕ) (g t s : Bytes) → Octets s → script_check rooms g t s ≡ accepted tt → size (term s) ≤ script_limit
unfolding own_check script_check
script_small rooms g t s o e =
    let e13 = and_then (q13 rooms s) _ (and_then (types_check g t) _ e).1 in
    let f = form_yes g t s (and_then (form_check g t s) (q19 s) e13.1).0 in
    omega (arith, (whole rooms s o e13.0 f.fields f.one_term).sized, (q13_fitting rooms s e13.0).limited)

-- typing of a script that has passed the questions before it
pub typing_bounded : (g t s : Bytes) → Octets s → script_check [] g t s ≡ accepted tt → Bounded (typing (properties_of g) (type_at t) [] 0 (term s))
typing_bounded g t s o e =
    placed_bounded (typing (properties_of g) (type_at t) [] 0 (term s)) (typing_placed (properties_of g) (type_at t) (size (term s)) [] 0 (term s) (omega arith))
    (script_small [] g t s o e)

pub check_bounded : (g t s : Bytes) (work answer : ℕ) → Octets s → Bounded (check_call work answer g t s)
unfolding check_call
check_bounded g t s work answer o =
    then (q1 work answer) _ (front 1 (nat_le work_length work && nat_le answer_length answer) (omega arith) (omega arith)) λ e1.
    then (script_check [] g t s) _ (script_bounded [] g t s) λ e19. typing_bounded g t s o e19

pub profile_bounded : (g t s : Bytes) (work answer : ℕ) → Octets s → Bounded (profile_checking work answer g t s)
unfolding profile_checking
profile_bounded g t s work answer o =
    then (q1 work answer) _ (front 1 (nat_le work_length work && nat_le answer_length answer) (omega arith) (omega arith)) λ e1.
    then (script_check [] g t s) _ (script_bounded [] g t s) λ e19.
    then (q39 s) _ (each_bounded 39 (records s) (ok39 s) (omega arith) (omega arith) (script_records [] g t s e19)) λ e39. typing_bounded g t s o e19
