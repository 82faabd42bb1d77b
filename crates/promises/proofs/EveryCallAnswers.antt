-- Every call answers.
use Rattle.std.proofs.Common.{◌≡◌, refl, ap, ◌∙◌, Bool, false, cond, ◌&&◌, List, [], ◌∷◌, ◌++◌, ℕ, ◌/◌, ◌%◌, arith}
use Rattle.std.proofs.Common.{nat_eq, nat_le, nat_lt, length, get_or}
use Rattle.calculus.specs.Types.{Ty}
use Rattle.calculus.specs.Terms.{is_value}
use Rattle.rules.specs.Answer.{Bytes, Answer, accepted, refused, ◌>>◌, all_below}
use Rattle.rules.specs.Limits.{row_width, type_width, script_width, group_limit, table_limit, script_limit, work_length}
use Rattle.rules.specs.Limits.{answer_length, old_type_width, old_script_width}
use Rattle.rules.specs.Groups.{rows, properties_of, ok3, ok4, ok5, ok6, ok7, q2, q3, q4, q5, q6, q7}
use Rattle.rules.specs.Types.{type_count, type_at, ok9, ok10, ok36_type, ok11, ok12, q8_of, q8, q9, q10, q36_types, q11}
use Rattle.rules.specs.Types.{q12}
use Rattle.rules.specs.Script.{records, term, size, depths, binders, term_end, ok14, ok15, ok36_object, ok16, ok18}
use Rattle.rules.specs.Script.{ok19, q13_of, q13, q14, q15, q36_objects, q16, q17, q18, q19}
use Rattle.rules.specs.Typing.{of_typing, typing}
use Rattle.rules.specs.Step.{End, end_number, end_count, step_in}
use Rattle.rules.specs.Run.{Ran}
use Rattle.rules.specs.Sheet.{sheet}
use Rattle.rules.specs.Calls.{zeros, q1, q25, q26, q27, groups_check, types_check, compare_call, form_check, own_check}
use Rattle.rules.specs.Calls.{script_check, check_call, answer_after, work_after, step_call, written_after, run_call}
use Rattle.rules.specs.Calls.{first_after, scratch_after, sheet_call, sheet_after}
use Rattle.rules.specs.Profile.{ok39, q39, profile_checking}
use Rattle.rules.specs.Preview.{Preview, q35, preview_call, move_call}
use Rattle.rules.specs.Rewriting.{widen_types, widen_script, old_types_check, rewriting_types, rewriting_script}
use Rattle.rules.specs.Rewriting.{rewritten_after}
use Rattle.rules.proofs.Asked.{regroup}
use Rattle.promises.specs.Questions.{question, of_groups, from_9, of_types, from_14, of_script, of_old_types}
use Rattle.promises.specs.Questions.{of_old_script, Checks, of_form}
use Rattle.promises.specs.Promises.{EveryCallAnswers}
use Rattle.promises.proofs.Deciding.{Own, Decided, decides, ask_own, each_own, exactly_own, decided_one, decided_then}
use Rattle.promises.proofs.Deciding.{decided_yes, then_found, checks_more, Numbers, refusal_number}
use Rattle.promises.proofs.Places.{typing_placed, placed_refusal}
use Rattle.promises.proofs.OldQuestions.{after_8, old_types_asked, old_script_asked}

-- Each question refuses with its own number.
pub own_1 : (work answer : ℕ) → Own 1 (q1 work answer)
own_1 work answer = ask_own 1 0 (nat_le work_length work && nat_le answer_length answer)

own_2 : (g : Bytes) → Own 2 (q2 g)
own_2 g = ask_own 2 0 (nat_eq (length g % row_width) 0 && (nat_le 1 (rows g) && nat_le (rows g) group_limit))

own_8 : (width : ℕ) (t : Bytes) → Own 8 (q8_of width t)
own_8 width t = ask_own 8 0 (nat_eq (length t % width) 0 && (nat_le 1 (length t / width) && nat_le (length t / width) table_limit))

pub own_13 : (width : ℕ) (rooms : List ℕ) (s : Bytes) → Own 13 (q13_of width rooms s)
own_13 width rooms s =
    ask_own 13 0
    (nat_eq (length s % width) 0
    && (nat_le 1 (length s / width) && (nat_le (length s / width) script_limit && all_below (λ i. nat_le (length s) (get_or rooms i 0)) (length rooms))))

groups_decided : (g : Bytes) → Decided (of_groups g) (groups_check g)
unfolding groups_check
groups_decided g =
    decided_then (q2 g) _ (decided_one (own_2 g))
    (decided_then (q3 g) _ (decided_one (each_own 3 (rows g) (ok3 g)))
    (decided_then (q4 g) _ (decided_one (each_own 4 (rows g) (ok4 g)))
    (decided_then (q5 g) _ (decided_one (each_own 5 (rows g) (ok5 g)))
    (decided_then (q6 g) (q7 g) (decided_one (each_own 6 (rows g) (ok6 g))) (decided_one (ask_own 7 0 (ok7 g)))))))

later_types : (g t : Bytes) → Decided (from_9 g t) (after_8 g t)
later_types g t =
    decided_then (q9 g t) _ (decided_one (each_own 9 (type_count t) (ok9 (rows g) t)))
    (decided_then (q10 g t) _ (decided_one (each_own 10 (type_count t) (ok10 g t)))
    (decided_then (q36_types g t) _ (decided_one (each_own 36 (type_count t) (ok36_type g t)))
    (decided_then (q11 t) (q12 t) (decided_one (each_own 11 (type_count t) (ok11 t))) (decided_one (each_own 12 (type_count t) (ok12 t))))))

pub types_decided : (g t : Bytes) → Decided (of_groups g ++ of_types g t) (types_check g t)
unfolding types_check
types_decided g t = decided_then (groups_check g) _ (groups_decided g) (decided_then (q8 t) _ (decided_one (own_8 type_width t)) (later_types g t))

-- 14 to 18
pub form_decided : (g t s : Bytes) → Decided (of_form g t s) (form_check g t s)
unfolding form_check
form_decided g t s =
    decided_then (q14 s) _ (decided_one (each_own 14 (records s) (ok14 s)))
    (decided_then (q15 g s) _ (decided_one (each_own 15 (records s) (ok15 g s)))
    (decided_then (q36_objects g s) _ (decided_one (each_own 36 (records s) (ok36_object g s)))
    (decided_then (q16 t s) _ (decided_one (each_own 16 (records s) (ok16 t s)))
    (decided_then (q17 s) (q18 s) (decided_one (exactly_own (records s) (term_end s 0)))
    (decided_one (each_own 18 (records s) (ok18 (depths (term s)))))))))

later_script : (g t s : Bytes) → Decided (from_14 g t s) (◌>>◌ (form_check g t s) (q19 s))
later_script g t s =
    decided_then (form_check g t s) (q19 s) (form_decided g t s) (decided_one (each_own 19 (records s) (ok19 (binders (term s)) s)))

pub own_decided : (rooms : List ℕ) (g t s : Bytes) → Decided (of_script rooms g t s) (own_check rooms g t s)
unfolding own_check
own_decided rooms g t s = decided_then (q13 rooms s) _ (decided_one (own_13 script_width rooms s)) (later_script g t s)

pub script_decided : (rooms : List ℕ) (g t s : Bytes) → Decided (of_groups g ++ of_types g t ++ of_script rooms g t s) (script_check rooms g t s)
unfolding script_check
script_decided rooms g t s =
    decided_then (types_check g t) (own_check rooms g t s) (types_decided g t) (own_decided rooms g t s)

-- 2 to 19 and 36 are none of typing's
abbrev Early : ℕ → Type 0
Early q = of_typing q ≡ false

pub script_early : (rooms : List ℕ) (g t s : Bytes) (q place : ℕ) → script_check rooms g t s ≡ refused q place → of_typing q ≡ false
unfolding Numbers
script_early rooms g t s q place e = refusal_number Early numbers (script_decided rooms g t s) e
  where
    of_19 : Numbers Early (of_script rooms g t s)
    of_19 = (refl, (refl, (refl, (refl, (refl, (refl, (refl, (refl, tt))))))))

    of_12 : Numbers Early (of_types g t ++ of_script rooms g t s)
    of_12 = (refl, (refl, (refl, (refl, (refl, (refl, of_19))))))

    numbers : Numbers Early (of_groups g ++ of_types g t ++ of_script rooms g t s)
    numbers = (refl, (refl, (refl, (refl, (refl, (refl, of_12))))))

comparison_decided : (g t : Bytes) (i j : ℕ)
    → Decided (of_groups g ++ of_types g t ++ (question 25 (q25 0 i (type_count t)) ∷ question 25 (q25 1 j (type_count t)) ∷ [])) (compare_call g t i j)
unfolding compare_call
comparison_decided g t i j =
    decided_then (types_check g t) _ (types_decided g t)
    (decided_then (q25 0 i (type_count t)) _ (decided_one (ask_own 25 0 (nat_lt i (type_count t))))
    (decided_then (q25 1 j (type_count t)) _ (decided_one (ask_own 25 1 (nat_lt j (type_count t)))) (decided_yes _)))

check_asks : (g t s : Bytes) (work answer : ℕ)
    → Checks (question 1 (q1 work answer) ∷ [] ++ of_groups g ++ of_types g t ++ of_script [] g t s) (typing (properties_of g) (type_at t) [] 0 (term s))
    (check_call work answer g t s)
unfolding check_call
check_asks g t s work answer =
    checks_more (q1 work answer) (script_check [] g t s) (typing (properties_of g) (type_at t) [] 0 (term s)) (decided_one (own_1 work answer)) (script_decided [] g t s)

profile_asks : (g t s : Bytes) (work answer : ℕ)
    → Checks (question 1 (q1 work answer) ∷ [] ++ of_groups g ++ of_types g t ++ of_script [] g t s ++ (question 39 (q39 s) ∷ []))
    (typing (properties_of g) (type_at t) [] 0 (term s))
    (profile_checking work answer g t s)
unfolding profile_checking
profile_asks g t s work answer =
    let typed = typing (properties_of g) (type_at t) [] 0 (term s) in
    rw (regroup (script_check [] g t s) (q39 s) typed) at
    (checks_more (q1 work answer) (◌>>◌ (script_check [] g t s) (q39 s)) typed (decided_one (own_1 work answer))
    (decided_then (script_check [] g t s) (q39 s) (script_decided [] g t s) (decided_one (each_own 39 (records s) (ok39 s)))))

step_decided : (g t s : Bytes) (room : ℕ) → Decided (of_groups g ++ of_types g t ++ of_script [] g t s) (step_call g t s room)
unfolding step_call
step_decided g t s room = decided_then (script_check [] g t s) _ (script_decided [] g t s) (decided_yes _)

preview_decided : (g t s : Bytes) (room steps : ℕ) → Decided (of_groups g ++ of_types g t ++ of_script [] g t s) (preview_call g t s room steps)
unfolding preview_call step_call
preview_decided g t s room steps =
    rw (then_found {B = Preview} (script_check [] g t s) (step_in (properties_of g) (type_at t) room (term s)) (λ x. accepted (record { end = end_number x; count = end_count (records s) x; steps = steps })))
    (decided_then (script_check [] g t s) _ (script_decided [] g t s) (decided_yes _))

move_decided : (g t s : Bytes) (room : ℕ) (v : Preview)
    → Decided
    (of_groups g
    ++ of_types g t
    ++ of_script [] g t s
    ++ (question 35 (q35 v (records s) (step_in (properties_of g) (type_at t) room (term s))) ∷ []))
    (move_call g t s room v)
unfolding move_call step_call
move_decided g t s room v =
    let x = step_in (properties_of g) (type_at t) room (term s) in
    rw (then_found (script_check [] g t s) x (λ x. ◌>>◌ (q35 v (records s) x) (accepted x)))
    (decided_then (script_check [] g t s) _ (script_decided [] g t s)
    (decided_then (q35 v (records s) x) _ (decided_one (ask_own 35 0 (nat_eq v.end (end_number x) && nat_eq v.count (end_count (records s) x)))) (decided_yes _)))

run_decided : (g t s : Bytes) (budget first scratch : ℕ)
    → Decided (of_groups g ++ of_types g t ++ of_script (first ∷ scratch ∷ []) g t s) (run_call g t s budget first scratch)
unfolding run_call
run_decided g t s budget first scratch =
    decided_then (script_check (first ∷ scratch ∷ []) g t s) _ (script_decided (first ∷ scratch ∷ []) g t s) (decided_yes _)

page_decided : (g t s : Bytes) (group room : ℕ)
    → Decided
    (of_groups g
    ++ of_types g t
    ++ of_script [] g t s
    ++ (question 25 (q25 0 group (rows g)) ∷ question 26 (q26 (term s)) ∷ question 27 (q27 (sheet g group (term s)) room) ∷ []))
    (sheet_call g t s group room)
unfolding sheet_call
page_decided g t s group room =
    decided_then (script_check [] g t s) _ (script_decided [] g t s)
    (decided_then (q25 0 group (rows g)) _ (decided_one (ask_own 25 0 (nat_lt group (rows g))))
    (decided_then (q26 (term s)) _ (decided_one (ask_own 26 0 (is_value (term s))))
    (decided_then (q27 (sheet g group (term s)) room) _ (decided_one (ask_own 27 0 (nat_le (length (sheet g group (term s))) room))) (decided_yes _))))

old_types_decided : (g t : Bytes) → Decided (of_groups g ++ of_old_types g t) (old_types_check g t)
old_types_decided g t =
    rw (old_types_asked g t)
    (decided_then (groups_check g) _ (groups_decided g)
    (decided_then (q8_of old_type_width t) _ (decided_one (own_8 old_type_width t)) (later_types g (widen_types t))))

types_rewriting_decided : (g t : Bytes) (room : ℕ)
    → Decided (of_groups g ++ of_old_types g t ++ (question 27 (q27 (widen_types t) room) ∷ [])) (rewriting_types g t room)
unfolding rewriting_types
types_rewriting_decided g t room =
    decided_then (old_types_check g t) _ (old_types_decided g t)
    (decided_then (q27 (widen_types t) room) _ (decided_one (ask_own 27 0 (nat_le (length (widen_types t)) room))) (decided_yes _))

script_rewriting_decided : (g t s : Bytes) (room : ℕ)
    → Decided (of_groups g ++ of_old_types g t ++ of_old_script g t s ++ (question 27 (q27 (widen_script s) room) ∷ [])) (rewriting_script g t s room)
unfolding rewriting_script
script_rewriting_decided g t s room =
    rw (old_script_asked g t s)
    (decided_then _ _
    (decided_then (old_types_check g t) _ (old_types_decided g t)
    (decided_then (q13_of old_script_width [] s) _ (decided_one (own_13 old_script_width [] s)) (later_script g (widen_types t) (widen_script s))))
    (decided_then (q27 (widen_script s) room) _ (decided_one (ask_own 27 0 (nat_le (length (widen_script s)) room))) (decided_yes _)))

pub every_call_answers : (g t s : Bytes) → EveryCallAnswers g t s
every_call_answers g t s = record {
  groups = decides (groups_decided g);
  types = decides (types_decided g t);
  comparison = λ i j. decides (comparison_decided g t i j);
  check = check_asks g t s;
  typing_asks = λ q place e.
      placed_refusal (typing (properties_of g) (type_at t) [] 0 (term s)) (typing_placed (properties_of g) (type_at t) (size (term s)) [] 0 (term s) (omega arith)) e;
  profile = profile_asks g t s;
  preview = λ room steps. decides (preview_decided g t s room steps);
  move = λ room v. decides (move_decided g t s room v);
  step = λ room. decides (step_decided g t s room);
  run = λ budget first scratch. decides (run_decided g t s budget first scratch);
  page = λ group room. decides (page_decided g t s group room);
  types_rewriting = λ room. decides (types_rewriting_decided g t room);
  script_rewriting = λ room. decides (script_rewriting_decided g t s room);
  check_keeps = λ work answer q place e old. (
    ap (λ (x : Answer Ty). answer_after x old) e,
    λ l. ap (λ (x : Answer Ty). work_after x old) e ∙ ap (λ (b : Bool). cond b (zeros (length old)) old) l,
    λ l. ap (λ (x : Answer Ty). work_after x old) e ∙ ap (λ (b : Bool). cond b (zeros (length old)) old) l,
  );
  profile_keeps = λ work answer q place e old. (
    ap (λ (x : Answer Ty). answer_after x old) e,
    λ l. ap (λ (x : Answer Ty). work_after x old) e ∙ ap (λ (b : Bool). cond b (zeros (length old)) old) l,
    λ l. ap (λ (x : Answer Ty). work_after x old) e ∙ ap (λ (b : Bool). cond b (zeros (length old)) old) l,
  );
  move_keeps = λ room q place v e old. ap (λ (x : Answer End). written_after x old) e;
  step_keeps = λ room q place e old. ap (λ (x : Answer End). written_after x old) e;
  run_keeps = λ budget first scratch q place e old. (ap (λ (x : Answer Ran). first_after x old) e, ap (λ (x : Answer Ran). scratch_after x old) e);
  page_keeps = λ group room q place e old. ap (λ (x : Answer Bytes). sheet_after x old) e;
  types_rewriting_keeps = λ room q place e old. ap (λ (x : Answer Bytes). rewritten_after x old) e;
  script_rewriting_keeps = λ room q place e old. ap (λ (x : Answer Bytes). rewritten_after x old) e;
}
