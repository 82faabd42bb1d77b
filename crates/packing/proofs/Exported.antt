-- Every exported answer is bounded, and one number holds it: `unpack` gives it back.
use Rattle.std.proofs.Common.{◌≡◌, refl, sym, ap, ap₂, ◌∙◌, subst, [], ◌∷◌, ℕ, ◌/◌, ◌≤◌, ◌<◌, min, arith, leb-true}
use Rattle.std.proofs.Common.{length}
use Rattle.calculus.specs.Types.{Ty, size_t, type_limit}
use Rattle.rules.specs.Answer.{Bytes, Octets, Answer, accepted, refused, ◌>>=◌, ◌>>◌}
use Rattle.rules.specs.Limits.{type_width, script_width, old_type_width, old_script_width, sheet_width, table_limit}
use Rattle.rules.specs.Limits.{script_limit, office_width}
use Rattle.rules.specs.Groups.{rows, properties_of}
use Rattle.rules.specs.Types.{type_at, q8, q8_of}
use Rattle.rules.specs.Comparison.{Comparison, neither, comparison_number}
use Rattle.rules.specs.Script.{records, term, size, q13_of}
use Rattle.rules.specs.Step.{End, at_value, moves, may_not, wrong_kind, too_big, end_number, end_count, step_in}
use Rattle.rules.specs.Typing.{typing}
use Rattle.rules.specs.Sheet.{sheet}
use Rattle.rules.specs.Run.{Ran}
use Rattle.rules.specs.Calls.{q1, q25, q26, q27, groups_check, types_check, script_check, check_call, type_records}
use Rattle.rules.specs.Calls.{step_call, step_report, run_call, run_report, sheet_call, sheet_records}
use Rattle.rules.specs.Profile.{q39, profile_checking}
use Rattle.rules.specs.Office.{import_call, export_call}
use Rattle.rules.proofs.Office.{q28_measured}
use Rattle.promises.proofs.Imports.{import_yes, imports}
use Rattle.promises.proofs.Exports.{exports}
use Rattle.rules.specs.Rewriting.{widen_types, widen_script, old_types_check, old_script_check, rewriting_types}
use Rattle.rules.specs.Rewriting.{rewriting_script, rewritten_records}
use Rattle.rules.specs.Preview.{Preview, q35, preview_call, move_call}
use Rattle.promises.proofs.Answers.{accepted≢refused, accepted_inj}
use Rattle.rules.proofs.Asked.{and_then, few_types}
use Rattle.promises.proofs.TypesTable.{tables}
use Rattle.packing.specs.Packed.{packed_number, check_lower, comparison_lower, end_and_count, step_lower, run_lower}
use Rattle.packing.specs.Packed.{preview_lower, half, end_of, count_of, StepCounted, PreviewCounted, preview_yes}
use Rattle.packing.specs.Packed.{preview_no, counted_yes, counted_no, Holds, holds_yes, holds_no, Bounded, bounded_yes}
use Rattle.packing.specs.Packed.{bounded_no}
use Rattle.packing.proofs.Unpacked.{Reads, unended}
use Rattle.packing.proofs.Bounds.{check_bounded, profile_bounded, run_bounded, page_bounded, preview_bounded}
use Rattle.packing.proofs.Bounds.{move_bounded, rewriting_types_bounded, rewriting_script_bounded, script_small}
use Rattle.packing.proofs.Bounds.{importing_bounded, exporting_bounded, script_records, step_bounded}
use Rattle.packing.proofs.Sizes.{Small, small_yes, small_no, no_binders, typing_small, EndBounded, within_move}
use Rattle.packing.proofs.Sizes.{step_within, RunBounds, run_within, sheet_length}

pub records_bounded : (a : Answer Ty) → Bounded a → Bounded (type_records a)
unfolding type_records
records_bounded (accepted s) x = bounded_yes
records_bounded (refused q p) (bounded_no l m n) = bounded_no l m n

pub sheet_bounded : (a : Answer Bytes) → Bounded a → Bounded (sheet_records a)
unfolding sheet_records
sheet_bounded (accepted b) x = bounded_yes
sheet_bounded (refused q p) (bounded_no l m n) = bounded_no l m n

pub rewritten_bounded : (width : ℕ) (a : Answer Bytes) → Bounded a → Bounded (rewritten_records width a)
unfolding rewritten_records
rewritten_bounded width (accepted b) x = bounded_yes
rewritten_bounded width (refused q p) (bounded_no l m n) = bounded_no l m n

-- One number holds a refusal, and so it holds a bounded answer, where it holds what is counted of what was found.
held : {A : Type 0} (count : Answer A → Answer ℕ) (a : Answer A) → Bounded a → ((q p : ℕ) → count (refused q p) ≡ refused q p)
    → ((x : A) → a ≡ accepted x → Holds (count (accepted x))) → Holds (count a)
held count (accepted x) b kept found = found x refl
held count (refused q p) (bounded_no l m n) kept found = rw kept (holds_no {q = q} {p = p} l m (omega arith))

-- a check that finds nothing
pub passed_holds : (a : Answer (Unit {0})) → Bounded a → Holds (check_lower a)
passed_holds a b = held check_lower a b (λ q p. refl) λ x e. holds_yes {n = 0} (omega arith)

comparison_small : (c : Comparison) → comparison_number c ≤ 2
comparison_small neither = omega arith
comparison_small _ = omega arith

pub compare_holds : (a : Answer Comparison) → Bounded a → Holds (comparison_lower a)
compare_holds a b = held comparison_lower a b (λ q p. refl) λ c e. holds_yes {n = comparison_number c} (omega (arith, comparison_small c))

-- a found type's count
found_size : (a : Answer Ty) (s : Ty) → Small a → a ≡ accepted s → size_t s ≤ type_limit
found_size (accepted s') s (small_yes l) e = omega (arith, ap size_t (accepted_inj e))
found_size (refused q p) s small_no e = let z : ◌≡◌ {A = ℕ} 0 1 = cc in absurd (omega arith)

typed_size : (g t s : Bytes) (type : Ty) → Octets g → script_check [] g t s ≡ accepted tt → typing (properties_of g) (type_at t) [] 0 (term s) ≡ accepted type
    → size_t type ≤ type_limit
unfolding script_check
typed_size g t s type o e h =
    let T = tables g t o (and_then (types_check g t) _ e).0 in
    found_size (typing (properties_of g) (type_at t) [] 0 (term s)) type
    (typing_small (properties_of g) (type_at t) (λ i. leb-true (size_t (type_at t i)) type_limit (T.table.small i)) [] no_binders 0 (term s)) h

found_holds : (a : Answer Ty) → Bounded a → ((type : Ty) → a ≡ accepted type → size_t type ≤ type_limit) → Holds (type_records a)
unfolding type_records
found_holds a b small = held type_records a b (λ q p. refl) λ type e. holds_yes {n = size_t type} (omega (arith, small type e))

pub check_holds : (g t s : Bytes) (work answer : ℕ) → Octets g → Octets s → Holds (type_records (check_call work answer g t s))
unfolding check_call
check_holds g t s work answer o o' =
    found_holds (check_call work answer g t s) (check_bounded g t s work answer o') λ type e.
    let a = and_then (script_check [] g t s) _ (and_then (q1 work answer) _ e).1 in typed_size g t s type o a.0 a.1

pub profile_holds : (g t s : Bytes) (work answer : ℕ) → Octets g → Octets s → Holds (type_records (profile_checking work answer g t s))
unfolding profile_checking
profile_holds g t s work answer o o' =
    found_holds (profile_checking work answer g t s) (profile_bounded g t s work answer o') λ type e.
    let a = and_then (script_check [] g t s) _ (and_then (q1 work answer) _ e).1 in typed_size g t s type o a.0 (and_then (q39 s) _ a.1).1

-- a sheet's records, no more than the script's
pub page_holds : (g t s : Bytes) (group room : ℕ) → Octets s → Holds (sheet_records (sheet_call g t s group room))
unfolding sheet_records sheet_call
page_holds g t s group room o =
    held sheet_records (sheet_call g t s group room) (page_bounded g t s group room) (λ q p. refl) λ b e.
    let a = and_then (script_check [] g t s) _ e in
    let shown = (and_then (q27 (sheet g group (term s)) room) _ (and_then (q26 (term s)) _ (and_then (q25 0 group (rows g)) _ a.1).1).1).1 in
    holds_yes {n = length b / sheet_width} (omega (arith, ap length (accepted_inj shown), sheet_length g group (term s), script_small [] g t s o a.0))

-- A rewritten table has at most 4,096 records, a rewritten script at most 8,192: the new bytes pass their check.
pub types_rewritten : (g t b : Bytes) (room : ℕ) → rewriting_types g t room ≡ accepted b → length b / type_width ≤ table_limit
unfolding rewriting_types old_types_check types_check
types_rewritten g t b room e =
    let a = and_then (old_types_check g t) _ e in
    let new = (and_then (q8_of old_type_width t) _ (and_then (groups_check g) _ a.0).1).1 in
    let few = few_types (widen_types t) (and_then (q8 (widen_types t)) _ (and_then (groups_check g) _ new).1).0 in
    subst (λ (x : Bytes). length x / type_width ≤ table_limit) (accepted_inj (and_then (q27 (widen_types t) room) _ a.1).1) few

pub script_rewritten : (g t s b : Bytes) (room : ℕ) → rewriting_script g t s room ≡ accepted b → length b / script_width ≤ script_limit
unfolding rewriting_script old_script_check
script_rewritten g t s b room e =
    let a = and_then (old_script_check g t s) _ e in
    let new = (and_then (q13_of old_script_width [] s) _ (and_then (old_types_check g t) _ a.0).1).1 in
    subst (λ (x : Bytes). length x / script_width ≤ script_limit) (accepted_inj (and_then (q27 (widen_script s) room) _ a.1).1)
    (script_records [] g (widen_types t) (widen_script s) new)

rewritten_holds : (width : ℕ) (a : Answer Bytes) → Bounded a → ((b : Bytes) → a ≡ accepted b → length b / width ≤ script_limit) → Holds (rewritten_records width a)
unfolding rewritten_records
rewritten_holds width a b few = held (rewritten_records width) a b (λ q p. refl) λ x e. holds_yes {n = length x / width} (omega (arith, few x e))

pub types_rewritten_hold : (g t : Bytes) (room : ℕ) → Holds (rewritten_records type_width (rewriting_types g t room))
types_rewritten_hold g t room =
    rewritten_holds type_width (rewriting_types g t room) (rewriting_types_bounded g t room) λ b e. omega (arith, types_rewritten g t b room e)

pub script_rewritten_holds : (g t s : Bytes) (room : ℕ) → Holds (rewritten_records script_width (rewriting_script g t s room))
script_rewritten_holds g t s room =
    rewritten_holds script_width (rewriting_script g t s room) (rewriting_script_bounded g t s room) λ b e. script_rewritten g t s b room e

-- What is imported and exported has at most 6,000 records.
pub importing_holds : (g t s : Bytes) (room : ℕ) → Octets s → Holds (rewritten_records script_width (import_call g t s room))
importing_holds g t s room o =
    rewritten_holds script_width (import_call g t s room) (importing_bounded g t s room) λ b e.
    omega (arith, (imports g t s o).counted room b e, (q28_measured s (import_yes g t s room b e).length_yes).limited)

pub exporting_holds : (g t s : Bytes) (room : ℕ) → Octets s → Holds (rewritten_records office_width (export_call g t s room))
unfolding export_call
exporting_holds g t s room o =
    rewritten_holds office_width (export_call g t s room) (exporting_bounded g t s room) λ b e.
    omega (arith, (exports g t s o).counted room b e, script_records [] g t s (and_then (script_check [] g t s) _ e).0)

-- a run's end and count
pub run_ends : (g t s : Bytes) (budget first scratch : ℕ) (x : Ran) → Octets s → run_call g t s budget first scratch ≡ accepted x → RunBounds x
unfolding run_call
run_ends g t s budget first scratch x o e =
    let e1 = and_then (script_check (first ∷ scratch ∷ []) g t s) _ e in
    subst RunBounds (accepted_inj e1.1)
    (run_within (properties_of g) (type_at t) (min first scratch) budget (term s) (script_small (first ∷ scratch ∷ []) g t s o e1.0))

pub run_holds : (g t s : Bytes) (budget first scratch : ℕ) → Octets s → Holds (run_lower (run_report (run_call g t s budget first scratch)))
unfolding run_report
run_holds g t s budget first scratch o =
    held (λ a. run_lower (run_report a)) (run_call g t s budget first scratch) (run_bounded g t s budget first scratch) (λ q p. refl) λ x e.
    let r = run_ends g t s budget first scratch x o e in holds_yes {n = end_and_count x.end (size x.last)} (omega (arith, r.end, r.last))

-- a step's count
count_small : (own : ℕ) (x : End) → own ≤ script_limit → EndBounded x → end_count own x ≤ script_limit
count_small own at_value l w = l
count_small own (moves e) l (within_move m) = m
count_small own may_not l w = l
count_small own wrong_kind l w = l
count_small own too_big l w = l

pub step_count : (g t s : Bytes) (room : ℕ) (x : End) → step_call g t s room ≡ accepted x → end_count (records s) x ≤ script_limit
unfolding step_call
step_count g t s room x e =
    let e1 = and_then (script_check [] g t s) _ e in
    subst (λ (y : End). end_count (records s) y ≤ script_limit) (accepted_inj e1.1)
    (count_small (records s) (step_in (properties_of g) (type_at t) room (term s)) (script_records [] g t s e1.0) (step_within (properties_of g) (type_at t) room (term s)))

-- and so a preview's and a move's, and of a preview its end too
pub previewed : (g t s : Bytes) (room steps : ℕ) (v : Preview) → preview_call g t s room steps ≡ accepted v
    → (x : End) × (step_call g t s room ≡ accepted x) × (v ≡ record { end = end_number x; count = end_count (records s) x; steps = steps })
unfolding preview_call
previewed g t s room steps v = go (step_call g t s room)
  where
    go : (a : Answer End) → ◌>>=◌ a (λ x. accepted (record { end = end_number x; count = end_count (records s) x; steps = steps })) ≡ accepted v
        → (x : End) × (a ≡ accepted x) × (v ≡ record { end = end_number x; count = end_count (records s) x; steps = steps })
    go (accepted x) h = (x, refl, sym (accepted_inj h))
    go (refused q p) h = accepted≢refused (sym h)

pub preview_count : (g t s : Bytes) (room steps : ℕ) (v : Preview) → preview_call g t s room steps ≡ accepted v → v.count ≤ script_limit
preview_count g t s room steps v h =
    let q = previewed g t s room steps v h in
    subst (λ (w : Preview). w.count ≤ script_limit) (sym q.2) (step_count g t s room q.0 q.1)

end_small : (x : End) → end_number x ≤ 4
end_small at_value = omega arith
end_small _ = omega arith

preview_end : (g t s : Bytes) (room steps : ℕ) (v : Preview) → preview_call g t s room steps ≡ accepted v → v.end ≤ 4
preview_end g t s room steps v h =
    let q = previewed g t s room steps v h in
    subst (λ (w : Preview). w.end ≤ 4) (sym q.2) (end_small q.0)

pub preview_counted : (g t s : Bytes) (room steps : ℕ) → PreviewCounted (preview_call g t s room steps)
preview_counted g t s room steps = go (preview_call g t s room steps) refl (preview_bounded g t s room steps)
  where
    go : (a : Answer Preview) → preview_call g t s room steps ≡ a → Bounded a → PreviewCounted a
    go (accepted v) e b = preview_yes (preview_end g t s room steps v e) (preview_count g t s room steps v e)
    go (refused q p) e (bounded_no l m n) = preview_no n

moving_step : (g t s : Bytes) (room : ℕ) (v : Preview) (x : End) → move_call g t s room v ≡ accepted x → step_call g t s room ≡ accepted x
unfolding move_call
moving_step g t s room v x = go (step_call g t s room)
  where
    go : (a : Answer End) → ◌>>=◌ a (λ y. ◌>>◌ (q35 v (records s) y) (accepted y)) ≡ accepted x → a ≡ accepted x
    go (accepted y) h = (and_then (q35 v (records s) y) _ h).1
    go (refused q p) h = accepted≢refused (sym h)

pub move_counted : (g t s : Bytes) (room : ℕ) (v : Preview) → StepCounted (step_report s (move_call g t s room v))
move_counted g t s room v = go (move_call g t s room v) refl (move_bounded g t s room v)
  where
    go : (a : Answer End) → move_call g t s room v ≡ a → Bounded a → StepCounted (step_report s a)
    go (accepted x) e b = counted_yes (step_count g t s room x (moving_step g t s room v x e))
    go (refused q p) e (bounded_no l m n) = counted_no n

-- and so one number holds a step's, a preview's and a move's end and count
pub step_holds : (g t s : Bytes) (room : ℕ) → Holds (step_lower (step_report s (step_call g t s room)))
step_holds g t s room =
    held (λ a. step_lower (step_report s a)) (step_call g t s room) (step_bounded g t s room) (λ q p. refl) λ x e.
    holds_yes {n = end_and_count (end_number x) (end_count (records s) x)} (omega (arith, end_small x, step_count g t s room x e))

pub preview_holds : (g t s : Bytes) (room steps : ℕ) → Holds (preview_lower (preview_call g t s room steps))
preview_holds g t s room steps =
    held preview_lower (preview_call g t s room steps) (preview_bounded g t s room steps) (λ q p. refl) λ v e.
    holds_yes {n = end_and_count v.end v.count} (omega (arith, preview_end g t s room steps v e, preview_count g t s room steps v e))

pub move_holds : (g t s : Bytes) (room : ℕ) (v : Preview) → Holds (step_lower (step_report s (move_call g t s room v)))
move_holds g t s room v =
    held (λ a. step_lower (step_report s a)) (move_call g t s room v) (move_bounded g t s room v) (λ q p. refl) λ x e.
    holds_yes {n = end_and_count (end_number x) (end_count (records s) x)} (omega (arith, end_small x, step_count g t s room x (moving_step g t s room v x e)))

-- What a caller reads off an accepted run's and an accepted step's number is its end and its record count.
pub run_read : (g t s : Bytes) (budget first scratch : ℕ) (x : Ran) → Octets s → run_call g t s budget first scratch ≡ accepted x
    → Reads (packed_number (run_lower (run_report (accepted x)))) x.end (size x.last)
unfolding run_report
run_read g t s budget first scratch x o e = unended x.end (size x.last) (run_ends g t s budget first scratch x o e).last

pub step_read : (g t s : Bytes) (room : ℕ) (x : End) → step_call g t s room ≡ accepted x
    → Reads (packed_number (step_lower (step_report s (accepted x)))) (end_number x) (end_count (records s) x)
step_read g t s room x e = unended (end_number x) (end_count (records s) x) (step_count g t s room x e)

-- What a caller reads off a preview's number that is no refusal is the preview, with the number of steps that is the
-- caller's.
pub preview_read : (g t s : Bytes) (room steps n : ℕ) → n ≡ packed_number (preview_lower (preview_call g t s room steps)) → n < half
    → preview_call g t s room steps ≡ accepted (record { end = end_of n; count = count_of n; steps = steps })
preview_read g t s room steps n h l = go (preview_call g t s room steps) refl (preview_bounded g t s room steps) h
  where
    Wanted : Answer Preview → Type 0
    Wanted a = a ≡ accepted (record { end = end_of n; count = count_of n; steps = steps })

    go : (a : Answer Preview) → preview_call g t s room steps ≡ a → Bounded a → n ≡ packed_number (preview_lower a) → Wanted a
    go (accepted v) e b k =
        let r = unended v.end v.count (preview_count g t s room steps v e) in
        let q = previewed g t s room steps v e in
        let own : v.steps ≡ steps = ap (λ (w : Preview). w.steps) q.2 in
        let end : v.end ≡ end_of n = sym (ap end_of k ∙ r.end_is) in
        let count : v.count ≡ count_of n = sym (ap count_of k ∙ r.count_is) in
        ap₂ (λ (x y : ℕ). accepted (record { end = x; count = y; steps = v.steps })) end count
        ∙ ap (λ (x : ℕ). accepted (record { end = end_of n; count = count_of n; steps = x })) own
    go (refused q p) e (bounded_no l' m o) k = let z : ◌≡◌ {A = ℕ} 0 1 = omega (arith, k) in absurd (omega (arith, z))
