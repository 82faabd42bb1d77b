-- A run of an accepted script.
use Rattle.std.proofs.Common.{◌≡◌, refl, sym, subst, ap, ◌∙◌, [], ◌∷◌, ◌++◌, ℕ, suc, zero, ◌-◌, ◌*◌, ◌≤◌, min, arith}
use Rattle.std.proofs.Common.{length}
use Rattle.calculus.specs.Security.{Security}
use Rattle.calculus.specs.Types.{Ty}
use Rattle.calculus.specs.Subtyping.{Subtype}
use Rattle.calculus.specs.Terms.{Term}
use Rattle.calculus.specs.Reduction.{step}
use Rattle.calculus.specs.Typing.{HasType}
use Rattle.calculus.proofs.Properties.{properties_laws}
use Rattle.calculus.proofs.SecureTyping.{sc_empty}
use Rattle.calculus.proofs.Soundness.{infer_sound}
use Rattle.calculus.proofs.Completeness.{infer_complete}
use Rattle.calculus.proofs.Erased.{erase}
use Rattle.rules.specs.Answer.{Bytes, Octets, accepted}
use Rattle.rules.specs.Limits.{script_width}
use Rattle.rules.specs.Groups.{properties_of}
use Rattle.rules.specs.Types.{type_at}
use Rattle.rules.specs.Script.{encode, term}
use Rattle.rules.specs.Typing.{typing}
use Rattle.rules.specs.Step.{step_in}
use Rattle.rules.specs.Run.{Ran, run}
use Rattle.rules.specs.Strip.{strip_script, strip_types, one_group}
use Rattle.rules.specs.Calls.{zeros, types_check, script_check, check_call, run_call, run_report, first_after}
use Rattle.rules.specs.Reach.{verdict, Accepted}
use Rattle.rules.proofs.PrefixLaws.{encode_length}
use Rattle.rules.proofs.TermCode.{term_code}
use Rattle.rules.proofs.Scripts.{term_encode}
use Rattle.promises.specs.Runs.{moved_to, Reaches, the_script, after_step}
use Rattle.promises.specs.Promises.{Typed, AcceptedRun}
use Rattle.promises.proofs.Tables.{Tables}
use Rattle.promises.proofs.TypesTable.{tables}
use Rattle.promises.proofs.Inference.{agree}
use Rattle.promises.proofs.Stripping.{strip_encode, strip_type, erase_size, erase_depth}
use Rattle.promises.proofs.StrippedTables.{stripped_passes}
use Rattle.promises.proofs.Erased.{one_group_is, erase_formed}
use Rattle.promises.proofs.Runs.{erase_ran, moved_typed, run_safe, run_erased}
use Rattle.promises.proofs.Checked.{Fit, Roomy, script_passed, script_passes}
use Rattle.promises.proofs.Steps.{limited_moves, fit_passes, fit_step_is, fit_moves}
use Rattle.promises.proofs.AcceptedByTheRules.{found_accepted, goes, only}
use Rattle.promises.proofs.RunTerms.{run_terms}

-- a term that fits and has a type, as bytes
module _ (g t : Bytes) (types : types_check g t ≡ accepted tt) (X : Tables g t) where
  abbrev S : Security
  S = properties_of g

  abbrev tab : ℕ → Ty
  tab = type_at t

  pub fit_verdict : (e : Term) → Fit g t e → verdict g t (encode e) ≡ typing S tab [] 0 e
  unfolding check_call
  fit_verdict e F = grind (arith, fit_passes, term_encode)

  -- what is promised of a reached term
  abbrev TypedBelow : Ty → Bytes → Type 0
  TypedBelow type u = (lower : Ty) × Accepted g t u lower × Typed g t u lower × Subtype S lower type

  fit_typed : (e : Term) (type : Ty) → Fit g t e → HasType S tab [] e type → TypedBelow type (encode e)
  fit_typed e type F h =
      let L = properties_laws X.lattice in
      let c = infer_complete L X.table e type sc_empty h in (
        c.0,
        fit_verdict e F ∙ found_accepted (typing S tab [] 0 e) (agree g t X.sums X.functions X.units [] 0 e F.formed ∙ c.1),
        subst (λ (u : Term). HasType S tab [] u c.0) (sym (term_encode e)) (infer_sound L X.table e c.0 sc_empty c.1),
        c.2,
      )

  -- every term that a run reaches
  reached : (room : ℕ) (type : Ty) {budget : ℕ} {s u : Bytes} → Reaches g t room budget s u → (e : Term) → encode e ≡ s → Fit g t e → HasType S tab [] e type
      → TypedBelow type u
  unfolding step_in
  reached room type the_script e p F h = subst (TypedBelow type) p (fit_typed e type F h)
  reached room type (after_step (moved_to {e = e'} m) r) e p F h =
      let x = fit_step_is g t types X room e p F m in
      let y = limited_moves room (step S tab e) e' x in
      reached room type r e' refl (fit_moves g t types X room e e' F x) (moved_typed (properties_laws X.lattice) X.table e e' type h y.0)

one_group_octets : Octets one_group
one_group_octets zero = omega arith
one_group_octets (suc zero) = omega arith
one_group_octets (suc (suc zero)) = omega arith
one_group_octets (suc (suc (suc zero))) = omega arith
one_group_octets (suc (suc (suc (suc i)))) = omega arith

-- two buffers with room
pub two_rooms : (a b : ℕ) (s : Bytes) → length s ≤ a → length s ≤ b → Roomy (a ∷ b ∷ []) s
two_rooms a b s l m zero h = l
two_rooms a b s l m (suc zero) h = m
two_rooms a b s l m (suc (suc i)) h = absurd (omega arith)

-- a run of a term that fits
pub fit_runs : (g t : Bytes) → types_check g t ≡ accepted tt → Tables g t → (e : Term) (budget first scratch : ℕ) → Fit g t e → length (encode e) ≤ first → length (encode e) ≤ scratch
    → run_call g t (encode e) budget first scratch ≡ accepted (run (properties_of g) (type_at t) (min first scratch) budget e)
unfolding run_call
fit_runs g t types X e budget first scratch F l m =
    goes (script_check (first ∷ scratch ∷ []) g t (encode e)) (accepted (run (properties_of g) (type_at t) (min first scratch) budget (term (encode e))))
    (script_passes (first ∷ scratch ∷ []) g t e types X.lattice F (two_rooms first scratch (encode e) l m))
    ∙ ap (λ (x : Term). accepted (run (properties_of g) (type_at t) (min first scratch) budget x)) (term_encode e)

erase_length : (e : Term) → length (encode (erase e)) ≡ length (encode e)
erase_length e = encode_length term_code (erase e) ∙ ap (λ (n : ℕ). script_width * n) (erase_size e) ∙ sym (encode_length term_code e)

erase_fit : (g t : Bytes) (e : Term) → Fit g t e → Fit one_group (strip_types t) (erase e)
erase_fit g t e F = record {
  formed = erase_formed g t 0 e F.formed;
  small = omega (arith, F.small, erase_size e);
  shallow = omega (arith, F.shallow, erase_depth e);
}

same_reports : (x : Ran) → run_report (accepted (erase_ran x)) ≡ run_report (accepted x)
unfolding run_report
same_reports x = ap (λ (n : ℕ). accepted (record { end = x.end; steps = x.steps; count = n })) (erase_size x.last)

last_is_stripped : (x : Ran) (first : Bytes)
    → first_after (accepted (erase_ran x)) first ≡ strip_script (encode x.last) ++ zeros (length first - length (encode x.last))
last_is_stripped x first = grind (arith, strip_encode, erase_length)

-- the promise of a term that fits
fit_promise : (g t : Bytes) → types_check g t ≡ accepted tt → Tables g t → (e : Term) (type : Ty) (budget : ℕ) (first scratch : Bytes) → Fit g t e
    → HasType (properties_of g) (type_at t) [] e type → length (encode e) ≤ length first → length (encode e) ≤ length scratch
    → AcceptedRun g t (encode e) type budget first scratch
fit_promise g t types X e type budget first scratch F h l m =
    let room = min (length first) (length scratch) in
    let L = properties_laws X.lattice in
    let x = run (properties_of g) (type_at t) room budget e in
    let safe = run_safe L X.table room budget e type h in
    let T = run_terms g t types X room budget e F in
    let bare_types = stripped_passes g t types in
    let n = erase_length e in
    record {
      ran = x;
      runs = fit_runs g t types X e budget (length first) (length scratch) F l m;
      not_2 = safe.not_2;
      not_3 = safe.not_3;
      after = T.after;
      from_script = T.from_script;
      each_moves = T.each_moves;
      to_last = T.to_last;
      reaches = T.reaches;
      reached = λ u r. reached g t types X room type r e refl F h;
      bare = erase_ran x;
      bare_runs =
          ap (λ (b : Bytes). run_call one_group (strip_types t) b budget (length first) (length scratch)) (strip_encode e)
          ∙ fit_runs one_group (strip_types t) bare_types (tables one_group (strip_types t) one_group_octets bare_types) (erase e) budget (length first)
          (length scratch) (erase_fit g t e F) (omega arith) (omega arith)
          ∙ ap accepted (run_erased L X.table one_group_is (strip_type t) room budget e type h);
      same_report = same_reports x;
      last_stripped = last_is_stripped x first;
      scratches = (refl, refl);
    }

pub accepted_run : (g t s : Bytes) (type : Ty) (budget : ℕ) (first scratch : Bytes) → Octets g → Octets s → Accepted g t s type → length s ≤ length first
    → length s ≤ length scratch → AcceptedRun g t s type budget first scratch
accepted_run g t s type budget first scratch G O a l m =
    let q = only g t s G O type a in
    let P = script_passed [] g t s O q.0 in
    subst (λ (b : Bytes). AcceptedRun g t b type budget first scratch) P.encoded
    (fit_promise g t P.types (tables g t G P.types) (term s) type budget first scratch P.fit q.1 (rw P.encoded l) (rw P.encoded m))
