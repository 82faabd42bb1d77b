-- Migration: scripts of earlier forms, rewritten, are checked and run as they were.
use Rattle.std.proofs.Common.{◌≡◌, refl, sym, subst, ap, ◌∙◌, List, [], ◌∷◌, ◌↔◌, ℕ, suc, ◌≤◌, ◌<◌, min, arith, le-leb}
use Rattle.std.proofs.Common.{ltb-true, length, IsTrue}
use Rattle.calculus.specs.Security.{Property, Reader, Indirect}
use Rattle.calculus.specs.Types.{Ty, leaf, node, top}
use Rattle.calculus.specs.Terms.{plus, less, Term, var, unit, lam, pair, inj, app, proj, case, protect, mu, literal}
use Rattle.calculus.specs.Terms.{reckon}
use Rattle.calculus.specs.Relabelling.{Labels, relabel_t, relabel}
use Rattle.calculus.specs.Callers.{as_written}
use Rattle.calculus.specs.Creators.{without_creators, without_creators_i, rewriting_labels}
use Rattle.calculus.proofs.Booleans.{both, and_left}
use Rattle.calculus.proofs.SecureTyping.{top_secure}
use Rattle.calculus.proofs.Properties.{properties_laws}
use Rattle.calculus.proofs.Creators.{Least, rewritten_agrees, uncreated_agrees}
use Rattle.calculus.proofs.RelabelledTerms.{relabel_top}
use Rattle.calculus.proofs.RelabelledTypes.{Agrees}
use Rattle.rules.specs.Answer.{Bytes, Octets, Answer, accepted, refused, ◌>>◌}
use Rattle.rules.specs.Limits.{old_script_width}
use Rattle.rules.specs.Groups.{rows, leq, groups_of, properties_of}
use Rattle.rules.specs.Types.{type_at}
use Rattle.rules.specs.Script.{records, encode, term, q13_of}
use Rattle.rules.specs.Typing.{right, typing}
use Rattle.rules.specs.Step.{End, at_value, moves, may_not, wrong_kind, too_big, step_in}
use Rattle.rules.specs.Run.{Ran, run}
use Rattle.rules.specs.Callers.{write_callers}
use Rattle.rules.specs.Rewriting.{widen_types, widen_script, old_types_check, old_script_check, rewriting_types}
use Rattle.rules.specs.Rewriting.{rewriting_script}
use Rattle.rules.specs.Calls.{q1, groups_check, types_check, script_check, check_call, check_call_by, step_call}
use Rattle.rules.specs.Calls.{step_report, run_call, run_call_by, run_report}
use Rattle.rules.proofs.Asked.{and_then}
use Rattle.rules.proofs.Scripts.{term_encode}
use Rattle.rules.proofs.Callers.{callers_length, callers_octets}
use Rattle.rules.proofs.Widening.{widen_script_records, widen_script_octets}
use Rattle.promises.specs.Runs.{moved_to, Reaches, ReachesBy, the_script, after_step}
use Rattle.promises.specs.Migration.{Form, form_1, form_2, Existing, caller_in, earlier, with_callers, new_script}
use Rattle.promises.specs.Migration.{new_labels, new_term, earlier_step, Migration}
use Rattle.promises.proofs.Answers.{accepted_inj, asks, go_on, then_same}
use Rattle.promises.proofs.Tables.{Tables}
use Rattle.promises.proofs.TypesTable.{tables}
use Rattle.promises.proofs.Formed.{Secure, SecureI, Formed}
use Rattle.promises.proofs.Stepping.{Stays}
use Rattle.promises.proofs.Checked.{Fit, script_passed}
use Rattle.promises.proofs.Steps.{moves_inj, ends_differ, fit_passes, fit_steps, fit_step_is, fit_moves_by}
use Rattle.promises.proofs.GroupZero.{group_zero}
use Rattle.promises.proofs.RelabelledBytes.{relabel_size, relabel_depth}
use Rattle.promises.proofs.RelabelledTyping.{relabel_a, relabel_end, relabel_ran, relabel_typing, relabel_step_in}
use Rattle.promises.proofs.RelabelledTyping.{relabel_run}
use Rattle.promises.proofs.WidenedTerms.{widened_type, kept_parse, parsed_term}
use Rattle.promises.proofs.MigratedScripts.{new_term_is, own_group, script_same}

-- who is called doesn't depend on creators
unread : (form : Form) (k : Property) (w : Reader) → caller_in form (without_creators k) w ≡ caller_in form k w
unread form k w = grind arith

-- a type has no recursion in it
no_recursion : (form : Form) (tab : ℕ → Ty) (t : Ty) → relabel_t (rewriting_labels (caller_in form) tab) t ≡ relabel_t (rewriting_labels as_written tab) t
unfolding relabel_t
no_recursion form tab (leaf b k) = refl
no_recursion form tab (node f k s t) = rw (no_recursion form tab s, no_recursion form tab t)

callers_length_in : (form : Form) (t s : Bytes) → length (with_callers form t s) ≡ length s
callers_length_in form t s = grind (arith, callers_length)

same_records : (form : Form) (t s : Bytes) → records (new_script form t s) ≡ records (widen_script s)
same_records form t s = grind (arith, widen_script_records, callers_length_in)

abbrev answer_with : {A B : Type 0} → (A → B) → Answer A → Answer B
answer_with f (accepted a) = accepted (f a)
answer_with f (refused q p) = refused q p

answered : {A B : Type 0} (m : Answer (Unit {0})) (f : A → B) (a : A) → answer_with f (◌>>◌ m (accepted a)) ≡ ◌>>◌ m (accepted (f a))
answered m f a = grind arith

-- Questions 2 to 12 before the others.
types_first : (rooms : List ℕ) (g t s : Bytes) → script_check rooms g t s ≡ accepted tt → types_check g t ≡ accepted tt
unfolding script_check
types_first rooms g t s q = (and_then (types_check g t) _ q).0

groups_first : (g t : Bytes) → types_check g t ≡ accepted tt → groups_check g ≡ accepted tt
unfolding types_check
groups_first g t q = (and_then (groups_check g) _ q).0

module _ (form : Form) (g t s : Bytes) (octets_g : Octets g) where
  abbrev T : Bytes
  T = widen_types t

  abbrev R : Labels
  R = new_labels form t

  abbrev tab : ℕ → Ty
  tab = type_at T

  fixed : (i : ℕ) → relabel_t R (tab i) ≡ tab i
  fixed i = widened_type (caller_in form) tab t i

  module _ (types : types_check g T ≡ accepted tt) where
    zero_least : Least (groups_of g)
    zero_least = group_zero g octets_g (groups_first g T types)

    agrees : Agrees R (earlier form g) (properties_of g) tab
    agrees = rewritten_agrees (groups_of g) (caller_in form) tab zero_least

  -- the earlier rules give a type without creators
  uncreated_answer : relabel_a R (typing (earlier form g) tab [] 0 (term (widen_script s))) ≡ typing (earlier form g) tab [] 0 (term (widen_script s))
  uncreated_answer =
      let e = term (widen_script s) in
      let kept = parsed_term as_written tab (widen_script s) (widen_script s) (kept_parse as_written tab (λ n r. refl) s) in
      let same : (x : Answer Ty) → relabel_a R x ≡ relabel_a (rewriting_labels as_written tab) x = labels in
      same (typing (earlier form g) tab [] 0 e)
      ∙ sym (relabel_typing (uncreated_agrees (groups_of g) (caller_in form) tab (unread form)) (widened_type as_written tab t) [] 0 e)
      ∙ ap (typing (earlier form g) tab [] 0) (sym kept)
    where
      labels : (x : Answer Ty) → relabel_a R x ≡ relabel_a (rewriting_labels as_written tab) x
      labels (accepted u) = ap accepted (no_recursion form tab u)
      labels (refused q p) = refl

  module _ (existing : Existing form s) where
    new_is : types_check g T ≡ accepted tt → term (new_script form t s) ≡ new_term form t (term (widen_script s))
    new_is types = new_term_is form t s (tables g T octets_g types).stands existing

    -- the old questions, and the calls
    asked : old_script_check g t (with_callers form t s) ≡ old_script_check g t s
    unfolding old_script_check
    asked =
        then_same (old_types_check g t) _ _ _ refl λ types.
        then_same (q13_of old_script_width [] (with_callers form t s)) (q13_of old_script_width [] s) _ _ (rw (callers_length_in form t s)) λ length.
        script_same form [] g t s octets_g existing

    types_rewritten : old_script_check g t s ≡ accepted tt → (room : ℕ) → length T ≤ room → rewriting_types g t room ≡ accepted T
    unfolding old_script_check rewriting_types
    types_rewritten q room l = go_on (and_then (old_types_check g t) _ q).0 (go_on (asks 27 0 _ (le-leb (length T) room l)) refl)

    script_rewritten : old_script_check g t s ≡ accepted tt → (room : ℕ) → length (new_script form t s) ≤ room
        → rewriting_script g t (with_callers form t s) room ≡ accepted (new_script form t s)
    unfolding rewriting_script
    script_rewritten q room l = go_on (asked ∙ q) (go_on (asks 27 0 _ (le-leb (length (new_script form t s)) room l)) refl)

    checked : (work answer : ℕ) → check_call work answer g T (new_script form t s) ≡ check_call_by (earlier form g) work answer g T (widen_script s)
    unfolding check_call
    checked work answer =
        ap (λ (m : Answer Ty). ◌>>◌ (q1 work answer) m)
        (then_same (script_check [] g T (new_script form t s)) _ _ _ (script_same form [] g t s octets_g existing) λ q.
        let types = types_first [] g T (widen_script s) q in
        ap (typing (properties_of g) tab [] 0) (new_is types)
        ∙ relabel_typing (agrees types) fixed [] 0 (term (widen_script s))
        ∙ uncreated_answer)

    found_uncreated : (work answer : ℕ) (found : Ty) → check_call work answer g T (new_script form t s) ≡ accepted found → relabel_t R found ≡ found
    found_uncreated work answer found h =
        let a = and_then (q1 work answer) _ (sym (checked work answer) ∙ h) in
        let b = and_then (script_check [] g T (widen_script s)) _ a.1 in
        accepted_inj (ap (relabel_a R) (sym b.1) ∙ uncreated_answer ∙ b.1)

    -- a step or a run that is answered is answered with the earlier one's, rewritten
    steps : (room : ℕ) → step_call g T (new_script form t s) room ≡ answer_with (relabel_end R) (earlier_step form g t room (widen_script s))
    unfolding step_call
    steps room =
        then_same (script_check [] g T (new_script form t s)) _ _ _ (script_same form [] g t s octets_g existing)
        (λ q.
        let types = types_first [] g T (widen_script s) q in
        ap (λ (e : Term). accepted (step_in (properties_of g) tab room e)) (new_is types)
        ∙ ap accepted (relabel_step_in (agrees types) fixed room (term (widen_script s))))
        ∙ sym (answered (script_check [] g T (widen_script s)) (relabel_end R) _)

    runs : (budget first scratch : ℕ)
        → run_call g T (new_script form t s) budget first scratch ≡ answer_with (relabel_ran R) (run_call_by (earlier form g) g T (widen_script s) budget first scratch)
    unfolding run_call
    runs budget first scratch =
        let rooms = first ∷ scratch ∷ [] in
        then_same (script_check rooms g T (new_script form t s)) _ _ _ (script_same form rooms g t s octets_g existing)
        (λ q.
        let types = types_first rooms g T (widen_script s) q in
        ap (λ (e : Term). accepted (run (properties_of g) tab (min first scratch) budget e)) (new_is types)
        ∙ ap accepted (relabel_run (agrees types) fixed (min first scratch) budget (term (widen_script s))))
        ∙ sym (answered (script_check rooms g T (widen_script s)) (relabel_ran R) _)

    stepped : (room : ℕ)
        → step_report (new_script form t s) (step_call g T (new_script form t s) room) ≡ step_report (widen_script s) (earlier_step form g t room (widen_script s))
    stepped room = rw (steps room) (go (earlier_step form g t room (widen_script s)))
      where
        own : records (new_script form t s) ≡ records (widen_script s)
        own = same_records form t s

        go : (x : Answer End) → step_report (new_script form t s) (answer_with (relabel_end R) x) ≡ step_report (widen_script s) x
        go (accepted (moves e)) = rw (relabel_size R e)
        go (refused q p) = refl
        go _ = rw own

    reported : (budget first scratch : ℕ)
        → run_report (run_call g T (new_script form t s) budget first scratch) ≡ run_report (run_call_by (earlier form g) g T (widen_script s) budget first scratch)
    unfolding run_report
    reported budget first scratch = rw (runs budget first scratch) (go (run_call_by (earlier form g) g T (widen_script s) budget first scratch))
      where
        go : (x : Answer Ran) → run_report (answer_with (relabel_ran R) x) ≡ run_report x
        go (accepted x) = rw (relabel_size R x.last)
        go (refused q p) = refl

    last : (budget first scratch : ℕ) (now before : Ran) → run_call g T (new_script form t s) budget first scratch ≡ accepted now
        → run_call_by (earlier form g) g T (widen_script s) budget first scratch ≡ accepted before → now.last ≡ new_term form t before.last
    last budget first scratch now before h k =
        ap (λ (x : Ran). x.last) (accepted_inj (sym h ∙ runs budget first scratch ∙ ap (answer_with (relabel_ran R)) k))

-- Group 0 is in every table that passes, so what is without creators is formed as it was.
module _ (form : Form) (g t : Bytes) (octets_g : Octets g) (types : types_check g (widen_types t) ≡ accepted tt) where
  abbrev X : Tables g (widen_types t)
  X = tables g (widen_types t) octets_g types

  own_zero : IsTrue (leq g 0 0)
  own_zero = (zero_least form g t t octets_g types).leq

  group_of_zero : IsTrue ((groups_of g).group 0)
  group_of_zero = X.lattice.groups_only 0 0 own_zero

  called_group : (f : Form) (i : ℕ) (w : Reader) → w < rows g → caller_in f (top (type_at (widen_types t) i)) w < rows g
  called_group form_1 i w l = ltb-true _ _ (own_group g (widen_types t) X i)
  called_group form_2 i w l = l

  uncreated_secure : (k : Property) → Secure g k → Secure g (without_creators k)
  uncreated_secure k h = both (and_left (leq g k.ir k.r) (leq g k.ic k.c) h) own_zero

  uncreated_secure_i : (m : Indirect) → SecureI g m → SecureI g (without_creators_i m)
  uncreated_secure_i m h = both (and_left ((groups_of g).group m.ir) ((groups_of g).group m.ic) h) group_of_zero

  new_formed : (n : ℕ) (e : Term) → Formed g (widen_types t) n e → Formed g (widen_types t) n (new_term form t e)
  unfolding Formed relabel
  new_formed n (var m) F = F
  new_formed n (unit k) F = uncreated_secure k F
  new_formed n (lam k i e) F = (uncreated_secure k F.0, F.1, new_formed (suc n) e F.2)
  new_formed n (pair k a b) F = (uncreated_secure k F.0, new_formed n a F.1, new_formed n b F.2)
  new_formed n (inj d k i e) F = (uncreated_secure k F.0, F.1, F.2, new_formed n e F.3)
  new_formed n (app w f a) F = (F.0, new_formed n f F.1, new_formed n a F.2)
  new_formed n (proj d w e) F = (F.0, new_formed n e F.1)
  new_formed n (case w i e a b) F = (F.0, F.1, new_formed n e F.2, new_formed (suc n) a F.3, new_formed (suc n) b F.4)
  new_formed n (protect m e) F = (uncreated_secure_i m F.0, new_formed n e F.1)
  new_formed n (mu w i e) F = (called_group form i w F.0, F.1, F.2, new_formed (suc n) e F.3)
  new_formed n (literal k m) F = (uncreated_secure k F.0, F.1)
  new_formed n (reckon plus w a b) F = (F.0, new_formed n a F.1, new_formed n b F.2)
  new_formed n (reckon (less i) w a b) F = (F.0, F.1, F.2, new_formed n a F.3, new_formed n b F.4)

  new_fit : (e : Term) → Fit g (widen_types t) e → Fit g (widen_types t) (new_term form t e)
  new_fit e F = record {
    formed = new_formed 0 e F.formed;
    small = omega (arith, F.small, relabel_size (new_labels form t) e);
    shallow = omega (arith, F.shallow, relabel_depth (new_labels form t) e);
  }

  -- the earlier rules make groups of groups
  earlier_caller : (f : Form) (k : Property) (w : Reader) → k.r < rows g → w < rows g → caller_in f k w < rows g
  earlier_caller f k w r l = grind arith

  earlier_stays : Stays g (earlier form g)
  earlier_stays =
      let laws = properties_laws X.lattice in
      record {
        raise = λ k m h i. uncreated_secure ((properties_of g).raise k m) (laws.raise_secure k m h i);
        fresh = λ k w p. both own_zero own_zero;
        influence = λ k w h p. uncreated_secure_i ((properties_of g).influence k w) (laws.influence_secure k w h p);
        caller = earlier_caller form;
      }

  -- Steps of a term that fits, by either rules.
  module _ (room : ℕ) where
    abbrev now : Term → End
    now e = step_in (properties_of g) (type_at (widen_types t)) room e

    abbrev before : Term → End
    before e = step_in (earlier form g) (type_at (widen_types t)) room e

    now_is : (e : Term) → now (new_term form t e) ≡ relabel_end (new_labels form t) (before e)
    now_is e = relabel_step_in (agrees form g t t octets_g types) (fixed form g t t octets_g) room e

    before_steps : (e : Term) → Fit g (widen_types t) e → earlier_step form g t room (encode e) ≡ accepted (before e)
    before_steps e F = rw (fit_passes g (widen_types t) types X e F, term_encode e)

    before_fit : (e e' : Term) → Fit g (widen_types t) e → before e ≡ moves e' → Fit g (widen_types t) e'
    before_fit e e' F h = fit_moves_by g (widen_types t) types X earlier_stays room e e' F h

    -- a rewritten term moves where the earlier one did, to its rewritten term
    moved_before : {P : Type 0} {e' : Term} (x : End) → relabel_end (new_labels form t) x ≡ moves e' → ((e : Term) → x ≡ moves e → new_term form t e ≡ e' → P) → P
    moved_before at_value h k = ends_differ at_value (moves _) (λ x. omega arith) h
    moved_before (moves e) h k = k e refl (moves_inj h)
    moved_before may_not h k = ends_differ may_not (moves _) (λ x. omega arith) h
    moved_before wrong_kind h k = ends_differ wrong_kind (moves _) (λ x. omega arith) h
    moved_before too_big h k = ends_differ too_big (moves _) (λ x. omega arith) h

    abbrev Earlier : ℕ → Bytes → Bytes → Type 0
    Earlier budget s v = ReachesBy (earlier_step form g t room) budget s v

    new_bytes : (e : Term) → encode (new_term form t e) ≡ encode (new_term form t (term (encode e)))
    new_bytes e = ap (λ (x : Term). encode (new_term form t x)) (sym (term_encode e))

    forth : {budget : ℕ} {s u : Bytes} (e : Term) → Fit g (widen_types t) e → encode (new_term form t e) ≡ s → Reaches g (widen_types t) room budget s u
        → (v : Bytes) × Earlier budget (encode e) v × (u ≡ encode (new_term form t (term v)))
    forth e F p the_script = (encode e, the_script, sym p ∙ new_bytes e)
    forth e F p (after_step (moved_to {e = e₁} m) r) =
        moved_before (before e) (sym (now_is e) ∙ fit_step_is g (widen_types t) types X room (new_term form t e) p (new_fit e F) m) λ e' h q.
        let z = forth e' (before_fit e e' F h) (ap encode q) r in
        (z.0, after_step (moved_to (before_steps e F ∙ ap accepted h)) z.1, z.2)

    back : {budget : ℕ} {s v : Bytes} (e : Term) → Fit g (widen_types t) e → encode e ≡ s → Earlier budget s v
        → Reaches g (widen_types t) room budget (encode (new_term form t e)) (encode (new_term form t (term v)))
    back {budget} e F p the_script =
        subst (λ (b : Bytes). Reaches g (widen_types t) room budget (encode (new_term form t e)) b)
        (new_bytes e ∙ ap (λ (b : Bytes). encode (new_term form t (term b))) p) the_script
    back e F p (after_step (moved_to {e = e'} m) r) =
        let h : before e ≡ moves e' = accepted_inj (sym (before_steps e F) ∙ ap (earlier_step form g t room) p ∙ m) in
        let h' = now_is e ∙ ap (relabel_end (new_labels form t)) h in
        after_step (moved_to (fit_steps g (widen_types t) types X room (new_term form t e) (new_fit e F) ∙ ap accepted h'))
        (back e' (before_fit e e' F h) refl r)

new_octets : (form : Form) (t s : Bytes) → Octets t → Octets s → Octets (new_script form t s)
new_octets form_1 t s p q = widen_script_octets (write_callers t s) (callers_octets t s p q)
new_octets form_2 t s p q = widen_script_octets s q

reached : (form : Form) (g t s : Bytes) → Octets g → Octets t → Octets s → Existing form s → script_check [] g (widen_types t) (widen_script s) ≡ accepted tt
    → (room budget : ℕ) (u : Bytes)
    → Reaches g (widen_types t) room budget (new_script form t s) u
    ↔ ((v : Bytes) × ReachesBy (earlier_step form g t room) budget (widen_script s) v × (u ≡ encode (new_term form t (term v))))
reached form g t s octets_g octets_t octets_s existing q room budget u =
    let T = widen_types t in
    let S = widen_script s in
    let P = script_passed [] g T S (widen_script_octets s octets_s) q in
    let P' = script_passed [] g T (new_script form t s) (new_octets form t s octets_t octets_s) (script_same form [] g t s octets_g existing ∙ q) in
    let new : encode (new_term form t (term S)) ≡ new_script form t s =
    ap encode (sym (new_is form g t s octets_g existing P.types)) ∙ P'.encoded in (
      λ r.
          let z = forth form g t octets_g P.types room (term S) P.fit new r in
          (z.0, subst (λ (b : Bytes). ReachesBy (earlier_step form g t room) budget b z.0) P.encoded z.1, z.2),
      λ z.
          rw z.2
          (subst (λ (b : Bytes). Reaches g T room budget b (encode (new_term form t (term z.0)))) new
          (back form g t octets_g P.types room (term S) P.fit P.encoded z.1)),
    )

-- Group 0 stands for the creators of a widened type, and of its sides.
abbrev NoCreators : Ty → Type 0
NoCreators u = ((top u).ic ≡ 0) × ((top (right u)).c ≡ 0)

relabelled_creators : (tab : ℕ → Ty) (u : Ty) → NoCreators (relabel_t (rewriting_labels as_written tab) u)
unfolding relabel_t
relabelled_creators tab (leaf b k) = (refl, refl)
relabelled_creators tab (node f k s t) = (refl, ap (λ (k : Property). k.c) (relabel_top (rewriting_labels as_written tab) t))

widened_creators : (t : Bytes) (i : ℕ) → NoCreators (type_at (widen_types t) i)
widened_creators t i =
    let tab = type_at (widen_types t) in
    subst NoCreators (widened_type as_written tab t i) (relabelled_creators tab (tab i))

pub migration : Migration
migration = record {
  migrated = λ form g t s G O P E. record {
    asked = asked form g t s G E;
    types_rewritten = types_rewritten form g t s G E;
    script_rewritten = script_rewritten form g t s G E;
    checked = checked form g t s G E;
    uncreated = found_uncreated form g t s G E;
    stepped = stepped form g t s G E;
    reported = reported form g t s G E;
    last = last form g t s G E;
    reached = reached form g t s G O P E;
  };
  unasked_21 = λ g t G types i place w l.
      let X = tables g t G types in
      asks 21 place _ (X.lattice.self_right _ _ (and_left _ _ (top_secure (properties_of g) (type_at t i) (X.table.secure i))));
  unasked_23 = λ g t G groups i w.
      let zero = group_zero g G groups in
      let none = widened_creators t i in
      rw (none.0, none.1, zero.meet w) zero.leq;
}
