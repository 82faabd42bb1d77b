-- A script in the profile has no recursion, so it comes to a value, and a run that meets no limit ends there.
use Rattle.std.proofs.Common.{◌≡◌, refl, sym, ap, ◌∙◌, Bool, true, false, not, ◌↔◌, [], ◌∷◌, ℕ, suc, zero, ◌≤◌, ◌<◌}
use Rattle.std.proofs.Common.{min, arith, eqb-true, eq-eqb, le-leb, nat_eq}
use Rattle.std.proofs.Math.Bool.{false≢true}
use Rattle.calculus.specs.Security.{Security}
use Rattle.calculus.specs.Types.{Ty}
use Rattle.calculus.specs.Terms.{Term, var, unit, lam, pair, inj, app, proj, case, protect, mu, literal, reckon}
use Rattle.calculus.specs.Terms.{is_value}
use Rattle.calculus.specs.Runs.{Runs, runs_end, runs_on}
use Rattle.calculus.proofs.Properties.{properties_laws}
use Rattle.calculus.proofs.Reduction.{reduces_step}
use Rattle.calculus.proofs.Values.{value_step}
use Rattle.termination.specs.Profile.{recursion_free}
use Rattle.termination.proofs.Termination.{termination}
use Rattle.rules.specs.Answer.{Bytes, Octets, Answer, accepted, ◌>>◌}
use Rattle.rules.specs.Limits.{script_width, work_length, answer_length}
use Rattle.rules.specs.Groups.{properties_of}
use Rattle.rules.specs.Types.{type_at}
use Rattle.rules.specs.Script.{encode, records, kind, term}
use Rattle.rules.specs.Typing.{typing}
use Rattle.rules.specs.Step.{exceeds, step_in}
use Rattle.rules.specs.Run.{Ran, one_step_more, run}
use Rattle.rules.specs.Calls.{q1, script_check, check_call, run_call}
use Rattle.rules.specs.Reach.{Accepted}
use Rattle.rules.specs.Profile.{ok39, q39, profile_checking, AcceptedInProfile}
use Rattle.rules.proofs.Asked.{and_then}
use Rattle.rules.proofs.Search.{each_all, each_accepted}
use Rattle.rules.proofs.Prefix.{record_at}
use Rattle.rules.proofs.Nodes.{Every, every_here, every_below}
use Rattle.rules.proofs.TermCode.{term_shape, term_head}
use Rattle.rules.proofs.RecordFields.{kind_is}
use Rattle.rules.proofs.NodeQuestions.{asked_of_nodes}
use Rattle.promises.specs.Profile.{Finishes, InProfile}
use Rattle.promises.proofs.Answers.{accepted_inj, go_on, and_true}
use Rattle.promises.proofs.Checked.{script_passed}
use Rattle.promises.proofs.TypesTable.{tables}
use Rattle.promises.proofs.AcceptedByTheRules.{only}

-- 39 looks at one record
pub ok39_record : (s : Bytes) (i : ℕ) → ok39 (record_at script_width s i) 0 ≡ ok39 s i
unfolding ok39
ok39_record s i = rw (kind_is s i)

abbrev Free : Term → Type 0
Free e = Every term_shape (λ c. ok39 (term_head c) 0 ≡ true) e

-- no node is a recursion
free_nodes : (e : Term) → Free e → recursion_free e ≡ true
unfolding recursion_free ok39
free_nodes (var n) F = refl
free_nodes (unit k) F = refl
free_nodes (lam k i e) F = free_nodes e (every_below F).0
free_nodes (pair k a b) F = and_true (free_nodes a (every_below F).0) (free_nodes b (every_below F).1.0)
free_nodes (inj d k i e) F = free_nodes e (every_below F).0
free_nodes (app w f a) F = and_true (free_nodes f (every_below F).0) (free_nodes a (every_below F).1.0)
free_nodes (proj d w e) F = free_nodes e (every_below F).0
free_nodes (case w i e a b) F =
    and_true (free_nodes e (every_below F).0) (and_true (free_nodes a (every_below F).1.0) (free_nodes b (every_below F).1.1.0))
free_nodes (protect m e) F = free_nodes e (every_below F).0
free_nodes (mu w i e) F = absurd (false≢true (every_here F))
free_nodes (literal k n) F = refl
free_nodes (reckon o w a b) F = and_true (free_nodes a (every_below F).0) (free_nodes b (every_below F).1.0)

q39_free : (e : Term) → q39 (encode e) ≡ accepted tt → recursion_free e ≡ true
q39_free e q = free_nodes e (asked_of_nodes 39 ok39 ok39_record e q)

-- 39 in the words of records
not_11 : (s : Bytes) (i : ℕ) → ok39 s i ≡ true → kind s i ≡ 11 → ⊥
unfolding ok39
not_11 s i h k = false≢true (ap not (sym (eq-eqb (kind s i) 11 k)) ∙ h)

is_39 : (s : Bytes) (i : ℕ) → (kind s i ≡ 11 → ⊥) → ok39 s i ≡ true
unfolding ok39
is_39 s i n = grind arith

-- A run that has the budget for the way to the value, and meets no limit, goes it.
run_to_value : {S : Security} {tab : ℕ → Ty} {n : ℕ} {e v : Term} (room budget : ℕ) → Runs S tab n e v → is_value v ≡ true → n ≤ budget
    → ((run S tab room budget e).end ≡ 4 → ⊥) → run S tab room budget e ≡ record { end = 0; steps = n; last = v }
unfolding run step_in
run_to_value room zero (runs_end {e = e}) h l unmet = rw h refl
run_to_value {S} {tab} room (suc budget) (runs_end {e = e}) h l unmet = rw (value_step S tab e h, run, step_in) refl
run_to_value room zero (runs_on r rs) h l unmet = absurd (omega arith)
run_to_value {S} {tab} room (suc budget) (runs_on {n} {e} {e'} {e''} r rs) h l unmet =
    go (exceeds room e') refl (λ m. run_to_value room budget rs h (omega arith) m)
  where
    go : (b : Bool) → exceeds room e' ≡ b → (((run S tab room budget e').end ≡ 4 → ⊥) → run S tab room budget e' ≡ record { end = 0; steps = n; last = e'' })
        → run S tab room (suc budget) e ≡ record { end = 0; steps = suc n; last = e'' }
    go true x ih = absurd (unmet (rw (reduces_step S tab r, x, run, step_in) refl))
    go false x ih = rw (reduces_step S tab r, x, run, step_in) (ap one_step_more (ih (λ q. unmet (rw (reduces_step S tab r, x, run, step_in) q))))

module _ (g t s : Bytes) (octets_g : Octets g) (octets_s : Octets s) where
  -- the questions before typing, and the type
  record Parts (type : Ty) : Type 0 where
    pub script : script_check [] g t s ≡ accepted tt
    pub free : q39 s ≡ accepted tt
    pub typed : typing (properties_of g) (type_at t) [] 0 (term s) ≡ accepted type

  parts : (type : Ty) → AcceptedInProfile g t s type → Parts type
  unfolding profile_checking
  parts type a =
      let p = and_then (q1 work_length answer_length) _ a in
      let c = and_then (script_check [] g t s) _ p.1 in
      let f = and_then (q39 s) _ c.1 in
      record { script = c.0; free = f.0; typed = f.1 }

  as_checked : (type : Ty) → Parts type → Accepted g t s type
  unfolding check_call
  as_checked type p = go_on p.script p.typed

  pub in_profile : (type : Ty) → Accepted g t s type → q39 s ≡ accepted tt → AcceptedInProfile g t s type
  unfolding check_call profile_checking
  in_profile type a f =
      let p = and_then (script_check [] g t s) _ a in
      go_on p.0 (go_on f p.1)

  admits : (type : Ty) → AcceptedInProfile g t s type ↔ (Accepted g t s type × ((i : ℕ) → i < records s → kind s i ≡ 11 → ⊥))
  admits type = (
    λ a. let p = parts type a in (as_checked type p, λ i l. not_11 s i (each_all 39 (records s) (ok39 s) p.free i l)),
    λ a. in_profile type a.0 (each_accepted 39 (records s) (ok39 s) (λ i l. is_39 s i (a.1 i l))),
  )

  free : (type : Ty) → Parts type → recursion_free (term s) ≡ true
  free type p = q39_free (term s) (rw ((script_passed [] g t s octets_s p.script).encoded) p.free)

  finishes : (type : Ty) → AcceptedInProfile g t s type → Finishes g t s
  unfolding run_call
  finishes type a =
      let p = parts type a in
      let P = script_passed [] g t s octets_s p.script in
      let X = tables g t octets_g P.types in
      let x = termination (properties_laws X.lattice) X.table (term s) type (only g t s octets_g octets_s type (as_checked type p)).1 (free type p) in
      record {
        steps = x.0;
        value = x.1;
        runs = x.2;
        stands = x.3;
        ends_0 = λ budget first scratch ran l h unmet.
            ended (script_check (first ∷ scratch ∷ []) g t s) (min first scratch) x.2 x.3 l h unmet;
      }
    where
      ended : {steps budget : ℕ} {v : Term} {ran : Ran} (asked : Answer (Unit {0})) (room : ℕ) → Runs (properties_of g) (type_at t) steps (term s) v → is_value v ≡ true → steps ≤ budget
          → ◌>>◌ asked (accepted (run (properties_of g) (type_at t) room budget (term s))) ≡ accepted ran → (ran.end ≡ 4 → ⊥)
          → (ran.end ≡ 0) × (ran.steps ≡ steps) × (ran.last ≡ v)
      ended {steps} {budget} {v} {ran} asked room r h l k unmet =
          let same = accepted_inj (and_then asked _ k).1 in
          let e = sym same ∙ run_to_value room budget r h l (λ q. unmet (ap (λ (y : Ran). y.end) (sym same) ∙ q)) in
          (ap (λ (y : Ran). y.end) e, ap (λ (y : Ran). y.steps) e, ap (λ (y : Ran). y.last) e)

-- longer buffers than question 1 asks answer as those that it asks
pub longer_in_profile : (g t s : Bytes) (work answer : ℕ) → work_length ≤ work → answer_length ≤ answer
    → profile_checking work answer g t s ≡ profile_checking work_length answer_length g t s
unfolding profile_checking
longer_in_profile g t s work answer l m = grind arith

pub page_scripts : (g t s : Bytes) → Octets g → Octets s → InProfile g t s
page_scripts g t s G O = record {
  admits = admits g t s G O;
  without_recursion = λ type a. free g t s G O type (parts g t s G O type a);
  finishes = finishes g t s G O;
}
