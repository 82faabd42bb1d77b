-- Two runs of scripts that differ in a part that isn't seen, or that others made, end with one value.
use Rattle.std.proofs.Common.{◌≡◌, refl, ap, subst, ◌∙◌, Bool, true, false, cond, List, [], ◌∷◌, ℕ, suc, zero, min}
use Rattle.std.proofs.Common.{arith}
use Rattle.calculus.specs.Security.{Security}
use Rattle.calculus.specs.Types.{Ty}
use Rattle.calculus.specs.Terms.{Term, is_value}
use Rattle.calculus.specs.Reduction.{Outcome, value, moved, denied, stuck, Reduces, step}
use Rattle.calculus.specs.Runs.{runs_end, runs_on}
use Rattle.calculus.specs.Typing.{HasType, Table}
use Rattle.calculus.proofs.Reduction.{step_value, step_reduces}
use Rattle.noninterference.specs.Noninterference as terms
use Rattle.noninterference.specs.Noninterference.{EndsInValue, OneValue}
use Rattle.noninterference.proofs.Noninterference.{one_value, one_made}
use Rattle.rules.specs.Answer.{Bytes, Octets, accepted}
use Rattle.rules.specs.Groups.{groups_of, properties_of}
use Rattle.rules.specs.Types.{type_at}
use Rattle.rules.specs.Script.{encode, term, records}
use Rattle.rules.specs.Sheet.{sheet}
use Rattle.rules.specs.Step.{exceeds, step_in}
use Rattle.rules.specs.Run.{Ran, run}
use Rattle.rules.specs.Calls.{script_check, run_call, sheet_call}
use Rattle.rules.proofs.Asked.{and_then}
use Rattle.noninterference.specs.Places as places
use Rattle.noninterference.specs.Places.{Place, put}
use Rattle.calculus.specs.Groups.{Lattice}
use Rattle.promises.specs.Noninterference.{Exchanged, Unseen, BothEnd, SameValue, Noninterference, OneMade}
use Rattle.promises.proofs.Answers.{accepted_inj}
use Rattle.promises.proofs.Checked.{script_passed}
use Rattle.promises.proofs.TypesTable.{tables}
use Rattle.promises.proofs.AcceptedByTheRules.{reported}
use Rattle.promises.proofs.RecordKinds.{same_records}
use Rattle.promises.proofs.PlaceBytes.{place_around, of_terms, of_bytes, octets_between}

-- A run that ends 0 comes to a value, whatever its limits.
more_steps : {S : Security} {tab : ℕ → Ty} {e e' v : Term} → Reduces S tab e e' → EndsInValue S tab e' v → EndsInValue S tab e v
more_steps r x = record { steps = suc x.steps; runs = runs_on r x.runs; ended = x.ended }

module _ (S : Security) (tab : ℕ → Ty) (room : ℕ) where
  pub ends_0 : (budget : ℕ) (e : Term) → (run S tab room budget e).end ≡ 0 → EndsInValue S tab e (run S tab room budget e).last
  unfolding run step_in
  ends_0 zero e h = go (is_value e) refl h
    where
      go : (b : Bool) → is_value e ≡ b → ◌≡◌ {A = ℕ} (cond b 0 1) 0 → EndsInValue S tab e e
      go true v h = record { steps = 0; runs = runs_end; ended = v }
      go false v h = absurd (omega arith)
  ends_0 (suc budget) e h = go (step S tab e) refl (λ e'. ends_0 budget e') h
    where
      big : (b : Bool) (e' : Term) → step S tab e ≡ moved e' → exceeds room e' ≡ b → ((run S tab room budget e').end ≡ 0 → EndsInValue S tab e' (run S tab room budget e').last)
          → (run S tab room (suc budget) e).end ≡ 0 → EndsInValue S tab e (run S tab room (suc budget) e).last
      big true e' m x ih = rw (m, x, run, step_in) (λ h. absurd (omega arith))
      big false e' m x ih = rw (m, x, run, step_in) (λ h. more_steps (step_reduces S tab e e' m) (ih h))

      go : (o : Outcome) → step S tab e ≡ o → ((e' : Term) → (run S tab room budget e').end ≡ 0 → EndsInValue S tab e' (run S tab room budget e').last)
          → (run S tab room (suc budget) e).end ≡ 0 → EndsInValue S tab e (run S tab room (suc budget) e).last
      go value m ih = rw (m, run, step_in) (λ h. record { steps = 0; runs = runs_end; ended = step_value S tab e m })
      go (moved e') m ih = big (exceeds room e') e' m refl (ih e')
      go denied m ih = rw (m, run, step_in) (λ h. absurd (omega arith))
      go stuck m ih = rw (m, run, step_in) (λ h. absurd (omega arith))

-- What a run that isn't refused and ends 0 says of its script.
pub record Run0 (g t w : Bytes) (ran : Ran) : Type 0 where
  pub rooms : List ℕ
  pub passed : script_check rooms g t w ≡ accepted tt
  pub ends : EndsInValue (properties_of g) (type_at t) (term w) ran.last
  pub room : ℕ
  pub budget : ℕ
  pub is : run (properties_of g) (type_at t) room budget (term w) ≡ ran

pub run_0 : (g t w : Bytes) (budget first scratch : ℕ) (ran : Ran) → run_call g t w budget first scratch ≡ accepted ran → ran.end ≡ 0 → Run0 g t w ran
unfolding run_call
run_0 g t w budget first scratch ran h z =
    let p = and_then (script_check (first ∷ scratch ∷ []) g t w) _ h in
    let room = min first scratch in
    let same : run (properties_of g) (type_at t) room budget (term w) ≡ ran = accepted_inj p.1 in
    record {
      rooms = first ∷ scratch ∷ [];
      passed = p.0;
      ends =
          subst (λ (x : Ran). EndsInValue (properties_of g) (type_at t) (term w) x.last) same
          (ends_0 (properties_of g) (type_at t) room budget (term w) (ap (λ (x : Ran). x.end) same ∙ z));
      room = room;
      budget = budget;
      is = same;
    }

-- An exchange of bytes is one of terms.
record OnTerms (g t a b : Bytes) (part type : Ty) (ran ran' : Ran) : Type 0 where
  lattice : Lattice (groups_of g)
  table : Table (properties_of g) (type_at t)
  place : Place
  exchanged : terms.Exchanged (groups_of g) (type_at t) place (term a) (term b) part type
  first : EndsInValue (properties_of g) (type_at t) (put place (term a)) ran.last
  second : EndsInValue (properties_of g) (type_at t) (put place (term b)) ran'.last

on_terms : (g t a b w w' : Bytes) (part type : Ty) (ran ran' : Ran) → Octets g → Octets w → Octets w' → Exchanged g t a b w w' part type
    → BothEnd g t w w' ran ran' → OnTerms g t a b part type ran ran'
on_terms g t a b w w' part type ran ran' octets_g octets_w octets_w' U E =
    let p = U.placed in
    let x = run_0 g t w E.budget E.first E.scratch ran E.runs E.ends_0 in
    let x' = run_0 g t w' E.budget' E.first' E.scratch' ran' E.runs' E.ends_0' in
    let W = script_passed x.rooms g t w octets_w x.passed in
    let A = reported g t a octets_g (octets_between p.before a p.after w p.first octets_w) part U.first_reported in
    let octets_b = octets_between p.before b p.after w' p.second octets_w' in
    let B = reported g t b octets_g octets_b part U.second_reported in
    let X = tables g t octets_g W.types in
    let encoded_a = (script_passed [] g t a (octets_between p.before a p.after w p.first octets_w) A.0).encoded in
    let T = of_terms a b w w' encoded_a (script_passed [] g t b octets_b B.0).encoded W.encoded p in
    record {
      lattice = X.lattice;
      table = X.table;
      place = T.place;
      exchanged = record {
        first_reported = A.1;
        second_reported = B.1;
        first_typed = subst (λ (e : Term). HasType (properties_of g) (type_at t) [] e type) T.first U.first_typed;
        second_typed = subst (λ (e : Term). HasType (properties_of g) (type_at t) [] e type) T.second U.second_typed;
      };
      first = subst (λ (e : Term). EndsInValue (properties_of g) (type_at t) e ran.last) T.first x.ends;
      second = subst (λ (e : Term). EndsInValue (properties_of g) (type_at t) e ran'.last) T.second x'.ends;
    }

same_value : (g t : Bytes) (ran ran' : Ran) → ran.last ≡ ran'.last → SameValue g t ran ran'
same_value g t ran ran' e = record {
  terms = e;
  bytes = ap encode e;
  buffers = λ old old' l. rw (e, l);
  sheets = λ group. ap (sheet g group) e;
  sheet_calls = λ group room. ap (λ (v : Term). sheet_call g t (encode v) group room) e;
}

one_seen : (g t a b w w' : Bytes) (part type : Ty) (ran ran' : Ran) → Octets g → Octets w → Octets w' → Unseen g t a b w w' part type
    → BothEnd g t w w' ran ran' → ran.last ≡ ran'.last
unfolding OneValue
one_seen g t a b w w' part type ran ran' G W W' U E =
    let x = on_terms g t a b w w' part type ran ran' G W W' U.exchanged E in
    one_value (groups_of g) (type_at t) x.place (term a) (term b) ran.last ran'.last part type x.lattice x.table
    (record { exchanged = x.exchanged; read_whole = U.read_whole; not_seen = U.not_seen }) x.first x.second

pub nothing_learned_of_scripts : Noninterference
nothing_learned_of_scripts = record {
  nothing_learned = λ g t a b w w' part type ran ran' G W W' U E.
      let e = ap places.shown_records (one_seen g t a b w w' part type ran ran' G W W' U E) in ((same_records ran.last ran'.last).1 e, e);
  one_value = λ g t a b w w' part type ran ran' G W W' U E. same_value g t ran ran' (one_seen g t a b w w' part type ran ran' G W W' U E);
  same_place = λ a b w w' A B W W'. (λ S. of_terms a b w w' A B W S, λ T. of_bytes a b w w' A B W W' T);
  same_records = same_records;
  place_bytes = λ P.
      let x = place_around P in
      let l = x.1.length_is in
      (x.1.before, x.1.after, omega arith, x.1.is);
}

pub one_made_of_scripts : OneMade
unfolding OneMade terms.OneMade
one_made_of_scripts g t a b w w' part type ran ran' G W W' U E =
    let x = on_terms g t a b w w' part type ran ran' G W W' U.exchanged E in
    same_value g t ran ran'
    (one_made (groups_of g) (type_at t) x.place (term a) (term b) ran.last ran'.last part type x.lattice x.table
    (record { exchanged = x.exchanged; made_whole = U.made_whole; not_made = U.not_made }) x.first x.second)
