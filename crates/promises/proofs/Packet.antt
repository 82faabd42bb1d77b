-- Every packet is what building the application by hand gives.
use Rattle.std.proofs.Common.{◌≡◌, refl, sym, ap, ap₂, subst, ◌∙◌, true, [], ◌∷◌, ℕ, zero, suc, ◌+◌, ◌≤◌, ◌<◌, min}
use Rattle.std.proofs.Common.{arith, leb-true, le-leb, ltb-true, lt-ltb, nat_le, nat_lt, length}
use Rattle.calculus.specs.Security.{Security}
use Rattle.calculus.specs.Types.{Ty, function, top, raise_t}
use Rattle.calculus.specs.Subtyping.{subtype, below}
use Rattle.calculus.specs.Terms.{Term, app, is_value}
use Rattle.rules.specs.Answer.{Bytes, Octets, Answer, accepted, refused, ◌>>=◌, ◌>>◌}
use Rattle.rules.specs.Limits.{work_length, script_limit, depth_limit}
use Rattle.rules.specs.Groups.{rows, properties_of, q2}
use Rattle.rules.specs.Types.{type_at}
use Rattle.rules.specs.Script.{encode, records, term, size, depth, script_record, signature_of, ok15, q13, q19}
use Rattle.rules.specs.Typing.{has_form, left, right, q20, q21, q22, typing}
use Rattle.rules.specs.Step.{End, moves, step_in}
use Rattle.rules.specs.Run.{Ran, run}
use Rattle.rules.specs.Sheet.{sheet}
use Rattle.rules.specs.Calls.{q25, q26, q27, groups_check, types_check, form_check, own_check, script_check, check_call}
use Rattle.rules.specs.Calls.{run_call, sheet_call}
use Rattle.rules.specs.Reach.{Accepted}
use Rattle.rules.specs.Profile.{ok39, q39, AcceptedInProfile}
use Rattle.rules.specs.Packet.{application, q1_work, q39_if, q37, q38, q18_whole, before_typing, application_check}
use Rattle.rules.specs.Packet.{desk_check, desk_run, Packet, packet_of_run, packet_call}
use Rattle.rules.proofs.Asked.{ask_true, and_then, few_rows}
use Rattle.rules.proofs.Form.{form_yes}
use Rattle.rules.proofs.Octets.{octets_append}
use Rattle.rules.proofs.Nodes.{every_node}
use Rattle.rules.proofs.NodeQuestions.{asked_of_nodes, asked_of_records}
use Rattle.rules.proofs.ScriptLength.{q13_fitting, q13_encode}
use Rattle.rules.proofs.Scripts.{term_encode, records_encode}
use Rattle.rules.proofs.Search.{each_all}
use Rattle.promises.specs.Profile.{Finishes}
use Rattle.promises.specs.Packet.{page_by_hand, by_hand, AsByHand, Applicable, PacketByHand}
use Rattle.promises.proofs.Answers.{accepted≢refused, accepted_inj, go_on, asks, both}
use Rattle.promises.proofs.Checked.{Fit, Passed, script_passed}
use Rattle.promises.proofs.Formed.{Formed}
use Rattle.promises.proofs.Inference.{forget, agree}
use Rattle.promises.proofs.Noninterference.{ends_0}
use Rattle.promises.proofs.PacketQuestions.{issuing_is, packet_questions}
use Rattle.promises.proofs.Profile.{ok39_record, in_profile, page_scripts}
use Rattle.promises.proofs.AcceptedByTheRules.{found_accepted, goes}
use Rattle.promises.proofs.Steps.{fit_passes, fit_moves}
use Rattle.promises.proofs.Tables.{Tables}
use Rattle.promises.proofs.TypesTable.{tables}
use Rattle.promises.proofs.AcceptedRun.{fit_verdict, fit_runs, two_rooms, accepted_run}

-- what an accepted answer was found by
pub record BoundAnswer {A B : Type 0} (m : Answer A) (f : A → Answer B) (x : B) : Type 0 where
  pub what : A
  pub is : m ≡ accepted what
  pub goes_on : f what ≡ accepted x

pub bind_then : {A B : Type 0} (m : Answer A) (f : A → Answer B) {x : B} → ◌>>=◌ m f ≡ accepted x → BoundAnswer m f x
bind_then (accepted a) f h = record { what = a; is = refl; goes_on = h }
bind_then (refused q p) f h = accepted≢refused (sym h)

-- the application's bytes
pub built : (group : ℕ) (f a : Term) → encode (app group f a) ≡ application group (encode f) (encode a)
unfolding encode
built group f a = refl

built_octets : (group : ℕ) (script entry : Bytes) → group < 256 → Octets script → Octets entry → Octets (application group script entry)
built_octets group script entry l O E (suc zero) = l
built_octets group script entry l O E (suc (suc (suc (suc (suc (suc (suc (suc i)))))))) = octets_append script entry O E i
built_octets group script entry l O E _ = omega arith

-- few groups: each is a byte
pub byte_group : (g : Bytes) (group : ℕ) → groups_check g ≡ accepted tt → group < rows g → group < 256
unfolding groups_check
byte_group g group h l = let q = and_then (q2 g) _ h in omega (arith, few_rows g q.0, l)

-- the rule of an application, from and to what its operands have
record Applied (S : Security) (tab : ℕ → Ty) (w : ℕ) (f a : Term) (type : Ty) : Type 0 where
  pub s : Ty
  pub u : Ty
  pub first : typing S tab [] 1 f ≡ accepted s
  pub function_type : has_form function s ≡ true
  pub reads : S.permits (top s) w ≡ true
  pub second : typing S tab [] (1 + size f) a ≡ accepted u
  pub below_left : subtype S below u (left s) ≡ true
  pub is : type ≡ raise_t S (right s) (S.influence (top s) w)

module _ (S : Security) (tab : ℕ → Ty) (w : ℕ) (f a : Term) where
  applied : (type : Ty) → typing S tab [] 0 (app w f a) ≡ accepted type → Applied S tab w f a type
  unfolding typing
  applied type h =
      let x = bind_then (typing S tab [] 1 f) _ h in
      let y = and_then (q20 0 function x.what) _ x.goes_on in
      let z = and_then (q21 S 0 x.what w) _ y.1 in
      let v = bind_then (typing S tab [] (1 + size f) a) _ z.1 in
      let b = and_then (q22 S 0 v.what (left x.what)) _ v.goes_on in
      record {
        s = x.what;
        u = v.what;
        first = x.is;
        function_type = ask_true 20 0 (has_form function x.what) y.0;
        reads = ask_true 21 0 (S.permits (top x.what) w) z.0;
        second = v.is;
        below_left = ask_true 22 0 (subtype S below v.what (left x.what)) b.0;
        is = sym (accepted_inj b.1);
      }

  apply_typed : (type : Ty) → Applied S tab w f a type → typing S tab [] 0 (app w f a) ≡ accepted type
  unfolding typing
  apply_typed type A = grind arith

-- what a run leaves
module _ (g t : Bytes) (types : types_check g t ≡ accepted tt) (X : Tables g t) (room : ℕ) where
  pub run_fits : (budget : ℕ) (e : Term) → Fit g t e → Fit g t (run (properties_of g) (type_at t) room budget e).last
  unfolding run
  run_fits zero e F = F
  run_fits (suc budget) e F = go (step_in (properties_of g) (type_at t) room e) refl (λ e' h. run_fits budget e' (fit_moves g t types X room e e' F h))
    where
      go : (x : End) → step_in (properties_of g) (type_at t) room e ≡ x
          → ((e' : Term) → step_in (properties_of g) (type_at t) room e ≡ moves e' → Fit g t (run (properties_of g) (type_at t) room budget e').last)
          → Fit g t (run (properties_of g) (type_at t) room (suc budget) e).last
      go (moves e') h ih = rw (h, run) (ih e' h)
      go _ h ih = rw (h, run) F

-- the sheet's questions of a value that fits, but for the last
fit_sheet : (g t : Bytes) (types : types_check g t ≡ accepted tt) (X : Tables g t) (group room : ℕ) (v : Term) → Fit g t v → group < rows g → is_value v ≡ true
    → sheet_call g t (encode v) group room ≡ ◌>>◌ (q27 (sheet g group v) room) (accepted (sheet g group v))
unfolding sheet_call
fit_sheet g t types X group room v F l h = grind (arith, fit_passes, nat_lt, lt-ltb, term_encode)

-- The packet of a run, and the sheet's call with its last term.
same_page : (g t : Bytes) (group room : ℕ) (x : Ran) → (x.end ≡ 0 → sheet_call g t (encode x.last) group room ≡ ◌>>◌ (q27 (sheet g group x.last) room) (accepted (sheet g group x.last)))
    → packet_of_run g group room x ≡ ◌>>=◌ (page_by_hand g t group room x) (λ b. accepted (record { ran = x; page = b }))
same_page g t group room x same = grind arith

-- 39 of an application is 39 of both
free_application : (group : ℕ) (f a : Term) → q39 (encode f) ≡ accepted tt → q39 (encode a) ≡ accepted tt → q39 (encode (app group f a)) ≡ accepted tt
unfolding ok39
free_application group f a p q =
    asked_of_records 39 ok39 ok39_record (app group f a)
    (every_node own (asked_of_nodes 39 ok39 ok39_record f p, (asked_of_nodes 39 ok39 ok39_record a q, tt)))
  where
    own : ok39 (script_record 6 group 0 0) 0 ≡ true
    own = refl

-- under the profile, 39 is asked
asked_39 : (profile : ℕ) (s : Bytes) → (profile ≡ 0 → ⊥) → q39_if profile s ≡ q39 s
unfolding q39_if
asked_39 profile s n = grind arith

unasked_39 : (profile : ℕ) (s : Bytes) → ((profile ≡ 0 → ⊥) → q39 s ≡ accepted tt) → q39_if profile s ≡ accepted tt
unfolding q39_if
unasked_39 profile s h = grind arith

module _ (g t script entry : Bytes) (G : Octets g) (O : Octets script) (E : Octets entry) (group budget profile work first scratch : ℕ) where
  abbrev S : Security
  S = properties_of g

  abbrev tab : ℕ → Ty
  tab = type_at t

  abbrev whole : Bytes
  whole = application group script entry

  abbrev tree : Term
  tree = app group (term script) (term entry)

  -- the questions, all answered yes
  record Parts : Type 0 where
    pub work_long : q1_work work ≡ accepted tt
    pub script_yes : script_check [] g t script ≡ accepted tt
    pub script_free : q39_if profile script ≡ accepted tt
    pub s : Ty
    pub script_typed : typing S tab [] 0 (term script) ≡ accepted s
    pub entry_yes : own_check [] g t entry ≡ accepted tt
    pub entry_free : q39_if profile entry ≡ accepted tt
    pub u : Ty
    pub entry_typed : typing S tab [] 0 (term entry) ≡ accepted u
    pub value : q26 (term entry) ≡ accepted tt
    pub group_in : q25 0 group (rows g) ≡ accepted tt
    pub function_type : q37 s ≡ accepted tt
    pub reads : q21 S 0 s group ≡ accepted tt
    pub below_left : q38 S u s ≡ accepted tt
    pub long : q13 (first ∷ scratch ∷ []) whole ≡ accepted tt
    pub shallow : q18_whole whole ≡ accepted tt

  parts : desk_check g t script entry group profile work first scratch ≡ accepted tt → Parts
  unfolding desk_check before_typing application_check
  parts h =
      let a = and_then (before_typing g t script profile work) _ h in
      let b = and_then (q1_work work) _ a.0 in
      let c = and_then (script_check [] g t script) (q39_if profile script) b.1 in
      let x = bind_then (typing S tab [] 0 (term script)) _ a.1 in
      let d = and_then (own_check [] g t entry) _ x.goes_on in
      let e = and_then (q39_if profile entry) _ d.1 in
      let y = bind_then (typing S tab [] 0 (term entry)) _ e.1 in
      let i = and_then (q26 (term entry)) _ y.goes_on in
      let j = and_then (q25 0 group (rows g)) _ i.1 in
      let k = and_then (q37 x.what) _ j.1 in
      let l = and_then (q21 S 0 x.what group) _ k.1 in
      let m = and_then (q38 S y.what x.what) _ l.1 in
      let n = and_then (q13 (first ∷ scratch ∷ []) whole) (q18_whole whole) m.1 in
      record {
        work_long = b.0;
        script_yes = c.0;
        script_free = c.1;
        s = x.what;
        script_typed = x.is;
        entry_yes = d.0;
        entry_free = e.0;
        u = y.what;
        entry_typed = y.is;
        value = i.0;
        group_in = j.0;
        function_type = k.0;
        reads = l.0;
        below_left = m.0;
        long = n.0;
        shallow = n.1;
      }

  together : Parts → desk_check g t script entry group profile work first scratch ≡ accepted tt
  unfolding desk_check before_typing application_check
  together P = grind arith

  -- script and entry, each a term that fits
  record Both : Type 0 where
    pub types : types_check g t ≡ accepted tt
    pub script_passed : Passed [] g t script
    pub entry_passed : Passed [] g t entry

  both_pass : script_check [] g t script ≡ accepted tt → own_check [] g t entry ≡ accepted tt → Both
  unfolding script_check
  both_pass p q =
      let P = script_passed [] g t script O p in
      record {
        types = P.types;
        script_passed = P;
        entry_passed = script_passed [] g t entry E (go_on P.types q);
      }

  tables_of : Both → Tables g t
  tables_of B = tables g t G B.types

  tree_bytes : Both → encode tree ≡ whole
  tree_bytes B =
      built group (term script) (term entry) ∙ ap₂ (application group) B.script_passed.encoded B.entry_passed.encoded

  term_whole : Both → term whole ≡ tree
  term_whole B = ap term (sym (tree_bytes B)) ∙ term_encode tree

  -- typing finds the same at any place
  typed_at : Both → (p p' : ℕ) (e : Term) → Formed g t 0 e → (type : Ty) → typing S tab [] p e ≡ accepted type → typing S tab [] p' e ≡ accepted type
  typed_at B p p' e F type h =
      let X = tables_of B in
      found_accepted (typing S tab [] p' e)
      (agree g t X.sums X.functions X.units [] p' e F ∙ sym (agree g t X.sums X.functions X.units [] p e F) ∙ ap forget h)

  fits : Both → group < rows g → size tree ≤ script_limit → depth tree ≤ depth_limit → Fit g t tree
  unfolding Formed
  fits B l m n = record { formed = (l, B.script_passed.fit.formed, B.entry_passed.fit.formed); small = m; shallow = n }

  -- what the questions tell of the application
  group_low : Parts → group < rows g
  group_low P = ltb-true group (rows g) (ask_true 25 0 (nat_lt group (rows g)) P.group_in)

  tree_size : Both → size tree ≡ records whole
  tree_size B = sym (records_encode tree) ∙ ap records (tree_bytes B)

  fit_tree : Both → Parts → Fit g t tree
  fit_tree B P =
      let F = q13_fitting (first ∷ scratch ∷ []) whole P.long in
      let d = leb-true (depth (term whole)) depth_limit (ask_true 18 0 (nat_le (depth (term whole)) depth_limit) P.shallow) in
      fits B (group_low P) (omega (arith, tree_size B, F.limited)) (subst (λ (e : Term). depth e ≤ depth_limit) (term_whole B) d)

  holding : Parts → (length whole ≤ first) × (length whole ≤ scratch)
  holding P = grind (arith, q13_fitting)

  abbrev type_of : Parts → Ty
  type_of P = raise_t S (right P.s) (S.influence (top P.s) group)

  tree_typed : Both → (P : Parts) → typing S tab [] 0 tree ≡ accepted (type_of P)
  tree_typed B P =
      apply_typed S tab group (term script) (term entry) (type_of P)
      (record {
        s = P.s;
        u = P.u;
        first = typed_at B 0 1 (term script) B.script_passed.fit.formed P.s P.script_typed;
        function_type = ask_true 37 0 (has_form function P.s) P.function_type;
        reads = ask_true 21 0 (S.permits (top P.s) group) P.reads;
        second = typed_at B 0 (1 + size (term script)) (term entry) B.entry_passed.fit.formed P.u P.entry_typed;
        below_left = ask_true 38 0 (subtype S below P.u (left P.s)) P.below_left;
        is = refl;
      })

  both_of : Parts → Both
  both_of P = both_pass P.script_yes P.entry_yes

  whole_octets : Both → group < rows g → Octets whole
  unfolding types_check
  whole_octets B l = built_octets group script entry (byte_group g group (and_then (groups_check g) _ B.types).0 l) O E

  whole_accepted : (B : Both) (P : Parts) → Accepted g t whole (type_of P)
  whole_accepted B P =
      subst (λ (b : Bytes). Accepted g t b (type_of P)) (tree_bytes B) (fit_verdict g t B.types (tables_of B) tree (fit_tree B P) ∙ tree_typed B P)

  -- its run by hand, and the packet's
  abbrev ran : Ran
  ran = run S tab (min first scratch) budget tree

  hand_runs : Both → Parts → run_call g t whole budget first scratch ≡ accepted ran
  hand_runs B P =
      let l = holding P in
      let h = tree_bytes B in
      subst (λ (b : Bytes). run_call g t b budget first scratch ≡ accepted ran) h
      (fit_runs g t B.types (tables_of B) tree budget first scratch (fit_tree B P) (rw h l.0) (rw h l.1))

  desk_runs : Both → desk_check g t script entry group profile work first scratch ≡ accepted tt
      → desk_run g t script entry group budget profile work first scratch ≡ accepted ran
  unfolding desk_run
  desk_runs B h = go_on h (ap (λ (e : Term). accepted (run S tab (min first scratch) budget e)) (term_whole B))

  hand_packet : (room : ℕ) (B : Both) (P : Parts)
      → packet_of_run g group room ran ≡ by_hand g t whole group budget first scratch room
  hand_packet room B P =
      let X = tables_of B in
      let F = run_fits g t B.types X (min first scratch) budget tree (fit_tree B P) in
      same_page g t group room ran
      (λ e. fit_sheet g t B.types X group room ran.last F (group_low P) ((ends_0 S tab (min first scratch) budget tree e).ended))
      ∙ sym
      (ap (λ (m : Answer Ran). ◌>>=◌ m (λ x. ◌>>=◌ (page_by_hand g t group room x) (λ b. accepted (packet_of x b)))) (hand_runs B P))
    where
      packet_of : Ran → Bytes → Packet
      packet_of x b = record { ran = x; page = b }

  same_packet : (room : ℕ) (B : Both) (P : Parts) → desk_check g t script entry group profile work first scratch ≡ accepted tt
      → packet_call g t script entry group budget profile work first scratch room ≡ by_hand g t whole group budget first scratch room
  same_packet room B P h = grind (arith, issuing_is, term_whole, hand_packet)

  -- the profile's promise
  whole_free : Both → Parts → (profile ≡ 0 → ⊥) → q39 whole ≡ accepted tt
  whole_free B P n =
      let p = sym (asked_39 profile script n) ∙ P.script_free in
      let q = sym (asked_39 profile entry n) ∙ P.entry_free in
      subst (λ (b : Bytes). q39 b ≡ accepted tt) (tree_bytes B)
      (free_application group (term script) (term entry) (rw B.script_passed.encoded p) (rw B.entry_passed.encoded q))

  finishing : (B : Both) (P : Parts) → (profile ≡ 0 → ⊥) → AcceptedInProfile g t whole (type_of P) × Finishes g t whole
  finishing B P n =
      let W = whole_octets B (group_low P) in
      let a = in_profile g t whole G W (type_of P) (whole_accepted B P) (whole_free B P n) in
      (a, (page_scripts g t whole G W).finishes (type_of P) a)

  -- a script that checking accepts
  accepted_by : (s : Bytes) (type : Ty) → script_check [] g t s ≡ accepted tt → typing S tab [] 0 (term s) ≡ accepted type → Accepted g t s type
  unfolding check_call
  accepted_by s type p q = go_on p q

  accepted_parts : (s : Bytes) (type : Ty) → Accepted g t s type → (script_check [] g t s ≡ accepted tt) × (typing S tab [] 0 (term s) ≡ accepted type)
  unfolding check_call
  accepted_parts s type a = and_then (script_check [] g t s) (typing S tab [] 0 (term s)) a

  applicable : (B : Both) → Parts → Applicable g t script entry group profile work first scratch
  unfolding script_check
  applicable B P = record {
    room_to_type = leb-true work_length work (ask_true 1 0 (nat_le work_length work) P.work_long);
    script_type = P.s;
    script_accepted = accepted_by script P.s P.script_yes P.script_typed;
    entry_type = P.u;
    entry_accepted = accepted_by entry P.u (go_on B.types P.entry_yes) P.entry_typed;
    value = ask_true 26 0 (is_value (term entry)) P.value;
    type = type_of P;
    accepts = whole_accepted B P;
    first_holds = (holding P).0;
    scratch_holds = (holding P).1;
    free = λ n. (sym (asked_39 profile script n) ∙ P.script_free, sym (asked_39 profile entry n) ∙ P.entry_free);
  }

  -- 15 of the application's own record
  group_named : script_check [] g t whole ≡ accepted tt → group < rows g
  unfolding own_check script_check ok15 signature_of
  group_named h =
      let a = and_then (types_check g t) _ h in
      let b = and_then (q13 [] whole) _ a.1 in
      let f = form_yes g t whole (and_then (form_check g t whole) (q19 whole) b.1).0 in
      let F = q13_fitting [] whole b.0 in
      ltb-true group (rows g) (both (nat_lt group (rows g)) _ (each_all 15 (records whole) (ok15 g whole) f.groups 0 (omega (arith, F.some_record)))).0

  -- the questions of a script that is accepted
  entry_asked : script_check [] g t entry ≡ accepted tt → own_check [] g t entry ≡ accepted tt
  unfolding script_check
  entry_asked h = (and_then (types_check g t) (own_check [] g t entry) h).1

  applied_whole : (B : Both) → (type : Ty) → typing S tab [] 0 (term whole) ≡ accepted type → Applied S tab group (term script) (term entry) type
  applied_whole B type h =
      applied S tab group (term script) (term entry) type (subst (λ (e : Term). typing S tab [] 0 e ≡ accepted type) (term_whole B) h)

  one_type : Both → (p : ℕ) (e : Term) → Formed g t 0 e → (s s' : Ty) → typing S tab [] 0 e ≡ accepted s → typing S tab [] p e ≡ accepted s' → s' ≡ s
  one_type B p e F s s' h k = accepted_inj (sym k ∙ typed_at B 0 p e F s h)

  from_applicable : Applicable g t script entry group profile work first scratch → Parts
  from_applicable A =
      let a = accepted_parts script A.script_type A.script_accepted in
      let b = accepted_parts entry A.entry_type A.entry_accepted in
      let c = accepted_parts whole A.type A.accepts in
      let y = entry_asked b.0 in
      let B = both_pass a.0 y in
      let l = group_named c.0 in
      let P = script_passed [] g t whole (whole_octets B l) c.0 in
      let W = applied_whole B A.type c.1 in
      let f = one_type B 1 (term script) B.script_passed.fit.formed A.script_type W.s a.1 W.first in
      let n = one_type B (1 + size (term script)) (term entry) B.entry_passed.fit.formed A.entry_type W.u b.1 W.second in
      let small : size tree ≤ script_limit = subst (λ (e : Term). size e ≤ script_limit) (term_whole B) P.fit.small in
      record {
        work_long = asks 1 0 (nat_le work_length work) (le-leb work_length work A.room_to_type);
        script_yes = a.0;
        script_free = unasked_39 profile script (λ z. (A.free z).0);
        s = A.script_type;
        script_typed = a.1;
        entry_yes = y;
        entry_free = unasked_39 profile entry (λ z. (A.free z).1);
        u = A.entry_type;
        entry_typed = b.1;
        value = asks 26 0 (is_value (term entry)) A.value;
        group_in = asks 25 0 (nat_lt group (rows g)) (lt-ltb group (rows g) l);
        function_type = asks 37 0 (has_form function A.script_type) (ap (has_form function) (sym f) ∙ W.function_type);
        reads = asks 21 0 (S.permits (top A.script_type) group) (ap (λ (s : Ty). S.permits (top s) group) (sym f) ∙ W.reads);
        below_left = asks 38 0 (subtype S below A.entry_type (left A.script_type))
            (ap₂ (λ (u s : Ty). subtype S below u (left s)) (sym n) (sym f) ∙ W.below_left);
        long = subst (λ (b : Bytes). q13 (first ∷ scratch ∷ []) b ≡ accepted tt) (tree_bytes B)
            (q13_encode (first ∷ scratch ∷ []) tree small
            (two_rooms first scratch (encode tree) (rw (tree_bytes B) A.first_holds) (rw (tree_bytes B) A.scratch_holds)));
        shallow = asks 18 0 (nat_le (depth (term whole)) depth_limit) (le-leb (depth (term whole)) depth_limit P.fit.shallow);
      }

module _ (g t script entry : Bytes) (group budget profile work : ℕ) (first scratch : Bytes) (room : ℕ) (G : Octets g) (O : Octets script) (E : Octets entry) where
  abbrev Asked : Type 0
  Asked = desk_check g t script entry group profile work (length first) (length scratch) ≡ accepted tt

  abbrev AllYes : Type 0
  AllYes = Parts g t script entry G O E group budget profile work (length first) (length scratch)

  all_yes : Asked → AllYes
  all_yes h = parts g t script entry G O E group budget profile work (length first) (length scratch) h

  -- as by hand, with the promise of an accepted run for the application
  as_by_hand : Asked → AsByHand g t script entry group budget profile work first scratch room
  as_by_hand h =
      let P = all_yes h in
      let B = both_of g t script entry G O E group budget profile work (length first) (length scratch) P in
      let l = group_low g t script entry G O E group budget profile work (length first) (length scratch) P in
      let a = whole_accepted g t script entry G O E group budget profile work (length first) (length scratch) B P in
      let hand = hand_runs g t script entry G O E group budget profile work (length first) (length scratch) B P in
      let desk = desk_runs g t script entry G O E group budget profile work (length first) (length scratch) B h in
      let held = holding g t script entry G O E group budget profile work (length first) (length scratch) P in
      let W = whole_octets g t script entry G O E group budget profile work (length first) (length scratch) B l in
      let type = type_of g t script entry G O E group budget profile work (length first) (length scratch) P in
      let D = accepted_run g t (application group script entry) type budget first scratch G W a held.0 held.1 in
      record {
        type = type;
        accepts = a;
        same_run = desk ∙ sym hand;
        same_packet = same_packet g t script entry G O E group budget profile work (length first) (length scratch) room B P h;
        promise = D;
        same_ran = desk ∙ sym hand ∙ D.runs;
        not_2 = D.not_2;
        not_3 = D.not_3;
        in_profile = finishing g t script entry G O E group budget profile work (length first) (length scratch) B P;
      }

  pub packet_by_hand : PacketByHand g t script entry group budget profile work first scratch room
  packet_by_hand = record {
    asks = packet_questions g t script entry group budget profile work (length first) (length scratch) room;
    equals = as_by_hand;
    runs_when = (
      λ h.
          let P = all_yes h in
          applicable g t script entry G O E group budget profile work (length first) (length scratch)
          (both_of g t script entry G O E group budget profile work (length first) (length scratch) P) P,
      λ A.
          together g t script entry G O E group budget profile work (length first) (length scratch)
          (from_applicable g t script entry G O E group budget profile work (length first) (length scratch) A),
    );
  }

-- An application whose questions are answered yes, for a run that starts from its bytes.
pub record RunnableApplication (g t script entry : Bytes) (group budget profile work first scratch : ℕ) (ran : Ran) : Type 0 where
  pub octets : Octets (application group script entry)
  pub passed : script_check [] g t (application group script entry) ≡ accepted tt
  pub in_first : length (application group script entry) ≤ first
  pub in_scratch : length (application group script entry) ≤ scratch
  pub narrow : group < 256
  pub tree : term (application group script entry) ≡ app group (term script) (term entry)
  pub as_by_hand : (room : ℕ) → packet_call g t script entry group budget profile work first scratch room
      ≡ by_hand g t (application group script entry) group budget first scratch room
  pub runs : desk_run g t script entry group budget profile work first scratch ≡ accepted ran
  pub shows : ran.end ≡ 0 → (room : ℕ) → sheet_call g t (encode ran.last) group room ≡ ◌>>◌ (q27 (sheet g group ran.last) room) (accepted (sheet g group ran.last))

module _ (g t script entry : Bytes) (G : Octets g) (O : Octets script) (E : Octets entry) (group budget profile work first scratch : ℕ) where
  abbrev started : Ran
  started = run (properties_of g) (type_at t) (min first scratch) budget (term (application group script entry))

  pub ready : desk_check g t script entry group profile work first scratch ≡ accepted tt → RunnableApplication g t script entry group budget profile work first scratch started
  unfolding desk_run types_check
  ready h =
      let P = parts g t script entry G O E group budget profile work first scratch h in
      let B = both_of g t script entry G O E group budget profile work first scratch P in
      let X = tables_of g t script entry G O E group budget profile work first scratch B in
      let F = fit_tree g t script entry G O E group budget profile work first scratch B P in
      let l = group_low g t script entry G O E group budget profile work first scratch P in
      let held = holding g t script entry G O E group budget profile work first scratch P in
      let e = app group (term script) (term entry) in
      let ran = run (properties_of g) (type_at t) (min first scratch) budget e in
      let same : ran ≡ started = ap (run (properties_of g) (type_at t) (min first scratch) budget) (sym (term_whole g t script entry G O E group budget profile work first scratch B)) in
      record {
        octets = whole_octets g t script entry G O E group budget profile work first scratch B l;
        passed = subst (λ (b : Bytes). script_check [] g t b ≡ accepted tt) (tree_bytes g t script entry G O E group budget profile work first scratch B)
            (fit_passes g t B.types X e F);
        in_first = held.0;
        in_scratch = held.1;
        narrow = byte_group g group (and_then (groups_check g) _ B.types).0 l;
        tree = term_whole g t script entry G O E group budget profile work first scratch B;
        as_by_hand = λ room. same_packet g t script entry G O E group budget profile work first scratch room B P h;
        runs = goes (desk_check g t script entry group profile work first scratch) _ h;
        shows = subst
            (λ (x : Ran). x.end ≡ 0 → (room : ℕ)
            → sheet_call g t (encode x.last) group room ≡ ◌>>◌ (q27 (sheet g group x.last) room) (accepted (sheet g group x.last)))
            same
            (λ z room. fit_sheet g t B.types X group room ran.last (run_fits g t B.types X (min first scratch) budget e F) l
            ((ends_0 (properties_of g) (type_at t) (min first scratch) budget e z).ended));
      }
