-- Two runs of scripts that differ only in what is hidden end alike, and a reader's pages are equal.
use Rattle.std.proofs.Common.{◌≡◌, ℕ, Bool, false, IsTrue, refl, sym, ap, subst, ◌∙◌, [], arith, lt-ltb}
use Rattle.std.proofs.Math.Bool.{false≢true}
use Rattle.calculus.specs.Security.{Property}
use Rattle.calculus.specs.Groups.{Groups, Lattice}
use Rattle.calculus.specs.Terms.{first, second, plus, less, Term, var, unit, lam, pair, inj, app, proj, case, protect}
use Rattle.calculus.specs.Terms.{mu, literal, reckon, is_value}
use Rattle.calculus.proofs.Booleans.{and_left, and_right}
use Rattle.calculus.proofs.Properties.{properties_laws}
use Rattle.noninterference.specs.Hidden as terms
use Rattle.noninterference.specs.Hidden.{Observer, dark, Alike, both_dark, applications, Labelled, Observes, Clear}
use Rattle.noninterference.specs.Hidden.{AlikeRunsEndAlike, AlikeAtAPlace}
use Rattle.noninterference.specs.Observers.{reader_at, who_trusts, exact, ReadersObserve, WhoTrustsObserves}
use Rattle.noninterference.specs.Observers.{ExactObserves, ClearIsOne}
use Rattle.noninterference.proofs.Alike.{alike_runs_end_alike, or_left}
use Rattle.noninterference.proofs.ObserverLaws.{readers_observe, who_trusts_observes, exact_observes, alike_at_a_place}
use Rattle.noninterference.proofs.ObserverLaws.{clear_is_one}
use Rattle.rules.specs.Answer.{Bytes, Octets, accepted}
use Rattle.rules.specs.Groups.{rows, leq, groups_of, properties_of}
use Rattle.rules.specs.Script.{encode, term}
use Rattle.rules.specs.Run.{Ran}
use Rattle.rules.specs.Sheet.{sheet}
use Rattle.rules.specs.Calls.{q25, q26, q27, script_check, run_call, sheet_call}
use Rattle.rules.specs.Packet.{application, desk_check, desk_run, Packet, packet_call}
use Rattle.rules.proofs.Asked.{and_then}
use Rattle.rules.proofs.Scripts.{term_encode}
use Rattle.promises.specs.Closed.{Closed, closed_unit, closed_function, closed_pair, closed_injection, closed_literal, ClosedObjectsClose}
use Rattle.promises.specs.Closed.{SameReaders, AlikeOutside, closed_in_both}
use Rattle.promises.specs.Closed as outside
use Rattle.promises.specs.Noninterference.{BothEnd}
use Rattle.promises.specs.Packet.{page_by_hand}
use Rattle.promises.specs.Exchange.{SameSheets, SheetsTellNothing, LastAlike, LastIsOne, reader_exactly}
use Rattle.promises.specs.Exchange.{who_trusts_exactly, unread, unmade, PartsOf, PartUnread, PartUnmade, Desk}
use Rattle.promises.specs.Exchange.{packet_of, SamePages}
use Rattle.promises.proofs.Answers.{accepted_inj}
use Rattle.promises.proofs.Formed.{Formed}
use Rattle.promises.proofs.Checked.{Fit, Passed, script_passed}
use Rattle.promises.proofs.Tables.{Tables}
use Rattle.promises.proofs.TypesTable.{tables}
use Rattle.promises.proofs.Steps.{fit_passes}
use Rattle.promises.proofs.PlaceBytes.{of_terms}
use Rattle.promises.proofs.Closed.{closed_objects_close}
use Rattle.promises.proofs.Packet.{bind_then, run_fits, ready}
use Rattle.promises.proofs.Noninterference.{Run0, run_0}

-- Questions 15 and 36 put the labels in order.
formed_labelled : (g t : Bytes) (n : ℕ) (e : Term) → Formed g t n e → Labelled (properties_of g) e
unfolding Formed
formed_labelled g t n (var m) f = tt
formed_labelled g t n (unit k) f = f
formed_labelled g t n (lam k i e) f = (f.0, formed_labelled g t _ e f.2)
formed_labelled g t n (pair k a b) f = (f.0, formed_labelled g t n a f.1, formed_labelled g t n b f.2)
formed_labelled g t n (inj d k i e) f = (f.0, formed_labelled g t n e f.3)
formed_labelled g t n (app w f a) x = (formed_labelled g t n f x.1, formed_labelled g t n a x.2)
formed_labelled g t n (proj d w e) f = formed_labelled g t n e f.1
formed_labelled g t n (case w i e a b) f = (formed_labelled g t n e f.2, formed_labelled g t _ a f.3, formed_labelled g t _ b f.4)
formed_labelled g t n (protect m e) f = (f.0, formed_labelled g t n e f.1)
formed_labelled g t n (mu w i e) f = formed_labelled g t _ e f.3
formed_labelled g t n (literal k m) f = f.0
formed_labelled g t n (reckon plus w a b) f = (formed_labelled g t n a f.1, formed_labelled g t n b f.2)
formed_labelled g t n (reckon (less i) w a b) f = (formed_labelled g t n a f.3, formed_labelled g t n b f.4)

-- What is hidden from a group is closed on its sheet, since ir ⊑ r.
module _ (g : Bytes) (X : Lattice (groups_of g)) (group : ℕ) where
  abbrev O : Observer
  O = reader_at (groups_of g) group

  hidden_closed : (k : Property) → IsTrue ((properties_of g).secure k) → IsTrue (O.hidden k) → leq g k.r group ≡ false
  hidden_closed k h x = let p = X.trans k.ir k.r group (and_left _ _ h) in grind (arith, p, x)

  dark_closed : (v : Term) → IsTrue (is_value v) → Labelled (properties_of g) v → IsTrue (dark O v) → Closed g group v
  unfolding is_value dark
  dark_closed (unit k) h p x = closed_unit (hidden_closed k p x)
  dark_closed (lam k i e) h p x = closed_function (hidden_closed k p.0 x)
  dark_closed (pair k a b) h p x = closed_pair (hidden_closed k p.0 x)
  dark_closed (inj d k i e) h p x = closed_injection (hidden_closed k p.0 x)
  dark_closed (literal k n) h p x = closed_literal (hidden_closed k p x)
  dark_closed _ h p x = absurd (false≢true h)

  same_readers : (k l : Property) → O.object k ≡ O.object l → SameReaders k l
  same_readers k l e = (ap (λ (p : Property). p.r) e, ap (λ (p : Property). p.ir) e)

  alike_outside : {v v' : Term} → Alike O v v' → IsTrue (is_value v) → IsTrue (is_value v') → Labelled (properties_of g) v → Labelled (properties_of g) v'
      → AlikeOutside g group v v'
  unfolding is_value
  alike_outside (both_dark {e = v} {e' = v'} x y) h h' p p' = closed_in_both (dark_closed v h p x) (dark_closed v' h' p' y)
  alike_outside (terms.units {k = k} {l = l} e) h h' p p' = outside.units (same_readers k l e)
  alike_outside (terms.functions {k = k} {l = l} e i q) h h' p p' = outside.functions (same_readers k l e)
  alike_outside (terms.pairs {k = k} {l = l} {a = a} {a' = a'} e q r) h h' p p' =
      outside.pairs (same_readers k l e)
      (alike_outside q (and_left _ _ h) (and_left _ _ h') p.1 p'.1)
      (alike_outside r (and_right (is_value a) _ h) (and_right (is_value a') _ h') p.2 p'.2)
  alike_outside (terms.injections {k = k} {l = l} e i q) h h' p p' = outside.injections (same_readers k l e) (alike_outside q h h' p.1 p'.1)
  alike_outside (terms.literals {k = k} {l = l} e) h h' p p' = outside.literals (same_readers k l e)
  alike_outside _ h h' p p' = absurd (false≢true h)

-- Two runs that end 0, and what an observer is told of their ends.
module _ (g t w w' : Bytes) (ran ran' : Ran) (G : Octets g) (W : Octets w) (W' : Octets w') (E : BothEnd g t w w' ran ran') where
  one : Run0 g t w ran
  one = run_0 g t w E.budget E.first E.scratch ran E.runs E.ends_0

  other : Run0 g t w' ran'
  other = run_0 g t w' E.budget' E.first' E.scratch' ran' E.runs' E.ends_0'

  passed : Passed one.rooms g t w
  passed = script_passed one.rooms g t w W one.passed

  passed' : Passed other.rooms g t w'
  passed' = script_passed other.rooms g t w' W' other.passed

  given : Tables g t
  given = tables g t G passed.types

  told : (O : Observer) → (Lattice (groups_of g) → Observes (properties_of g) O) → Alike O (term w) (term w')
      → Alike O ran.last ran'.last × Labelled (properties_of g) ran.last × Labelled (properties_of g) ran'.last
  unfolding AlikeRunsEndAlike
  told O f a =
      alike_runs_end_alike _ _ O _ _ _ _ (properties_laws given.lattice) given.table (f given.lattice) (formed_labelled g t 0 (term w) passed.fit.formed)
      (formed_labelled g t 0 (term w') passed'.fit.formed) a one.ends other.ends

  -- what a run leaves passes questions 2 to 19
  last_fits : (e : Term) (x : Ran) (s : Bytes) → Run0 g t s x → Fit g t (term s) → Fit g t x.last
  last_fits e x s R F = subst (λ (y : Ran). Fit g t y.last) R.is (run_fits g t passed.types given R.room R.budget (term s) F)

  same_sheets : (group : ℕ) → Alike (reader_at (groups_of g) group) (term w) (term w') → SameSheets g t group ran ran'
  unfolding ReadersObserve ClosedObjectsClose
  same_sheets group a =
      let r = told (reader_at (groups_of g) group) (readers_observe (groups_of g) group) a in
      let s = alike_outside g given.lattice group r.0 one.ends.ended other.ends.ended r.1 r.2 in
      let c = closed_objects_close g t (encode ran.last) (encode ran'.last) group
      (fit_passes g t passed.types given ran.last (last_fits (term w) ran w one passed.fit))
      (fit_passes g t passed.types given ran'.last (last_fits (term w') ran' w' other passed'.fit))
      (rw (term_encode ran.last) one.ends.ended) (rw (term_encode ran'.last) other.ends.ended) in
      let q = rw (term_encode ran.last, term_encode ran'.last) at c.equal_when in
      record { alike = s; sheets = q.1 s; calls = c.equal_answers (rw (term_encode ran.last, term_encode ran'.last) s) }

  -- A part exchanged for another: both are dark.
  alike_parts : (O : Observer) (a b : Bytes) {passes : Bytes → Bool} → ((c : Bytes) → encode (term c) ≡ c → IsTrue (passes c) → IsTrue (dark O (term c)))
      → PartsOf passes a b w w' → Alike O (term w) (term w')
  unfolding AlikeAtAPlace
  alike_parts O a b f P =
      let T = of_terms a b w w' P.first_whole P.second_whole passed.encoded P.placed in
      rw (T.first, T.second)
      (alike_at_a_place O T.place (term a) (term b)
      (both_dark (f a P.first_whole P.first_passes) (f b P.second_whole P.second_passes)))

pub sheets_tell_nothing : SheetsTellNothing
unfolding SheetsTellNothing
sheets_tell_nothing = same_sheets

-- Over groups that the runs' tables are, each of these is an observer.
abbrev Anywhere : (Groups → ℕ → Observer) → Type 0
Anywhere O = (g : Bytes) (h : ℕ) → Lattice (groups_of g) → Observes (properties_of g) (O (groups_of g) h)

readers_anywhere : Anywhere reader_at
unfolding ReadersObserve
readers_anywhere g = readers_observe (groups_of g)

who_trusts_anywhere : Anywhere who_trusts
unfolding WhoTrustsObserves
who_trusts_anywhere g = who_trusts_observes (groups_of g)

exactly_anywhere : (O : Groups → ℕ → Observer) → Anywhere O → Anywhere (λ G h. exact (O G h))
unfolding ExactObserves
exactly_anywhere O f g h X = exact_observes (properties_of g) (O (groups_of g) h) (f g h X)

last_alike : (O : Groups → ℕ → Observer) → Anywhere O → LastAlike O
unfolding LastAlike
last_alike O f g t w w' ran ran' G W W' E group a = (told g t w w' ran ran' G W W' E (O (groups_of g) group) (f g group) a).0

last_is_one : (O : Groups → ℕ → Observer) → Anywhere O → LastIsOne O
unfolding LastIsOne LastAlike ClearIsOne
last_is_one O f g t w w' ran ran' G W W' E group a c =
    clear_is_one (O (groups_of g) group) ran.last ran'.last
    (last_alike (λ G h. exact (O G h)) (exactly_anywhere O f) g t w w' ran ran' G W W' E group a) c

pub read_alike : LastAlike reader_at
read_alike = last_alike reader_at readers_anywhere

pub read_exactly_alike : LastAlike reader_exactly
read_exactly_alike = last_alike reader_exactly (exactly_anywhere reader_at readers_anywhere)

pub read_as_one : LastIsOne reader_at
read_as_one = last_is_one reader_at readers_anywhere

pub made_alike : LastAlike who_trusts
made_alike = last_alike who_trusts who_trusts_anywhere

pub made_exactly_alike : LastAlike who_trusts_exactly
made_exactly_alike = last_alike who_trusts_exactly (exactly_anywhere who_trusts who_trusts_anywhere)

pub made_as_one : LastIsOne who_trusts
made_as_one = last_is_one who_trusts who_trusts_anywhere

-- What the record that a part begins with tells of it.
module _ (g : Bytes) (group : ℕ) where
  unread_dark : IsTrue (leq g 0 group) → (e : Term) → IsTrue (unread g group (encode e)) → IsTrue (dark (reader_at (groups_of g) group) e)
  unfolding encode dark
  unread_dark z (unit k) x = x
  unread_dark z (lam k i e) x = x
  unread_dark z (pair k a b) x = x
  unread_dark z (inj first k i e) x = x
  unread_dark z (inj second k i e) x = x
  unread_dark z (literal k n) x = x
  unread_dark z (protect m e) x = or_left _ _ x
  unread_dark z (reckon plus w a b) x = absurd (grind (arith, z, x))
  unread_dark z (reckon (less i) w a b) x = absurd (grind (arith, z, x))
  unread_dark z _ x = absurd (grind (arith, z, x))

  unmade_dark : (e : Term) → IsTrue (unmade g group (encode e)) → IsTrue (dark (who_trusts_exactly (groups_of g) group) e)
  unfolding encode dark
  unmade_dark (app w f a) x = or_left _ _ x
  unmade_dark (proj first w e) x = or_left _ _ x
  unmade_dark (proj second w e) x = or_left _ _ x
  unmade_dark (case w i e a b) x = or_left _ _ x
  unmade_dark (protect m e) x = or_left _ _ x
  unmade_dark (reckon plus w a b) x = or_left _ _ x
  unmade_dark (reckon (less i) w a b) x = or_left _ _ x
  unmade_dark (inj first k i e) x = x
  unmade_dark (inj second k i e) x = x
  unmade_dark _ x = x

pub part_unread : PartUnread
unfolding PartUnread
part_unread g t w w' ran ran' G W W' E group a b l P =
    let X = (given g t w w' ran ran' G W W' E).lattice in
    let z = X.bottom group (X.in_table group (lt-ltb group (rows g) l)) in
    same_sheets g t w w' ran ran' G W W' E group
    (alike_parts g t w w' ran ran' G W W' E (reader_at (groups_of g) group) a b (λ c h x. unread_dark g group z (term c) (rw h x)) P)

pub part_unmade : PartUnmade
unfolding PartUnmade LastAlike
part_unmade g t w w' ran ran' G W W' E group a b P =
    made_exactly_alike g t w w' ran ran' G W W' E group
    (alike_parts g t w w' ran ran' G W W' E (who_trusts_exactly (groups_of g) group) a b (λ c h x. unmade_dark g group (term c) (rw h x)) P)

-- A packet whose run ends 0: the run of the application's bytes, and its sheet.
record Paged (g t script entry : Bytes) (group : ℕ) (d : Desk) (x : Packet) : Type 0 where
  octets : Octets (application group script entry)
  tree : term (application group script entry) ≡ app group (term script) (term entry)
  runs : run_call g t (application group script entry) d.budget d.first d.scratch ≡ accepted x.ran
  page : x.page ≡ sheet g group x.ran.last

-- the call that a packet's page is by hand
page_is : (g t : Bytes) (group room : ℕ) (ran : Ran) (page : Bytes) → page_by_hand g t group room ran ≡ accepted page → ran.end ≡ 0
    → page ≡ sheet g group ran.last
unfolding sheet_call
page_is g t group room ran page h z =
    let s = encode ran.last in
    let a = and_then (script_check [] g t s) _ (rw z at h) in
    let b = and_then (q26 (term s)) _ (and_then (q25 0 group (rows g)) _ a.1).1 in
    sym (accepted_inj (and_then (q27 (sheet g group (term s)) room) _ b.1).1) ∙ ap (sheet g group) (term_encode ran.last)

paged : (g t script entry : Bytes) (group : ℕ) (d : Desk) (x : Packet) → Octets g → Octets script → Octets entry
    → packet_of d g t script entry group ≡ accepted x → x.ran.end ≡ 0 → Paged g t script entry group d x
unfolding packet_call desk_run
paged g t script entry group d x G S E h z =
    let q = bind_then (desk_run g t script entry group d.budget d.profile d.work d.first d.scratch) _ h in
    let c = and_then (desk_check g t script entry group d.profile d.work d.first d.scratch) _ q.is in
    let R = ready g t script entry G S E group d.budget d.profile d.work d.first d.scratch c.0 in
    let r = bind_then (run_call g t (application group script entry) d.budget d.first d.scratch) _ (sym (R.as_by_hand d.room) ∙ h) in
    let p = bind_then (page_by_hand g t group d.room r.what) _ r.goes_on in
    subst (λ (y : Packet). y.ran.end ≡ 0 → Paged g t script entry group d y) (accepted_inj p.goes_on)
    (λ u. record { octets = R.octets; tree = R.tree; runs = r.is; page = page_is g t group d.room r.what p.what p.is u }) z

pub same_pages : SamePages
unfolding SamePages
same_pages g t script entry script' entry' group d d' x x' G S E S' E' a b h h' z z' =
    let p = paged g t script entry group d x G S E h z in
    let p' = paged g t script' entry' group d' x' G S' E' h' z' in
    let c : Alike (reader_at (groups_of g) group) (term (application group script entry)) (term (application group script' entry')) =
    rw (p.tree, p'.tree) (applications refl a b) in
    let e : BothEnd g t (application group script entry) (application group script' entry') x.ran x'.ran = record {
      budget = d.budget;
      first = d.first;
      scratch = d.scratch;
      budget' = d'.budget;
      first' = d'.first;
      scratch' = d'.scratch;
      runs = p.runs;
      runs' = p'.runs;
      ends_0 = z;
      ends_0' = z';
    } in
    p.page ∙ (same_sheets g t _ _ x.ran x'.ran G p.octets p'.octets e group c).sheets ∙ sym p'.page
