-- Old office scripts with r of its type put in each recursion: import gives what it gave, with the callers put in, and
-- they are checked and run as they were.
use Rattle.std.proofs.Common.{◌≡◌, refl, sym, ap, ap₂, subst, ◌∙◌, Bool, true, false, cond, ◌&&◌, List, [], ◌∷◌, ◌++◌}
use Rattle.std.proofs.Common.{ℕ, zero, suc, ◌+◌, ◌*◌, ◌/◌, ◌%◌, ◌≤◌, ◌<◌, arith, leb-true, ltb-true, lt-ltb, nat_eq}
use Rattle.std.proofs.Common.{nat_le, nat_lt, length, take, drop}
use Rattle.std.proofs.Math.Bool.{and-eq-true_iff}
use Rattle.std.proofs.Math.Decide.{dec_lt}
use Rattle.std.proofs.Math.ListN.{get_or-eq_default}
use Rattle.calculus.specs.Typing.{finds_own}
use Rattle.calculus.specs.Terms.{first, second, plus, less, Term, var, unit, lam, pair, inj, app, proj, case, protect}
use Rattle.calculus.specs.Terms.{mu, literal, reckon}
use Rattle.calculus.specs.Relabelling.{Labels, relabel}
use Rattle.calculus.proofs.Booleans.{and_left}
use Rattle.rules.specs.Answer.{Bytes, byte, Octets, Answer, accepted, ◌>>◌, ask, each}
use Rattle.rules.specs.Limits.{type_width, script_width, old_type_width, old_script_width, office_width}
use Rattle.rules.specs.Groups.{rows}
use Rattle.rules.specs.Types.{type_count, type_r, ok9, q8, q9}
use Rattle.rules.specs.Script.{script_record, records, kind, r, number, c, ic, encode, size, depth, weight, term, q18}
use Rattle.rules.specs.Callers.{old_records, old_kind, caller, put_callers, write_callers, write_callers_of}
use Rattle.rules.specs.Callers.{write_office_callers}
use Rattle.rules.specs.Calls.{groups_check, types_check, form_check, q27}
use Rattle.rules.specs.Rewriting.{widen_types, widen_script}
use Rattle.rules.specs.Names.{meant, scopes}
use Rattle.rules.specs.Office.{office_records, office_kind, office_number, first_name, second_name, nameless}
use Rattle.rules.specs.Office.{with_names, named_term, ok29, ok30, q28, q29, q30, import_of, import_call}
use Rattle.rules.proofs.Search.{each_all, each_same}
use Rattle.rules.proofs.Asked.{and_then}
use Rattle.rules.proofs.Prefix.{record_at}
use Rattle.rules.proofs.Parts.{record_byte}
use Rattle.rules.proofs.PrefixLaws.{alone, encode_length}
use Rattle.rules.proofs.Nodes.{Every, every_node, to_nodes, to_records}
use Rattle.rules.proofs.TermCode.{term_shape, term_code, term_head}
use Rattle.rules.proofs.RecordFields.{kind_is as kind_field, r_is as r_field, c_is, ic_is}
use Rattle.rules.proofs.Octets.{octets_append, octets_take, octets_drop}
use Rattle.rules.proofs.Depth.{q18_depth}
use Rattle.rules.proofs.Scope.{Scoped}
use Rattle.rules.proofs.Scripts.{Whole, term_encode, records_encode}
use Rattle.rules.proofs.Form.{form_yes}
use Rattle.rules.proofs.Callers.{put_length, put_byte, put_r, callers_first}
use Rattle.rules.proofs.Widening.{widen_types_count, widen_types_byte, widen_script_records, widen_script_byte}
use Rattle.rules.proofs.Widening.{widen_script_zero}
use Rattle.rules.proofs.Office.{nameless_records, nameless_octets, nameless_byte, nameless_kind, q30_scoped}
use Rattle.rules.proofs.OfficeCallers.{called as call_labels, callers_encode, office_callers_length, nameless_callers}
use Rattle.rules.proofs.OldTables.{old_type_count}
use Rattle.promises.specs.Migration.{form_1, Existing}
use Rattle.promises.specs.Office.{OldOffice, answer_with_callers, ImportsCalled, AsBefore, Importing, Exporting, ImportingCalled, ImportedAsBefore}
use Rattle.promises.proofs.RelabelledBytes.{relabel_size}
use Rattle.promises.proofs.Recalled.{Recalled, q15_same, form_same}
use Rattle.promises.proofs.Imports.{every_meant, seen_whole, office_whole, Imported, import_yes, new_depth, imports}
use Rattle.promises.proofs.Exports.{exports}
use Rattle.promises.proofs.Migration.{migration}

-- Over tables that pass, r of a type is a group, and so is 0.
module _ (g t : Bytes) (types : types_check g t ≡ accepted tt) where
  type_group : (n : ℕ) → n < type_count t → nat_lt (type_r t n) (rows g) ≡ true
  unfolding types_check ok9
  type_group n l =
      let a = and_then (groups_check g) _ types in
      let b = and_then (q8 t) _ a.1 in
      let fields = each_all 9 (type_count t) (ok9 (rows g) t) (and_then (q9 g t) _ b.1).0 n l in
      and_left _ _ (and_right' _ _ (and_right' _ _ fields))
    where
      and_right' : (a b : Bool) → a && b ≡ true → b ≡ true
      and_right' true b e = e
      and_right' false true e = refl
      and_right' false false e = e

some_types : (g t : Bytes) → types_check g t ≡ accepted tt → 0 < type_count t
unfolding types_check
some_types g t types = grind arith

-- The records of the two scripts, in the present form.
module _ (t s : Bytes) where
  abbrev s' : Bytes
  s' = write_office_callers t s

  abbrev R : Labels
  R = call_labels type_width t

  whole : office_width * office_records s ≤ length s
  whole = omega arith

  same_count : office_records s' ≡ office_records s
  same_count = ap (λ (n : ℕ). n / office_width) (office_callers_length t s)

  -- every byte of an old record but byte 1
  byte_same : (i m : ℕ) → m < office_width → (m ≡ 1 → ⊥) → byte s' (office_width * i + m) ≡ byte s (office_width * i + m)
  byte_same i m l d = put_byte type_width office_width (omega arith) t (office_records s) s i m whole l d

  kind_same : (i : ℕ) → office_kind s' i ≡ office_kind s i
  kind_same i =
      let p : office_width * i ≡ office_width * i + 0 = omega arith in
      ap (byte s') p ∙ byte_same i 0 (omega arith) (λ e. omega arith) ∙ ap (byte s) (sym p)

  two_same : (i a b : ℕ) → a < office_width → b < office_width → (a ≡ 1 → ⊥) → (b ≡ 1 → ⊥)
      → byte s' (office_width * i + a) + 256 * byte s' (office_width * i + b) ≡ byte s (office_width * i + a) + 256 * byte s (office_width * i + b)
  two_same i a b l m d e = ap₂ (λ x y. x + 256 * y) (byte_same i a l d) (byte_same i b m e)

  number_same : (i : ℕ) → office_number s' i ≡ office_number s i
  number_same i = two_same i 4 5 (omega arith) (omega arith) (λ e. omega arith) (λ e. omega arith)

  first_same : (i : ℕ) → first_name s' i ≡ first_name s i
  first_same i = two_same i 6 7 (omega arith) (omega arith) (λ e. omega arith) (λ e. omega arith)

  second_same : (i : ℕ) → second_name s' i ≡ second_name s i
  second_same i = two_same i 8 9 (omega arith) (omega arith) (λ e. omega arith) (λ e. omega arith)

  -- in the present form
  room : script_width * records (nameless s) ≤ length (nameless s)
  room = omega arith

  recalled : Recalled (nameless s) (nameless s')
  recalled =
      rw (nameless_callers t s)
      (record {
        same_length = put_length type_width script_width (omega arith) t (records (nameless s)) (nameless s) room;
        field_same = λ i n l d. put_byte type_width script_width (omega arith) t (records (nameless s)) (nameless s) i n room l d;
        r_kept = λ i l e. put_r type_width script_width (omega arith) t (records (nameless s)) (nameless s) i room l ∙ rw e refl;
      })

  r_is : (i : ℕ) → i < records (nameless s) → r (nameless s') i ≡ caller type_width t (kind (nameless s) i) (r (nameless s) i) (number (nameless s) i)
  r_is i l = grind (arith, nameless_callers, put_r)

  -- terms with their names
  meant_same : (i : ℕ) (ns : List ℕ) (e : Term) → meant ns (with_names s' i (relabel R e)) ≡ relabel R (meant ns (with_names s i e))
  unfolding meant with_names relabel
  meant_same i ns (var n) = rw (first_same i) refl
  meant_same i ns (unit k) = refl
  meant_same i ns (lam k t e) = rw (first_same i, meant_same (1 + i) (first_name s i ∷ ns) e) refl
  meant_same i ns (pair k a b) = rw (relabel_size R a, meant_same (1 + i) ns a, meant_same (1 + i + size a) ns b) refl
  meant_same i ns (inj d k t e) = rw (meant_same (1 + i) ns e) refl
  meant_same i ns (app w a b) = rw (relabel_size R a, meant_same (1 + i) ns a, meant_same (1 + i + size a) ns b) refl
  meant_same i ns (proj d w e) = rw (meant_same (1 + i) ns e) refl
  meant_same i ns (case w t e a b) =
      rw (
        relabel_size R e,
        relabel_size R a,
        first_same i,
        second_same i,
        meant_same (1 + i) ns e,
        meant_same (1 + i + size e) (first_name s i ∷ ns) a,
        meant_same (1 + i + size e + size a) (second_name s i ∷ ns) b,
      )
      refl
  meant_same i ns (protect m e) = rw (meant_same (1 + i) ns e) refl
  meant_same i ns (mu w t e) = rw (first_same i, meant_same (1 + i) (first_name s i ∷ ns) e) refl
  meant_same i ns (literal k n) = refl
  meant_same i ns (reckon o w a b) = rw (relabel_size R a, meant_same (1 + i) ns a, meant_same (1 + i + size a) ns b) refl

  scopes_same : (i : ℕ) (ns : List ℕ) (e : Term) → scopes ns (with_names s' i (relabel R e)) ≡ scopes ns (with_names s i e)
  unfolding scopes with_names relabel
  scopes_same i ns (lam k t e) = rw (first_same i, scopes_same (1 + i) (first_name s i ∷ ns) e) refl
  scopes_same i ns (pair k a b) = rw (relabel_size R a, scopes_same (1 + i) ns a, scopes_same (1 + i + size a) ns b) refl
  scopes_same i ns (inj d k t e) = rw (scopes_same (1 + i) ns e) refl
  scopes_same i ns (app w a b) = rw (relabel_size R a, scopes_same (1 + i) ns a, scopes_same (1 + i + size a) ns b) refl
  scopes_same i ns (proj d w e) = rw (scopes_same (1 + i) ns e) refl
  scopes_same i ns (case w t e a b) =
      rw (
        relabel_size R e,
        relabel_size R a,
        first_same i,
        second_same i,
        scopes_same (1 + i) ns e,
        scopes_same (1 + i + size e) (first_name s i ∷ ns) a,
        scopes_same (1 + i + size e + size a) (second_name s i ∷ ns) b,
      )
      refl
  scopes_same i ns (protect m e) = rw (scopes_same (1 + i) ns e) refl
  scopes_same i ns (mu w t e) = rw (first_same i, scopes_same (1 + i) (first_name s i ∷ ns) e) refl
  scopes_same i ns (reckon o w a b) = rw (relabel_size R a, scopes_same (1 + i) ns a, scopes_same (1 + i + size a) ns b) refl
  scopes_same i ns _ = refl

  q28_same : q28 s' ≡ q28 s
  q28_same = rw (office_callers_length t s) refl

  ok29_same : (i : ℕ) → ok29 s' i ≡ ok29 s i
  unfolding ok29
  ok29_same i = rw (kind_same i, first_same i, second_same i, number_same i) refl

  q29_same : q29 s' ≡ q29 s
  q29_same = grind (arith, same_count, each_same, ok29_same)

  ok30_same : (ns : List (List ℕ)) (i : ℕ) → ok30 ns s' i ≡ ok30 ns s i
  unfolding ok30
  ok30_same ns i = rw (kind_same i, first_same i) refl

  -- a script that is a term
  module _ (w : Whole (nameless s)) where
    read : term (nameless s') ≡ relabel R (term (nameless s))
    read = grind (arith, nameless_callers, callers_encode, term_encode)

    q30_same : q30 s' ≡ q30 s
    unfolding named_term
    q30_same =
        ap₂ (λ (n : ℕ) (ns : List (List ℕ)). each 30 n (ok30 ns s')) same_count
        (ap (λ (e : Term). scopes [] (with_names s' 0 e)) read ∙ scopes_same 0 [] (term (nameless s)))
        ∙ each_same 30 (office_records s) _ _ (λ i l. ok30_same (scopes [] (named_term s)) i)

    imported_same : import_of s' ≡ write_callers_of type_width script_width t (import_of s)
    unfolding import_of named_term
    imported_same =
        let e = meant [] (with_names s 0 (term (nameless s))) in
        ap (λ (x : Term). encode (meant [] (with_names s' 0 x))) read
        ∙ ap encode (meant_same 0 [] (term (nameless s)))
        ∙ sym (callers_encode type_width t e)

    imported_length : length (import_of s') ≡ length (import_of s)
    imported_length = grind (arith, imported_same, put_length)

as_long : (a b : Bytes) → length a ≡ length b → (most : ℕ) → q27 a most ≡ q27 b most
as_long a b e most = ap (λ (n : ℕ). ask 27 0 (nat_le n most)) e

-- one question after another, and what is then answered, with the callers put in
then_called : (t : Bytes) (a a' : Answer (Unit {0})) (b b' : Answer Bytes) → a ≡ a' → (a' ≡ accepted tt → b ≡ answer_with_callers t b') → ◌>>◌ a b ≡ answer_with_callers t (◌>>◌ a' b')
then_called t a a' b b' e h = grind arith

module _ (g t s : Bytes) (octets : Octets s) (old : OldOffice s) where
  was_zero : (i : ℕ) → i < records (nameless s) → kind (nameless s) i ≡ 11 → r (nameless s) i ≡ 0
  was_zero i l k = grind (arith, nameless_records, nameless_byte, nameless_kind)

  module _ (types : types_check g t ≡ accepted tt) where
    some_group : nat_lt 0 (rows g) ≡ true
    some_group = lt-ltb 0 (rows g) (omega (arith, ltb-true (type_r t 0) (rows g) (type_group g t types 0 first)))
      where
        first : 0 < type_count t
        first = some_types g t types

    caller_group : (i : ℕ) → i < records (nameless s) → kind (nameless s) i ≡ 11 → nat_lt (r (nameless (write_office_callers t s)) i) (rows g) ≡ true
    caller_group i l k = grind (arith, r_is, was_zero, nat_lt, nat_eq, type_group, ltb-true, some_group)

  same_form : types_check g t ≡ accepted tt → q28 s ≡ accepted tt → form_check g t (nameless (write_office_callers t s)) ≡ form_check g t (nameless s)
  same_form types q28_yes =
      let x = recalled t s in
      form_same x g t (R t s) (q15_same x g (λ i l k. rw (was_zero i l k) (some_group types)) (caller_group types))
      (λ q14_yes q17_yes. read t s (seen_whole s octets q28_yes q14_yes q17_yes))

  pub imports_called : ImportsCalled g t s
  unfolding import_call
  imports_called room' =
      then_called t (types_check g t) _ _ _ refl λ types.
      then_called t (q28 (write_office_callers t s)) _ _ _ (q28_same t s) λ q28_yes.
      then_called t (form_check g t (nameless (write_office_callers t s))) _ _ _ (same_form types q28_yes) λ form.
      let w = office_whole g t s octets q28_yes form in
      then_called t (q29 (write_office_callers t s)) _ _ _ (q29_same t s) λ q29_yes.
      then_called t (q30 (write_office_callers t s)) _ _ _ (q30_same t s w) λ q30_yes.
      then_called t (q27 (import_of (write_office_callers t s)) room') _ _ _ (as_long (import_of (write_office_callers t s)) (import_of s) (imported_length t s w) room') λ q27_yes.
      ap accepted (imported_same t s w)

-- What is imported has no creators: it is an old script of 6-byte records in the present form.
narrow : ℕ → Bytes → Bytes
narrow zero s = []
narrow (suc n) s = take old_script_width s ++ narrow n (drop script_width s)

without_creators : (a b d e f h x y : ℕ) (w s : Bytes) → x ≡ 0 → y ≡ 0 → w ≡ s
    → ◌≡◌ {A = Bytes} (a ∷ b ∷ d ∷ e ∷ f ∷ h ∷ 0 ∷ 0 ∷ w) (a ∷ b ∷ d ∷ e ∷ f ∷ h ∷ x ∷ y ∷ s)
without_creators a b d e f h x y w s p q o = cc

narrow_octets : (n : ℕ) (s : Bytes) → Octets s → Octets (narrow n s)
unfolding narrow
narrow_octets zero s p i = omega arith
narrow_octets (suc n) s p i =
    octets_append (take old_script_width s) (narrow n (drop script_width s)) (octets_take old_script_width s p)
    (narrow_octets n (drop script_width s) (octets_drop script_width s p)) i

narrowed : (n : ℕ) (s : Bytes) → length s ≡ script_width * n → ((i : ℕ) → i < n → (c s i ≡ 0) × (ic s i ≡ 0)) → widen_script (narrow n s) ≡ s
unfolding widen_script narrow
narrowed zero [] l h = refl
narrowed zero (x ∷ s) l h = absurd (omega arith)
narrowed (suc n) [] l h = absurd (omega arith)
narrowed (suc n) (a ∷ []) l h = absurd (omega arith)
narrowed (suc n) (a ∷ b ∷ []) l h = absurd (omega arith)
narrowed (suc n) (a ∷ b ∷ d ∷ []) l h = absurd (omega arith)
narrowed (suc n) (a ∷ b ∷ d ∷ e ∷ []) l h = absurd (omega arith)
narrowed (suc n) (a ∷ b ∷ d ∷ e ∷ f ∷ []) l h = absurd (omega arith)
narrowed (suc n) (a ∷ b ∷ d ∷ e ∷ f ∷ g ∷ []) l h = absurd (omega arith)
narrowed (suc n) (a ∷ b ∷ d ∷ e ∷ f ∷ g ∷ x ∷ []) l h = absurd (omega arith)
narrowed (suc n) (a ∷ b ∷ d ∷ e ∷ f ∷ g ∷ x ∷ y ∷ s) l h =
    let z = h 0 (omega arith) in
    let whole : Bytes = a ∷ b ∷ d ∷ e ∷ f ∷ g ∷ x ∷ y ∷ s in
    let p : (j m : ℕ) → 8 * suc j + m ≡ suc (suc (suc (suc (suc (suc (suc (suc (8 * j + m)))))))) = λ j m. omega arith in
    without_creators a b d e f g x y (widen_script (narrow n s)) s z.0 z.1
    (narrowed n s (omega arith) (λ j m. let q = h (suc j) (omega arith) in (ap (byte whole) (sym (p j 6)) ∙ q.0, ap (byte whole) (sym (p j 7)) ∙ q.1)))

-- the callers of both forms are the same, over types that were rewritten
caller_same : (t : Bytes) (k r n : ℕ) → caller old_type_width t k r n ≡ caller type_width (widen_types t) k r n
caller_same t k r n = grind (arith, dec_lt, widen_types_count, widen_types_byte, nat_lt, nat_eq, ltb-true)

widened_records : (t u : Bytes) → widen_script (write_callers t u) ≡ put_callers type_width script_width (widen_types t) (old_records u) (widen_script u)
unfolding widen_script put_callers
widened_records t (k ∷ r ∷ ir ∷ z ∷ lo ∷ hi ∷ u) =
    let n = lo + 256 * hi in
    let T = widen_types t in
    let p : old_records (k ∷ r ∷ ir ∷ z ∷ lo ∷ hi ∷ u) ≡ suc (old_records u) = omega arith in
    ap widen_script (callers_first t k r ir z lo hi u)
    ∙ ap₂ (λ x b. k ∷ x ∷ ir ∷ z ∷ lo ∷ hi ∷ 0 ∷ 0 ∷ b) (caller_same t k r n) (widened_records t u)
    ∙ ap (λ j. put_callers type_width script_width T j (k ∷ r ∷ ir ∷ z ∷ lo ∷ hi ∷ 0 ∷ 0 ∷ widen_script u)) (sym p)
widened_records t _ = refl

widened_callers : (t u : Bytes) → widen_script (write_callers t u) ≡ write_callers_of type_width script_width (widen_types t) (widen_script u)
widened_callers t u = grind (arith, widened_records, widen_script_records)

-- The bytes of what is imported are bytes: a variable's number is below its count of binders, which is below the term's
-- depth.
abbrev Small : Term → Type 0
Small (var m) = m < 65536
Small _ = Unit {0}

weighs : (i : ℕ) → 1 ≤ weight i
weighs i = grind arith

scoped_small : (e : Term) (n : ℕ) → Scoped n e → n + depth e ≤ 257 → Every term_shape Small e
unfolding depth
scoped_small (var m) n h l = every_node (omega arith) tt
scoped_small (unit k) n h l = every_node tt tt
scoped_small (lam k i e) n h l = every_node tt (scoped_small e (suc n) h (omega arith), tt)
scoped_small (pair k a b) n h l = every_node tt (scoped_small a n h.0 (omega arith), (scoped_small b n h.1 (omega arith), tt))
scoped_small (inj d k i e) n h l = every_node tt (scoped_small e n h (omega arith), tt)
scoped_small (app w f a) n h l = every_node tt (scoped_small f n h.0 (omega arith), (scoped_small a n h.1 (omega arith), tt))
scoped_small (proj d w e) n h l = every_node tt (scoped_small e n h (omega arith), tt)
scoped_small (case w i e a b) n h l =
    let x = weighs i in
    every_node tt (scoped_small e n h.0 (omega arith), (scoped_small a (suc n) h.1 (omega arith), (scoped_small b (suc n) h.2 (omega arith), tt)))
scoped_small (protect m e) n h l = every_node tt (scoped_small e n h (omega arith), tt)
scoped_small (mu w i e) n h l = every_node tt (scoped_small e (suc n) h (omega arith), tt)
scoped_small (literal k m) n h l = every_node tt tt
scoped_small (reckon o w a b) n h l = every_node tt (scoped_small a n h.0 (omega arith), (scoped_small b n h.1 (omega arith), tt))

-- the bytes of a record that is no variable's
abbrev OctetsElse : Bytes → Type 0
OctetsElse h = (kind h 0 ≡ 0 → ⊥) → Octets h

head_octets : (e : Term) → OctetsElse (term_head e) → Small e → Octets (term_head e)
head_octets (var m) h l zero = omega arith
head_octets (var m) h l (suc zero) = omega arith
head_octets (var m) h l (suc (suc zero)) = omega arith
head_octets (var m) h l (suc (suc (suc zero))) = omega arith
head_octets (var m) h l (suc (suc (suc (suc zero)))) = omega arith
head_octets (var m) h l (suc (suc (suc (suc (suc zero))))) = omega arith
head_octets (var m) h l (suc (suc (suc (suc (suc (suc zero)))))) = omega arith
head_octets (var m) h l (suc (suc (suc (suc (suc (suc (suc zero))))))) = omega arith
head_octets (var m) h l (suc (suc (suc (suc (suc (suc (suc (suc j)))))))) = omega arith
head_octets (unit k) h l j = h (λ e. omega arith) j
head_octets (lam k i e) h l j = h (λ e. omega arith) j
head_octets (pair k a b) h l j = h (λ e. omega arith) j
head_octets (inj first k i e) h l j = h (λ e. omega arith) j
head_octets (inj second k i e) h l j = h (λ e. omega arith) j
head_octets (app w f a) h l j = h (λ e. omega arith) j
head_octets (proj first w e) h l j = h (λ e. omega arith) j
head_octets (proj second w e) h l j = h (λ e. omega arith) j
head_octets (case w i e a b) h l j = h (λ e. omega arith) j
head_octets (protect m e) h l j = h (λ e. omega arith) j
head_octets (mu w i e) h l j = h (λ e. omega arith) j
head_octets (literal k n) h l j = h (λ e. omega arith) j
head_octets (reckon plus w a b) h l j = h (λ e. omega arith) j
head_octets (reckon (less i) w a b) h l j = h (λ e. omega arith) j

record_octets : (s : Bytes) (i : ℕ) → Octets s → Octets (record_at script_width s i)
record_octets s i o = octets_take script_width (drop (script_width * i) s) (octets_drop (script_width * i) s o)

-- from the records of a term to its bytes
encode_octets : (e : Term) → Every term_shape (λ x. Octets (term_head x)) e → Octets (encode e)
encode_octets e h j = go (dec_lt (j / script_width) (size e))
  where
    p : script_width * (0 + j / script_width) + j % script_width ≡ j
    p = omega arith

    go : Dec (j / script_width < size e) → byte (encode e) j < 256
    go (yes l) =
        subst (λ (n : ℕ). n < 256)
        (record_byte script_width (encode e) (0 + j / script_width) (j % script_width) (omega arith) ∙ ap (byte (encode e)) p)
        (to_records term_code Octets (encode e) 0 e [] (alone term_code e) h (j / script_width) l (j % script_width))
    go (no l) = rw (get_or-eq_default (encode e) 0 {n = j} (omega (arith, encode_length term_code e))) (omega arith)

-- What was imported, as an old script of 6-byte records.
module _ (g t s : Bytes) (octets_s : Octets s) (old : OldOffice s) (most : ℕ) (b : Bytes) (q : import_call g (widen_types t) s most ≡ accepted b) where
  abbrev x : Imported g (widen_types t) s most b
  x = import_yes g (widen_types t) s most b q

  abbrev e₀ : Term
  e₀ = term (nameless s)

  abbrev e₁ : Term
  e₁ = meant [] (with_names s 0 e₀)

  w₀ : Whole (nameless s)
  w₀ = office_whole g (widen_types t) s octets_s x.length_yes x.form

  b_is : encode e₁ ≡ b
  unfolding import_of named_term
  b_is = x.is

  -- what holds of each record of the old script holds of each that is imported
  each_record : (Q : Bytes → Type 0) → ((n : ℕ) → Q (script_record 0 0 0 n)) → ((j : ℕ) → j < records (nameless s) → Q (record_at script_width (nameless s) j))
      → Every term_shape (λ y. Q (term_head y)) e₁
  each_record Q any h =
      every_meant Q any s e₀
      (to_nodes term_code Q (encode e₀) 0 e₀ [] (alone term_code e₀)
      (λ j l. subst (λ (z : Bytes). Q (record_at script_width z (0 + j))) (sym w₀.encoded) (h (0 + j) (omega (arith, l, w₀.sized)))))

  imported_record : (Q : Bytes → Type 0) → Every term_shape (λ y. Q (term_head y)) e₁ → (i : ℕ) → i < records b → Q (record_at script_width b i)
  imported_record Q h i l =
      let z : 0 + i ≡ i = omega arith in
      subst (λ (y : Bytes). Q (record_at script_width y i)) b_is
      (subst (λ (n : ℕ). Q (record_at script_width (encode e₁) n)) z
      (to_records term_code Q (encode e₁) 0 e₁ [] (alone term_code e₁) h i (omega (arith, l, ap records (sym b_is), records_encode e₁))))

  no_creators : (i : ℕ) → i < records b → (c b i ≡ 0) × (ic b i ≡ 0)
  unfolding nameless
  no_creators i l =
      let h = imported_record (λ h. (c h 0 ≡ 0) × (ic h 0 ≡ 0))
      (each_record (λ h. (c h 0 ≡ 0) × (ic h 0 ≡ 0)) (λ n. (refl, refl))
      (λ j m. (c_is (nameless s) j ∙ widen_script_zero _ j 0 (omega arith), ic_is (nameless s) j ∙ widen_script_zero _ j 1 (omega arith)))) i l in
      (sym (c_is b i) ∙ h.0, sym (ic_is b i) ∙ h.1)

  no_callers : (i : ℕ) → i < records b → kind b i ≡ 11 → r b i ≡ 0
  no_callers i l k =
      sym (r_field b i)
      ∙ imported_record (λ h. kind h 0 ≡ 11 → r h 0 ≡ 0)
      (each_record (λ h. kind h 0 ≡ 11 → r h 0 ≡ 0) (λ n e. absurd (omega arith))
      (λ j m e. r_field (nameless s) j ∙ was_zero g (widen_types t) s octets_s old j m (sym (kind_field (nameless s) j) ∙ e))) i l (kind_field b i ∙ k)

  abbrev u : Bytes
  u = narrow (records b) b

  b_length : length b ≡ script_width * records b
  b_length = subst (λ (y : Bytes). length y ≡ script_width * records y) b_is (omega (arith, encode_length term_code e₁))

  u_is : widen_script u ≡ b
  u_is = narrowed (records b) b b_length no_creators

  u_records : old_records u ≡ records b
  u_records = sym (widen_script_records u) ∙ ap records u_is

  u_existing : Existing form_1 u
  u_existing i l k =
      let m : i < records b = omega (arith, u_records) in
      let z : script_width * i + 0 ≡ script_width * i = omega arith in
      let y : old_script_width * i ≡ old_script_width * i + 0 = omega arith in
      let kind_u : kind b i ≡ old_kind u i =
      ap (λ (v : Bytes). kind v i) (sym u_is) ∙ ap (byte (widen_script u)) (sym z) ∙ widen_script_byte u i 0 l (omega arith) ∙ ap (byte u) (sym y) in
      sym (widen_script_byte u i 1 l (omega arith)) ∙ ap (λ (v : Bytes). r v i) u_is ∙ no_callers i m (kind_u ∙ k)

  b_octets : Octets b
  unfolding named_term
  b_octets =
      let f = form_yes g (widen_types t) (nameless s) x.form in
      let deep : depth e₁ ≤ 256 = omega (arith, new_depth g (widen_types t) s, q18_depth e₀ (ap q18 w₀.encoded ∙ f.shallow)) in
      let small = scoped_small e₁ 0 (q30_scoped s w₀ x.bound) (omega (arith, deep)) in
      let others = each_record OctetsElse (λ n d. absurd (d refl)) (λ j m d. record_octets (nameless s) j (nameless_octets s octets_s)) in
      subst Octets b_is (encode_octets e₁ (record { at = λ j y a. head_octets y (others.at j y a) (small.at j y a) }))

  module _ (octets_g : Octets g) (octets_t : Octets t) where
    pub before : AsBefore g t s most b
    before = record {
      old = u;
      without = u_is;
      with = widened_callers t u ∙ ap (write_callers_of type_width script_width (widen_types t)) u_is;
      migrated = migration.migrated form_1 g t u octets_g octets_t (narrow_octets (records b) b b_octets) u_existing;
    }

pub importing : Importing
unfolding Importing
importing = imports

pub exporting : Exporting
unfolding Exporting
exporting = exports

pub importing_called : ImportingCalled
unfolding ImportingCalled
importing_called = imports_called

pub imported_as_before : ImportedAsBefore
unfolding ImportedAsBefore
imported_as_before g t s G T S old most b q = before g t s S old most b q G T
