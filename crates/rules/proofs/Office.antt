-- Old office scripts on bytes: their records in the present form, their names, and questions 29 and 30 of their terms.
use Rattle.std.proofs.Common.{◌≡◌, refl, ap, sym, subst, ◌∙◌, Bool, true, List, [], ◌∷◌, ◌++◌, append-nil, ℕ, zero, suc}
use Rattle.std.proofs.Common.{◌+◌, ◌*◌, ◌%◌, ◌≤◌, ◌<◌, arith, eqb-true, leb-true, ltb-true, lt-ltb, ne_eqb, nat_eq}
use Rattle.std.proofs.Common.{nat_lt, length, get_or, take, drop, length-append, length-drop, get_or-drop, get_or-take}
use Rattle.std.proofs.Common.{length-take-le}
use Rattle.std.proofs.Math.Bool.{and-eq-true_iff}
use Rattle.std.proofs.Math.ListN.{get_or-append}
use Rattle.std.proofs.lemmas.List.{get_or-append-add}
use Rattle.calculus.specs.Terms.{first, second, plus, less, Term, var, unit, lam, pair, inj, app, proj, case, protect}
use Rattle.calculus.specs.Terms.{mu, literal, reckon}
use Rattle.rules.specs.Answer.{Bytes, byte, Octets, accepted, ◌⇒◌}
use Rattle.rules.specs.Limits.{script_width, old_script_width, office_width, office_limit}
use Rattle.rules.specs.Callers.{old_records}
use Rattle.rules.specs.Script.{encode, size, kind, records, term, q13}
use Rattle.rules.specs.Names.{nearest, meant, scopes}
use Rattle.rules.specs.Office.{office_records, office_kind, first_name, second_name, first_six, nameless, with_names}
use Rattle.rules.specs.Office.{named_term, q28, ok30, q30}
use Rattle.rules.proofs.Search.{each_all, each_accepted}
use Rattle.rules.proofs.Prefix.{Shape, Code}
use Rattle.rules.proofs.Parts.{record_byte}
use Rattle.rules.proofs.PrefixLaws.{size_positive, encode_length, alone, record_is}
use Rattle.rules.proofs.Nodes.{operand_at}
use Rattle.rules.proofs.TermCode.{term_code, term_head}
use Rattle.rules.proofs.Scope.{Scoped}
use Rattle.rules.proofs.Asked.{ask_true}
use Rattle.rules.proofs.ScriptLength.{fitting_q13}
use Rattle.rules.proofs.Scripts.{Whole}
use Rattle.rules.proofs.Widening.{widen_script_length, widen_script_byte, widen_script_octets}
use Rattle.rules.proofs.Octets.{octets_append, octets_take, octets_drop}
use Rattle.std.proofs.lemmas.Grind.{common_steps}

-- A tree that stands at a record, and its operands.
pub record Stands {T : Type 0} {S : Shape T} (C : Code S) (s : Bytes) (i : ℕ) (e : T) : Type 0 where
  pub rest : Bytes
  pub is : drop (C.width * i) s ≡ C.encode e ++ rest

module _ {T : Type 0} {S : Shape T} (C : Code S) {s : Bytes} {i : ℕ} {e : T} (at : Stands C s i e) where
  moved : {d : T} (j k : ℕ) (rest : Bytes) → j ≡ k → drop (C.width * j) s ≡ C.encode d ++ rest → Stands C s k d
  moved j k rest p h = record { rest = rest; is = ap (λ n. drop (C.width * n) s) (sym p) ∙ h }

  pub operand_1 : {d : T} {later : List T} → S.operands e ≡ d ∷ later → Stands C s (1 + i) d
  operand_1 {d} {later} h = moved (suc i + 0) (1 + i) _ (omega arith) (operand_at C s i e at.rest at.is [] d later h)

  pub operand_2 : {a d : T} {later : List T} → S.operands e ≡ a ∷ d ∷ later → Stands C s (1 + i + S.size a) d
  operand_2 {a} {d} {later} h = moved (suc i + (S.size a + 0)) (1 + i + S.size a) _ (omega arith) (operand_at C s i e at.rest at.is (a ∷ []) d later h)

  pub operand_3 : {a b d : T} {later : List T} → S.operands e ≡ a ∷ b ∷ d ∷ later → Stands C s (1 + i + S.size a + S.size b) d
  operand_3 {a} {b} {d} {later} h =
      moved (suc i + (S.size a + (S.size b + 0))) (1 + i + S.size a + S.size b) _ (omega arith) (operand_at C s i e at.rest at.is (a ∷ b ∷ []) d later h)

  -- a byte of its record
  pub head_byte : (m : ℕ) → m < C.width → byte s (C.width * i + m) ≡ byte (C.head e) m
  head_byte m l = sym (record_byte C.width s i m l) ∙ ap (λ b. byte b m) (record_is C s i e at.rest at.is)

pub stands_whole : {T : Type 0} {S : Shape T} (C : Code S) (e : T) → Stands C (C.encode e) 0 e
stands_whole C e = record { rest = []; is = alone C e }

stands_length : {s : Bytes} {i : ℕ} {e : Term} → Stands term_code s i e → script_width * i + script_width * size e ≤ length s
stands_length {s} {i} {e} at =
    omega (arith, ap length at.is, length-drop (script_width * i) s, length-append (encode e) at.rest, encode_length term_code e, size_positive term_code e)

-- The first six bytes of the records.
first_six_length : (n : ℕ) (s : Bytes) → office_width * n ≤ length s → length (first_six n s) ≡ old_script_width * n
unfolding first_six
first_six_length zero s l = refl
first_six_length (suc n) s l =
    length-append (take 6 s) (first_six n (drop 10 s))
    ∙ omega (arith, length-take-le 6 s (omega arith), first_six_length n (drop 10 s) (omega (arith, length-drop 10 s)))

first_six_byte : (n : ℕ) (s : Bytes) (i m : ℕ) → office_width * n ≤ length s → i < n → m < old_script_width
    → byte (first_six n s) (old_script_width * i + m) ≡ byte s (office_width * i + m)
unfolding first_six
first_six_byte zero s i m l a d = absurd (omega arith)
first_six_byte (suc n) s zero m l a d = grind (arith, length-take-le, get_or-append, get_or-take)
first_six_byte (suc n) s (suc i) m l a d =
    let e : length (take 6 s) ≡ 6 = length-take-le 6 s (omega arith) in
    let p : 6 * suc i + m ≡ length (take 6 s) + (6 * i + m) = omega (arith, e) in
    let q : 10 + (10 * i + m) ≡ 10 * suc i + m = omega arith in
    cc (p, get_or-append-add (take 6 s) (first_six n (drop 10 s)) (6 * i + m) 0, first_six_byte n (drop 10 s) i m (omega (arith, length-drop 10 s)) (omega arith) d, get_or-drop 10 s (10 * i + m) 0, q)

first_six_octets : (n : ℕ) (s : Bytes) → Octets s → Octets (first_six n s)
unfolding first_six
first_six_octets zero s p i = omega arith
first_six_octets (suc n) s p i =
    octets_append (take 6 s) (first_six n (drop 10 s)) (octets_take 6 s p) (first_six_octets n (drop 10 s) (octets_drop 10 s p)) i

-- The records in the present form.
module _ (s : Bytes) where
  whole : office_width * office_records s ≤ length s
  whole = omega arith

  six_records : old_records (first_six (office_records s) s) ≡ office_records s
  six_records = omega (arith, first_six_length (office_records s) s whole)

  pub nameless_length : length (nameless s) ≡ script_width * office_records s
  unfolding nameless
  nameless_length = omega (arith, widen_script_length (first_six (office_records s) s), six_records)

  pub nameless_records : records (nameless s) ≡ office_records s
  nameless_records = omega (arith, nameless_length)

  pub nameless_octets : Octets s → Octets (nameless s)
  unfolding nameless
  nameless_octets o = widen_script_octets (first_six (office_records s) s) (first_six_octets (office_records s) s o)

  pub nameless_byte : (i m : ℕ) → i < office_records s → m < old_script_width → byte (nameless s) (script_width * i + m) ≡ byte s (office_width * i + m)
  unfolding nameless
  nameless_byte i m l d = grind (arith, widen_script_byte, six_records, first_six_byte)

  pub nameless_kind : (i : ℕ) → i < office_records s → kind (nameless s) i ≡ office_kind s i
  nameless_kind i l =
      let p : script_width * i ≡ script_width * i + 0 = omega arith in
      let q : office_width * i + 0 ≡ office_width * i = omega arith in
      ap (byte (nameless s)) p ∙ nameless_byte i 0 l (omega arith) ∙ ap (byte s) q

  -- the kind of a term's record
  pub kind_here : {i : ℕ} {e : Term} → Stands term_code (nameless s) i e → office_kind s i ≡ byte (term_head e) 0
  kind_here {i} {e} at = grind (arith, common_steps, nameless_kind, stands_length, nameless_length, size_positive, term_code, head_byte)

-- Question 28.
pub record Measured (s : Bytes) : Type 0 where
  pub whole : length s % office_width ≡ 0
  pub some_record : 1 ≤ office_records s
  pub limited : office_records s ≤ office_limit

pub q28_measured : (s : Bytes) → q28 s ≡ accepted tt → Measured s
q28_measured s q =
    let a = (and-eq-true_iff _ _).0 (ask_true 28 0 _ q) in
    let b = (and-eq-true_iff _ _).0 a.1 in
    record {
      whole = eqb-true (length s % office_width) 0 a.0;
      some_record = leb-true 1 (office_records s) b.0;
      limited = leb-true (office_records s) office_limit b.1;
    }

pub nameless_13 : (s : Bytes) → q28 s ≡ accepted tt → q13 [] (nameless s) ≡ accepted tt
nameless_13 s q = grind (arith, q28_measured, fitting_q13, nameless_length, nameless_records)

-- A test of each record with its scope.
abbrev pub Passing : (ℕ → List ℕ → Bool) → ℕ → List (List ℕ) → Type 0
Passing ok i [] = Unit {0}
Passing ok i (n ∷ ns) = (ok i n ≡ true) × Passing ok (suc i) ns

module _ (ok : ℕ → List ℕ → Bool) where
  moved_by : {i j : ℕ} (ns : List (List ℕ)) → i ≡ j → Passing ok i ns → Passing ok j ns
  moved_by ns p = subst (λ (k : ℕ). Passing ok k ns) p

  both : (xs ys : List (List ℕ)) (i j : ℕ) → j ≡ i + length xs → Passing ok i xs → Passing ok j ys → Passing ok i (xs ++ ys)
  both [] ys i j p h g = moved_by ys (omega arith) g
  both (x ∷ xs) ys i j p h g = (h.0, both xs ys (suc i) j (omega arith) h.1 g)

  apart : (xs ys : List (List ℕ)) (i j : ℕ) → j ≡ i + length xs → Passing ok i (xs ++ ys) → Passing ok i xs × Passing ok j ys
  apart [] ys i j p h = (tt, moved_by ys (omega arith) h)
  apart (x ∷ xs) ys i j p h = let q = apart xs ys (suc i) j (omega arith) h.1 in ((h.0, q.0), q.1)

  pub passing_all : (ns : List (List ℕ)) (i k : ℕ) → Passing ok i ns → k < length ns → ok (i + k) (get_or ns k []) ≡ true
  passing_all [] i k h l = absurd (omega arith)
  passing_all (n ∷ ns) i zero h l = let p : i + 0 ≡ i = omega arith in ap (λ x. ok x n) p ∙ h.0
  passing_all (n ∷ ns) i (suc k) h l =
      let p : i + suc k ≡ suc i + k = omega arith in
      ap (λ x. ok x (get_or ns k [])) p ∙ passing_all ns (suc i) k h.1 (omega arith)

  pub all_passing : (ns : List (List ℕ)) (i : ℕ) → ((k : ℕ) → k < length ns → ok (i + k) (get_or ns k []) ≡ true) → Passing ok i ns
  all_passing [] i h = tt
  all_passing (n ∷ ns) i h =
      let p : i ≡ i + 0 = omega arith in (
        ap (λ x. ok x n) p ∙ h 0 (omega arith),
        all_passing ns (suc i)
            (λ k l. let q : suc i + k ≡ i + suc k = omega arith in ap (λ x. ok x (get_or ns k [])) q ∙ h (suc k) (omega arith)),
      )

-- question 30 of record i in a scope
abbrev pub bound : Bytes → ℕ → List ℕ → Bool
bound s i ns = nat_eq (office_kind s i) 0 ⇒ nat_lt (nearest (first_name s i) ns) (length ns)

module _ (s : Bytes) where
  pub scopes_length : (i : ℕ) (ns : List ℕ) (e : Term) → length (scopes ns (with_names s i e)) ≡ size e
  unfolding scopes with_names size
  scopes_length i ns (lam k t e) = omega (arith, scopes_length (1 + i) (first_name s i ∷ ns) e)
  scopes_length i ns (pair k a b) =
      omega (arith, length-append (scopes ns (with_names s (1 + i) a)) (scopes ns (with_names s (1 + i + size a) b)), scopes_length (1 + i) ns a, scopes_length (1 + i + size a) ns b)
  scopes_length i ns (inj d k t e) = omega (arith, scopes_length (1 + i) ns e)
  scopes_length i ns (app w a b) =
      omega (arith, length-append (scopes ns (with_names s (1 + i) a)) (scopes ns (with_names s (1 + i + size a) b)), scopes_length (1 + i) ns a, scopes_length (1 + i + size a) ns b)
  scopes_length i ns (proj d w e) = omega (arith, scopes_length (1 + i) ns e)
  scopes_length i ns (case w t e a b) =
      let x = first_name s i ∷ ns in
      let y = second_name s i ∷ ns in
      let p = 1 + i + size e in
      omega (
        arith,
        length-append (scopes ns (with_names s (1 + i) e)) (scopes x (with_names s p a) ++ scopes y (with_names s (p + size a) b)),
        length-append (scopes x (with_names s p a)) (scopes y (with_names s (p + size a) b)),
        scopes_length (1 + i) ns e,
        scopes_length p x a,
        scopes_length (p + size a) y b,
      )
  scopes_length i ns (protect m e) = omega (arith, scopes_length (1 + i) ns e)
  scopes_length i ns (mu w t e) = omega (arith, scopes_length (1 + i) (first_name s i ∷ ns) e)
  scopes_length i ns (reckon o w a b) =
      omega (arith, length-append (scopes ns (with_names s (1 + i) a)) (scopes ns (with_names s (1 + i + size a) b)), scopes_length (1 + i) ns a, scopes_length (1 + i + size a) ns b)
  scopes_length i ns _ = refl

  -- a record that is no variable's
  other : {i : ℕ} {e : Term} (ns : List ℕ) → Stands term_code (nameless s) i e → (k : ℕ) → byte (term_head e) 0 ≡ suc k → bound s i ns ≡ true
  other ns at k p = rw (kind_here s at, p, ne_eqb (suc k) 0 (λ e. omega arith)) refl

  -- two operands one after the other
  split_2 : (ns : List ℕ) (i : ℕ) (a b : Term) → Passing (bound s) (suc i) (scopes ns (with_names s (1 + i) a) ++ scopes ns (with_names s (1 + i + size a) b))
      → Passing (bound s) (1 + i) (scopes ns (with_names s (1 + i) a)) × Passing (bound s) (1 + i + size a) (scopes ns (with_names s (1 + i + size a) b))
  split_2 ns i a b h =
      let z : suc i ≡ 1 + i = omega arith in
      let p = apart (bound s) (scopes ns (with_names s (1 + i) a)) (scopes ns (with_names s (1 + i + size a) b)) (suc i) (1 + i + size a) (omega (arith, scopes_length (1 + i) ns a)) h in
      (moved_by (bound s) (scopes ns (with_names s (1 + i) a)) z p.0, p.1)

  join_2 : (ns : List ℕ) (i : ℕ) (a b : Term) → Passing (bound s) (1 + i) (scopes ns (with_names s (1 + i) a))
      → Passing (bound s) (1 + i + size a) (scopes ns (with_names s (1 + i + size a) b))
      → Passing (bound s) (suc i) (scopes ns (with_names s (1 + i) a) ++ scopes ns (with_names s (1 + i + size a) b))
  join_2 ns i a b h g =
      let z : 1 + i ≡ suc i = omega arith in
      both (bound s) (scopes ns (with_names s (1 + i) a)) (scopes ns (with_names s (1 + i + size a) b)) (suc i) (1 + i + size a) (omega (arith, scopes_length (1 + i) ns a))
      (moved_by (bound s) (scopes ns (with_names s (1 + i) a)) z h) g

  one : (ns : List ℕ) (i : ℕ) (e : Term) → Passing (bound s) (1 + i) (scopes ns (with_names s (1 + i) e)) → Passing (bound s) (suc i) (scopes ns (with_names s (1 + i) e))
  one ns i e = let z : 1 + i ≡ suc i = omega arith in moved_by (bound s) (scopes ns (with_names s (1 + i) e)) z

  one_of : (ns : List ℕ) (i : ℕ) (e : Term) → Passing (bound s) (suc i) (scopes ns (with_names s (1 + i) e)) → Passing (bound s) (1 + i) (scopes ns (with_names s (1 + i) e))
  one_of ns i e = let z : suc i ≡ 1 + i = omega arith in moved_by (bound s) (scopes ns (with_names s (1 + i) e)) z

  -- Question 30 of the records of a term is question 19 of what it means.
  pub passing_scoped : (e : Term) (i : ℕ) (ns : List ℕ) → Stands term_code (nameless s) i e → Passing (bound s) i (scopes ns (with_names s i e))
      → Scoped (length ns) (meant ns (with_names s i e))
  unfolding scopes meant with_names
  passing_scoped (var n) i ns at h = ltb-true _ (length ns) (rw (kind_here s at) at h.0)
  passing_scoped (unit k) i ns at h = tt
  passing_scoped (lam k t e) i ns at h =
      passing_scoped e (1 + i) (first_name s i ∷ ns) (operand_1 term_code at refl) (one_of (first_name s i ∷ ns) i e h.1)
  passing_scoped (pair k a b) i ns at h =
      let p = split_2 ns i a b h.1 in
      (passing_scoped a (1 + i) ns (operand_1 term_code at refl) p.0, passing_scoped b (1 + i + size a) ns (operand_2 term_code at refl) p.1)
  passing_scoped (inj d k t e) i ns at h = passing_scoped e (1 + i) ns (operand_1 term_code at refl) (one_of ns i e h.1)
  passing_scoped (app w a b) i ns at h =
      let p = split_2 ns i a b h.1 in
      (passing_scoped a (1 + i) ns (operand_1 term_code at refl) p.0, passing_scoped b (1 + i + size a) ns (operand_2 term_code at refl) p.1)
  passing_scoped (proj d w e) i ns at h = passing_scoped e (1 + i) ns (operand_1 term_code at refl) (one_of ns i e h.1)
  passing_scoped (case w t e a b) i ns at h =
      let x = first_name s i ∷ ns in
      let y = second_name s i ∷ ns in
      let j = 1 + i + size e in
      let branches = scopes x (with_names s j a) ++ scopes y (with_names s (j + size a) b) in
      let p = apart (bound s) (scopes ns (with_names s (1 + i) e)) branches (suc i) j (omega (arith, scopes_length (1 + i) ns e)) h.1 in
      let q = apart (bound s) (scopes x (with_names s j a)) (scopes y (with_names s (j + size a) b)) j (j + size a) (omega (arith, scopes_length j x a)) p.1 in (
        passing_scoped e (1 + i) ns (operand_1 term_code at refl) (one_of ns i e p.0),
        passing_scoped a j x (operand_2 term_code at refl) q.0,
        passing_scoped b (j + size a) y (operand_3 term_code at refl) q.1,
      )
  passing_scoped (protect m e) i ns at h = passing_scoped e (1 + i) ns (operand_1 term_code at refl) (one_of ns i e h.1)
  passing_scoped (mu w t e) i ns at h =
      passing_scoped e (1 + i) (first_name s i ∷ ns) (operand_1 term_code at refl) (one_of (first_name s i ∷ ns) i e h.1)
  passing_scoped (literal k n) i ns at h = tt
  passing_scoped (reckon o w a b) i ns at h =
      let p = split_2 ns i a b h.1 in
      (passing_scoped a (1 + i) ns (operand_1 term_code at refl) p.0, passing_scoped b (1 + i + size a) ns (operand_2 term_code at refl) p.1)

  pub scoped_passing : (e : Term) (i : ℕ) (ns : List ℕ) → Stands term_code (nameless s) i e → Scoped (length ns) (meant ns (with_names s i e))
      → Passing (bound s) i (scopes ns (with_names s i e))
  unfolding scopes meant with_names
  scoped_passing (var n) i ns at h = (rw (kind_here s at) (lt-ltb _ (length ns) h), tt)
  scoped_passing (unit k) i ns at h = (other ns at 0 refl, tt)
  scoped_passing (lam k t e) i ns at h =
      (other ns at 1 refl, one (first_name s i ∷ ns) i e (scoped_passing e (1 + i) (first_name s i ∷ ns) (operand_1 term_code at refl) h))
  scoped_passing (pair k a b) i ns at h = (
    other ns at 2 refl,
    join_2 ns i a b (scoped_passing a (1 + i) ns (operand_1 term_code at refl) h.0) (scoped_passing b (1 + i + size a) ns (operand_2 term_code at refl) h.1),
  )
  scoped_passing (inj first k t e) i ns at h = (other ns at 3 refl, one ns i e (scoped_passing e (1 + i) ns (operand_1 term_code at refl) h))
  scoped_passing (inj second k t e) i ns at h = (other ns at 4 refl, one ns i e (scoped_passing e (1 + i) ns (operand_1 term_code at refl) h))
  scoped_passing (app w a b) i ns at h = (
    other ns at 5 refl,
    join_2 ns i a b (scoped_passing a (1 + i) ns (operand_1 term_code at refl) h.0) (scoped_passing b (1 + i + size a) ns (operand_2 term_code at refl) h.1),
  )
  scoped_passing (proj first w e) i ns at h = (other ns at 6 refl, one ns i e (scoped_passing e (1 + i) ns (operand_1 term_code at refl) h))
  scoped_passing (proj second w e) i ns at h = (other ns at 7 refl, one ns i e (scoped_passing e (1 + i) ns (operand_1 term_code at refl) h))
  scoped_passing (case w t e a b) i ns at h =
      let x = first_name s i ∷ ns in
      let y = second_name s i ∷ ns in
      let j = 1 + i + size e in
      let p = scoped_passing e (1 + i) ns (operand_1 term_code at refl) h.0 in
      let q = scoped_passing a j x (operand_2 term_code at refl) h.1 in
      let d = scoped_passing b (j + size a) y (operand_3 term_code at refl) h.2 in
      let branches = scopes x (with_names s j a) ++ scopes y (with_names s (j + size a) b) in (
        other ns at 8 refl,
        both (bound s) (scopes ns (with_names s (1 + i) e)) branches (suc i) j (omega (arith, scopes_length (1 + i) ns e)) (one ns i e p)
            (both (bound s) (scopes x (with_names s j a)) (scopes y (with_names s (j + size a) b)) j (j + size a) (omega (arith, scopes_length j x a)) q d),
      )
  scoped_passing (protect m e) i ns at h = (other ns at 9 refl, one ns i e (scoped_passing e (1 + i) ns (operand_1 term_code at refl) h))
  scoped_passing (mu w t e) i ns at h =
      (other ns at 10 refl, one (first_name s i ∷ ns) i e (scoped_passing e (1 + i) (first_name s i ∷ ns) (operand_1 term_code at refl) h))
  scoped_passing (literal k n) i ns at h = (other ns at 11 refl, tt)
  scoped_passing (reckon plus w a b) i ns at h = (
    other ns at 12 refl,
    join_2 ns i a b (scoped_passing a (1 + i) ns (operand_1 term_code at refl) h.0) (scoped_passing b (1 + i + size a) ns (operand_2 term_code at refl) h.1),
  )
  scoped_passing (reckon (less t) w a b) i ns at h = (
    other ns at 13 refl,
    join_2 ns i a b (scoped_passing a (1 + i) ns (operand_1 term_code at refl) h.0) (scoped_passing b (1 + i + size a) ns (operand_2 term_code at refl) h.1),
  )

-- Question 30 of a script whose records are a term's.
module _ (s : Bytes) (w : Whole (nameless s)) where
  abbrev e₀ : Term
  e₀ = term (nameless s)

  at_start : Stands term_code (nameless s) 0 e₀
  at_start = record { rest = []; is = sym w.encoded ∙ sym (append-nil (encode e₀)) }

  pub scope_count : length (scopes [] (named_term s)) ≡ office_records s
  unfolding named_term
  scope_count = omega (arith, scopes_length s 0 [] e₀, w.sized, nameless_records s)

  pub q30_scoped : q30 s ≡ accepted tt → Scoped 0 (meant [] (named_term s))
  unfolding named_term ok30
  q30_scoped q =
      passing_scoped s e₀ 0 [] at_start
      (all_passing (bound s) (scopes [] (with_names s 0 e₀)) 0
      (λ k l. let z : 0 + k ≡ k = omega arith in
      ap (λ x. bound s x (get_or (scopes [] (with_names s 0 e₀)) k [])) z
      ∙ each_all 30 (office_records s) (ok30 (scopes [] (with_names s 0 e₀)) s) q k (omega (arith, scope_count))))

  pub scoped_q30 : Scoped 0 (meant [] (named_term s)) → q30 s ≡ accepted tt
  unfolding named_term ok30
  scoped_q30 h =
      each_accepted 30 (office_records s) (ok30 (scopes [] (with_names s 0 e₀)) s)
      (λ k l. let z : k ≡ 0 + k = omega arith in
      ap (λ x. bound s x (get_or (scopes [] (with_names s 0 e₀)) k [])) z
      ∙ passing_all (bound s) (scopes [] (with_names s 0 e₀)) 0 k (scoped_passing s e₀ 0 [] at_start h) (omega (arith, scope_count)))
