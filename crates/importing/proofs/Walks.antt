-- A walk over a term, operand by operand: what question 30 is asked of, and what is written.
use Rattle.std.proofs.Common.{◌≡◌, refl, sym, ap, ap₂, ◌∙◌, List, [], ◌∷◌, ◌++◌, append_assoc, append-nil, ℕ, suc, ◌+◌}
use Rattle.std.proofs.Common.{◌*◌, ◌≤◌, ◌<◌, arith, true, nat_eq, nat_lt, length, subst as transport, ne_eqb}
use Rattle.calculus.specs.Terms.{Term, var}
use Rattle.rules.specs.Answer.{Bytes, Answer, accepted, refused, ask, ◌>>◌}
use Rattle.rules.specs.Limits.{script_width}
use Rattle.rules.specs.Script.{script_record, encode, size}
use Rattle.rules.specs.Names.{nearest, meant, scopes}
use Rattle.rules.specs.Office.{office_kind, first_name, with_names}
use Rattle.rules.proofs.Prefix.{joined, total}
use Rattle.rules.proofs.Parts.{joined_append}
use Rattle.rules.proofs.TermCode.{term_operands, term_head}
use Rattle.rules.proofs.Office.{scopes_length}
use Rattle.memory.specs.Written.{Room, Written}
use Rattle.memory.specs.declared.Writer.{Writer}
use Rattle.memory.proofs.Placed.{then as written_then}
use Rattle.records.specs.Kinds as kinds
use Rattle.records.proofs.Passing.{Passed, Ahead, started, passed_more, none_left, whole}
use Rattle.records.proofs.Stands.{kind_of}
use Rattle.scope.specs.Walk.{scan_records}
use Rattle.scope.proofs.Scans.{then, past_then, scan_first, scan_nothing, scan_append, scan_end}
use Rattle.importing.specs.Fields.{is_bound}
use Rattle.importing.specs.Scope.{scope, Resolved}
use Rattle.importing.proofs.Names.{scope_length}
use Rattle.importing.proofs.Operands.{variable_alone, scopes_from, meant_from, scopes_are, meant_encode, meant_append}
use Rattle.importing.proofs.NamesOver.{inner}

-- question 30 of the records of a term
abbrev pub scanned : Bytes → ℕ → List ℕ → Term → Answer ℕ
scanned o i ns e = scan_records 30 (is_bound o) i (scopes ns (with_names o i e))

-- the first j operands are scanned and written, and the next one stands at record `next`
pub record Reached (o : Bytes) (i : ℕ) (ns : List ℕ) (e : Term) (w : Writer) (j next : ℕ) (w' : Writer) : Type 0 where
  pub passed : Passed i e j next
  pub goes_on : scanned o i ns e ≡ scan_records 30 (is_bound o) next (scopes_from o i (kind_of e) ns j next passed.after)
  pub wrote : Written (term_head e ++ joined encode (meant_from o i (kind_of e) ns 0 (1 + i) passed.before)) w w'

module _ (o : Bytes) (i : ℕ) (ns : List ℕ) (e : Term) where
  -- a record that is no variable's passes
  passes : office_kind o i ≡ kind_of e → (kind_of e ≡ kinds.variable → ⊥) → is_bound o i ns ≡ true
  passes p h = rw (p, ne_eqb (kind_of e) 0 h) refl

  pub reach : office_kind o i ≡ kind_of e → (kind_of e ≡ kinds.variable → ⊥) → {w w' : Writer} → Written (term_head e) w w' → Reached o i ns e w 0 (i + 1) w'
  reach p h {w} {w'} m =
      let z : suc i ≡ i + 1 = omega arith in
      let y : 1 + i ≡ i + 1 = omega arith in
      let rest = scopes_from o i (kind_of e) ns 0 (1 + i) (term_operands e) in
      record {
        passed = started i e;
        goes_on = ap (scan_records 30 (is_bound o) i) (scopes_are o i ns e) ∙ scan_first 30 (is_bound o) i ns rest
            ∙ ap (λ b. ◌>>◌ (ask 30 i b) (scan_records 30 (is_bound o) (suc i) rest)) (passes p h)
            ∙ ap₂ (λ x v. scan_records 30 (is_bound o) x (scopes_from o i (kind_of e) ns 0 v (term_operands e))) z y;
        wrote = transport (λ (b : Bytes). Written b w w') (sym (append-nil (term_head e))) m;
      }

module _ {o : Bytes} {i : ℕ} {ns : List ℕ} {e : Term} {w : Writer} {j next : ℕ} {w' : Writer} (p : Reached o i ns e w j next w') where
  -- nothing is left: the answer is the record after the term
  pub end : j ≡ length (term_operands e) → accepted next ≡ scanned o i ns e
  end h =
      sym (p.goes_on ∙ ap (λ l. scan_records 30 (is_bound o) next (scopes_from o i (kind_of e) ns j next l)) (none_left p.passed h) ∙ scan_nothing 30 (is_bound o) next)

  pub all_written : j ≡ length (term_operands e) → (kind_of e ≡ kinds.variable → ⊥) → Written (encode (meant ns (with_names o i e))) w w'
  all_written h d =
      transport (λ (b : Bytes). Written b w w')
      (ap (λ es. term_head e ++ joined encode (meant_from o i (kind_of e) ns 0 (1 + i) es)) (whole p.passed h) ∙ sym (meant_encode o i ns e d)) p.wrote

  module _ (a : Ahead p.passed) where
    abbrev under : List ℕ
    under = inner o i (kind_of e) j ns

    onward : scanned o i ns e
        ≡ then (scanned o next under a.operand) (λ k. scan_records 30 (is_bound o) k (scopes_from o i (kind_of e) ns (suc j) (next + size a.operand) a.later))
    onward =
        p.goes_on ∙ ap (λ l. scan_records 30 (is_bound o) next (scopes_from o i (kind_of e) ns j next l)) a.is
        ∙ scan_append 30 (is_bound o) next (scopes under (with_names o next a.operand)) (scopes_from o i (kind_of e) ns (suc j) (next + size a.operand) a.later)

    pub stop : {x y : ℕ} → refused x y ≡ scanned o next under a.operand → refused x y ≡ scanned o i ns e
    stop h =
        ap (λ y. then y (λ k. scan_records 30 (is_bound o) k (scopes_from o i (kind_of e) ns (suc j) (next + size a.operand) a.later))) h ∙ sym onward

    pub pass : (k : ℕ) → accepted k ≡ scanned o next under a.operand → {w'' : Writer} → Written (encode (meant under (with_names o next a.operand))) w' w''
        → Reached o i ns e w (j + 1) k w''
    pass k h {w''} m =
        let z : k ≡ next + size a.operand = omega (arith, scan_end 30 (is_bound o) next k _ (sym h), scopes_length o next under a.operand) in
        let y : suc j ≡ j + 1 = omega arith in
        let q = p.passed in
        let d = meant under (with_names o next a.operand) in
        let front = term_head e ++ joined encode (meant_from o i (kind_of e) ns 0 (1 + i) q.before) in
        let v : 0 + length q.before ≡ j = omega (arith, q.count) in
        let u : 1 + i + total size q.before ≡ next = omega (arith, q.next_is) in
        let more : meant_from o i (kind_of e) ns 0 (1 + i) (q.before ++ a.operand ∷ []) ≡ meant_from o i (kind_of e) ns 0 (1 + i) q.before ++ (d ∷ []) =
        meant_append o i (kind_of e) ns 0 (1 + i) q.before (a.operand ∷ [])
        ∙ ap₂ (λ x l. meant_from o i (kind_of e) ns 0 (1 + i) q.before ++ (meant (inner o i (kind_of e) x ns) (with_names o l a.operand) ∷ [])) v u in
        let bytes : front ++ encode d ≡ term_head e ++ joined encode (meant_from o i (kind_of e) ns 0 (1 + i) (q.before ++ a.operand ∷ [])) =
        append_assoc (term_head e) (joined encode (meant_from o i (kind_of e) ns 0 (1 + i) q.before)) (encode d)
        ∙ ap (λ b. term_head e ++ b)
        (ap (λ b. joined encode (meant_from o i (kind_of e) ns 0 (1 + i) q.before) ++ b) (sym (append-nil (encode d)))
        ∙ sym (joined_append encode (meant_from o i (kind_of e) ns 0 (1 + i) q.before) (d ∷ []))
        ∙ ap (joined encode) (sym more)) in
        record {
          passed = passed_more q a k z;
          goes_on =
              onward ∙ past_then _ k (λ x. scan_records 30 (is_bound o) x (scopes_from o i (kind_of e) ns (suc j) (next + size a.operand) a.later)) (sym h)
              ∙ ap₂ (λ x l. scan_records 30 (is_bound o) k (scopes_from o i (kind_of e) ns x l a.later)) y (sym z);
          wrote = transport (λ (b : Bytes). Written b w w'') bytes (written_then p.wrote m);
        }

-- A variable: question 30 of it, and what it means.
module _ (o : Bytes) (i n : ℕ) (names : List ℕ) (is_variable : office_kind o i ≡ kinds.variable) where
  abbrev number : ℕ
  number = nearest (first_name o i) (scope names n)

  bound_is : is_bound o i (scope names n) ≡ nat_lt number n
  bound_is = rw (is_variable, scope_length names n) refl

  scan_variable : (m : ℕ) → scanned o i (scope names n) (var m) ≡ ◌>>◌ (ask 30 i (nat_lt number n)) (accepted (i + 1))
  unfolding scopes with_names
  scan_variable m =
      let z : suc i ≡ i + 1 = omega arith in
      scan_first 30 (is_bound o) i (scope names n) []
      ∙ ap₂ (λ b a. ◌>>◌ (ask 30 i b) a) bound_is (scan_nothing 30 (is_bound o) (suc i) ∙ ap accepted z)

  refused_not : {A : Type 0} {q p : ℕ} {next : A} → refused q p ≡ accepted next → ⊥
  refused_not e = let x : ◌≡◌ {A = ℕ} 0 1 = cc in omega arith

  -- no binder has its name
  pub variable_refused : (e : Term) → kind_of e ≡ kinds.variable → {k : ℕ} → k ≡ number → {q p : ℕ} → refused q p ≡ ask 30 i (nat_lt k n) → {a : Answer ℕ} → a ≡ refused q p
      → (w : Writer) → Resolved o i n e names w a names w
  variable_refused e v {k} h {q} {p} r {a} f w =
      let d = variable_alone e v in
      let g : refused q p ≡ scanned o i (scope names n) (var d.0) =
      ap (λ (x : Answer (Unit {0})). ◌>>◌ x (accepted (i + 1))) (r ∙ ap (λ x. ask 30 i (nat_lt x n)) h) ∙ sym (scan_variable d.0) in
      record {
        asked = f ∙ g ∙ ap (scanned o i (scope names n)) (sym d.1);
        written = λ next y. absurd (refused_not (sym f ∙ y));
        kept = λ m l. refl;
        levels = refl;
      }

  pub variable_written : (e : Term) → kind_of e ≡ kinds.variable → {k : ℕ} → k ≡ number → accepted tt ≡ ask 30 i (nat_lt k n) → {w w' : Writer}
      → Written (script_record 0 0 0 k) w w' → Resolved o i n e names w (accepted (i + 1)) names w'
  unfolding encode meant with_names
  variable_written e v {k} h r {w} {w'} m =
      let d = variable_alone e v in
      let g : accepted (i + 1) ≡ scanned o i (scope names n) (var d.0) =
      ap (λ (x : Answer (Unit {0})). ◌>>◌ x (accepted (i + 1))) (r ∙ ap (λ x. ask 30 i (nat_lt x n)) h) ∙ sym (scan_variable d.0) in
      let bytes : script_record 0 0 0 k ≡ encode (meant (scope names n) (with_names o i e)) =
      ap (λ x. script_record 0 0 0 x) h ∙ ap (λ x. encode (meant (scope names n) (with_names o i x))) (sym d.1) in
      record {
        asked = g ∙ ap (scanned o i (scope names n)) (sym d.1);
        written = λ next y. transport (λ (b : Bytes). Written b w w') bytes m;
        kept = λ l z. refl;
        levels = refl;
      }
