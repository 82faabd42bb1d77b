-- Migration on bytes: a script of an earlier form and the rewritten one, both widened, get the same answers to
-- questions 2 to 19, and the term of the one is that of the other, rewritten.
use Rattle.std.proofs.Common.{◌≡◌, refl, sym, ap, ap₂, ◌∙◌, true, false, List, ℕ, ◌+◌, ◌*◌, ◌<◌, arith, lt-ltb}
use Rattle.std.proofs.Common.{ltb-true, nat_eq, nat_lt}
use Rattle.calculus.specs.Types.{top}
use Rattle.calculus.proofs.Booleans.{and_left}
use Rattle.calculus.proofs.SecureTyping.{top_secure}
use Rattle.rules.specs.Answer.{Bytes, byte, Octets}
use Rattle.rules.specs.Limits.{script_width, old_type_width, old_script_width}
use Rattle.rules.specs.Groups.{rows, properties_of}
use Rattle.rules.specs.Types.{type_count, type_at}
use Rattle.rules.specs.Script.{records, kind, r, number, term, q13, q15}
use Rattle.rules.specs.Callers.{old_records, old_kind, old_r, caller, write_callers}
use Rattle.rules.specs.Rewriting.{widen_types, widen_script}
use Rattle.rules.specs.Calls.{types_check, form_check, own_check, script_check}
use Rattle.rules.proofs.TypePlaces.{Standing}
use Rattle.rules.proofs.Callers.{callers_length, callers_r}
use Rattle.rules.proofs.Widening.{widen_script_length, widen_script_records, widen_script_byte, widened_callers_byte}
use Rattle.rules.proofs.OldTables.{old_number}
use Rattle.promises.specs.Migration.{Form, form_1, form_2, Existing, caller_in, new_script, new_term}
use Rattle.promises.proofs.Answers.{then_same}
use Rattle.promises.proofs.Tables.{Tables}
use Rattle.promises.proofs.TypesTable.{tables}
use Rattle.promises.proofs.Recalled.{Recalled, q13_same, q15_same, form_same, q19_same}
use Rattle.promises.proofs.WidenedTerms.{kept_parse, put_parse, parsed_term, own_r}

-- one question after another, of which the later are asked where the earlier is answered yes
-- The term.
pub new_term_is : (form : Form) (t s : Bytes) → ((i : ℕ) → i < type_count (widen_types t) → Standing (widen_types t) i) → Existing form s
    → term (new_script form t s) ≡ new_term form t (term (widen_script s))
new_term_is form t s stands existing = grind (arith, parsed_term, put_parse, own_r, kept_parse)

-- A script and that with its callers written, both widened.
module _ (t s : Bytes) where
  abbrev old : Bytes
  old = widen_script s

  abbrev new : Bytes
  new = widen_script (write_callers t s)

  -- the fields of a whole record are its old bytes
  module _ (i : ℕ) (there : i < records old) where
    inside : i < old_records s
    inside = omega (arith, widen_script_records s)

    kind_was : kind old i ≡ old_kind s i
    kind_was =
        let z : script_width * i ≡ script_width * i + 0 = omega arith in
        let y : old_script_width * i + 0 ≡ old_script_width * i = omega arith in
        ap (byte old) z ∙ widen_script_byte s i 0 inside (omega arith) ∙ ap (byte s) y

    number_was : number old i ≡ old_number s i
    number_was = ap₂ (λ (a b : ℕ). a + 256 * b) (widen_script_byte s i 4 inside (omega arith)) (widen_script_byte s i 5 inside (omega arith))

    r_was : r old i ≡ old_r s i
    r_was = widen_script_byte s i 1 inside (omega arith)

    r_is : r new i ≡ caller old_type_width t (kind old i) (r old i) (number old i)
    r_is =
        rw (kind_was, number_was, r_was)
        (widen_script_byte (write_callers t s) i 1 (omega (arith, inside, callers_length t s)) (omega arith) ∙ callers_r t s i inside)

    -- a record of another kind keeps its r
    r_kept : nat_eq (kind old i) 11 ≡ false → r new i ≡ r old i
    r_kept e = rw (r_is, e)

  recalled : Recalled old new
  recalled = record {
    same_length = omega (arith, widen_script_length (write_callers t s), widen_script_length s, callers_length t s);
    field_same = widened_callers_byte t s;
    r_kept = r_kept;
  }

-- Over tables that pass, r of a type is a group, and so is 0.
pub own_group : (g t : Bytes) → Tables g t → (i : ℕ) → nat_lt (top (type_at t i)).r (rows g) ≡ true
own_group g t X i =
    X.lattice.groups_only _ _ (X.lattice.self_right _ _ (and_left _ _ (top_secure (properties_of g) (type_at t i) (X.table.secure i))))

module _ (g t s : Bytes) (X : Tables g (widen_types t)) (existing : Existing form_1 s) where
  some_group : nat_lt 0 (rows g) ≡ true
  some_group = lt-ltb 0 (rows g) (omega (arith, ltb-true (top (type_at (widen_types t) 0)).r (rows g) (own_group g (widen_types t) X 0)))

  was_zero : (i : ℕ) → i < records (widen_script s) → kind (widen_script s) i ≡ 11 → r (widen_script s) i ≡ 0
  was_zero i l k = r_was t s i l ∙ existing i (inside t s i l) (sym (kind_was t s i l) ∙ k)

  caller_group : (i : ℕ) → i < records (widen_script s) → kind (widen_script s) i ≡ 11 → nat_lt (r (new t s) i) (rows g) ≡ true
  caller_group i l k = grind (arith, r_is, was_zero, own_r, own_group)

  q15_again : q15 g (new t s) ≡ q15 g (widen_script s)
  q15_again =
      q15_same (recalled t s) g (λ i l k. rw (was_zero i l k) some_group) caller_group

-- questions 2 to 19
callers_same : (rooms : List ℕ) (g t s : Bytes) → Octets g → Existing form_1 s
    → script_check rooms g (widen_types t) (new t s) ≡ script_check rooms g (widen_types t) (widen_script s)
unfolding own_check script_check
callers_same rooms g t s octets existing =
    then_same (types_check g (widen_types t)) _ _ _ refl λ types.
    let X = tables g (widen_types t) octets types in
    let read = new_term_is form_1 t s X.stands existing in
    then_same (q13 rooms (new t s)) _ _ _ (q13_same (recalled t s) rooms) λ q13_yes.
    then_same (form_check g (widen_types t) (new t s)) _ _ _ (form_same (recalled t s) g (widen_types t) _ (q15_again g t s X existing) (λ q14_yes q17_yes. read)) λ form_yes.
    q19_same (recalled t s) _ read

pub script_same : (form : Form) (rooms : List ℕ) (g t s : Bytes) → Octets g → Existing form s
    → script_check rooms g (widen_types t) (new_script form t s) ≡ script_check rooms g (widen_types t) (widen_script s)
script_same form rooms g t s octets existing = grind (arith, callers_same)
