-- What a script that can be stepped is: one whole term within the limits, formed over tables that have passed.
use Rattle.std.proofs.Common.{◌≡◌, sym, ap, ◌∙◌, List, [], ℕ, suc, ◌+◌, ◌≤◌, ◌<◌, arith, subst as transport, IsTrue}
use Rattle.calculus.specs.Security.{Property, Reader}
use Rattle.calculus.specs.Types.{one, sum, leaf, top, size_t}
use Rattle.calculus.specs.Terms.{first, second, less, Term, reckon}
use Rattle.calculus.specs.Numbers.{side}
use Rattle.rules.specs.Answer.{Bytes, Octets, accepted}
use Rattle.rules.specs.Limits.{table_limit}
use Rattle.rules.specs.Types.{type_count, type_at, q8}
use Rattle.rules.specs.Script.{records, sum_of_units, ok16, q16, encode, term}
use Rattle.rules.specs.Calls.{types_check, groups_check, own_check, script_check}
use Rattle.rules.proofs.Asked.{and_then, few_types}
use Rattle.rules.proofs.TypePlaces.{Standing, left_side, right_side, r_at, ir_at, c_at, ic_at}
use Rattle.rules.proofs.UnitSums.{UnitSum}
use Rattle.rules.proofs.Search.{each_all}
use Rattle.rules.proofs.RecordFields.{ok16_record}
use Rattle.rules.proofs.NodeFacts.{Named, named}
use Rattle.promises.proofs.Tables.{Tables}
use Rattle.promises.proofs.TypesTable.{tables}
use Rattle.promises.proofs.Checked.{Fit, script_passed}
use Rattle.promises.proofs.Steps.{fit_passes}
use Rattle.records.specs.Place.{At}
use Rattle.records.proofs.Stands.{there}
use Rattle.records.proofs.Made.{own_record}
use Rattle.types.specs.Held.{type_property}
use Rattle.contraction.specs.Order.{InOrder}
use Rattle.contraction.specs.Plans.{Sides}
use Rattle.reduction.specs.Steps.{Startable}
use Rattle.reduction.proofs.Order.{in_order}
use Rattle.std.proofs.lemmas.Grind.{common_steps}

pub record Started (g t s : Bytes) : Type 0 where
  pub types : types_check g t ≡ accepted tt
  pub tables : Tables g t
  pub order : InOrder g
  pub table : type_count t ≤ table_limit
  pub encoded : encode (term s) ≡ s
  pub fit : Fit g t (term s)
  pub named : q16 t s ≡ accepted tt

table_small : (g t : Bytes) → types_check g t ≡ accepted tt → type_count t ≤ table_limit
unfolding types_check
table_small g t h = few_types t (and_then (q8 t) _ (and_then (groups_check g) _ h).1).0

types_named : (rooms : List ℕ) (g t s : Bytes) → script_check rooms g t s ≡ accepted tt → q16 t s ≡ accepted tt
unfolding own_check script_check
types_named rooms g t s h = grind (arith, common_steps)

-- of any rooms: a step asks for none, a run for two
pub passed_started : (rooms : List ℕ) (g t s : Bytes) → Octets g → Octets s → script_check rooms g t s ≡ accepted tt → Started g t s
passed_started rooms g t s p o h =
    let q = script_passed rooms g t s o h in
    let X = tables g t p q.types in
    record {
      types = q.types;
      tables = X;
      order = in_order g X.lattice;
      table = table_small g t q.types;
      encoded = q.encoded;
      fit = q.fit;
      named = types_named rooms g t s h;
    }

pub started : {g t s : Bytes} → Startable g t s → Started g t s
started {g} {t} {s} q = passed_started [] g t s q.groups q.script q.passed

-- a formed term within the limits can be stepped
pub formed_startable : {g t : Bytes} (s : Bytes) → Octets g → Octets s → types_check g t ≡ accepted tt → Tables g t → (e : Term) → Fit g t e → encode e ≡ s → Startable g t s
formed_startable {g} {t} s p o types X e F h =
    record { groups = p; script = o; passed = ap (script_check [] g t) (sym h) ∙ fit_passes g t types X e F }

pub startable : (rooms : List ℕ) (g t s : Bytes) → Octets g → Octets s → script_check rooms g t s ≡ accepted tt → Startable g t s
startable rooms g t s p o h =
    let q = passed_started rooms g t s p o h in
    formed_startable s p o q.types q.tables (term s) q.fit q.encoded

-- the groups of a type are those of its record
groups_of_type : (t : Bytes) (i : ℕ) → Standing t i → type_property t i ≡ top (type_at t i)
groups_of_type t i st = λ j. record { r = r_at t i st j; ir = ir_at t i st j; c = c_at t i st j; ic = ic_at t i st j }

-- the sides of a sum of two units
module _ {g t : Bytes} (X : Tables g t) (i : ℕ) (l : i < type_count t) (h : IsTrue (sum_of_units t i)) where
  units : UnitSum (type_at t i)
  units = X.units i l h

  three : size_t (type_at t i) ≡ 3
  unfolding size_t
  three = ap size_t units.is

  inside : i + 2 < type_count t
  inside = omega (arith, (X.stands i l).inside, three)

  side_is : (n m : ℕ) (k : Property) → n ≡ m → m < type_count t → type_at t m ≡ leaf one k → type_property t n ≡ k
  side_is n m k z d p = ap (type_property t) z ∙ groups_of_type t m (X.stands m d) ∙ ap top p

  left_is : type_property t (i + 1) ≡ units.left
  left_is = side_is (i + 1) (suc i) units.left (omega arith) (omega (arith, inside)) (left_side t i (X.stands i l) sum units.own _ _ units.is)

  right_is : type_property t (i + 2) ≡ units.right
  unfolding size_t
  right_is = side_is (i + 2) (suc i + 1) units.right (omega arith) (omega (arith, inside)) (right_side t i (X.stands i l) sum units.own _ _ units.is)

  pub sum_sides : Sides t i
  sum_sides = record {
    inside = inside;
    left = left_is ∙ sym (ap (λ u. top (side first u)) units.is);
    right = right_is ∙ sym (ap (λ u. top (side second u)) units.is);
  }

-- a comparison in the script names a sum of two units
pub named_sides : {g t s : Bytes} {at : ℕ} {e : Term} → Started g t s → At s at e → (i : ℕ) {w : Reader} {a b : Term} → e ≡ reckon (less i) w a b → Sides t i
named_sides {t = t} {s = s} {at = at} {e = e} q a i h =
    let own = ap (λ b. ok16 t b 0) (sym (own_record a)) ∙ ok16_record s at t ∙ each_all 16 (records s) (ok16 t s) q.named at (there s at e a) in
    let N = transport (λ (x : Term). Named t x) h (named t e own) in
    sum_sides q.tables i N.0 N.1
