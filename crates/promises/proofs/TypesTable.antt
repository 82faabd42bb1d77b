-- Two tables that pass questions 2 to 12 are what the theory needs.
use Rattle.std.proofs.Common.{◌≡◌, ℕ, suc, ◌<◌, arith, lt-ltb, IsTrue}
use Rattle.calculus.specs.Types.{Former, sum, function, size_t}
use Rattle.rules.specs.Answer.{Bytes, Octets, accepted}
use Rattle.rules.specs.Groups.{rows}
use Rattle.rules.specs.Types.{type_count, type_kind, type_at, former_kind, q8, q9, q10, q36_types, q11}
use Rattle.rules.specs.Typing.{has_form}
use Rattle.rules.specs.Calls.{groups_check, types_check}
use Rattle.rules.proofs.PrefixLaws.{size_positive}
use Rattle.rules.proofs.TypeCode.{type_code}
use Rattle.rules.proofs.TypePlaces.{Standing, kind_at, of_kind}
use Rattle.rules.proofs.TypeTables.{Passes, passes, standing}
use Rattle.rules.proofs.UnitSums.{unit_sum}
use Rattle.rules.proofs.SecureTables.{secure_table}
use Rattle.rules.proofs.Asked.{and_then}
use Rattle.calculus.proofs.Directed.{same_refl}
use Rattle.promises.proofs.Groups.{lattice, some_rows}
use Rattle.promises.proofs.Tables.{Tables}

-- a record of a former's kind starts a type of that form
formed_so : (f : Former) (t : Bytes) (i : ℕ) → Standing t i → type_kind t i ≡ former_kind f → IsTrue (has_form f (type_at t i))
formed_so f t i st h = grind (arith, of_kind, kind_at, same_refl)

-- whose left side stands in the table too
next_in : (f : Former) (t : Bytes) (i : ℕ) → Standing t i → type_kind t i ≡ former_kind f → suc i < type_count t
unfolding size_t
next_in f t i st h = grind (arith, of_kind, kind_at, size_positive, type_code)

pub tables : (g t : Bytes) → Octets g → types_check g t ≡ accepted tt → Tables g t
unfolding types_check
tables g t octets passed =
    let a = and_then (groups_check g) _ passed in
    let b = and_then (q8 t) _ a.1 in
    let c = and_then (q9 g t) _ b.1 in
    let d = and_then (q10 g t) _ c.1 in
    let e = and_then (q36_types g t) _ d.1 in
    let f = and_then (q11 t) _ e.1 in
    let P : Passes t = passes g t b.0 c.0 f.0 in
    let X = lattice g octets a.0 in
    record {
      lattice = X;
      table = secure_table g t P d.0 e.0 f.1 (X.in_table 0 (lt-ltb 0 (rows g) (some_rows g octets a.0)));
      stands = standing t P;
      sums = λ i l. formed_so sum t i (standing t P i l);
      functions = λ i l. formed_so function t i (standing t P i l);
      units = unit_sum t P;
      next = λ i l. next_in function t i (standing t P i l);
    }
