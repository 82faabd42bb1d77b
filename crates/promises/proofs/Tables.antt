-- What the questions about two tables give the theory.
use Rattle.std.proofs.Common.{◌≡◌, ℕ, suc, ◌<◌, IsTrue}
use Rattle.calculus.specs.Groups.{Lattice}
use Rattle.calculus.specs.Types.{sum, function}
use Rattle.calculus.specs.Typing.{Table}
use Rattle.rules.specs.Answer.{Bytes}
use Rattle.rules.specs.Groups.{groups_of, properties_of}
use Rattle.rules.specs.Types.{type_count, type_kind, type_at}
use Rattle.rules.specs.Script.{sum_of_units}
use Rattle.rules.specs.Typing.{has_form}
use Rattle.rules.proofs.TypePlaces.{Standing}
use Rattle.rules.proofs.UnitSums.{UnitSum}

pub record Tables (g t : Bytes) : Type 0 where
  pub lattice : Lattice (groups_of g)
  pub table : Table (properties_of g) (type_at t)
  -- a type stands at every record
  pub stands : (i : ℕ) → i < type_count t → Standing t i
  -- a record's kind is its type's form, and the left side of a function stands in the table too
  pub sums : (i : ℕ) → i < type_count t → type_kind t i ≡ 1 → IsTrue (has_form sum (type_at t i))
  pub functions : (i : ℕ) → i < type_count t → type_kind t i ≡ 3 → IsTrue (has_form function (type_at t i))
  pub units : (i : ℕ) → i < type_count t → IsTrue (sum_of_units t i) → UnitSum (type_at t i)
  pub next : (i : ℕ) → i < type_count t → type_kind t i ≡ 3 → suc i < type_count t
