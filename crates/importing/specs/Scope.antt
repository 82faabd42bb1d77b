-- The names over a record in an array, the outermost first, and what a walk over a term makes of them.
use Rattle.std.specs.Prelude.{◌≡◌, List, [], ◌∷◌, ℕ, zero, suc, ◌+◌, ◌*◌, ◌≤◌, length, get_or}
use Rattle.calculus.specs.Terms.{Term}
use Rattle.rules.specs.Answer.{Bytes, Answer, accepted}
use Rattle.rules.specs.Limits.{script_width, depth_limit}
use Rattle.rules.specs.Script.{encode, records, size, depth}
use Rattle.rules.specs.Names.{meant, scopes}
use Rattle.rules.specs.Office.{office_records, with_names}
use Rattle.records.specs.Place.{At}
use Rattle.memory.specs.Written.{Written}
use Rattle.memory.specs.declared.Writer.{Writer}
use Rattle.scope.specs.Walk.{scan_records}
use Rattle.importing.specs.Fields.{is_bound}

-- the first n names, the nearest first
unfoldable pub scope : List ℕ → ℕ → List ℕ
scope names zero = []
scope names (suc n) = get_or names n 0 ∷ scope names n

-- The term at record i of a script without names, under n binders, within the limits; its names are at the same
-- records of the old script o, and the buffer has room for it.
pub record Importable (s o : Bytes) (i n : ℕ) (names : List ℕ) (out : Writer) : Type 0 where
  pub tree : Term
  pub at : At s i tree
  pub shallow : n + depth tree ≤ depth_limit
  pub levels : length names ≡ depth_limit
  pub old : records s ≤ office_records o
  pub room : out.end + script_width * size tree ≤ length out.out.now

-- The answer is the record after e, or the first that question 30 refuses; after a yes what e means is written. The
-- names of the binders over e stay.
pub record Resolved (o : Bytes) (i n : ℕ) (e : Term) (names : List ℕ) (out : Writer)
    (a : Answer ℕ) (names' : List ℕ) (out' : Writer) : Type 0 where
  pub asked : a ≡ scan_records 30 (is_bound o) i (scopes (scope names n) (with_names o i e))
  pub written : (next : ℕ) → a ≡ accepted next → Written (encode (meant (scope names n) (with_names o i e))) out out'
  pub kept : (m : ℕ) → m ≤ n → scope names' m ≡ scope names m
  pub levels : length names' ≡ length names
