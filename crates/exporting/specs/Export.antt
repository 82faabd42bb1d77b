-- The export of a term: what its walk is given, and what it tells.
use Rattle.std.specs.Prelude.{◌≡◌, ℕ, ◌+◌, ◌*◌, ◌≤◌, length}
use Rattle.calculus.specs.Terms.{Term}
use Rattle.rules.specs.Answer.{Bytes}
use Rattle.rules.specs.Limits.{office_width, depth_limit}
use Rattle.rules.specs.Script.{size, depth}
use Rattle.rules.specs.Names.{level_names}
use Rattle.rules.specs.Office.{office}
use Rattle.records.specs.Place.{At}
use Rattle.memory.specs.Written.{Written}
use Rattle.memory.specs.declared.Writer.{Writer}

-- the term at record i, with n binders outside it, and room for it
pub record Exportable (s : Bytes) (i n : ℕ) (out : Writer) : Type 0 where
  pub tree : Term
  pub at : At s i tree
  pub shallow : n + depth tree ≤ depth_limit
  pub room : out.end + office_width * size tree ≤ length out.out.now

-- the record after e, which is written
pub record Exported (i n : ℕ) (e : Term) (out : Writer) (next : ℕ) (out' : Writer) : Type 0 where
  pub next_is : next ≡ i + size e
  pub wrote : Written (office (level_names n e)) out out'
