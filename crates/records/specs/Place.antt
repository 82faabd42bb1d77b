-- Where a term stands in a script.
use Rattle.std.specs.Prelude.{◌≡◌, ◌++◌, ℕ, ◌*◌, drop}
use Rattle.calculus.specs.Terms.{Term}
use Rattle.rules.specs.Answer.{Bytes}
use Rattle.rules.specs.Limits.{script_width}
use Rattle.rules.specs.Script.{encode}

-- the records of e stand in s from record i on
pub record At (s : Bytes) (i : ℕ) (e : Term) : Type 0 where
  pub rest : Bytes
  pub stands : drop (script_width * i) s ≡ encode e ++ rest

-- a term stands at record i
pub record Here (s : Bytes) (i : ℕ) : Type 0 where
  pub tree : Term
  pub at : At s i tree
