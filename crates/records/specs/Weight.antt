-- How much deeper than a record its operands stand: two below a case that finds its own type, and one below any other.
use Rattle.std.specs.Prelude.{if◌then◌else◌, ℕ}
use Rattle.calculus.specs.Terms.{Term, var, unit, lam, pair, inj, app, proj, case, protect, mu, literal, reckon}
use Rattle.rules.specs.Answer.{Bytes}
use Rattle.rules.specs.Script.{own_at, weight}

-- of a record
abbrev pub weight_at : Bytes → ℕ → ℕ
weight_at s i = if own_at s i then 2 else 1
