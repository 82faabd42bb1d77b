-- What the groups of a record are to the calculus: the property of an object, the influence of a protect.
use Rattle.std.specs.Prelude.{ℕ}
use Rattle.calculus.specs.Security.{Property, Indirect}
use Rattle.rules.specs.Answer.{Bytes}
use Rattle.rules.specs.Script.{r, ir, c, ic}

-- record i's property
abbrev pub property_at : Bytes → ℕ → Property
property_at s i = record { r = r s i; ir = ir s i; c = c s i; ic = ic s i }

-- the ir and ic of record i, a protect
abbrev pub influence_at : Bytes → ℕ → Indirect
influence_at s i = record { ir = ir s i; ic = ic s i }
