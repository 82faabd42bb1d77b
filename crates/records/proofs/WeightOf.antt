-- How many levels deeper a term's operands stand.
use Rattle.std.proofs.Common.{ℕ}
use Rattle.calculus.specs.Terms.{Term, case}
use Rattle.rules.specs.Script.{weight}

-- of a node
abbrev pub weight_of : Term → ℕ
weight_of (case w i e a b) = weight i
weight_of _ = 1
