-- The weight of a record is that of the node that it starts.
use Rattle.std.proofs.Common.{◌≡◌, refl, Bool, true, false, cond, ◌&&◌, ℕ, ◌≤◌, arith, nat_eq}
use Rattle.calculus.specs.Terms.{first, second, plus, less, Term, var, unit, lam, pair, inj, app, proj, case, protect}
use Rattle.calculus.specs.Terms.{mu, literal, reckon}
use Rattle.calculus.specs.Typing.{finds_own}
use Rattle.rules.specs.Answer.{Bytes}
use Rattle.rules.specs.Script.{weight}
use Rattle.rules.proofs.TermCode.{two_bytes}
use Rattle.records.specs.Place.{At}
use Rattle.records.specs.Weight.{weight_at}
use Rattle.records.proofs.Stands.{kind_of, stands_kind}
use Rattle.records.proofs.Made.{number_of, number_at}
use Rattle.records.proofs.WeightOf.{weight_of}

node_weight : (e : Term) → cond (nat_eq (kind_of e) 9 && finds_own (number_of e)) 2 1 ≡ weight_of e
node_weight (inj first k i e) = refl
node_weight (proj first w e) = refl
node_weight (case w i e a b) = rw (two_bytes i)
node_weight (reckon plus w a b) = refl
node_weight _ = refl

pub stands_weight : {s : Bytes} {i : ℕ} {e : Term} → At s i e → weight_at s i ≡ weight_of e
stands_weight {s} {i} {e} a = rw (stands_kind s i e a, number_at a) (node_weight e)

-- a record's operands stand one or two deeper
weight_bounds : (i : ℕ) → (1 ≤ weight i) × (weight i ≤ 2)
weight_bounds i = go (finds_own i)
  where
    go : (b : Bool) → (1 ≤ cond b 2 1) × (cond b 2 1 ≤ 2)
    go true = (omega arith, omega arith)
    go false = (omega arith, omega arith)

pub weights : (e : Term) → (1 ≤ weight_of e) × (weight_of e ≤ 2)
weights (case w i e a b) = weight_bounds i
weights _ = (omega arith, omega arith)
