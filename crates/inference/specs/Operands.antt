-- How many operands a term has (`records` says which they are), and what it may name.
use Rattle.std.specs.Prelude.{◌≡◌, false, ℕ, suc, ◌<◌}
use Rattle.calculus.specs.Types.{sum, function}
use Rattle.calculus.specs.Typing.{finds_own}
use Rattle.calculus.specs.Terms.{plus, less, Term, var, unit, lam, pair, inj, app, proj, case, protect, mu, literal}
use Rattle.calculus.specs.Terms.{reckon}
use Rattle.rules.specs.Answer.{Bytes}
use Rattle.rules.specs.Types.{former_kind, type_count, type_kind}

-- the number of operands
unfoldable pub operand_count : Term → ℕ
operand_count (var n) = 0
operand_count (unit k) = 0
operand_count (pair k a b) = 2
operand_count (app w f a) = 2
operand_count (case w i e a b) = 3
operand_count (literal k n) = 0
operand_count (reckon o w a b) = 2
operand_count _ = 1

-- What questions 16 and 19 say of a node and of those below it: the named types are in the table `t`, and variables are
-- below the count of binders. A case that finds its own type names none.
unfoldable pub WellFormed : Bytes → ℕ → Term → Type 0
WellFormed t b (var n) = n < b
WellFormed t b (unit k) = Unit {0}
WellFormed t b (lam k i e) = (i < type_count t) × WellFormed t (suc b) e
WellFormed t b (pair k x y) = WellFormed t b x × WellFormed t b y
WellFormed t b (inj d k i e) = ((i < type_count t) × (type_kind t i ≡ former_kind sum)) × WellFormed t b e
WellFormed t b (app w f a) = WellFormed t b f × WellFormed t b a
WellFormed t b (proj d w e) = WellFormed t b e
WellFormed t b (case w i e x y) =
    (finds_own i ≡ false → i < type_count t) × (WellFormed t b e × (WellFormed t (suc b) x × WellFormed t (suc b) y))
WellFormed t b (protect m e) = WellFormed t b e
WellFormed t b (mu w i e) = ((i < type_count t) × (type_kind t i ≡ former_kind function)) × WellFormed t (suc b) e
WellFormed t b (literal k n) = Unit {0}
WellFormed t b (reckon plus w x y) = WellFormed t b x × WellFormed t b y
WellFormed t b (reckon (less i) w x y) =
    ((i < type_count t) × (type_kind t i ≡ former_kind sum)) × (WellFormed t b x × WellFormed t b y)
