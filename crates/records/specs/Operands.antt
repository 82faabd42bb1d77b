-- The operands of a term, in script order. Each is total: a term stands for those that it lacks, and no rule uses them.
use Rattle.calculus.specs.Terms.{Term, var, unit, lam, pair, inj, app, proj, case, protect, mu, literal, reckon}

-- the first operand; for a case the tested one
abbrev pub first_operand : Term → Term
first_operand (var n) = var n
first_operand (unit k) = unit k
first_operand (lam k i e) = e
first_operand (pair k a b) = a
first_operand (inj d k i e) = e
first_operand (app w f a) = f
first_operand (proj d w e) = e
first_operand (case w i e a b) = e
first_operand (protect m e) = e
first_operand (mu w i e) = e
first_operand (literal k n) = literal k n
first_operand (reckon o w a b) = a

-- the second operand, for a case its first branch; of a single operand that one again
abbrev pub second_operand : Term → Term
second_operand (var n) = var n
second_operand (unit k) = unit k
second_operand (lam k i e) = e
second_operand (pair k a b) = b
second_operand (inj d k i e) = e
second_operand (app w f a) = a
second_operand (proj d w e) = e
second_operand (case w i e a b) = a
second_operand (protect m e) = e
second_operand (mu w i e) = e
second_operand (literal k n) = literal k n
second_operand (reckon o w a b) = b
