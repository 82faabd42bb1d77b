-- A term's third operand.
use Rattle.calculus.specs.Terms.{Term, app, case, inj, lam, literal, mu, pair, proj, protect, reckon, unit, var}

abbrev pub third_operand : Term → Term
third_operand (var n) = var n
third_operand (unit k) = unit k
third_operand (lam k i e) = e
third_operand (pair k a b) = b
third_operand (inj d k i e) = e
third_operand (app w f a) = a
third_operand (proj d w e) = e
third_operand (case w i e a b) = b
third_operand (protect m e) = e
third_operand (mu w i e) = e
third_operand (literal k n) = literal k n
third_operand (reckon o w a b) = b
