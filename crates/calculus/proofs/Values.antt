-- The step function leaves a value as it is, and what values are made into stays one.
use Rattle.std.proofs.Common.{◌≡◌, refl, ℕ, IsTrue, arith}
use Rattle.std.proofs.Math.Bool.{false≢true}
use Rattle.calculus.specs.Security.{Property, Indirect, Security}
use Rattle.calculus.specs.Types.{Ty}
use Rattle.calculus.specs.Terms.{Operation, Term, unit, lam, pair, inj, literal, is_value, raise_value}
use Rattle.calculus.specs.Numbers.{reckon_result}
use Rattle.calculus.specs.Reduction.{value, step, operand_first}
use Rattle.calculus.proofs.Booleans.{and_left, and_right}

pub value_step : (S : Security) (tab : ℕ → Ty) (v : Term) → IsTrue (is_value v) → step S tab v ≡ value
unfolding step is_value operand_first
value_step S tab (unit k) h = refl
value_step S tab (lam k i e) h = refl
value_step S tab (pair k a b) h = rw (value_step S tab a (and_left _ _ h), value_step S tab b (and_right (is_value a) _ h))
value_step S tab (inj d k i e) h = rw (value_step S tab e h)
value_step S tab (literal k n) h = refl
value_step S tab _ h = absurd (false≢true h)

-- Raising a value and reckoning give values.

pub raised_stands : (S : Security) (v : Term) (m : Indirect) → IsTrue (is_value v) → IsTrue (is_value (raise_value S v m))
unfolding is_value raise_value
raised_stands S v m h = grind arith

pub reckoned_stands : (tab : ℕ → Ty) (o : Operation) (k : Property) (m n : ℕ) → IsTrue (is_value (reckon_result tab o k m n))
unfolding reckon_result is_value
reckoned_stands tab o k m n = grind arith
