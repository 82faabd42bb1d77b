-- The named sum is written with the property that is found.
use Rattle.calculus.specs.Terms.{less}
use Rattle.rules.specs.Answer.{accepted}
use Rattle.rules.specs.Typing.{number_result}
use Rattle.inference.proofs.Rules.{found_first, refused_first}
use Rattle.inference.proofs.comparison.Goals as goal

pub returns-in_err-property : goal.returns-in_err-property
returns-in_err-property c tab i s t u h k =
    refused_first (λ k. accepted (number_result tab (less i) k)) _ (c.in_err-property.ensures s t h k) c.from_residual.ensures.1

pub returns : goal.returns
returns c tab i s t u h k =
    found_first (λ k. accepted (number_result tab (less i) k)) (c.in_ok-property.ensures s t h k) (c.named_sum.ensures (tab i) u)
