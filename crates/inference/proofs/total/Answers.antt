-- A number's type is one record, of the property that is found.
use Rattle.std.proofs.Common.{refl}
use Rattle.calculus.specs.Terms.{plus}
use Rattle.calculus.specs.Types.{number, leaf}
use Rattle.rules.specs.Answer.{accepted}
use Rattle.rules.specs.Types.{encode_type}
use Rattle.rules.specs.Typing.{number_result}
use Rattle.lattice.specs.Said.{said_property}
use Rattle.inference.proofs.Rules.{found_first, refused_first}
use Rattle.inference.proofs.total.Goals as goal

pub returns-in_err-property : goal.returns-in_err-property
returns-in_err-property c tab s t h k =
    refused_first (λ k. accepted (number_result tab plus k)) _ (c.in_err-property.ensures s t h k) c.from_residual.ensures.1

pub returns : goal.returns
unfolding encode_type
returns c tab s t h k =
    found_first (λ k. accepted (number_result tab plus k)) (c.in_ok-property.ensures s t h k)
    (c.one_record.ensures (leaf number (said_property c.in_ok-property.property)) refl)
