-- Where question 22 is answered yes, the type is that of t with the injection's property.
use Rattle.std.proofs.Common.{ap, ◌∙◌}
use Rattle.calculus.specs.Types.{sum, node}
use Rattle.rules.specs.Answer.{ask, accepted}
use Rattle.rules.specs.Typing.{left, right}
use Rattle.lattice.specs.Said.{said_property}
use Rattle.types.proofs.Parts.{to_end}
use Rattle.inference.proofs.Rules.{passed, stopped}
use Rattle.inference.proofs.inject.Goals as goal

pub is_subtype-fits-requires : goal.is_subtype-fits-requires
is_subtype-fits-requires c =
    let p = c.requires.sum in
    record { first = rw to_end c.requires.operand; second = record { type = _; held = c.side_of.ensures p.type p.slot.held } }

pub returns-in_err-ask : goal.returns-in_err-ask
returns-in_err-ask c u t p h =
    let fits = c.is_subtype-fits.ensures t _ (rw to_end h) (c.side_of.ensures u p.held) in
    stopped (accepted (node sum (said_property c.args.property) (left u) (right u))) _ (c.in_err-ask.ensures ∙ ap (ask 22 c.args.place) fits) c.from_residual.ensures.1

pub returns : goal.returns
returns c u t p h =
    let fits = c.is_subtype-fits.ensures t _ (rw to_end h) (c.side_of.ensures u p.held) in
    passed (c.in_ok-ask.ensures ∙ ap (ask 22 c.args.place) fits) (c.named_sum.ensures u p)
