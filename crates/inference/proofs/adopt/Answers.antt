-- Where question 22 is answered yes, the type of t is copied to the front.
use Rattle.std.proofs.Common.{refl, ap, ◌∙◌}
use Rattle.rules.specs.Answer.{ask, accepted}
use Rattle.inference.proofs.Regions.{written}
use Rattle.inference.proofs.Rules.{passed, stopped}
use Rattle.inference.proofs.adopt.Goals as goal

pub returns-in_err-ask : goal.returns-in_err-ask
returns-in_err-ask c v u h p =
    stopped (accepted u) _ (c.in_err-ask.ensures ∙ ap (ask 22 c.args.place) (c.is_subtype.ensures v u h p.held)) c.from_residual.ensures.1

pub returns : goal.returns
returns c v u h p =
    passed (c.in_ok-ask.ensures ∙ ap (ask 22 c.args.place) (c.is_subtype.ensures v u h p.held))
    (written (c.copy_type.ensures.count u p.held) p.small refl (c.copy_type.ensures.work u p.held))
