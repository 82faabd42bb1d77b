-- The argument's type is held to the left side, and the right side is read.
use Rattle.std.proofs.Common.{ap, ◌∙◌}
use Rattle.rules.specs.Answer.{ask, accepted}
use Rattle.rules.specs.Groups.{properties_of}
use Rattle.rules.specs.Typing.{right}
use Rattle.inference.specs.Stages.{reads}
use Rattle.inference.proofs.Rules.{stopped}
use Rattle.inference.proofs.apply.Goals as goal

pub returns-in_err-ask : goal.returns-in_err-ask
returns-in_err-ask c s t h k =
    stopped (accepted (reads (properties_of c.args.groups.now) s c.args.r.0 (right s))) _
    (c.in_err-ask.ensures ∙ ap (ask 22 c.args.place) (c.argument_fits.ensures s t h.held k)) c.from_residual.ensures.1
