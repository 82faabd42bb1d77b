use Rattle.std.proofs.Common.{subst, ◌∙◌}
use Rattle.rules.specs.Report.{refusal_line}
use Rattle.memory.specs.Written.{Written}
use Rattle.lines.proofs.refusal_line.Goals as goal

pub returns : goal.returns
returns c =
    subst (λ q. Written (refusal_line q c.args.refusal.place) c.args.text.now c.refused_line.new.text) (c.from-question.ensures ∙ c.number.ensures) c.refused_line.ensures
