use Rattle.std.proofs.Common.{◌∙◌}
use Rattle.redex.proofs.Answers.{function_of_kind}
use Rattle.redex.proofs.unrolls.Goals as goal

pub returns : goal.returns
returns c = c.is_of_kind.ensures ∙ function_of_kind c.args.types.now c.args.index
