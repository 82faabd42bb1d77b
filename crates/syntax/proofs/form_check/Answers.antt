use Rattle.std.proofs.Common.{arith}
use Rattle.syntax.proofs.Parts.{encoded}
use Rattle.syntax.proofs.form_check.Goals as goal

pub question_18-requires : goal.question_18-requires
question_18-requires c = encoded c.args.script.now (λ k. omega (arith, c.type_inv.script k)) c.requires c.in-Ok.ensures c.in-Ok-a17.ensures
