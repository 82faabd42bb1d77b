use Rattle.std.proofs.Common.{sym, arith}
use Rattle.rules.proofs.Form.{form_whole}
use Rattle.script.proofs.Rooms.{alone}
use Rattle.syntax.proofs.own_check.Goals as goal

pub question_19-requires : goal.question_19-requires
question_19-requires c =
    (form_whole c.args.groups.now c.args.types.now c.args.script.now (λ k. omega (arith, c.type_inv.script k)) (alone c.args.buffers.now c.args.script.now (sym c.in-Ok.ensures)) (sym c.in-Ok-form.ensures)).encoded
