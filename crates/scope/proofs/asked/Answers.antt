use Rattle.std.proofs.Common.{ap, ◌∙◌, arith}
use Rattle.rules.specs.Answer.{accepted}
use Rattle.rules.specs.Script.{term}
use Rattle.answer.specs.Said.{answer_of}
use Rattle.answer.proofs.Passed.{returned}
use Rattle.records.proofs.Stands.{here, at_start}
use Rattle.scope.proofs.Walks.{whole}
use Rattle.scope.proofs.asked.Goals as goal

pub walk-requires : goal.walk-requires
walk-requires g c = record { here = here (at_start _ c.requires); few = omega arith }

pub returns-in_err-walk : goal.returns-in_err-walk
returns-in_err-walk g c =
    let s = c.args.script.now in
    ap answer_of (returned _ c.from_residual.ensures.1) ∙ whole _ s _ _ c.requires c.root.ensures.value (c.in_err-walk.ensures (term s) (at_start s c.requires))

pub returns : goal.returns
returns g c =
    let s = c.args.script.now in
    whole _ s _ (accepted c.in_ok-walk.field-0) c.requires c.root.ensures.value (c.in_ok-walk.ensures (term s) (at_start s c.requires))
