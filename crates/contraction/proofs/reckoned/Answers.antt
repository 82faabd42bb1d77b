-- Both operands' indirect readers are among the rows, and so is the lower of each two groups that meet.
use Rattle.std.proofs.Common.{ap, ◌∙◌, arith}
use Rattle.calculus.specs.Numbers.{of_both}
use Rattle.rules.specs.Answer.{Bytes}
use Rattle.rules.specs.Groups.{properties_of}
use Rattle.lattice.specs.Said.{said_property}
use Rattle.contraction.proofs.Ordered.{both_kept}
use Rattle.contraction.proofs.reckoned.Goals as goal

pub returns : goal.returns
returns c =
    let k = said_property c.args.left in
    let l = said_property c.args.right in
    let w = c.args.reader.0 in
    c.reckoned_with.ensures ∙ ap (λ (b : Bytes). of_both (properties_of b) w k l) c.up_to.ensures
    ∙ both_kept c.requires c.max-2.result w k l (omega (arith, c.max-joined.ensures, c.max-2.ensures)) (omega (arith, c.max.ensures, c.min-met.ensures, c.max-2.ensures))
