-- The lower of the two groups that meet is the last of the rows.
use Rattle.std.proofs.Common.{ap, ◌∙◌, arith}
use Rattle.rules.specs.Answer.{Bytes}
use Rattle.rules.specs.Groups.{properties_of}
use Rattle.lattice.specs.Said.{said_property}
use Rattle.contraction.proofs.Ordered.{influence_kept}
use Rattle.contraction.proofs.influence.Goals as goal

pub returns : goal.returns
returns c =
    let k = said_property c.args.read in
    let w = c.args.reader.0 in
    c.influence.ensures ∙ ap (λ (b : Bytes). (properties_of b).influence k w) c.up_to.ensures
    ∙ influence_kept c.requires c.min-met.result k w (omega (arith, c.min-met.ensures))
