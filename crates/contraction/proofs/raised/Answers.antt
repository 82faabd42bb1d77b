-- Each group that is joined is among the rows, and so is the lower of each two that meet.
use Rattle.std.proofs.Common.{ap, ◌∙◌, arith}
use Rattle.rules.specs.Answer.{Bytes}
use Rattle.rules.specs.Groups.{properties_of}
use Rattle.lattice.specs.Said.{said_property, said_influence}
use Rattle.contraction.proofs.Ordered.{raise_kept}
use Rattle.contraction.proofs.raised.Goals as goal

pub returns : goal.returns
returns c =
    let k = said_property c.args.own in
    let m = said_influence c.args.by in
    c.raised.ensures ∙ ap (λ (b : Bytes). (properties_of b).raise k m) c.up_to.ensures
    ∙ raise_kept c.requires c.max-3.result k m (omega (arith, c.max.ensures, c.max-joined.ensures, c.max-3.ensures))
    (omega (arith, c.max-2.ensures, c.min-met.ensures, c.max-3.ensures))
