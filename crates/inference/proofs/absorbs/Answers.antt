-- Both properties are read from the type.
use Rattle.std.proofs.Common.{ap, ◌∙◌}
use Rattle.calculus.specs.Security.{Property, Security}
use Rattle.calculus.specs.Types.{top}
use Rattle.rules.specs.Groups.{properties_of}
use Rattle.rules.specs.Typing.{right}
use Rattle.lattice.specs.Said.{said_property}
use Rattle.inference.proofs.absorbs.Goals as goal

pub property-result-requires : goal.property-result-requires
property-result-requires c = let q = c.requires in
    record { type = right q.type; held = c.side_of.ensures q.type q.held }

pub returns : goal.returns
returns c = λ t h.
    let a = c.args in
    let S : Security = properties_of a.groups.now in
    let w = a.caller.0 in
    c.absorbed_by.ensures ∙ ap (λ (k : Property). S.absorbs k w (said_property c.property-result.result)) (c.property-own.ensures t h)
    ∙ ap (λ (k : Property). S.absorbs (top t) w k) (c.property-result.ensures (right t) (c.side_of.ensures t h))
