-- The common property, stored over the first record's.
use Rattle.std.proofs.Common.{ap, sym, ◌∙◌}
use Rattle.calculus.specs.Common.{nearest_property}
use Rattle.rules.specs.Groups.{properties_of}
use Rattle.lattice.specs.Said.{said_property}
use Rattle.common_types.specs.declared.Direction.{Direction}
use Rattle.common_types.specs.Directions.{said_direction}
use Rattle.common_types.proofs.Places.{in_range, record_wrote}
use Rattle.common_types.proofs.bound_first.Goals as goal
use Rattle.common_types.proofs.bound_first.Goals.{in-Below, in-Above}

pub property_at-first-requires : goal.property_at-first-requires
property_at-first-requires c = in_range c.requires.first_at

pub property_at-second-requires : goal.property_at-second-requires
property_at-second-requires c = in_range c.requires.second_at

pub put_property-requires : goal.put_property-requires
put_property-requires c = in_range c.requires.first_at

pub returns : goal.returns
returns c p =
    let S = properties_of c.args.groups.now in
    let toward = λ (d : Direction). nearest_property S (said_direction d) (said_property c.property_at-first.result) (said_property c.property_at-second.result) in
    c.put_property.ensures
    ∙ record_wrote S (said_direction c.args.direction) p
    (elim c.match-direction.branch [
      | in-Below w ↦ ap said_property w.both-is ∙ w.join-both.ensures ∙ ap toward (sym w.in-Below.is)
      | in-Above w ↦ ap said_property w.both-is ∙ w.meet-both.ensures ∙ ap toward (sym w.in-Above.is)
    ])
    c.property_at-first.ensures c.property_at-second.ensures
