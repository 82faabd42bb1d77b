-- The record that is made is the value's own, raised.
use Rattle.std.proofs.Common.{ap₂, ◌∙◌, arith}
use Rattle.rules.specs.Groups.{properties_of}
use Rattle.records.specs.Labels.{influence_at}
use Rattle.records.proofs.Made.{number_at}
use Rattle.records.proofs.Stands.{stands_kind, there}
use Rattle.redex.proofs.Places.{groups_at}
use Rattle.contraction.proofs.Plans.{raised_from}
use Rattle.contraction.proofs.raised_record.Goals as goal

pub overflow_add-x : goal.overflow_add-x
overflow_add-x c = omega (arith, there _ _ _ c.requires.operand.at)

pub influence-by-requires : goal.influence-by-requires
influence-by-requires c = omega (arith, there _ _ _ c.requires.operand.at)

pub property-requires : goal.property-requires
property-requires c = there _ _ _ c.requires.operand.at

pub number-number-requires : goal.number-number-requires
number-number-requires c = there _ _ _ c.requires.operand.at

pub returns : goal.returns
returns c v a h =
    let S = properties_of c.args.groups.now in
    let m = influence_at c.args.script.now c.args.at in
    raised_from S v m h c.record.ensures (c.kind_of-kind.ensures ∙ stands_kind _ _ _ a)
    (c.raised-raised.ensures ∙ ap₂ S.raise (c.property.ensures ∙ groups_at a) c.influence-by.ensures)
    (c.number-number.ensures ∙ number_at a)
