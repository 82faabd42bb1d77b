use Rattle.std.proofs.Common.{rules, ap, ◌∙◌}
use Rattle.types.specs.Held.{Starts}
use Rattle.rules.specs.InForce.{type_of}
use Rattle.amendments.proofs.Usable.{part_there, script_held, script_starts, replaces_no_other, compared_types}
use Rattle.amendments.proofs.is_usable.Goals as goal

pub returns-then-entry-eq-NO_SCRIPT : goal.returns-then-entry-eq-NO_SCRIPT
returns-then-entry-eq-NO_SCRIPT c a e is = replaces_no_other c.args.groups.now c.args.types.now c.args.scripts.now a e c.args.entry is c.if-entry-eq-NO_SCRIPT.true

pub part_from-lower-requires : goal.part_from-lower-requires
part_from-lower-requires c =
    part_there c.args.groups.now c.args.types.now c.args.scripts.now c.requires.typed c.args.entry.first _ c.requires.within.first
    (c.type_of-first.ensures ∙ ap (type_of c.args.scripts.now) c.from.ensures)

pub part_from-upper-requires : goal.part_from-upper-requires
part_from-upper-requires c =
    part_there c.args.groups.now c.args.types.now c.args.scripts.now c.requires.typed c.args.entry.replaced _ (c.requires.within.replaced c.if-entry-eq-NO_SCRIPT.false)
    (c.type_of-replaced.ensures ∙ ap (type_of c.args.scripts.now) c.from-2.ensures)

pub is_subtype-requires : goal.is_subtype-requires
is_subtype-requires c =
    let lower : Starts c.part_from-lower.result.now = script_starts c.args.groups.now c.args.types.now c.args.scripts.now c.requires.typed c.args.entry.first _ c.requires.within.first
    (c.type_of-first.ensures ∙ ap (type_of c.args.scripts.now) c.from.ensures) c.part_from-lower.ensures in
    let upper : Starts c.part_from-upper.result.now = script_starts c.args.groups.now c.args.types.now c.args.scripts.now c.requires.typed c.args.entry.replaced _ (c.requires.within.replaced c.if-entry-eq-NO_SCRIPT.false)
    (c.type_of-replaced.ensures ∙ ap (type_of c.args.scripts.now) c.from-2.ensures) c.part_from-upper.ensures in
    record { first = lower; second = upper }

pub returns : goal.returns
returns c a e is =
    let lower = script_held c.args.groups.now c.args.types.now c.args.scripts.now c.requires.typed c.args.entry.first _ c.requires.within.first
    (c.type_of-first.ensures ∙ ap (type_of c.args.scripts.now) c.from.ensures) c.part_from-lower.ensures in
    let upper = script_held c.args.groups.now c.args.types.now c.args.scripts.now c.requires.typed c.args.entry.replaced _ (c.requires.within.replaced c.if-entry-eq-NO_SCRIPT.false)
    (c.type_of-replaced.ensures ∙ ap (type_of c.args.scripts.now) c.from-2.ensures) c.part_from-upper.ensures in
    compared_types c.args.groups.now c.args.types.now c.args.scripts.now a e c.args.entry is c.if-entry-eq-NO_SCRIPT.false c.is_subtype.result
    (c.is_subtype.ensures _ _ lower upper)
