-- A table that passes holds a type at each record, so the walk may start at both indexes.
use Rattle.std.proofs.Common.{ap, sym, ◌∙◌}
use Rattle.rules.specs.Answer.{accepted}
use Rattle.rules.specs.Groups.{properties_of}
use Rattle.rules.specs.Types.{type_at}
use Rattle.rules.specs.Calls.{compare_call}
use Rattle.types_table.specs.Answered.{said_comparison, comparison_of}
use Rattle.answer.proofs.Passed.{then_asked}
use Rattle.types.proofs.Parts.{starts_of}
use Rattle.types_table.proofs.Questions.{passed_on, counted, inside, told_is}
use Rattle.types_table.proofs.Table.{type_held}
use Rattle.types_table.proofs.compare.Goals as goal

pub returns-in_err-types_check : goal.returns-in_err-types_check
unfolding compare_call
returns-in_err-types_check c = passed_on _ _ _ _ c.in_err-types_check.ensures c.from_residual.ensures.1

pub returns-in_err-ask : goal.returns-in_err-ask
unfolding compare_call
returns-in_err-ask c =
    then_asked _ _ c.in_ok-types_check.ensures
    (passed_on _ _ _ _ (counted 0 c.args.first c.type_count-count.ensures c.in_err-ask.ensures) c.from_residual-in_err-ask.ensures.1)

pub returns-in_err-ask-2 : goal.returns-in_err-ask-2
unfolding compare_call
returns-in_err-ask-2 c =
    then_asked _ _ c.in_ok-types_check.ensures
    (then_asked _ _ (counted 0 c.args.first c.type_count-count.ensures c.in_ok-ask.ensures)
    (passed_on _ _ _ _ (counted 1 c.args.second c.type_count-count.ensures c.in_err-ask-2.ensures) c.from_residual-in_err-ask-2.ensures.1))

pub at_or_below-requires : goal.at_or_below-requires
at_or_below-requires c =
    let g = c.args.groups.now in
    let t = c.args.types.now in
    let first = counted 0 c.args.first c.type_count-count.ensures c.in_ok-ask.ensures in
    let second = counted 1 c.args.second c.type_count-count.ensures c.in_ok-ask-2.ensures in
    let yes = sym c.in_ok-types_check.ensures in record {
      first = rw c.part_from-lower.ensures (starts_of (type_held g t yes c.args.first (inside 0 _ _ first)));
      second = rw c.part_from-upper.ensures (starts_of (type_held g t yes c.args.second (inside 1 _ _ second)));
    }

pub returns : goal.returns
unfolding compare_call
returns c =
    let g = c.args.groups.now in
    let t = c.args.types.now in
    let first = counted 0 c.args.first c.type_count-count.ensures c.in_ok-ask.ensures in
    let second = counted 1 c.args.second c.type_count-count.ensures c.in_ok-ask-2.ensures in
    let yes = sym c.in_ok-types_check.ensures in
    let lower = type_at t c.args.first in
    let upper = type_at t c.args.second in
    let walk = c.at_or_below.ensures lower upper
    (rw c.part_from-lower.ensures (type_held g t yes c.args.first (inside 0 _ _ first)))
    (rw c.part_from-upper.ensures (type_held g t yes c.args.second (inside 1 _ _ second))) in
    then_asked _ _ c.in_ok-types_check.ensures
    (then_asked _ _ first
    (then_asked _ _ second
    (ap accepted (ap said_comparison (c.told.ensures ∙ ap comparison_of walk) ∙ told_is (properties_of g) lower upper))))
