use Rattle.std.proofs.Common.{sym, ap, ◌∙◌}
use Rattle.rules.specs.Answer.{ask, ◌>>◌}
use Rattle.rules.specs.InForce.{ok40, ok41, ok42, entry_check}
use Rattle.rules.proofs.Asked.{ask_true}
use Rattle.answer.proofs.Passed.{then_asked, left_by}
use Rattle.amendments.proofs.Entries.{within_list}
use Rattle.amendments.proofs.entry_check.Goals as goal

pub returns-in_err-ask : goal.returns-in_err-ask
unfolding entry_check
returns-in_err-ask c =
    let a = c.args.amendments.now in
    let l = c.args.scripts.now in
    let of_40 = c.allows-allowed.ensures l a c.args.e c.script_count.ensures c.entry_at-entry.ensures c.requires.before in
    left_by _ _ _ _ (c.in_err-ask.ensures ∙ ap (ask 40 c.args.e) of_40) c.from_residual.ensures.1

pub returns-in_err-ask-2 : goal.returns-in_err-ask-2
unfolding entry_check
returns-in_err-ask-2 c =
    let a = c.args.amendments.now in
    let l = c.args.scripts.now in
    let of_40 = c.allows-allowed.ensures l a c.args.e c.script_count.ensures c.entry_at-entry.ensures c.requires.before in
    let of_41 = c.leaves.ensures a c.args.e c.entry_at-entry.ensures c.requires.before in
    then_asked _ _ (c.in_ok-ask.ensures ∙ ap (ask 40 c.args.e) of_40)
    (left_by _ _ _ _ (c.in_err-ask-2.ensures ∙ ap (ask 41 c.args.e) of_41) c.from_residual-in_err-ask-2.ensures.1)

pub is_usable-usable-requires : goal.is_usable-usable-requires
is_usable-usable-requires c =
    let a = c.args.amendments.now in
    let l = c.args.scripts.now in
    let of_40 = c.allows-allowed.ensures l a c.args.e c.script_count.ensures c.entry_at-entry.ensures c.requires.before in
    record { typed = c.requires.typed; within = within_list l a c.args.e c.entry_at-entry.result c.entry_at-entry.ensures (ask_true 40 c.args.e _ (sym (c.in_ok-ask.ensures ∙ ap (ask 40 c.args.e) of_40))) }

pub returns : goal.returns
unfolding entry_check
returns c =
    let a = c.args.amendments.now in
    let l = c.args.scripts.now in
    let of_40 = c.allows-allowed.ensures l a c.args.e c.script_count.ensures c.entry_at-entry.ensures c.requires.before in
    let of_41 = c.leaves.ensures a c.args.e c.entry_at-entry.ensures c.requires.before in
    let of_42 = c.is_usable-usable.ensures a c.args.e c.entry_at-entry.ensures in
    let asked_42 = ask 42 c.args.e (ok42 c.args.groups.now c.args.types.now l a c.args.e) in
    let asked_41 = ask 41 c.args.e (ok41 a c.args.e) in
    then_asked (ask 40 c.args.e (ok40 l a c.args.e)) (◌>>◌ asked_41 asked_42) (c.in_ok-ask.ensures ∙ ap (ask 40 c.args.e) of_40)
    (then_asked asked_41 asked_42 (c.in_ok-ask-2.ensures ∙ ap (ask 41 c.args.e) of_41) (c.ask-3.ensures ∙ ap (ask 42 c.args.e) of_42))
