use Rattle.std.proofs.Common.{◌≡◌, ap, ◌∙◌, sym, arith}
use Rattle.rules.specs.Names.{nearest}
use Rattle.answer.specs.Said.{answer_of}
use Rattle.answer.proofs.Passed.{returned}
use Rattle.records.proofs.Stands.{stands_kind, there, inside}
use Rattle.substitution.proofs.Reading.{size_from}
use Rattle.importing.specs.Scope.{scope}
use Rattle.importing.proofs.Walks.{variable_refused, variable_written}
use Rattle.importing.proofs.resolve_variable.Goals as goal

pub first_name-requires : goal.first_name-requires
first_name-requires c = let r = c.requires.ready.1 in omega (arith, there _ _ _ r.at, r.old)

pub returns-in_err-ask : goal.returns-in_err-ask
returns-in_err-ask c s e a k =
    variable_refused c.args.old.now c.args.i c.args.n c.args.names.now c.requires.variable e (sym (stands_kind _ _ _ a) ∙ k) (c.nearest-number.ensures.value ∙ ap (λ x. nearest x (scope c.args.names.now c.args.n)) c.first_name.ensures)
    c.in_err-ask.ensures (ap answer_of (returned _ c.from_residual.ensures.1)) c.args.out.now

pub put-requires : goal.put-requires
put-requires c = let r = c.requires.ready.1 in rw c.record.ensures (omega (arith, r.room, size_from r.tree))

pub overflow_add-result : goal.overflow_add-result
overflow_add-result c = let r = c.requires.ready.1 in omega (arith, there _ _ _ r.at, r.old)

pub returns : goal.returns
returns c s e a k =
    variable_written c.args.old.now c.args.i c.args.n c.args.names.now c.requires.variable e (sym (stands_kind _ _ _ a) ∙ k) (c.nearest-number.ensures.value ∙ ap (λ x. nearest x (scope c.args.names.now c.args.n)) c.first_name.ensures)
    c.in_ok-ask.ensures
    (rw c.record.ensures at c.put.ensures)
