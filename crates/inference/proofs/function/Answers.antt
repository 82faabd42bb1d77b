-- The body's type is moved up, the parameter's copied before it, the record put in front.
use Rattle.std.proofs.Common.{sym, ◌∙◌, arith}
use Rattle.calculus.specs.Types.{function, node}
use Rattle.rules.specs.Answer.{accepted}
use Rattle.lattice.specs.Said.{said_property}
use Rattle.inference.proofs.Front.{held_bytes, taken_length}
use Rattle.inference.proofs.Rules.{passed, stopped, asks_24, in_limit, function_given}
use Rattle.inference.proofs.function.Goals as goal

pub returns-in_err-ask : goal.returns-in_err-ask
returns-in_err-ask c s t p q =
    let o = c.args in
    let k = said_property o.property in
    let e = c.type_records-m.ensures s p.held in
    stopped (accepted (node function k s t)) _ (c.in_err-ask.ensures ∙ asks_24 o.place _ function k s t (omega (arith, e, q.count))) c.from_residual.ensures.1

pub slice_bounds-put-end : goal.slice_bounds-put-end
slice_bounds-put-end c =
    let p = c.requires.parameter in
    sym (taken_length p.slot.held _ (c.type_records-m.ensures p.type p.slot.held))

pub put-requires : goal.put-requires
put-requires c =
    let p = c.requires.parameter in
    let e = c.type_records-m.ensures p.type p.slot.held in
    omega (arith, taken_length p.slot.held _ e, c.shift.auto.buffer, in_limit 24 c.args.place c.in_ok-ask.ensures, c.requires.room)

pub returns : goal.returns
returns c s t p q =
    let o = c.args in
    let k = said_property o.property in
    let e = c.type_records-m.ensures s p.held in
    passed (c.in_ok-ask.ensures ∙ asks_24 o.place _ function k s t (omega (arith, e, q.count)))
    (function_given k _ o.n s t (omega (arith, in_limit 24 c.args.place c.in_ok-ask.ensures, e, q.count)) e q.count
    (held_bytes p.held _ e) (held_bytes q.held o.n q.count) c.requires.room c.shift.ensures c.put.ensures c.put-2.ensures)
