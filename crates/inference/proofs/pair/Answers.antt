-- The first type is moved up by a record, the second down to it, the record put in front.
use Rattle.std.proofs.Common.{◌≡◌, ◌+◌, ◌*◌, ◌<◌, take, drop, length-take, ap, ◌∙◌, arith}
use Rattle.rules.specs.Answer.{accepted}
use Rattle.rules.specs.Limits.{answer_length, type_width}
use Rattle.calculus.specs.Types.{product, node, size_t, type_limit}
use Rattle.lattice.specs.Said.{said_property}
use Rattle.memory.proofs.Laws.{drop_past}
use Rattle.inference.proofs.Front.{held_bytes}
use Rattle.inference.proofs.Rules.{passed, stopped, asks_24, in_limit, pair_given}
use Rattle.inference.proofs.pair.Goals as goal

pub returns-in_err-ask : goal.returns-in_err-ask
returns-in_err-ask c s t p q =
    let o = c.args in
    let k = said_property o.property in
    stopped (accepted (node product k s t)) _ (c.in_err-ask.ensures ∙ asks_24 o.place _ product k s t (omega (arith, p.count, q.count))) c.from_residual.ensures.1

pub returns : goal.returns
returns c s t p q =
    let o = c.args in
    let k = said_property o.property in
    let w = o.work.now in
    let f : size_t s + size_t t < type_limit = omega (arith, in_limit 24 c.args.place c.in_ok-ask.ensures, p.count, q.count) in
    let x = take (type_width * o.n) w in
    let z = length-take (type_width * o.n) w in
    let kept : drop answer_length c.shift.new.buffer ≡ drop answer_length w = ap (drop answer_length) c.shift.ensures ∙ drop_past type_width answer_length x w (omega arith) (omega arith) in
    passed (c.in_ok-ask.ensures ∙ asks_24 o.place _ product k s t (omega (arith, p.count, q.count)))
    (pair_given k o.n o.m s t f p.count q.count (held_bytes p.held o.n p.count) (ap (take (type_width * o.m)) kept ∙ held_bytes q.held o.m q.count) (omega (arith, c.requires.room))
    c.shift.ensures c.shift-2.ensures c.put.ensures)
