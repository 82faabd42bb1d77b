use Rattle.std.proofs.Common.{true, false, not, sym, ap, arith}
use Rattle.rules.proofs.Search.{from_none, from_some}
use Rattle.answer.proofs.first_failing.Goals as goal

pub returns-then-not-passes : goal.returns-then-not-passes
returns-then-not-passes g c test h =
    sym
    (from_some _ c.args.count 0 c.loop-i.i (omega arith) (omega arith)
    (λ k a l. ap not (sym (h k true (omega arith) (c.loop-i.invariant k l))))
    (ap not (sym (h c.loop-i.i false (omega arith) c.if-not-passes.ensures))))

pub returns : goal.returns
returns g c test h = sym (from_none _ c.args.count 0 (λ k a l. ap not (sym (h k true (omega arith) (c.loop-i.invariant k (omega arith))))))
