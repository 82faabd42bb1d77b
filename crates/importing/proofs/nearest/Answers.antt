use Rattle.std.proofs.Common.{arith}
use Rattle.importing.proofs.Names.{sought_more, sought_found, sought_all}
use Rattle.importing.proofs.nearest.Goals as goal

pub returns-then-names-n : goal.returns-then-names-n
returns-then-names-n c =
    record {
      value = sought_found c.args.names.now c.args.n c.args.name c.loop-k.k c.loop-k-test.true c.if-names-n.true c.loop-k.invariant;
      within = omega arith;
    }

pub loop-k-preserved : goal.loop-k-preserved
loop-k-preserved c = sought_more c.args.names.now c.args.n c.args.name c.loop-k.k c.loop-k-test.true c.if-names-n.false c.loop-k.invariant

pub returns : goal.returns
returns c = record { value = sought_all c.args.names.now c.args.n c.args.name c.loop-k.k c.loop-k-test.false c.loop-k.invariant; within = omega arith }
