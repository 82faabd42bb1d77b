use Rattle.std.proofs.Common.{arith}
use Rattle.erasure.proofs.Stripped.{strip_more, all_stored}
use Rattle.erasure.proofs.strip.Goals as goal

pub loop-i-preserved : goal.loop-i-preserved
loop-i-preserved c = strip_more _ c.loop-i.i _ _ c.args.bytes.now (omega arith) c.loop-i.invariant c.kept.ensures

pub returns : goal.returns
returns c = all_stored _ c.loop-i.i _ c.args.bytes.now (omega arith) c.loop-i.invariant
