use Rattle.std.proofs.Math.Nat.{add-sub_cancel_left}
use Rattle.rewriting.proofs.Widened.{none_widened, one_widened}
use Rattle.rewriting.proofs.widen.Goals as goal

pub loop-i-init : goal.loop-i-init
loop-i-init c = none_widened

pub loop-i-preserved : goal.loop-i-preserved
loop-i-preserved c =
    one_widened c.requires.within c.loop-i-test.true c.requires.there c.requires.room c.loop-i.invariant (simp add-sub_cancel_left at c.put.ensures) c.put-in-loop-i.ensures
