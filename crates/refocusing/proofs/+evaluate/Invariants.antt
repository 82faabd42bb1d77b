-- The measure of the two is the depth that is left, and that of the loop what is left to do.
use Rattle.std.proofs.Common.{◌≡◌, [], ◌+◌, ◌-◌, ◌*◌, length}
use Rattle.calculus.specs.Terms.{Term}
use Rattle.calculus.specs.Reduction.{Context}
use Rattle.rules.specs.Limits.{depth_limit}
use Rattle.rules.specs.Script.{encode}
use Rattle.redex.specs.Contexts.{level}
use Rattle.refocusing.specs.Focus.{Stands, left_to_do}
use Rattle.refocusing.specs.declared.Focus.TheVariants.{Ahead}
use Rattle.refocusing.proofs.Settling.{Going}
use Rattle.refocusing.proofs.+evaluate.Given as goal

abbrev pub decreases-operands : goal.decreases-operands
decreases-operands l = 2 * (depth_limit - l.around)

abbrev pub decreases-settle : goal.decreases-settle
decreases-settle l = 2 * (depth_limit - l.around) + 1

abbrev pub invariant-settle-loop-focus : goal.invariant-settle-loop-focus
invariant-settle-loop-focus l =
    (whole : Term) (E : Context) (e : Term)
    → Stands l.groups l.types (length l.fn.back) l.budget whole E e [] (encode e) l.fn.point l.fn.front l.fn.back → l.around ≡ level E
    → Going l.groups l.types (length l.fn.back) l.budget whole E l.at (left_to_do l.budget (Ahead l.fn.point)) l.front l.back l.focus

abbrev pub decreases-settle-loop-focus : goal.decreases-settle-loop-focus
decreases-settle-loop-focus l = left_to_do l.budget l.focus
