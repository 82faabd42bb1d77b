use Rattle.std.proofs.Common.{refl, ◌∙◌, arith}
use Rattle.rewriting.proofs.Callers.{there, none_passed, one_more, all_passed, at_most_one}
use Rattle.rewriting.proofs.write_callers_of.Goals as goal

pub loop-i-init : goal.loop-i-init
loop-i-init c = (refl, omega arith, λ wide. none_passed _ _ wide _ _)

pub loop-i-preserved : goal.loop-i-preserved
loop-i-preserved c =
    let inv = c.loop-i.invariant in
    let written = c.write_caller in (
      written.auto.script ∙ inv.0,
      omega (arith, at_most_one written.result),
      λ wide. rw c.from-written.ensures (one_more _ _ wide _ (omega arith) written.ensures (inv.2 wide)),
    )

pub returns : goal.returns
returns c =
    let p = all_passed _ _ c.requires.wide _ (omega arith) (c.loop-i.invariant.2 c.requires.wide) in record { count = p.0; script = p.1 }
