use Rattle.std.proofs.Common.{refl, sym, ap, ◌∙◌, add-one}
use Rattle.promises.specs.InForce.{newest_after, newest}
use Rattle.amendments.proofs.newest.Goals as goal

pub loop-e-init : goal.loop-e-init
unfolding newest
loop-e-init c = refl

pub loop-e-preserved : goal.loop-e-preserved
unfolding newest
loop-e-preserved c =
    let a = c.args.amendments.now in
    let i = c.args.index in
    c.turned-script.ensures a c.loop-e.e c.entry_at.ensures
    ∙ ap (newest_after a i c.loop-e.e) c.loop-e.invariant
    ∙ ap (newest a i) (sym (add-one c.loop-e.e))
