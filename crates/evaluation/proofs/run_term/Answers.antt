use Rattle.std.proofs.Common.{◌≡◌, ap, ◌∙◌, ◌++◌, ◌*◌, ◌/◌, ◌≤◌, arith, length, take, drop, length-append, length-drop}
use Rattle.std.proofs.Common.{length-take-le, subst as transport}
use Rattle.std.proofs.Math.Seq.{take-append-le}
use Rattle.rules.specs.Limits.{script_width}
use Rattle.rules.specs.Run.{Ran}
use Rattle.rules.specs.Calls.{zeros}
use Rattle.evaluation.specs.Runs.{Halted}
use Rattle.evaluation.proofs.Buffers.{cleared}
use Rattle.evaluation.proofs.Rooms.{run_within}
use Rattle.evaluation.proofs.run_term.Goals as goal

pub returns : goal.returns
returns c =
    let a = c.args in
    let w = c.walk-x in
    let k = script_width * (c.min.result / script_width) in
    let f = take k a.first.now in
    let inside : (k ≤ length a.first.now) × (k ≤ length a.scratch.now) = (omega (arith, c.min.ensures), omega (arith, c.min.ensures)) in
    let l : length f ≡ k = length-take-le k a.first.now inside.0 in
    let m : length (take k a.scratch.now) ≡ k = length-take-le k a.scratch.now inside.1 in
    let h = transport (λ (x : Ran). Halted x (length f) w.result w.new.a)
    (run_within c.requires (omega arith) k (ap (λ n. script_width * (n / script_width)) c.min.ensures) a.budget) w.ensures in
    let n = script_width * w.result.records in
    let fits : n ≤ length w.new.a = omega (arith, h.fits, w.auto.a) in
    record {
      told = h.told;
      first_is = cleared _ (w.new.a ++ drop k a.first.now) _ n (length a.first.now) c.clear_from.ensures (take-append-le n w.new.a (drop k a.first.now) fits ∙ h.holds)
          (omega (arith, fits, length-append w.new.a (drop k a.first.now))) (simp (length-append, length-drop) (omega (arith, w.auto.a, l, inside.0)));
      scratch_is = c.clear.ensures ∙ ap zeros (simp (length-append, length-drop) (omega (arith, w.auto.b, m, inside.1)));
    }
