use Rattle.std.proofs.Common.{arith, ℕ, ◌+◌, []}
use Rattle.calculus.specs.Types.{top}
use Rattle.calculus.specs.Terms.{mu}
use Rattle.calculus.specs.Reduction.{unrolled_function}
use Rattle.calculus.proofs.Erased.{public}
use Rattle.rules.specs.Answer.{Bytes}
use Rattle.rules.specs.Groups.{properties_of}
use Rattle.records.specs.Place.{At}
use Rattle.records.proofs.Stands.{there, at_first}
use Rattle.redex.specs.Fates.{contractum}
use Rattle.contraction.specs.Plans.{Recursive}
use Rattle.contraction.proofs.Plans.{unrolled_size, body_size}
use Rattle.contraction.proofs.measure_unrolled.Goals as goal

body_at : {s : Bytes} {at : ℕ} (q : Recursive s at) → At s (at + 1) q.body
body_at q = at_first _ _ _ q.stands (omega arith)

pub overflow_add-at : goal.overflow_add-at
overflow_add-at c = omega (arith, there _ _ _ (body_at c.requires))

pub measure-requires : goal.measure-requires
measure-requires c =
    let q = c.requires in
    let x = c.extent_at.ensures _ q.stands in
    let n = unrolled_size (properties_of []) q.label q.type public q.body in
    let b = body_size q.label q.type q.body in
    record {
      tree = q.body;
      at = body_at q;
      value = unrolled_function (properties_of []) q.label q.type public q.body;
      records_of = omega (arith, x.records, n.0);
      depth_of = omega (arith, x.deep, n.1);
      shallow = omega (arith, b.1, q.shallow);
      small = omega (arith, b.0, q.small);
      small_value = omega (arith, x.records, q.small);
    }

pub returns : goal.returns
unfolding contractum
returns c q S tab =
    let x = c.extent_at.ensures (mu q.label q.type q.body) q.stands in
    let n = unrolled_size S q.label q.type (top (tab q.type)) q.body in
    let m = c.measure.ensures q.body (unrolled_function S q.label q.type (top (tab q.type)) q.body) (body_at q) (omega (arith, x.records, n.0))
    (omega (arith, x.deep, n.1)) in
    record { records = m.records; deep = m.deep }
