use Rattle.std.proofs.Common.{◌≡◌, sym, ap, ◌∙◌, ◌*◌, ◌/◌, arith, length}
use Rattle.rules.specs.Limits.{script_width}
use Rattle.evaluation.proofs.Gathered.{begins_so, run_ends, gathers, gathered}
use Rattle.evaluation.proofs.walk.Goals as goal

pub settle-requires : goal.settle-requires
settle-requires c =
    let q = c.requires in
    begins_so q.loaded c.args.b.now q.same_length q.whole_records _ (omega arith) c.put.auto.buffer c.put.ensures c.args.budget

pub gather-requires : goal.gather-requires
gather-requires c =
    let q = c.requires in
    let g = gathers (run_ends q.loaded c.args.b.now q.same_length q.whole_records _ (omega arith) c.put.auto.buffer c.put.ensures c.args.budget c.settle.ensures c.end_of-ended.ensures) c.settle.auto.front in
    record { source = g.0; room = g.1 }

pub returns : goal.returns
returns c =
    let q = c.requires in
    let z = run_ends q.loaded c.args.b.now q.same_length q.whole_records _ (omega arith) c.put.auto.buffer c.put.ensures c.args.budget c.settle.ensures c.end_of-ended.ensures in
    let l : length c.settle.new.back ≡ length c.args.b.now = omega (arith, c.settle.auto.back, c.put.auto.buffer) in
    gathered z c.settle.auto.front c.gather.result (ap (λ n. script_width * (n / script_width)) l ∙ q.whole_records ∙ sym l) c.gather.ensures.count c.gather.ensures.gathered
