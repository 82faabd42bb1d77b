use Rattle.contraction.proofs.measure_body.Goals as goal

pub returns : goal.returns
returns c q =
    let v = c.extent_at.ensures q.value q.at_value in
    let e = c.measure.ensures q.body q.value q.at_body v.records v.deep in
    record { records = e.records; deep = e.deep }
