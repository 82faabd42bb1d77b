use Rattle.std.proofs.Common.{sym, ap}
use Rattle.records.proofs.Stands.{here}
use Rattle.contraction.proofs.Plans.{reckoned_records, reckon_counted, is_plus, is_less}
use Rattle.contraction.proofs.measure_reckoned.Goals as goal

pub kind_of-requires : goal.kind_of-requires
kind_of-requires c = here c.requires.stands

pub returns-in-Sum : goal.returns-in-Sum
returns-in-Sum c q S tab =
    let n = sym (ap reckoned_records (is_plus q.stands c.kind_of.ensures c.in-Sum.is)) in
    reckon_counted S tab q.operation q.label q.left q.right (n, n)

pub returns-in_default : goal.returns-in_default
returns-in_default c q S tab =
    let n = sym (ap reckoned_records (is_less q.stands c.kind_of.ensures c.in_default.not-Sum).1) in
    reckon_counted S tab q.operation q.label q.left q.right (n, n)
