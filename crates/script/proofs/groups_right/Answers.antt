use Rattle.script.proofs.Fields.{ok15_is}
use Rattle.script.proofs.groups_right.Goals as goal

pub returns : goal.returns
returns c =
    rw (c.below_if.ensures, c.below_if-2.ensures, c.below_if-3.ensures, c.below_if-4.ensures, c.from.ensures, c.from-2.ensures, c.from-3.ensures, c.from-4.ensures, c.is_object.ensures)
    (ok15_is c.args.script.now c.args.i c.in-Some.ensures c.signature-named.ensures c.property-p.ensures c.args.groups.now c.row_count-n.ensures c.within.ensures)
