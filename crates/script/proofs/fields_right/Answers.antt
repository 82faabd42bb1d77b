use Rattle.script.proofs.Fields.{ok14_is, known}
use Rattle.script.proofs.fields_right.Goals as goal

pub returns : goal.returns
returns c =
    ok14_is c.args.script.now c.args.i c.in-Some.ensures c.signature-named.ensures c.property-p.ensures (known c.in-Some.kind) c.zero_byte.ensures c.number.ensures
