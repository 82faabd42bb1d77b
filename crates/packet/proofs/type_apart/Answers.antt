-- The found type is copied before another is found.
use Rattle.packet.proofs.Apart.{apart_refused, apart_found}
use Rattle.packet.proofs.type_apart.Goals as goal

pub returns-in_err-n : goal.returns-in_err-n
returns-in_err-n c = apart_refused c.type_script.ensures c.from_residual.result c.in_err-n.was c.from_residual.ensures.1

pub returns : goal.returns
returns c = apart_found c.type_script.ensures c.args.apart.now c.in_ok-n.was c.put.ensures
