-- A script that has passed questions 2 to 19 is ready for the checker.
use Rattle.std.proofs.Common.{arith}
use Rattle.typing.proofs.Accepted.{ready}
use Rattle.typing.proofs.type_script.Goals as goal

pub type_node-requires : goal.type_node-requires
type_node-requires c =
    let a = c.args in
    ready a.groups.now a.types.now a.script.now a.work.now (λ k. omega (arith, c.type_inv.script k)) c.requires.checked c.requires.room

pub returns : goal.returns
returns c =
    let a = c.args in
    c.type_node.ensures (ready a.groups.now a.types.now a.script.now a.work.now (λ k. omega (arith, c.type_inv.script k)) c.requires.checked c.requires.room)
