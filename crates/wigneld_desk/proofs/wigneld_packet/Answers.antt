-- No count and no place is too large to be packed.
use Rattle.std.proofs.Common.{sym, subst, arith, length}
use Rattle.packing.specs.Packed.{RunCounted}
use Rattle.wigneld_desk.proofs.Counted.{packet_counted}
use Rattle.wigneld_desk.proofs.wigneld_packet.Goals as goal

pub packet_number-requires : goal.packet_number-requires
packet_number-requires c =
    let a = c.args in
    subst RunCounted (sym c.issue.ensures.answer)
    (packet_counted a.groups.now a.types.now a.script.now a.entry.now a.group a.budget a.profile (length a.work.now) a.first.now a.scratch.now (length a.sheet.now)
    (λ k. omega (arith, c.type_inv.groups k)) (λ k. omega (arith, c.type_inv.script k)) (λ k. omega (arith, c.type_inv.entry k)))
