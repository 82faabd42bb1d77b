-- The type of t is copied to the front, and its first record is written anew.
use Rattle.std.proofs.Common.{refl, sym, ap, ◌∙◌, arith}
use Rattle.calculus.specs.Types.{sum}
use Rattle.rules.specs.Types.{former_kind, type_record}
use Rattle.lattice.specs.Said.{said_property}
use Rattle.memory.specs.Splice.{splice}
use Rattle.types.proofs.Parts.{two_of}
use Rattle.inference.proofs.Regions.{written}
use Rattle.inference.proofs.Rules.{other_record, other_size}
use Rattle.inference.proofs.named_sum.Goals as goal

pub returns : goal.returns
returns c u p =
    let k = said_property c.args.property in
    let o = c.requires.sum in
    let two = two_of (record { type = o.type; held = o.slot.held; two = o.two }) u p.held in
    let z = other_size u k two in
    written (c.copy_type-n.ensures.count u p.held ∙ sym z) (omega (arith, z, p.small)) refl
    (c.put.ensures ∙ ap (splice 0 (type_record (former_kind sum) k)) (c.copy_type-n.ensures.work u p.held) ∙ other_record u k c.args.work.now two)
