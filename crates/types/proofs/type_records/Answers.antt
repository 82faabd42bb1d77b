use Rattle.std.proofs.Common.{◌+◌, refl, sym, ap, ◌∙◌, arith}
use Rattle.rules.specs.Types.{type_count, type_kind, type_end}
use Rattle.rules.proofs.PrefixLaws.{next_record}
use Rattle.types.proofs.Counting.{ops, walk, at_most_two, in_range, all_counted}
use Rattle.types.proofs.type_records.Goals as goal

pub loop-pending-init : goal.loop-pending-init
unfolding type_end
loop-pending-init c = (omega arith, omega arith, refl)

pub pending_after-pending-requires : goal.pending_after-pending-requires
pending_after-pending-requires c =
    let w = c.loop-pending in
    record { there = in_range c.requires w.pending w.i w.invariant.2 (omega arith); few = w.invariant.1 }

pub loop-pending-smaller : goal.loop-pending-smaller
loop-pending-smaller c =
    let w = c.loop-pending in
    let there = in_range c.requires w.pending w.i w.invariant.2 (omega arith) in
    omega arith

pub loop-pending-preserved : goal.loop-pending-preserved
loop-pending-preserved c =
    let s = c.args.part.now in
    let w = c.loop-pending in
    let there = in_range c.requires w.pending w.i w.invariant.2 (omega arith) in (
      omega arith,
      omega (arith, c.pending_after-pending.ensures, at_most_two (type_kind s w.i)),
      w.invariant.2
          ∙ sym (next_record (ops s) (type_count s) w.pending w.i _ there (omega arith) refl)
          ∙ ap (λ n. walk s n (w.i + 1)) (sym c.pending_after-pending.ensures),
    )

pub returns : goal.returns
returns c = all_counted c.loop-pending.pending c.loop-pending.i c.loop-pending.invariant.2 (omega arith)
