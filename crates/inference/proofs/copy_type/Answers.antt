-- The type's records are counted, and copied.
use Rattle.std.proofs.Common.{sym, ap, ◌∙◌, arith}
use Rattle.memory.specs.Splice.{splice}
use Rattle.inference.proofs.Front.{held_bytes, taken_length}
use Rattle.inference.proofs.copy_type.Goals as goal

pub slice_bounds-put-end : goal.slice_bounds-put-end
slice_bounds-put-end c =
    let p = c.requires.slot in
    sym (taken_length p.slot.held _ (c.type_records-n.ensures p.type p.slot.held))

pub put-requires : goal.put-requires
put-requires c =
    let p = c.requires.slot in
    let e = c.type_records-n.ensures p.type p.slot.held in
    omega (arith, taken_length p.slot.held _ e, p.slot.small, c.requires.room)

pub returns : goal.returns
returns c =
    record {
      count = λ t h. c.type_records-n.ensures t h;
      work = λ t h. c.put.ensures ∙ ap (λ y. splice c.args.at y c.args.work.now) (held_bytes h _ (c.type_records-n.ensures t h));
    }
