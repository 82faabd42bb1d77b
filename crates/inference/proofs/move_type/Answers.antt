-- The type's records are counted, and moved.
use Rattle.std.proofs.Common.{◌≡◌, ap, ◌∙◌, ℕ, ◌+◌, ◌*◌, ◌≤◌, arith, length, drop}
use Rattle.calculus.specs.Types.{size_t}
use Rattle.rules.specs.Answer.{Bytes}
use Rattle.rules.specs.Limits.{type_width}
use Rattle.memory.specs.Splice.{splice}
use Rattle.types.specs.Held.{Starts}
use Rattle.inference.proofs.Front.{held_bytes, held_within}
use Rattle.types.proofs.Parts.{to_end}
use Rattle.inference.proofs.move_type.Goals as goal

module _ (from : ℕ) (w : Bytes) (p : Starts (drop from w)) where
  within : from ≤ length w
  within = omega (arith, held_within from w p.held)

  fits : {n : ℕ} → n ≡ size_t p.type → from + type_width * n ≤ length w
  fits e = omega (arith, held_within from w p.held)

pub slice_bounds-type_records-count : goal.slice_bounds-type_records-count
slice_bounds-type_records-count c = within _ _ c.requires.starts

pub slice_bounds-type_records-start : goal.slice_bounds-type_records-start
slice_bounds-type_records-start c = within _ _ c.requires.starts

pub overflow_mul-n : goal.overflow_mul-n
overflow_mul-n c =
    let p = c.requires.starts in
    omega (arith, fits c.args.from c.args.work.now p (c.type_records-n.ensures p.type (rw to_end p.held)))

pub shift-requires : goal.shift-requires
shift-requires c =
    let p = c.requires.starts in
    let q = fits c.args.from c.args.work.now p (c.type_records-n.ensures p.type (rw to_end p.held)) in
    record { source = q; target = omega (arith, q) }

pub returns : goal.returns
returns c =
    record {
      count = λ t h. c.type_records-n.ensures t (rw to_end h);
      work = λ t h.
          c.shift.ensures ∙ ap (λ y. splice c.args.to y c.args.work.now) (held_bytes h _ (c.type_records-n.ensures t (rw to_end h)));
    }
