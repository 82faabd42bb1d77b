-- The type in the variable's slot is moved to the front.
use Rattle.std.proofs.Common.{refl, arith, get_or}
use Rattle.rules.specs.Types.{no_type}
use Rattle.inference.proofs.Regions.{slot_at, written}
use Rattle.inference.proofs.variable.Goals as goal

pub move_type-requires : goal.move_type-requires
move_type-requires c =
    let a = c.args in
    let v = c.requires in
    let q = slot_at a.i a.binders a.work.now v.ctx v.binders v.holds v.below (omega (arith, v.room)) in
    record { starts = record { type = get_or v.ctx a.i no_type; held = q.held }; down = omega arith }

pub returns : goal.returns
returns c Γ l h =
    let a = c.args in
    let q = slot_at a.i a.binders a.work.now Γ l h c.requires.below (omega (arith, c.requires.room)) in
    written (c.move_type.ensures.count (get_or Γ a.i no_type) q.held) q.small refl (c.move_type.ensures.work (get_or Γ a.i no_type) q.held) a.binders c.requires.room
