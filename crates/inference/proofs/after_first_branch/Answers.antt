-- The slot's two sides stand one after the other, and the right one is moved to its start.
use Rattle.std.proofs.Common.{◌≡◌, refl, sym, ap, ◌∙◌, subst, ℕ, ◌+◌, ◌-◌, ◌*◌, arith, length, take, drop, drop-drop}
use Rattle.calculus.specs.Types.{Ty, size_t}
use Rattle.rules.specs.Answer.{Bytes}
use Rattle.rules.specs.Limits.{type_width, answer_length}
use Rattle.rules.specs.Types.{encode_type}
use Rattle.rules.specs.Typing.{left, right}
use Rattle.types.specs.Held.{Held}
use Rattle.inference.specs.Memory.{high, Slot, Beside}
use Rattle.types.proofs.Parts.{to_end}
use Rattle.inference.proofs.Regions.{slot_written, slot_before}
use Rattle.inference.proofs.Rules.{enters_as}
use Rattle.inference.proofs.after_first_branch.Goals as goal

pub returns : goal.returns
returns c =
    let W : Bytes = c.args.work.now in
    let slot : ℕ = length W - answer_length * (c.args.binders + 1) in
    let left_held : (t : Ty) → Beside t c.args.binders W → Held (take (length W - slot) (drop slot W)) (left t) = λ t q. rw to_end q.one.held in
    let L : ℕ = c.type_records.result in
    let counts : (t : Ty) → Beside t c.args.binders W → L ≡ size_t (left t) = λ t q. c.type_records.ensures (left t) (left_held t q) in
    let right_at : (t : Ty) → Beside t c.args.binders W → Slot (drop (slot + type_width * L) W) (right t) = λ t q. let e = ap (λ j. drop (type_width * j) (high (c.args.binders + 1) W)) (sym (counts t q))
    ∙ drop-drop (type_width * L) slot W in
    subst (λ x. Slot x (right t)) e q.other in
    record {
      enters = λ v.
          let z = right_at v.tested v.sides in
          enters_as (c.ask-asked.ensures ∙ c.branch_fits.ensures v.type c.args.place v.slot.held) refl
          (slot_written z.small refl (omega (arith, v.room)) (c.move_type.ensures.work (right v.tested) z.held) v.binders v.holds);
      kept = λ v.
          let z = right_at v.tested v.sides in
          slot_before slot (encode_type (right v.tested)) v.slot (omega (arith, v.room)) (omega arith)
          (c.move_type.ensures.work (right v.tested) z.held);
    }
