-- The side is moved to the front and raised there, by what was read before the move.
use Rattle.std.proofs.Common.{◌≡◌, refl, ap, ◌∙◌, subst, arith, drop}
use Rattle.calculus.specs.Security.{Property}
use Rattle.calculus.specs.Types.{Ty, top, raise_t}
use Rattle.rules.specs.Answer.{Bytes}
use Rattle.rules.specs.Groups.{properties_of}
use Rattle.lattice.specs.Said.{said_influence}
use Rattle.inference.specs.Memory.{Slot, Wrote, meets_type}
use Rattle.inference.specs.Sides.{said_side}
use Rattle.inference.specs.Stages.{type_side}
use Rattle.inference.proofs.Front.{side_small}
use Rattle.inference.proofs.Regions.{front_held, wrote_first}
use Rattle.types.proofs.Parts.{two_of}
use Rattle.inference.proofs.Rules.{raise_wrote}
use Rattle.inference.proofs.read_side.Goals as goal

pub move_type-n-requires : goal.move_type-n-requires
move_type-n-requires c =
    let side : Ty → Ty = λ t. type_side (said_side c.args.side) t in
    let p = c.requires.sided in
    record { starts = record { type = side p.type; held = c.side_at-from.ensures p.type p.held }; down = omega arith }

pub raise-requires : goal.raise-requires
raise-requires c =
    let W : Bytes = c.args.work.now in
    let side : Ty → Ty = λ t. type_side (said_side c.args.side) t in
    let p = c.requires.sided in
    let u = side p.type in
    record { type = u; held = front_held u W (c.move_type-n.ensures.work u (c.side_at-from.ensures p.type p.held)) }

pub returns : goal.returns
returns c =
    let W : Bytes = c.args.work.now in
    let side : Ty → Ty = λ t. type_side (said_side c.args.side) t in
    let slot : (t : Ty) → Slot W t → Slot (drop c.side_at-from.result W) (side t) = λ t h. let p = c.requires.sided in
    record {
      held = c.side_at-from.ensures t h.held;
      small = omega (arith, h.small, side_small (said_side c.args.side) t (two_of p t h.held));
    } in
    λ t h b l.
    let S = properties_of c.args.groups.now in
    let u = side t in
    let k = slot t h in
    let wr = wrote_first {b = b} (c.move_type-n.ensures.count u k.held) k.small refl l (c.move_type-n.ensures.work u k.held) in
    let by = said_influence c.influence-by.result in
    let q : by ≡ S.influence (top t) c.args.r.0 =
    c.influence-by.ensures ∙ ap (λ (k : Property). S.influence k c.args.r.0) (c.property.ensures t h.held) in
    let z = raise_wrote S by wr (c.raise.ensures.raised u wr.sized.held) c.raise.ensures.size
    (omega (arith, c.move_type-n.auto.work)) in
    meets_type (subst (λ g. Wrote (raise_t S u g) b W c.move_type-n.result c.raise.new.part) q z)
