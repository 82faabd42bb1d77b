-- A type that passes question 20 has two sides, and they are moved to the next slot.
use Rattle.std.proofs.Common.{◌≡◌, refl, sym, ap, ◌∙◌, ◌+◌, ◌-◌, ◌*◌, ◌≤◌, arith, length, take, drop}
use Rattle.calculus.specs.Security.{Security}
use Rattle.calculus.specs.Types.{Ty}
use Rattle.rules.specs.Limits.{answer_length, type_width}
use Rattle.rules.specs.Answer.{Bytes, accepted}
use Rattle.rules.specs.Groups.{properties_of}
use Rattle.types.specs.Held.{Held}
use Rattle.types.specs.declared.Kind.TheVariants.{Sum}
use Rattle.inference.specs.Memory.{Sized}
use Rattle.inference.specs.Stages.{may_read}
use Rattle.inference.proofs.Front.{sides_bytes}
use Rattle.types.proofs.Parts.{type_positive}
use Rattle.inference.proofs.Regions.{entered, beside_written}
use Rattle.inference.proofs.Rules.{read_two}
use Rattle.inference.proofs.test.Goals as goal

pub overflow_sub-n : goal.overflow_sub-n
overflow_sub-n c = let p = c.requires.tested in omega (arith, p.sized.count, type_positive p.type)

pub returns : goal.returns
returns c =
    let S : Security = properties_of c.args.groups.now in
    let W : Bytes = c.args.work.now in
    let may : (t : Ty) → Held W t → may_read S c.args.place Sum t c.args.r.0 ≡ accepted tt = λ t h. sym (c.in-Ok.ensures t h) in
    let b = c.args.binders in
    let room : answer_length * (b + 1) ≤ length W = omega (arith, c.requires.room) in
    let q = λ (t : Ty) (h : Sized W c.args.n t).
    let nz = read_two S c.args.place Sum t c.args.r.0 refl (may t h.held) in
    beside_written {t = t} {b = b} W c.shift.new.buffer nz h.small
    (ap (λ j. take (type_width * (j - 1)) (drop type_width W)) h.count ∙ sides_bytes W t h.held nz) room c.shift.ensures in
    record {
      enters = λ Γ t h l k. record { says = sym (may t h.held); entered = λ z. entered (q t h).0.one (q t h).1 (q t h).2 room l k };
      kept = λ Γ t h l k z. (q t h).0;
    }
