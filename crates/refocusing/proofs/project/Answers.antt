-- The component's records move, and the protect's record goes in front of them.
use Rattle.std.proofs.Common.{◌≡◌, refl, ap, ◌∙◌, ◌++◌, ◌-◌, ◌*◌, arith}
use Rattle.rules.specs.Answer.{Bytes}
use Rattle.rules.specs.Limits.{script_width}
use Rattle.rules.specs.Script.{encode, size}
use Rattle.records.proofs.Stands.{room}
use Rattle.memory.specs.Splice.{splice}
use Rattle.substitution.proofs.Reading.{size_from}
use Rattle.contraction.specs.Plans.{protection}
use Rattle.refocusing.proofs.Shifts.{moved_behind, protect_bytes}
use Rattle.refocusing.specs.Moves.{Component}
use Rattle.refocusing.proofs.project.Goals as goal

pub protect_record-own-requires : goal.protect_record-own-requires
protect_record-own-requires c = let q = c.requires.component in record { order = c.requires.order; operand = omega (arith, q.room, size_from q.term) }

pub overflow_mul-part : goal.overflow_mul-part
overflow_mul-part c = let q = c.requires.component in omega (arith, room _ _ _ q.stands)

pub shift-requires : goal.shift-requires
shift-requires c =
    let q = c.requires.component in
    let e = c.end_of.ensures q.term q.stands in
    record { source = omega (arith, room _ _ _ q.stands, e); target = omega (arith, q.room, e) }

pub returns : goal.returns
returns c =
    let k : (q : Component c.args.front.now c.args.at c.args.part) → c.end_of.result - c.args.part ≡ size q.term = λ q. omega (arith, c.end_of.ensures q.term q.stands) in
    record {
      left = λ q. omega (arith, k q);
      right = refl;
      steps = refl;
      front = λ q.
          moved_behind q.stands c.args.at _ (k q) c.protect_record-own.result (omega arith) c.put.ensures (omega (arith, q.room)) c.shift.ensures
          ∙ ap (λ (z : Bytes). splice (script_width * c.args.at) (z ++ encode q.term) c.args.front.now) c.protect_record-own.ensures
          ∙ ap (λ (z : Bytes). splice (script_width * c.args.at) z c.args.front.now) (protect_bytes (protection c.args.groups.now c.args.front.now c.args.at) q.term);
    }
