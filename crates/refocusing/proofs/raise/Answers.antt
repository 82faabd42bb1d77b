-- The value's records move up by one, and the raised record goes over its own.
use Rattle.std.proofs.Common.{◌≡◌, refl, sym, ap, ◌∙◌, ◌+◌, ◌-◌, ◌*◌, arith}
use Rattle.rules.specs.Answer.{Bytes}
use Rattle.rules.specs.Limits.{script_width}
use Rattle.rules.specs.Script.{size}
use Rattle.records.proofs.Stands.{room}
use Rattle.memory.specs.Splice.{splice}
use Rattle.substitution.proofs.Reading.{size_from}
use Rattle.refocusing.proofs.Shifts.{moved_up}
use Rattle.refocusing.proofs.raise.Goals as goal

pub overflow_mul-value : goal.overflow_mul-value
overflow_mul-value c = let q = c.requires.operand in omega (arith, room _ _ _ q.stands)

pub overflow_mul-at : goal.overflow_mul-at
overflow_mul-at c = let q = c.requires.operand in omega (arith, room _ _ _ q.stands)

pub overflow_mul-point : goal.overflow_mul-point
overflow_mul-point c = let q = c.requires.operand in omega (arith, room _ _ _ q.stands, q.ends)

pub shift-requires : goal.shift-requires
shift-requires c = let q = c.requires.operand in record { source = omega (arith, room _ _ _ q.stands, q.ends); target = omega (arith, room _ _ _ q.stands, q.ends) }

pub overflow_mul-at-2 : goal.overflow_mul-at-2
overflow_mul-at-2 c = let q = c.requires.operand in omega (arith, room _ _ _ q.stands)

pub put-requires : goal.put-requires
put-requires c = let q = c.requires.operand in omega (arith, room _ _ _ q.stands, size_from q.value, c.shift.auto.buffer)

pub returns : goal.returns
returns c =
    record {
      left = omega (arith, c.requires.operand.ends);
      right = refl;
      steps = refl;
      front = λ q.
          let k : c.args.point.left - (c.args.at + 1) ≡ size q.value = omega (arith, q.ends) in
          moved_up q.stands c.args.at _ k c.raised_record-own.result (omega arith) c.put.ensures (omega arith) c.shift.ensures
          ∙ ap (λ (z : Bytes). splice (script_width * c.args.at) z c.args.front.now) (sym (c.raised_record-own.ensures q.value q.stands q.is_one));
    }
