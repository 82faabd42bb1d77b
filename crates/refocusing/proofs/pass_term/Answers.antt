use Rattle.std.proofs.Common.{◌≡◌, ap, ◌∙◌, ℕ, ◌+◌, ◌-◌, ◌*◌, arith, take, drop}
use Rattle.rules.specs.Answer.{Bytes}
use Rattle.rules.specs.Limits.{script_width}
use Rattle.records.proofs.Stands.{room}
use Rattle.memory.specs.Splice.{splice}
use Rattle.refocusing.proofs.Shifts.{term_taken}
use Rattle.refocusing.proofs.pass_term.Goals as goal

-- the records of what is passed
counted : (end right n : ℕ) → end ≡ right + n → end - right ≡ n
counted end right n h = omega arith

pub pass-requires : goal.pass-requires
pass-requires c =
    let q = c.requires in
    let n = counted _ _ _ (c.end_of.ensures q.term q.stands) in
    record { from = omega (arith, n, room _ _ _ q.stands); to = omega (arith, n, q.room) }

pub returns : goal.returns
returns c e a =
    let n = counted _ _ _ (c.end_of.ensures e a) in
    let h = c.pass.ensures in
    record {
      left = omega (arith, n, h.left);
      right = omega (arith, n, h.right);
      steps = h.steps;
      front = h.front
          ∙ ap (λ (n : ℕ). splice (script_width * c.args.point.left) (take (script_width * n) (drop (script_width * c.args.point.right) c.args.back.now)) c.args.front.now) n
          ∙ ap (λ (z : Bytes). splice (script_width * c.args.point.left) z c.args.front.now) (term_taken a);
    }
