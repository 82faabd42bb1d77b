-- The part is the operand's records, and is shorter than the node's.
use Rattle.std.proofs.Common.{ap, ◌∙◌, ◌-◌, ◌*◌, arith, length, take, drop, length-drop, length-take, take_at}
use Rattle.rules.specs.Limits.{script_width}
use Rattle.rules.specs.Script.{encode}
use Rattle.rules.proofs.PrefixLaws.{encode_length, size_positive}
use Rattle.rules.proofs.TermCode.{term_code}
use Rattle.records.proofs.Stands.{inside, room}
use Rattle.typing.proofs.operand.Goals as goal

pub part-requires : goal.part-requires
part-requires c = let q = c.requires in record { order = omega (arith, q.ends); there = omega (arith, q.ends, inside _ _ q.tree q.at) }

pub returns : goal.returns
returns c =
    let count = script_width * (c.args.end - c.args.i) in
    let q = c.requires in
    let p = size_positive term_code q.tree in
    record {
      bytes = λ e a z. c.part.ensures ∙ ap (take count) a.stands ∙ take_at (encode e) a.rest count (omega (arith, encode_length term_code e));
      shorter = λ l.
          omega (
            arith,
            ap length c.part.ensures,
            length-take count (drop (script_width * c.args.i) c.args.s.now),
            length-drop (script_width * c.args.i) c.args.s.now,
            room _ _ q.tree q.at,
          );
    }
