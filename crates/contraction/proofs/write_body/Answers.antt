use Rattle.std.proofs.Common.{◌≡◌, ◌∙◌, [], ◌++◌, append-nil, arith}
use Rattle.rules.specs.Answer.{Bytes}
use Rattle.records.proofs.Stands.{here}
use Rattle.contraction.proofs.Plans.{protect_room, inner_room, protect_written}
use Rattle.contraction.proofs.write_body.Goals as goal

-- the value's bytes, with nothing before or after them
alone : {b v : Bytes} → b ≡ v → [] ++ (b ++ []) ≡ v
alone e = append-nil _ ∙ e

pub write_protect-requires : goal.write_protect-requires
write_protect-requires c =
    record {
      order = c.requires.order;
      operand = c.requires.operand;
      room = protect_room c.args.out.now _ _ c.requires.room;
    }

pub term_bytes-operand-requires : goal.term_bytes-operand-requires
term_bytes-operand-requires c = here c.requires.at_value

pub write-requires : goal.write-requires
write-requires c =
    let q = c.requires in
    record {
      tree = q.body;
      at = q.at_body;
      value = q.value;
      pieces = alone (c.term_bytes-operand.ensures _ q.at_value);
      shallow = omega (arith, q.shallow);
      room = inner_room _ q.room c.write_protect.ensures;
    }

pub returns : goal.returns
returns c q =
    protect_written _ c.write_protect.ensures
    (c.write.ensures q.body q.value q.at_body (alone (c.term_bytes-operand.ensures _ q.at_value))).wrote
