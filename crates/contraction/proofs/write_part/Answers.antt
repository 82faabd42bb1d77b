use Rattle.records.proofs.Stands.{here}
use Rattle.contraction.proofs.Plans.{protect_room, inner_room, protect_written}
use Rattle.contraction.proofs.write_part.Goals as goal

pub write_protect-requires : goal.write_protect-requires
write_protect-requires c =
    record {
      order = c.requires.order;
      operand = c.requires.operand;
      room = protect_room c.args.out.now _ _ c.requires.room;
    }

pub term_bytes-requires : goal.term_bytes-requires
term_bytes-requires c = here c.requires.stands

pub put-requires : goal.put-requires
put-requires c = rw (c.term_bytes.ensures _ c.requires.stands) (inner_room _ c.requires.room c.write_protect.ensures)

pub returns : goal.returns
returns c q = protect_written _ c.write_protect.ensures (rw (c.term_bytes.ensures _ q.stands) at c.put.ensures)
