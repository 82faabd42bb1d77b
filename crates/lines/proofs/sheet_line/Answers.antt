use Rattle.rules.specs.Report.{text, sheet_line}
use Rattle.memory.proofs.Placed.{then, room_first, room_next}
use Rattle.lines.proofs.sheet_line.Goals as goal

pub named-requires-2 : goal.named-requires-2
unfolding text sheet_line
named-requires-2 c =
    let q = rw (← c.from.ensures, ← c.from-2.ensures) at c.requires in
    room_next _ (then c.word.ensures c.named.ensures) (room_first _ _ c.args.text.now (room_first _ _ c.args.text.now q))

pub printed_number-requires : goal.printed_number-requires
unfolding text sheet_line
printed_number-requires c =
    let q = rw (← c.from.ensures, ← c.from-2.ensures) at c.requires in
    room_next _ (then (then c.word.ensures c.named.ensures) c.named-2.ensures) (room_first _ _ c.args.text.now q)

pub put-requires : goal.put-requires
unfolding text sheet_line
put-requires c =
    let q = rw (← c.from.ensures, ← c.from-2.ensures) at c.requires in
    room_next _ (then (then (then c.word.ensures c.named.ensures) c.named-2.ensures) c.printed_number.ensures) q

pub returns : goal.returns
unfolding text sheet_line
returns c =
    rw (← c.from.ensures, ← c.from-2.ensures)
    (then (then (then (then c.word.ensures c.named.ensures) c.named-2.ensures) c.printed_number.ensures) c.put.ensures)
