-- The raised value's own record, and then the bytes of the value's operands.
use Rattle.std.proofs.Common.{◌≡◌, sym, ap, ◌∙◌, ◌++◌, ◌-◌, arith, length, take, drop, length-drop, take_all}
use Rattle.std.proofs.Common.{subst as transport}
use Rattle.calculus.specs.Terms.{raise_value}
use Rattle.rules.specs.Answer.{Bytes}
use Rattle.rules.specs.Limits.{script_width}
use Rattle.rules.specs.Groups.{properties_of}
use Rattle.rules.specs.Script.{encode}
use Rattle.records.specs.Labels.{influence_at}
use Rattle.records.proofs.Stands.{there, here}
use Rattle.memory.specs.Written.{Room, Written}
use Rattle.memory.proofs.Placed.{then, room_first, room_next}
use Rattle.substitution.proofs.Reading.{term_length, size_from}
use Rattle.contraction.specs.Plans.{RaisedRoom}
use Rattle.contraction.proofs.write_raised.Goals as goal
use Rattle.contraction.proofs.write_raised.Goals.{After-raised_record}

raised_is : (c : After-raised_record) (q : RaisedRoom c.args.groups.now c.args.script.now c.args.at c.args.out.now)
    → c.raised_record.result ++ take (length c.term_bytes-value.result.now - script_width) (drop script_width c.term_bytes-value.result.now)
    ≡ encode (raise_value (properties_of c.args.groups.now) q.value (influence_at c.args.script.now c.args.at))
raised_is c q =
    let value = c.term_bytes-value.result.now in
    ap (λ b. c.raised_record.result ++ b)
    (take_all (length value - script_width) (drop script_width value) (omega (arith, length-drop script_width value))
    ∙ ap (drop script_width) (c.term_bytes-value.ensures _ q.stands))
    ∙ sym (c.raised_record.ensures q.value q.stands q.is_one)

both_room : (c : After-raised_record)
    → Room (c.raised_record.result ++ take (length c.term_bytes-value.result.now - script_width) (drop script_width c.term_bytes-value.result.now)) c.args.out.now
both_room c = transport (λ (b : Bytes). Room b c.args.out.now) (sym (raised_is c c.requires)) c.requires.room

pub overflow_add-at : goal.overflow_add-at
overflow_add-at c = omega (arith, there _ _ _ c.requires.stands)

pub term_bytes-value-requires : goal.term_bytes-value-requires
term_bytes-value-requires c = here c.requires.stands

pub raised_record-requires : goal.raised_record-requires
raised_record-requires c = record { order = c.requires.order; operand = here c.requires.stands }

pub put-requires : goal.put-requires
put-requires c = room_first c.raised_record.result _ c.args.out.now (both_room (goal.at.put-requires c).After-raised_record)

pub slice_bounds-put-count : goal.slice_bounds-put-count
slice_bounds-put-count c =
    omega (arith, term_length c.requires.value, size_from c.requires.value, ap length (c.term_bytes-value.ensures c.requires.value c.requires.stands))

pub slice_bounds-put-start : goal.slice_bounds-put-start
slice_bounds-put-start c =
    omega (arith, term_length c.requires.value, size_from c.requires.value, ap length (c.term_bytes-value.ensures c.requires.value c.requires.stands))

pub put-requires-2 : goal.put-requires-2
put-requires-2 c = room_next _ c.put.ensures (both_room (goal.at.put-requires-2 c).After-raised_record)

pub returns : goal.returns
returns c q =
    transport (λ (b : Bytes). Written b c.args.out.now c.put-2.new.self) (raised_is (goal.at.returns c).After-raised_record q) (then c.put.ensures c.put-2.ensures)
