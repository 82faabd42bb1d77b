use Rattle.contraction.proofs.Plans.{renamed}
use Rattle.contraction.proofs.Rooms.{part_is, part_room, body_is, body_room, raised_is, raised_room, unrolled_is}
use Rattle.contraction.proofs.Rooms.{unrolled_room, reckoned_is, reckoned_room}
use Rattle.contraction.proofs.write_contractum.Goals as goal

pub write_part-requires : goal.write_part-requires
write_part-requires c = part_room c.requires c.in-Part.is

pub write_body-requires : goal.write_body-requires
write_body-requires c = body_room c.requires c.in-Body.is

pub write_raised-requires : goal.write_raised-requires
write_raised-requires c = raised_room c.requires c.in-Raised.is

pub write_unrolled-requires : goal.write_unrolled-requires
write_unrolled-requires c = unrolled_room c.requires c.in-Unrolled.is

pub returns-in-Part : goal.returns-in-Part
returns-in-Part c q = renamed (part_is q c.in-Part.is) (c.write_part.ensures (part_room q c.in-Part.is))

pub returns-in-Body : goal.returns-in-Body
returns-in-Body c q = renamed (body_is q c.in-Body.is) (c.write_body.ensures (body_room q c.in-Body.is))

pub returns-in-Raised : goal.returns-in-Raised
returns-in-Raised c q = renamed (raised_is q c.in-Raised.is) (c.write_raised.ensures (raised_room q c.in-Raised.is))

pub returns-in-Unrolled : goal.returns-in-Unrolled
returns-in-Unrolled c q = renamed (unrolled_is q c.in-Unrolled.is) (c.write_unrolled.ensures (unrolled_room q c.in-Unrolled.is))

pub write_reckoned-requires : goal.write_reckoned-requires
write_reckoned-requires c = reckoned_room c.requires c.in-Reckoned.is

pub returns-in-Reckoned : goal.returns-in-Reckoned
returns-in-Reckoned c q = renamed (reckoned_is q c.in-Reckoned.is) (c.write_reckoned.ensures (reckoned_room q c.in-Reckoned.is))
