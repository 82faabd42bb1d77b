use Rattle.records.proofs.Stands.{there}
use Rattle.sheet.specs.Shown.{shown_line}
use Rattle.sheet.proofs.line_of.Goals as goal

pub reader-r-requires : goal.reader-r-requires
reader-r-requires c = there _ _ _ c.requires.at

pub indirect-ir-requires : goal.indirect-ir-requires
indirect-ir-requires c = there _ _ _ c.requires.at

pub returns-then-told : goal.returns-then-told
unfolding shown_line
returns-then-told c = rw (c.if-told.true, c.shown_kind-kind.ensures, c.kind_of.ensures, c.reader-r.ensures, c.indirect-ir.ensures, c.literal_number-number.ensures)

pub returns : goal.returns
unfolding shown_line
returns c = rw c.if-told.false
