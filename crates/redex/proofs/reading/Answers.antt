-- The destructor and the operand after it stand there, and their kinds are those of the term.
use Rattle.std.proofs.Common.{sym, ap₂, ◌∙◌, arith}
use Rattle.records.proofs.Stands.{there}
use Rattle.redex.specs.Found.{takes_apart}
use Rattle.redex.proofs.Answers.{operand_here, reading_answer}
use Rattle.redex.proofs.reading.Goals as goal

pub overflow_add-operand : goal.overflow_add-operand
overflow_add-operand c = omega (arith, there _ _ _ c.requires.here.at)

pub kind_of-value-requires : goal.kind_of-value-requires
kind_of-value-requires c = operand_here c.requires.here c.requires.destructor

pub may_read-may-requires : goal.may_read-may-requires
may_read-may-requires c = let o = operand_here c.requires.here c.requires.destructor in record { node = there _ _ _ c.requires.here.at; operand = there _ _ _ o.at }

pub returns : goal.returns
returns c tab e a =
    c.verdict.ensures
    ∙ reading_answer a c.args.groups.now tab c.args.depth _ _ c.requires.destructor
    (ap₂ takes_apart (sym c.kind_of-destructor.ensures) (sym c.kind_of-value.ensures) ∙ sym c.takes_apart-fits.ensures) (sym c.may_read-may.ensures)
