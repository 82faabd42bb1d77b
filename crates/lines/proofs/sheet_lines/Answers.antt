use Rattle.std.proofs.Common.{◌≡◌, ℕ, ◌+◌, ◌*◌, ap, ◌∙◌, arith, get_or}
use Rattle.rules.specs.Answer.{Bytes}
use Rattle.rules.specs.Report.{sheet_line}
use Rattle.lines.proofs.Lines.{line}
use Rattle.lines.proofs.SoFar.{begins, room, goes_on, all}
use Rattle.lines.proofs.sheet_lines.Goals as goal

-- the line of a record, with its number as it was read
line_is : (w b : Bytes) (n : ℕ) → n ≡ get_or b 4 0 + get_or b 5 0 * 256
    → line w b ≡ sheet_line w (get_or b 0 0) (get_or b 1 0) (get_or b 2 0) n
line_is w b n e = let same : get_or b 4 0 + 256 * get_or b 5 0 ≡ n = omega arith in ap (sheet_line w (get_or b 0 0) (get_or b 1 0) (get_or b 2 0)) same

pub loop-record-init : goal.loop-record-init
loop-record-init c =
    let e = c.into_iter-record-iterator.ensures.into_iter_gives in
    let chunks = c.chunks_exact-record-items.ensures in
    (ap (λ x. x.size) e ∙ chunks.size, begins c.args.text.now (ap (λ x. x.rest.now) e ∙ chunks.rest) c.requires)

pub sheet_line-requires : goal.sheet_line-requires
sheet_line-requires c =
    let s = c.in-Some.ensures.steps in
    let i = c.loop-record.invariant in
    rw (← line_is c.args.words.now c.in-Some.record.now _ c.from_le_bytes.ensures)
    (room i.1 c.in-Some.record.now c.next.new.self.rest.now s.1.0 (s.1.1 ∙ i.0) c.requires)

pub loop-record-preserved : goal.loop-record-preserved
loop-record-preserved c =
    let s = c.in-Some.ensures.steps in
    let i = c.loop-record.invariant in
    let written = rw (← line_is c.args.words.now c.in-Some.record.now _ c.from_le_bytes.ensures) at c.sheet_line.ensures in
    (s.0 ∙ i.0, goes_on i.1 c.in-Some.record.now c.next.new.self.rest.now s.1.0 (s.1.1 ∙ i.0) written)

pub returns : goal.returns
returns c =
    let i = c.loop-record.invariant in
    all i.1 (omega (arith, c.in-None.ensures.steps.1.0, i.0))
