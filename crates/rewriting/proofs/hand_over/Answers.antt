use Rattle.std.proofs.Common.{ap, refl, ◌∙◌}
use Rattle.rules.specs.Answer.{accepted}
use Rattle.rules.specs.Rewriting.{rewritten_records}
use Rattle.answer.specs.Said.{answer_of}
use Rattle.answer.proofs.Passed.{returned}
use Rattle.memory.proofs.Laws.{splice_front}
use Rattle.rewriting.proofs.Asked.{refused_delivered, delivered}
use Rattle.rewriting.proofs.hand_over.Goals as goal

pub returns-in_err-ask : goal.returns-in_err-ask
returns-in_err-ask c =
    let a = c.args in
    refused_delivered a.width _ (accepted a.records.now) a.rewritten.now c.in_err-ask.ensures refl (ap answer_of (returned _ c.from_residual.ensures.1))

pub returns : goal.returns
unfolding rewritten_records
returns c =
    let a = c.args in
    delivered a.width _ (accepted a.records.now) a.rewritten.now _ c.in_ok-ask.ensures refl refl record { answer = refl; written = c.put.ensures ∙ splice_front a.records.now a.rewritten.now }
