use Rattle.std.proofs.Common.{◌≡◌, sym, ap, ◌∙◌, ℕ, Result, Ok, Err, length, subst as transport}
use Rattle.rules.specs.Answer.{Bytes}
use Rattle.rules.specs.Groups.{properties_of}
use Rattle.rules.specs.Types.{type_at}
use Rattle.rules.specs.Script.{encode, term}
use Rattle.rules.specs.Step.{End, step_in}
use Rattle.rules.specs.Calls.{front_after}
use Rattle.memory.proofs.Laws.{splice_front}
use Rattle.reduction.specs.Steps.{Foresees, foresees_step, foresees_stop, Placing}
use Rattle.reduction.specs.declared.NextStep.{NextStep}
use Rattle.reduction.specs.declared.Stop.{Stop}
use Rattle.reduction.proofs.take_step.Goals as goal

-- a plan that moves, and one that doesn't
planned : {g t s : Bytes} {room : ℕ} {n : NextStep} → Foresees g t s room (Ok n) → Placing g t s room n
planned (foresees_step q) = q

pub write_new-requires : goal.write_new-requires
write_new-requires c =
    planned (transport (λ (r : Result NextStep Stop). Foresees c.args.groups.now c.args.types.now c.args.script.now (length c.args.written.now) r) c.in-Ok.is c.requires)

pub returns-in-Ok : goal.returns-in-Ok
returns-in-Ok c =
    let q = planned
    (transport (λ (r : Result NextStep Stop). Foresees c.args.groups.now c.args.types.now c.args.script.now (length c.args.written.now) r) c.in-Ok.is c.requires) in
    c.write_new.ensures q
    ∙ splice_front (encode q.whole) c.args.written.now
    ∙ sym (ap (λ (x : End). front_after x c.args.written.now) q.moves_to)
