use Rattle.std.proofs.Common.{◌≡◌, ℕ, ◌*◌, ◌≤◌, take, sym, ◌∙◌, arith}
use Rattle.std.proofs.lemmas.List.{length-take-le}
use Rattle.rules.specs.Answer.{Bytes, Octets, Answer, accepted}
use Rattle.rules.specs.Limits.{script_width, script_limit, report_budget, report_buffer}
use Rattle.rules.specs.Run.{Ran}
use Rattle.rules.specs.Script.{encode}
use Rattle.rules.specs.Calls.{run_call, run_report, first_after}
use Rattle.memory.proofs.Placed.{then}
use Rattle.report.specs.Room.{value_room}
use Rattle.report.proofs.Texts.{Ended, ended, last_in_front, few_records, run_accepted, run_refused, refusal_fits}
use Rattle.report.proofs.Texts.{run_line_fits, after_run}
use Rattle.report.proofs.run_text.Goals as goal

-- the run ended, with these numbers
module _ (g t s : Bytes) {end steps records : ℕ}
    (said : accepted (record { end = end; steps = steps; count = records }) ≡ run_report (run_call g t s report_budget report_buffer report_buffer)) where
  abbrev answer : Answer Ran
  answer = run_call g t s report_budget report_buffer report_buffer

  run_of : Ended answer end steps records
  run_of = ended answer end steps records said

  few : Octets s → script_width * records ≤ script_width * script_limit
  few o = omega (arith, few_records g t s report_budget report_buffer report_buffer end steps records o run_of)

  last_of : (old : Bytes) {first : Bytes} → first ≡ first_after answer old → encode run_of.ran.last ≡ take (script_width * records) first
  last_of old {first} h = last_in_front answer end steps records old first run_of h

pub run_line-requires : goal.run_line-requires
run_line-requires c = run_line_fits _ _ _ _ _ (omega (arith, c.requires))

pub overflow_mul-first : goal.overflow_mul-first
overflow_mul-first c =
    omega (arith, few c.args.groups.now c.args.types.now c.args.script.now c.in-Ok.ensures.outcome.answer (λ j. omega (arith, c.type_inv.script j)))

pub slice_bounds-first-end : goal.slice_bounds-first-end
slice_bounds-first-end c =
    omega (arith, few c.args.groups.now c.args.types.now c.args.script.now c.in-Ok.ensures.outcome.answer (λ j. omega (arith, c.type_inv.script j)))

pub slice_bounds-value_text-end : goal.slice_bounds-value_text-end
slice_bounds-value_text-end c =
    let l = few c.args.groups.now c.args.types.now c.args.script.now c.in-Ok.ensures.outcome.answer (λ j. omega (arith, c.type_inv.script j)) in
    sym (length-take-le (script_width * c.in-Ok.halt.records) c.run.new.first (omega (arith, l)))

pub value_text-requires : goal.value_text-requires
value_text-requires c = after_run _ _ _ value_room c.run_line.ensures c.requires

pub refusal_line-requires : goal.refusal_line-requires
refusal_line-requires c = refusal_fits _ _ _ _ (omega (arith, c.requires))

pub returns-in-Ok : goal.returns-in-Ok
returns-in-Ok c =
    let a = c.args in
    let x = run_of a.groups.now a.types.now a.script.now c.in-Ok.ensures.outcome.answer in
    let l = last_of a.groups.now a.types.now a.script.now c.in-Ok.ensures.outcome.answer _ c.in-Ok.ensures.outcome.first_is in
    let e = c.from-end.ensures ∙ c.end_number.ensures in
    rw (run_accepted a.words.now a.groups.now a.types.now _ _ _ _ x) (then (rw e at c.run_line.ensures) (c.value_text.ensures x.ran x.end_is l))

pub returns-in-Err : goal.returns-in-Err
returns-in-Err c = rw (run_refused c.args.words.now c.args.groups.now c.args.types.now _ _ _ c.in-Err.ensures.outcome.answer) c.refusal_line.ensures
