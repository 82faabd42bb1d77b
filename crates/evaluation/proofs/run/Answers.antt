use Rattle.std.proofs.Common.{◌≡◌, sym, ap, ◌∙◌, [], ◌∷◌, ℕ, ◌≤◌, min, arith, length, subst as transport}
use Rattle.std.proofs.lemmas.Result.{err_from_is_err_and}
use Rattle.rules.specs.Answer.{Bytes, Octets, accepted}
use Rattle.rules.specs.Script.{term}
use Rattle.rules.specs.Calls.{script_check}
use Rattle.promises.proofs.Checked.{script_passed}
use Rattle.reduction.specs.Steps.{Startable}
use Rattle.evaluation.specs.Runs.{front_term, Loaded}
use Rattle.reduction.proofs.Starts.{startable}
use Rattle.evaluation.proofs.Buffers.{copied_script, loaded}
use Rattle.evaluation.proofs.Answers.{refused_keeps, ran_so, promised}
use Rattle.evaluation.proofs.run.Goals as goal

-- the script was accepted, and both buffers have room for it
module _ (g t s first scratch : Bytes) (octets_g : Octets g) (octets : Octets s) (yes : accepted tt ≡ script_check (length first ∷ length scratch ∷ []) g t s) where
  ready : Startable g t s
  ready = startable (length first ∷ length scratch ∷ []) g t s octets_g octets (sym yes)

  roomy : (length s ≤ length first) × (length s ≤ length scratch)
  roomy =
      let q = (script_passed (length first ∷ length scratch ∷ []) g t s octets (sym yes)).room in
      (q 0 (omega arith), q 1 (omega arith))

pub returns-in_err-script_check : goal.returns-in_err-script_check
returns-in_err-script_check c =
    let a = c.args in
    let e = err_from_is_err_and c.from_residual.result c.from_residual.ensures.1 in
    let h = refused_keeps a.groups.now a.types.now a.script.now a.budget a.first.now a.scratch.now _ c.in_err-script_check.ensures in
    rw (e.1, e.2) (record {
      outcome = record { answer = h.0; first_is = h.1; scratch_is = h.2 };
      promise = promised a.groups.now a.types.now a.script.now a.budget a.first.now a.scratch.now (λ k. omega (arith, c.type_inv.groups k))
          (λ k. omega (arith, c.type_inv.script k)) _ _ _ h;
    })

pub put-requires : goal.put-requires
put-requires c =
    let a = c.args in
    let r = roomy a.groups.now a.types.now a.script.now a.first.now a.scratch.now (λ k. omega (arith, c.type_inv.groups k)) (λ k. omega (arith, c.type_inv.script k)) c.in_ok-script_check.ensures in
    omega (arith, r.0)

pub run_term-requires : goal.run_term-requires
run_term-requires c =
    let a = c.args in
    let groups : Octets a.groups.now = λ k. omega (arith, c.type_inv.groups k) in
    let octets : Octets a.script.now = λ k. omega (arith, c.type_inv.script k) in
    let q = ready a.groups.now a.types.now a.script.now a.first.now a.scratch.now groups octets c.in_ok-script_check.ensures in
    let r = roomy a.groups.now a.types.now a.script.now a.first.now a.scratch.now groups octets c.in_ok-script_check.ensures in
    let b = c.put.new.buffer in
    let room = min (length b) (length a.scratch.now) in
    transport (λ (n : ℕ). Loaded a.groups.now a.types.now b n room) (sym c.record_count-records.ensures)
    (loaded a.script.now a.first.now b q c.put.ensures room (omega (arith, r.0, r.1, c.put.auto.buffer)))

pub returns : goal.returns
returns c =
    let a = c.args in
    let groups : Octets a.groups.now = λ k. omega (arith, c.type_inv.groups k) in
    let octets : Octets a.script.now = λ k. omega (arith, c.type_inv.script k) in
    let q = ready a.groups.now a.types.now a.script.now a.first.now a.scratch.now groups octets c.in_ok-script_check.ensures in
    let b = c.put.new.buffer in
    let h = ran_so a.groups.now a.types.now a.script.now a.budget a.first.now a.scratch.now (sym c.in_ok-script_check.ensures) b _ _ (front_term b c.record_count-records.result)
    c.run_term.result c.put.auto.buffer
    (ap (front_term b) c.record_count-records.ensures ∙ ap term (copied_script a.script.now a.first.now b q c.put.ensures))
    c.run_term.ensures in
    record {
      outcome = record { answer = h.0; first_is = h.1; scratch_is = h.2 };
      promise = promised a.groups.now a.types.now a.script.now a.budget a.first.now a.scratch.now groups octets _ _ _ h;
    }
