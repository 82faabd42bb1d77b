-- The application's run, where it was built.
use Rattle.std.proofs.Common.{◌≡◌, sym, ap, ◌∙◌, ◌++◌, ℕ, ◌+◌, ◌-◌, ◌≤◌, min, arith, length, length-append}
use Rattle.std.proofs.Common.{subst as transport}
use Rattle.calculus.specs.Terms.{Term}
use Rattle.rules.specs.Answer.{Bytes, accepted}
use Rattle.rules.specs.Groups.{properties_of}
use Rattle.rules.specs.Types.{type_at}
use Rattle.rules.specs.Script.{records, encode, term}
use Rattle.rules.specs.Run.{Ran, run}
use Rattle.rules.specs.Calls.{zeros, first_after}
use Rattle.rules.specs.Packet.{application}
use Rattle.memory.specs.Splice.{splice}
use Rattle.reduction.specs.Steps.{Startable}
use Rattle.evaluation.specs.Runs.{front_term, Loaded, Told, ReportsRun}
use Rattle.evaluation.specs.declared.Halt.{Halt}
use Rattle.evaluation.proofs.Buffers.{copied_script, loaded}
use Rattle.packet.specs.Runs.{Runnable}

module _ {g t s e : Bytes} {group first scratch : ℕ} (q : Runnable g t s e group first scratch) where
  abbrev whole : Bytes
  whole = application group s e

  start : Startable g t whole
  start = record { groups = q.groups; script = q.whole; passed = q.passed }

  records_are : records whole ≡ 1 + (records s + records e)
  records_are = omega (arith, length-append s e, q.script_whole, q.entry_whole)

  module _ (a a' : Bytes) (n : ℕ) (h : a' ≡ splice 0 whole a) (m : n ≡ 1 + (records s + records e)) where
    counted : records whole ≡ n
    counted = records_are ∙ sym m

    pub run_loaded : (room : ℕ) → length whole ≤ room → Loaded g t a' n room
    run_loaded room l = transport (λ (k : ℕ). Loaded g t a' k room) counted (loaded whole a a' start h room l)

    pub run_front : front_term a' n ≡ term whole
    run_front = ap (front_term a') (sym counted) ∙ ap term (copied_script whole a a' start h)

-- a run that is the same in buffers of the same lengths
module _ (g t : Bytes) (budget : ℕ) (first first₁ scratch first' scratch' : Bytes) (a : Halt) (e e' : Term) where
  pub same_ends : length first₁ ≡ length first → e ≡ e'
      → ReportsRun (run (properties_of g) (type_at t) (min (length first₁) (length scratch)) budget e) first₁ scratch a first' scratch'
      → ReportsRun (run (properties_of g) (type_at t) (min (length first) (length scratch)) budget e') first scratch a first' scratch'
  same_ends l m q =
      let z : run (properties_of g) (type_at t) (min (length first₁) (length scratch)) budget e ≡ run (properties_of g) (type_at t) (min (length first) (length scratch)) budget e' =
      ap (λ (n : ℕ). run (properties_of g) (type_at t) (min n (length scratch)) budget e) l
      ∙ ap (run (properties_of g) (type_at t) (min (length first) (length scratch)) budget) m in
      let ran = run (properties_of g) (type_at t) (min (length first) (length scratch)) budget e' in
      record {
        told = transport (λ (x : Ran). Told x a) z q.told;
        first_is = q.first_is ∙ ap (λ (x : Ran). first_after (accepted x) first₁) z ∙ ap (λ (n : ℕ). encode ran.last ++ zeros (n - length (encode ran.last))) l;
        scratch_is = q.scratch_is;
      }
