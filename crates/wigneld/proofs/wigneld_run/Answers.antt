use Rattle.std.proofs.Common.{sym, ap, subst, ◌∙◌, arith, length}
use Rattle.rules.specs.Answer.{Octets, Answer, accepted}
use Rattle.rules.specs.Calls.{Report}
use Rattle.packing.specs.Packed.{packed_number, run_lower, RunCounted}
use Rattle.wigneld.specs.Exported.{steps_told}
use Rattle.wigneld.proofs.Reports.{run_counted, steps_same}
use Rattle.wigneld.proofs.wigneld_run.Goals as goal

pub run_number-requires : goal.run_number-requires
run_number-requires c = let o : Octets c.args.script.now = λ j. omega (arith, c.type_inv.script j) in
    subst RunCounted (sym c.run.ensures.outcome.answer)
    (run_counted c.args.groups.now c.args.types.now c.args.script.now c.args.budget (length c.args.first.now) (length c.args.scratch.now) o)

pub returns : goal.returns
returns c =
    let x = c.run.ensures.outcome in
    let y = c.run_number.ensures in
    let old = c.args.steps.now in
    record {
      outcome = record {
        number = y.answer ∙ ap (λ (a : Answer Report). packed_number (run_lower a)) x.answer;
        first_is = x.first_is;
        scratch_is = x.scratch_is;
        steps_is = y.steps ∙ ap (λ (a : Answer Report). steps_told a old) x.answer ∙ steps_same _ old;
      };
      promise = λ type t l m.
          let d = c.run.ensures.promise type t l m in
          record {
            promise = d.promise;
            number = y.answer ∙ ap (λ (a : Answer Report). packed_number (run_lower a)) d.reports;
            first_is = d.first_is;
            scratch_is = d.scratch_is;
            steps_is = y.steps ∙ ap (λ (a : Answer Report). steps_told a old) d.reports ∙ steps_same (accepted d.promise.ran) old;
          };
    }
