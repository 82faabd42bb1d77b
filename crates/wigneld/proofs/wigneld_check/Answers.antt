use Rattle.std.proofs.Common.{length, sym, ap, subst, ◌∙◌, arith}
use Rattle.rules.specs.Answer.{Octets}
use Rattle.answer.specs.Said.{answer_of}
use Rattle.packing.specs.Packed.{packed_number, Holds}
use Rattle.packing.proofs.Bounds.{place_small, check_bounded}
use Rattle.packing.proofs.Exported.{records_bounded, check_holds}
use Rattle.packing.proofs.Unpacked.{read_off}
use Rattle.typing.specs.Judged.{Judged}
use Rattle.wigneld.proofs.wigneld_check.Goals as goal

pub answer-requires : goal.answer-requires
answer-requires c =
    let a = c.args in
    let script_octets : Octets a.script.now = λ k. omega (arith, c.type_inv.script k) in
    place_small _ c.checking.ensures.outcome.says
    (records_bounded _ (check_bounded a.groups.now a.types.now a.script.now (length a.work.now) (length a.answer.now) script_octets))

pub returns : goal.returns
returns c =
    let a = c.args in
    let groups_octets : Octets a.groups.now = λ k. omega (arith, c.type_inv.groups k) in
    let script_octets : Octets a.script.now = λ k. omega (arith, c.type_inv.script k) in
    let holds : Holds (answer_of c.checking.result) =
    subst Holds (sym c.checking.ensures.outcome.says)
    (check_holds a.groups.now a.types.now a.script.now (length a.work.now) (length a.answer.now) groups_octets script_octets) in
    let x = c.checking.ensures in
    record {
      outcome = record { number = c.answer.ensures ∙ ap packed_number x.outcome.says; work_is = x.outcome.clears; answer_is = x.outcome.writes };
      promise = λ l m. read_off (λ r. Judged a.groups.now a.types.now a.script.now a.answer.now r c.checking.new.answer) c.answer.ensures holds (x.promise l m);
    }
