-- The profile's answer is bounded, so its number says what the check says.
use Rattle.std.proofs.Common.{length, sym, ap, subst, ◌∙◌, arith}
use Rattle.rules.specs.Answer.{Octets}
use Rattle.answer.specs.Said.{answer_of}
use Rattle.packing.specs.Packed.{packed_number, Holds}
use Rattle.packing.proofs.Bounds.{place_small, profile_bounded}
use Rattle.packing.proofs.Exported.{records_bounded, profile_holds}
use Rattle.packing.proofs.Unpacked.{read_off}
use Rattle.typing.specs.Judged.{JudgedInProfile}
use Rattle.wigneld_office.proofs.wigneld_check_profile.Goals as goal

pub answer-requires : goal.answer-requires
answer-requires c =
    let a = c.args in
    let script_octets : Octets a.script.now = λ k. omega (arith, c.type_inv.script k) in
    place_small _ c.profile_checking.ensures.outcome.says
    (records_bounded _ (profile_bounded a.groups.now a.types.now a.script.now (length a.work.now) (length a.answer.now) script_octets))

pub returns : goal.returns
returns c =
    let a = c.args in
    let groups_octets : Octets a.groups.now = λ k. omega (arith, c.type_inv.groups k) in
    let script_octets : Octets a.script.now = λ k. omega (arith, c.type_inv.script k) in
    let holds : Holds (answer_of c.profile_checking.result) =
    subst Holds (sym c.profile_checking.ensures.outcome.says)
    (profile_holds a.groups.now a.types.now a.script.now (length a.work.now) (length a.answer.now) groups_octets script_octets) in
    let x = c.profile_checking.ensures in
    record {
      outcome = record { number = c.answer.ensures ∙ ap packed_number x.outcome.says; work_is = x.outcome.clears; answer_is = x.outcome.writes };
      promise = λ l m. read_off (λ r. JudgedInProfile a.groups.now a.types.now a.script.now a.answer.now r c.profile_checking.new.answer) c.answer.ensures holds (x.promise l m);
    }
