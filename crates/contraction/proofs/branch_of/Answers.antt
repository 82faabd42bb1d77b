-- The injection of a case stands after it, and the injected value after that.
use Rattle.std.proofs.Common.{◌≡◌, sym, ap, ◌∙◌, inr, ℕ, ◌+◌}
use Rattle.rules.specs.Answer.{Bytes}
use Rattle.rules.specs.Script.{size}
use Rattle.records.specs.Kinds as kinds
use Rattle.records.specs.Numbers.{kind_number}
use Rattle.records.specs.Operands.{first_operand}
use Rattle.records.specs.declared.Kind.TheVariants.{FirstInjection}
use Rattle.records.proofs.Stands.{kind_of, stands_kind, here}
use Rattle.records.proofs.Numbered.{same_kind}
use Rattle.redex.proofs.Forms.{one_reads}
use Rattle.contraction.specs.Plans.{CaseRedex}
use Rattle.contraction.proofs.Redexes.{Taken, taken, Cased, cased}
use Rattle.contraction.proofs.branch_of.Goals as goal

module _ {s : Bytes} {at : ℕ} (q : CaseRedex s at) where
  own : kind_of q.tree ≡ kinds.case
  own = sym (stands_kind s at q.tree q.stands) ∙ q.cases

  injection : Taken s at q.tree
  injection = taken q.stands q.left (one_reads _ (inr (inr own)))

  case_of : {next : ℕ} → next ≡ at + 2 + size (first_operand (first_operand q.tree)) → Cased s at q.tree next
  case_of {next} e = cased s at next q.left own q.stands e

pub end_of-first-requires : goal.end_of-first-requires
end_of-first-requires c = here (injection c.requires).inner_at

pub kind_of-requires : goal.kind_of-requires
kind_of-requires c = here (injection c.requires).first_at

pub returns-in-FirstInjection : goal.returns-in-FirstInjection
returns-in-FirstInjection c q =
    let t = injection q in
    (case_of q (c.end_of-first.ensures _ t.inner_at)).to_first
    (sym (stands_kind _ _ _ t.first_at) ∙ sym c.kind_of.ensures ∙ ap kind_number c.in-FirstInjection.is)

pub end_of-requires : goal.end_of-requires
end_of-requires c = here (case_of c.requires (c.end_of-first.ensures _ (injection c.requires).inner_at)).branch

pub returns-in_default : goal.returns-in_default
returns-in_default c q =
    let t = injection q in
    let x = case_of q (c.end_of-first.ensures _ t.inner_at) in
    x.to_second (λ z. c.in_default.not-FirstInjection (same_kind _ FirstInjection (c.kind_of.ensures ∙ stands_kind _ _ _ t.first_at ∙ z))) _
    (c.end_of.ensures _ x.branch)
