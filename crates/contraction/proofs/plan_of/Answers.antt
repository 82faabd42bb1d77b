-- A destructor's operand stands after it, and that operand's own after that.
use Rattle.std.proofs.Common.{◌≡◌, sym, ap, ◌∙◌, ◌⊎◌, inl, inr, ℕ, arith, IsTrue}
use Rattle.rules.specs.Answer.{Bytes}
use Rattle.rules.specs.Script.{kind}
use Rattle.records.specs.Numbers.{kind_number}
use Rattle.records.specs.declared.Kind.{Kind}
use Rattle.records.specs.declared.Kind.TheVariants.{Application, FirstProjection, SecondProjection, Protect, Recursion}
use Rattle.records.specs.declared.Kind.TheVariants.{Sum, Less}
use Rattle.records.proofs.Stands.{kind_of, there, stands_kind, here}
use Rattle.records.proofs.Numbered.{same_kind}
use Rattle.redex.specs.Found.{is_reckoning}
use Rattle.redex.proofs.Forms.{one_reads, application_reads}
use Rattle.contraction.specs.Plans.{Fires, CaseRedex}
use Rattle.contraction.proofs.Redexes.{Taken, taken, plan_unrolled, plan_raised, plan_reckoned, plan_first, plan_second}
use Rattle.contraction.proofs.Redexes.{plan_applied, only_case}
use Rattle.contraction.proofs.plan_of.Goals as goal
use Rattle.contraction.proofs.plan_of.Goals.{In_default}

module _ {s : Bytes} {at : ℕ} {k : Kind} (q : Fires s at) (kind_is : kind_number k ≡ kind s at) where
  is_kind : {l : Kind} → k ≡ l → kind_of q.tree ≡ kind_number l
  is_kind h = sym (kind_is ∙ stands_kind s at q.tree q.stands) ∙ ap kind_number h

  other_kind : (l : Kind) → (k ≡ l → ⊥) → kind_of q.tree ≡ kind_number l → ⊥
  other_kind l h z = h (same_kind k l (kind_is ∙ stands_kind s at q.tree q.stands ∙ z))

  first_taken : k ≡ FirstProjection → Taken s at q.tree
  first_taken h = taken q.stands q.left (one_reads _ (inl (is_kind h)))

  second_taken : k ≡ SecondProjection → Taken s at q.tree
  second_taken h = taken q.stands q.left (one_reads _ (inr (inl (is_kind h))))

  applied_taken : k ≡ Application → Taken s at q.tree
  applied_taken h = taken q.stands q.left (rw (is_kind h) application_reads)

  reckoning_kind : (k ≡ Sum) ⊎ (k ≡ Less) → IsTrue (is_reckoning (kind_of q.tree))
  reckoning_kind (inl h) = rw (is_kind h)
  reckoning_kind (inr h) = rw (is_kind h)

-- what is left is a case
abbrev case_left : (c : In_default) → Fires c.args.script.now c.args.at → CaseRedex c.args.script.now c.args.at
case_left c q =
    let k = c.kind_of.ensures in
    let d = c.in_default in
    record {
      tree = q.tree;
      stands = q.stands;
      left = q.left;
      cases = stands_kind _ _ _ q.stands ∙ only_case q.left (other_kind q k Recursion d.not-Recursion) (other_kind q k Protect d.not-Protect)
          (other_kind q k FirstProjection d.not-FirstProjection) (other_kind q k SecondProjection d.not-SecondProjection)
          (other_kind q k Application d.not-Application) (other_kind q k Sum d.not-Sum) (other_kind q k Less d.not-Less);
    }

pub overflow_add-inner : goal.overflow_add-inner
overflow_add-inner c = omega (arith, there _ _ _ c.requires.stands)

pub returns-in-Recursion : goal.returns-in-Recursion
returns-in-Recursion c q = plan_unrolled _ c.args.at q.left (is_kind q c.kind_of.ensures c.in-Recursion.is)

pub returns-in-Protect : goal.returns-in-Protect
returns-in-Protect c q = plan_raised _ c.args.at q.left (is_kind q c.kind_of.ensures c.in-Protect.is)

pub returns-in-Sum : goal.returns-in-Sum
returns-in-Sum c q = plan_reckoned _ c.args.at q.left (reckoning_kind q c.kind_of.ensures c.in-Sum.is)

pub returns-in-FirstProjection : goal.returns-in-FirstProjection
returns-in-FirstProjection c q =
    let k = c.kind_of.ensures in
    let h = c.in-FirstProjection.is in
    plan_first _ c.args.at q.left (is_kind q k h) (first_taken q k h).inner_at

pub end_of-requires : goal.end_of-requires
end_of-requires c = here (second_taken c.requires c.kind_of.ensures c.in-SecondProjection.is).inner_at

pub returns-in-SecondProjection : goal.returns-in-SecondProjection
returns-in-SecondProjection c q =
    let k = c.kind_of.ensures in
    let h = c.in-SecondProjection.is in
    let t = second_taken q k h in
    plan_second _ c.args.at _ q.left (is_kind q k h) t.first_at (c.end_of.ensures _ t.inner_at)

pub end_of-requires-in-Application : goal.end_of-requires-in-Application
end_of-requires-in-Application c = here (applied_taken c.requires c.kind_of.ensures c.in-Application.is).inner_at

pub returns-in-Application : goal.returns-in-Application
returns-in-Application c q =
    let k = c.kind_of.ensures in
    let h = c.in-Application.is in
    let t = applied_taken q k h in
    plan_applied _ c.args.at _ q.left (is_kind q k h) q.stands t.inner_at (c.end_of-in-Application.ensures _ t.inner_at)

pub branch_of-requires : goal.branch_of-requires
branch_of-requires c = case_left (goal.at.branch_of-requires c).In_default c.requires

pub returns-in_default : goal.returns-in_default
returns-in_default c q = c.branch_of.ensures (case_left (goal.at.returns-in_default c).In_default q)
