use Rattle.std.proofs.Common.{refl, sym, ◌∙◌, arith}
use Rattle.rules.specs.Script.{term_end}
use Rattle.rules.proofs.PrefixLaws.{next_record, runs_out, comes_to_end}
use Rattle.records.proofs.term_end.Goals as goal

pub loop-i-init : goal.loop-i-init
unfolding term_end
loop-i-init c = (omega arith, omega arith, refl)

pub returns-then-pending-eq0 : goal.returns-then-pending-eq0
returns-then-pending-eq0 c =
    sym (comes_to_end _ _ _ _ (omega arith))
    ∙ next_record _ _ _ _ _ (omega arith) (omega arith) c.arity_at.ensures.value
    ∙ c.loop-i.invariant.2

pub loop-i-preserved : goal.loop-i-preserved
loop-i-preserved c = (
  omega arith,
  omega arith,
  next_record _ _ _ _ _ (omega arith) (omega arith) c.arity_at.ensures.value ∙ c.loop-i.invariant.2,
)

pub returns : goal.returns
returns c = sym (runs_out _ _ _ _ (omega arith) (omega arith)) ∙ c.loop-i.invariant.2
