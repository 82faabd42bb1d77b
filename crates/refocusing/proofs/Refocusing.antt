-- The theorem of refocusing, from the step of a term in an evaluation context.
use Rattle.std.proofs.Common.{◌≡◌, refl, sym, ◌∙◌, false, ℕ, suc, IsTrue, arith}
use Rattle.std.proofs.lemmas.Bool.{false≢true}
use Rattle.calculus.specs.Security.{Security}
use Rattle.calculus.specs.Types.{Ty}
use Rattle.calculus.specs.Terms.{Term, is_value}
use Rattle.calculus.specs.Reduction.{Context, plug, Outcome, operand_first, step}
use Rattle.calculus.proofs.Contexts.{plug_step}
use Rattle.calculus.proofs.Reduction.{step_value}
use Rattle.rules.specs.Step.{moves, exceeds, step_in}
use Rattle.rules.specs.Run.{one_step_more, run}
use Rattle.redex.specs.Fates.{reduces, is_potential_redex, fate, contractum}
use Rattle.redex.proofs.Turns.{plug_moves}
use Rattle.reduction.proofs.Ends.{ends_moved}
use Rattle.refocusing.specs.Refocusing.{Refocusing, RunsRefocus}

module _ (S : Security) (tab : ℕ → Ty) where
  in_context : (E : Context) (e : Term) (next : Outcome) → is_value e ≡ false → step S tab (plug E e) ≡ operand_first (step S tab e) (plug E) next
  unfolding operand_first
  in_context E e next h = grind (arith, step_value, plug_step)

  continues : (room : ℕ) (E : Context) (e : Term) → IsTrue (is_potential_redex e) → fate S tab e ≡ reduces → exceeds room (plug E (contractum S tab e)) ≡ false
      → step_in S tab room (plug E e) ≡ moves (plug E (contractum S tab e))
  continues room E e turn h small = grind (arith, ends_moved, plug_moves)

  pub run_moves : (room budget : ℕ) (e e' : Term) → step_in S tab room e ≡ moves e' → run S tab room (suc budget) e ≡ one_step_more (run S tab room budget e')
  unfolding run
  run_moves room budget e e' h = rw (h, run)

  pub refocusing : Refocusing S tab
  refocusing = record {
    in_context = in_context;
    continues = continues;
    runs_on = λ room budget E e turn h small. run_moves room budget (plug E e) (plug E (contractum S tab e)) (continues room E e turn h small);
  }

pub runs_refocus : RunsRefocus
unfolding RunsRefocus
runs_refocus S tab = refocusing S tab
