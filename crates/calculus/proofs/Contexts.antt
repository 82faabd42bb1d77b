-- Evaluation contexts: they compose, and the step function works where their hole is.
use Rattle.std.proofs.Common.{◌≡◌, refl, ◌∙◌, ℕ, IsTrue}
use Rattle.calculus.specs.Security.{Security}
use Rattle.calculus.specs.Types.{Ty}
use Rattle.calculus.specs.Terms.{Term}
use Rattle.calculus.specs.Reduction.{Context, hole, app_left, app_right, in_proj, in_inj, pair_left, pair_right}
use Rattle.calculus.specs.Reduction.{in_protect, in_case, reckon_left, reckon_right, plug, Outcome, operand_first, step}
use Rattle.calculus.proofs.Outcomes.{unfinished, within, within_itself, operand_value, operand_within}
use Rattle.calculus.proofs.Values.{value_step}

unfoldable pub compose : Context → Context → Context
compose hole F = F
compose (app_left w E a) F = app_left w (compose E F) a
compose (app_right w v h E) F = app_right w v h (compose E F)
compose (in_proj d w E) F = in_proj d w (compose E F)
compose (in_inj d k i E) F = in_inj d k i (compose E F)
compose (pair_left k E b) F = pair_left k (compose E F) b
compose (pair_right k v h E) F = pair_right k v h (compose E F)
compose (in_protect m E) F = in_protect m (compose E F)
compose (in_case w i E a b) F = in_case w i (compose E F) a b
compose (reckon_left o w E b) F = reckon_left o w (compose E F) b
compose (reckon_right o w v h E) F = reckon_right o w v h (compose E F)

pub plug_compose : (E F : Context) (e : Term) → plug (compose E F) e ≡ plug E (plug F e)
unfolding plug compose
plug_compose hole F e = refl
plug_compose (app_left w E a) F e = rw (plug_compose E F e)
plug_compose (app_right w v h E) F e = rw (plug_compose E F e)
plug_compose (in_proj d w E) F e = rw (plug_compose E F e)
plug_compose (in_inj d k i E) F e = rw (plug_compose E F e)
plug_compose (pair_left k E b) F e = rw (plug_compose E F e)
plug_compose (pair_right k v h E) F e = rw (plug_compose E F e)
plug_compose (in_protect m E) F e = rw (plug_compose E F e)
plug_compose (in_case w i E a b) F e = rw (plug_compose E F e)
plug_compose (reckon_left o w E b) F e = rw (plug_compose E F e)
plug_compose (reckon_right o w v h E) F e = rw (plug_compose E F e)

module _ (S : Security) (tab : ℕ → Ty) where
  operand_plug : (f : Term → Term) (E : Context) (x y next : Outcome) → IsTrue (unfinished x) → y ≡ within (plug E) x
      → operand_first y f next ≡ within (λ e. f (plug E e)) x
  operand_plug f E x y next h p = rw p (operand_within f (plug E) x next h)

  pub plug_step : (E : Context) (e : Term) (x : Outcome) → IsTrue (unfinished x) → step S tab e ≡ x → step S tab (plug E e) ≡ within (plug E) x
  unfolding step plug
  plug_step hole e x h p = p ∙ within_itself x
  plug_step (app_left w E a) e x h p = operand_plug _ E x _ _ h (plug_step E e x h p)
  plug_step (app_right w v g E) e x h p = operand_value _ _ _ (value_step S tab v g) ∙ operand_plug _ E x _ _ h (plug_step E e x h p)
  plug_step (in_proj d w E) e x h p = operand_plug _ E x _ _ h (plug_step E e x h p)
  plug_step (in_inj d k i E) e x h p = operand_plug _ E x _ _ h (plug_step E e x h p)
  plug_step (pair_left k E b) e x h p = operand_plug _ E x _ _ h (plug_step E e x h p)
  plug_step (pair_right k v g E) e x h p = operand_value _ _ _ (value_step S tab v g) ∙ operand_plug _ E x _ _ h (plug_step E e x h p)
  plug_step (in_protect m E) e x h p = operand_plug _ E x _ _ h (plug_step E e x h p)
  plug_step (in_case w i E a b) e x h p = operand_plug _ E x _ _ h (plug_step E e x h p)
  plug_step (reckon_left o w E b) e x h p = operand_plug _ E x _ _ h (plug_step E e x h p)
  plug_step (reckon_right o w v g E) e x h p = operand_value _ _ _ (value_step S tab v g) ∙ operand_plug _ E x _ _ h (plug_step E e x h p)
