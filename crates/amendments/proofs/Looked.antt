-- What the pass finds, as the call answers it.
use Rattle.std.proofs.Common.{◌≡◌, refl, sym, ap, ◌∙◌, ℕ, ◌≤◌, arith, Option, Some, None, unwrap_or}
use Rattle.rules.specs.Answer.{Bytes, accepted}
use Rattle.rules.specs.Limits.{listed_limit, no_script}
use Rattle.rules.specs.InForce.{entry_count, lists_check, script_in_force, in_force}
use Rattle.promises.specs.InForce.{newest, or_no_script}
use Rattle.promises.proofs.InForce.{lists_pass, pass_finds, far_has_none}
use Rattle.answer.specs.Said.{option_of}
use Rattle.answer.proofs.Passed.{then_asked}

or_none : (o : Option ℕ) → unwrap_or o no_script ≡ or_no_script (option_of o)
or_none None = refl
or_none (Some j) = refl

module _ (g t l a : Bytes) (yes : accepted tt ≡ lists_check g t l a) where
  answered : (i n : ℕ) → n ≡ script_in_force a i → accepted n ≡ in_force g t l a i
  unfolding in_force
  answered i n e = then_asked (lists_check g t l a) (accepted (script_in_force a i)) yes (ap (λ (m : ℕ). accepted m) e)

  pub looked_up : (i k n : ℕ) (o : Option ℕ) → k ≡ i → option_of o ≡ newest a k (entry_count a) → n ≡ unwrap_or o no_script → accepted n ≡ in_force g t l a i
  looked_up i k n o e f h =
      answered i n
      (h ∙ or_none o ∙ ap or_no_script (f ∙ ap (λ (j : ℕ). newest a j (entry_count a)) e) ∙ pass_finds g t l a (lists_pass g t l a (sym yes)) i)

  -- an index of more than 16 bits
  pub too_wide : (i : ℕ) → listed_limit ≤ i → accepted no_script ≡ in_force g t l a i
  too_wide i h = let P = lists_pass g t l a (sym yes) in answered i no_script (sym (far_has_none g t l a P i (omega (arith, P.limited))))
