-- Erasure of a step: where no reading is denied, the erased term does the same over one group.
use Rattle.std.proofs.Common.{◌≡◌, sym, [], ℕ, zero, IsTrue, arith}
use Rattle.calculus.specs.Security.{Security, Laws}
use Rattle.calculus.specs.Types.{Ty}
use Rattle.calculus.specs.Terms.{Term, is_value}
use Rattle.calculus.specs.Reduction.{step}
use Rattle.calculus.specs.Typing.{HasType, Table}
use Rattle.calculus.specs.Numbers.{of_both}
use Rattle.calculus.proofs.RelabelledTerms.{relabel_value}
use Rattle.calculus.proofs.Relabelling.{Keeps, relabel_step}
use Rattle.calculus.proofs.Reduction.{denied_step}
use Rattle.calculus.proofs.Progress.{never_denied}
use Rattle.calculus.proofs.Erased.{public, no_influence, erasure_labels, erase_t, erase, erase_o}

-- One group: raised by itself, read by itself and called by itself it stays itself, what it makes starts with it, and
-- it may read itself.
pub record OneGroup (S : Security) : Type 0 where
  pub raise : S.raise public no_influence ≡ public
  pub fresh : S.fresh zero ≡ public
  pub permits : IsTrue (S.permits public zero)
  pub influence : S.influence public zero ≡ no_influence
  pub caller : S.caller public zero ≡ zero

reckoned_erased : (S : Security) → OneGroup S → of_both S zero public public ≡ public
reckoned_erased S g = cc (g.fresh, g.influence, g.raise)

erasure_keeps : (S S' : Security) (tab : ℕ → Ty) → OneGroup S' → Keeps erasure_labels S S' tab
erasure_keeps S S' tab g = record {
  raise = λ k m. sym g.raise;
  permits = λ k w h. g.permits;
  influence = λ k w. sym g.influence;
  reckoning = λ w k l. sym (reckoned_erased S' g);
  caller = λ i w. sym g.caller;
}

pub erase_value : (e : Term) → is_value (erase e) ≡ is_value e
erase_value = relabel_value erasure_labels

module _ (S S' : Security) (one_group : OneGroup S') (tab tab' : ℕ → Ty) (erased_table : (i : ℕ) → tab' i ≡ erase_t (tab i)) where
  -- Accepted programs never meet an object that they may not read, so the checks at run time may be left out.
  pub typed_erase_step : Laws S → Table S tab → (e : Term) (t : Ty) → HasType S tab [] e t → step S' tab' (erase e) ≡ erase_o (step S tab e)
  typed_erase_step L T e t h = grind (arith, relabel_step, erasure_keeps, never_denied, denied_step)
