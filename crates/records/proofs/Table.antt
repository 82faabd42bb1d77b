-- The table of kinds.
use Rattle.std.proofs.Common.{◌≡◌, refl, Bool, true, false, ◌&&◌, List, [], ◌∷◌, ℕ, zero, suc, ◌≤◌, arith, leb-true}
use Rattle.std.proofs.Common.{nat_le, length, get_or, IsTrue}
use Rattle.std.proofs.Math.Bool.{and-eq-true_iff}
use Rattle.std.proofs.Math.ListN.{get_or-eq_default}
use Rattle.rules.specs.Script.{Signature, signatures, signature_of, arity, signature}

abbrev unnamed : Signature
unnamed = signature 0 false false false false

-- past the table nothing is named
pub past_table : (k : ℕ) → length signatures ≤ k → signature_of k ≡ unnamed
unfolding signature_of
past_table k h = get_or-eq_default signatures unnamed h

-- no kind has more than three operands
abbrev each_small : List Signature → Bool
each_small [] = true
each_small (f ∷ fs) = nat_le f.operands 3 && each_small fs

small : (fs : List Signature) (k : ℕ) → IsTrue (each_small fs) → (get_or fs k unnamed).operands ≤ 3
small [] k h = omega arith
small (f ∷ fs) zero h = leb-true f.operands 3 ((and-eq-true_iff _ _).0 h).0
small (f ∷ fs) (suc k) h = small fs k ((and-eq-true_iff (nat_le f.operands 3) _).0 h).1

pub arity_small : (k : ℕ) → arity k ≤ 3
unfolding arity
arity_small k = small signatures k refl
