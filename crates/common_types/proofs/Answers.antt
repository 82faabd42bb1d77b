-- What an answer says of the common type.
use Rattle.std.proofs.Common.{◌≡◌, ℕ, Some, None, refl, arith}
use Rattle.std.proofs.Math.Option as math
use Rattle.std.proofs.Math.Option.{none, some}
use Rattle.calculus.specs.Types.{Ty, size_t}
use Rattle.common_types.specs.Walks.{walk_answer}

pub found_is : (o : math.Option Ty) {n : ℕ} → Some n ≡ walk_answer o → (u : Ty) × (o ≡ some u) × (n ≡ size_t u)
found_is none e = absurd cc
found_is (some u) e = (u, refl, cc)

pub apart_is : (o : math.Option Ty) → None ≡ walk_answer o → o ≡ none
apart_is o e = grind arith
