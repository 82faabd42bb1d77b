-- A number that may be missing, read back from the words of the rules.
use Rattle.std.proofs.Common.{◌≡◌, ℕ, refl, ap, Option, Some, None, IsSome}
use Rattle.std.proofs.Math.Option as math
use Rattle.rules.proofs.Search.{some_inj, none≢some}
use Rattle.answer.specs.Said.{option_of}

pub found_some : (o : Option ℕ) (n : ℕ) → option_of o ≡ math.some n → o ≡ Some n
found_some None n e = absurd (none≢some e)
found_some (Some m) n e = ap Some (some_inj e)

pub is_found : (o : Option ℕ) (n : ℕ) → option_of o ≡ math.some n → IsSome o
is_found None n e = absurd (none≢some e)
is_found (Some m) n e = refl
