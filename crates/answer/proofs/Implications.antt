-- Implications, as the code writes them.
use Rattle.std.proofs.Common.{◌≡◌, refl, Bool, true, false, not, ◌||◌}
use Rattle.rules.specs.Answer.{◌⇒◌}

pub or_implies : (a b : Bool) → (a || b) ≡ (not a ⇒ b)
or_implies true b = refl
or_implies false b = refl

pub not_or_implies : (a b : Bool) → (not a || b) ≡ (a ⇒ b)
not_or_implies true b = refl
not_or_implies false b = refl
