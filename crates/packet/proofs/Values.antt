-- What the search for a redex says of a value.
use Rattle.std.proofs.Common.{◌≡◌, refl, sym, ap, ◌∙◌, Bool, true, false, ℕ}
use Rattle.calculus.specs.Security.{Security}
use Rattle.calculus.specs.Types.{Ty}
use Rattle.calculus.specs.Terms.{Term, is_value}
use Rattle.calculus.specs.Reduction.{Outcome, value, moved, denied, stuck, step}
use Rattle.calculus.proofs.Values.{value_step}
use Rattle.redex.specs.Found.{Finds}
use Rattle.redex.specs.declared.Found.{Found}
use Rattle.redex.specs.declared.Found.TheVariants.{Value, Redex, Denied, Stuck}
use Rattle.packet.specs.Checks.{says_value}
use Rattle.redex.proofs.Searches.{finds_step, found_value}

abbrev is_end : Outcome → Bool
is_end value = true
is_end _ = false

-- what steps otherwise than a value is none
other_step : (S : Security) (tab : ℕ → Ty) (e : Term) (o : Outcome) → step S tab e ≡ o → is_end o ≡ false → is_value e ≡ false
other_step S tab e o h n = go (is_value e) refl
  where
    go : (b : Bool) → is_value e ≡ b → b ≡ false
    go true v = sym (ap is_end (value_step S tab e v)) ∙ ap is_end h ∙ n
    go false v = refl

pub tells_value : {S : Security} {tab : ℕ → Ty} {e : Term} (f : Found) → Finds S tab 0 0 e f → says_value f ≡ is_value e
tells_value (Value n) h = sym (found_value h).0
tells_value {S} {tab} {e} (Redex i d) h = let x = finds_step h in sym (other_step S tab e (moved x.0) x.1 refl)
tells_value {S} {tab} {e} Denied h = sym (other_step S tab e denied (finds_step h) refl)
tells_value {S} {tab} {e} Stuck h = sym (other_step S tab e stuck (finds_step h) refl)
