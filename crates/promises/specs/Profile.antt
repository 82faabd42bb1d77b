-- Scripts in the profile finish (manual, 7.6 and 11).
use Rattle.std.specs.Prelude.{◌≡◌, true, ◌↔◌, ℕ, ◌≤◌, ◌<◌}
use Rattle.calculus.specs.Types.{Ty}
use Rattle.calculus.specs.Terms.{Term, is_value}
use Rattle.calculus.specs.Runs.{Runs}
use Rattle.termination.specs.Profile.{recursion_free}
use Rattle.rules.specs.Answer.{Bytes, Octets, accepted}
use Rattle.rules.specs.Groups.{properties_of}
use Rattle.rules.specs.Types.{type_at}
use Rattle.rules.specs.Script.{records, kind, term}
use Rattle.rules.specs.Run.{Ran}
use Rattle.rules.specs.Calls.{run_call}
use Rattle.rules.specs.Reach.{Accepted}
use Rattle.rules.specs.Profile.{AcceptedInProfile}

-- There is a number of steps of the rules, read without the limits of size and depth, after which a value stands.
pub record Finishes (g t s : Bytes) : Type 0 where
  -- so many steps of the rules lead to a value
  pub steps : ℕ
  pub value : Term
  pub runs : Runs (properties_of g) (type_at t) steps (term s) value
  pub stands : is_value value ≡ true
  -- In the call's words: a run with a budget of at least that number ends there, unless it meets a limit.
  pub ends_0 : (budget first scratch : ℕ) (ran : Ran) → steps ≤ budget → run_call g t s budget first scratch ≡ accepted ran → (ran.end ≡ 4 → ⊥)
      → (ran.end ≡ 0) × (ran.steps ≡ steps) × (ran.last ≡ value)

-- What the profile check says of a script.
pub record InProfile (g t s : Bytes) : Type 0 where
  -- The profile admits only scripts without a recursion: it accepts what checking accepts, with that type, where no
  -- record has kind 11.
  pub admits : (type : Ty)
      → AcceptedInProfile g t s type ↔ (Accepted g t s type × ((i : ℕ) → i < records s → kind s i ≡ 11 → ⊥))
  pub without_recursion : (type : Ty) → AcceptedInProfile g t s type → recursion_free (term s) ≡ true
  -- every accepted script in it
  pub finishes : (type : Ty) → AcceptedInProfile g t s type → Finishes g t s

unfoldable pub PageScripts : Type 0
PageScripts = (g t s : Bytes) → Octets g → Octets s → InProfile g t s
