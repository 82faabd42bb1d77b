-- A typed closed term without a recursion comes to a value.
use Rattle.std.specs.Prelude.{[], ℕ, IsTrue}
use Rattle.calculus.specs.Security.{Security, Laws}
use Rattle.calculus.specs.Types.{Ty}
use Rattle.calculus.specs.Terms.{Term, is_value}
use Rattle.calculus.specs.Runs.{Runs}
use Rattle.calculus.specs.Typing.{HasType, Table}
use Rattle.termination.specs.Profile.{recursion_free}

-- over any properties that obey the laws and any table of secure types: there is a number of steps after which a value
-- stands
unfoldable pub Terminates : Type 0
Terminates =
    (S : Security) (tab : ℕ → Ty) → Laws S → Table S tab → (e : Term) (t : Ty) → HasType S tab [] e t → IsTrue (recursion_free e)
    → (n : ℕ) × (v : Term) × Runs S tab n e v × IsTrue (is_value v)
