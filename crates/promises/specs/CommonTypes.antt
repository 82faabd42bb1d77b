-- The lowest common type of two types is at or below every other type above both, and the highest likewise (manual, 3.6
-- and 11).
use Rattle.std.specs.Prelude.{◌≡◌, true, ◌↔◌, IsTrue}
use Rattle.std.proofs.Math.Option.{some}
use Rattle.calculus.specs.Security.{Security}
use Rattle.calculus.specs.Types.{Ty, secure_t, size_t}
use Rattle.calculus.specs.Subtyping.{Subtype, Direction, below, above}
use Rattle.calculus.specs.Common.{nearest_type, same_shape}
use Rattle.rules.specs.Answer.{Bytes, Octets, accepted}
use Rattle.rules.specs.Groups.{properties_of}
use Rattle.rules.specs.Calls.{groups_check}

-- at or below, or, of the other direction, at or above
abbrev pub Toward : Security → Direction → Ty → Ty → Type 0
Toward S below s t = Subtype S s t
Toward S above s t = Subtype S t s

-- u is a bound of s and t, and nearer than every other
pub record NearestType (S : Security) (d : Direction) (s t u : Ty) : Type 0 where
  -- a bound of both,
  pub left : Toward S d s u
  pub right : Toward S d t u
  -- and nearer than every other
  pub nearest : (v : Ty) → Toward S d s v → Toward S d t v → Toward S d u v

-- Of two secure types: lowest above both (`below`), highest below both (`above`).
pub record CommonType (S : Security) (d : Direction) (s t : Ty) : Type 0 where
  -- what is found is the nearest among all types in the subtyping order, and the nearest is found
  pub found : (u : Ty) → (nearest_type S d s t ≡ some u) ↔ NearestType S d s t u
  -- there is one exactly where the kinds agree, and where any type is a bound
  pub exists : ((u : Ty) × (nearest_type S d s t ≡ some u)) ↔ (same_shape s t ≡ true)
  pub bounded : ((u : Ty) × (nearest_type S d s t ≡ some u)) ↔ ((v : Ty) × Toward S d s v × Toward S d t v)
  -- it is a secure type with as many records
  pub secure : (u : Ty) → nearest_type S d s t ≡ some u → IsTrue (secure_t S u)
  pub size : (u : Ty) → nearest_type S d s t ≡ some u → size_t u ≡ size_t s

-- of all secure types over a groups table that passes questions 2 to 7
unfoldable pub CommonTypes : Type 0
CommonTypes =
    (g : Bytes) → Octets g → groups_check g ≡ accepted tt → (d : Direction) (s t : Ty) → IsTrue (secure_t (properties_of g) s) → IsTrue (secure_t (properties_of g) t)
    → CommonType (properties_of g) d s t
