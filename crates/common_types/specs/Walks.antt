-- Two types in one buffer, and what a walk over both answers and leaves there.
use Rattle.std.specs.Prelude.{◌≡◌, ℕ, ◌+◌, ◌*◌, ◌≤◌, Option, Some, None, length, drop}
use Rattle.std.proofs.Math.Option as math
use Rattle.calculus.specs.Security.{Security}
use Rattle.calculus.specs.Types.{Ty, top, size_t}
use Rattle.calculus.specs.Subtyping.{Direction}
use Rattle.calculus.specs.Common.{nearest_property}
use Rattle.rules.specs.Answer.{Bytes}
use Rattle.rules.specs.Limits.{type_width}
use Rattle.rules.specs.Types.{type_record, encode_type}
use Rattle.memory.specs.Splice.{splice}
use Rattle.types.specs.Held.{Held, kind_of_type}

-- the records of t stand in w from record i on
pub record TypeAt (w : Bytes) (i : ℕ) (t : Ty) : Type 0 where
  pub held : Held (drop (type_width * i) w) t

-- a type stands in w at record `at`, and another at record `other`, past the first
pub record TwoTypes (w : Bytes) (at other : ℕ) : Type 0 where
  pub first : Ty
  pub second : Ty
  pub first_at : TypeAt w at first
  pub second_at : TypeAt w other second
  pub past : at + size_t first ≤ other

-- the first record of their common type, where they are of one kind
abbrev pub common_record : {w : Bytes} {at other : ℕ} → Security → Direction → TwoTypes w at other → Bytes
common_record S d p = type_record (kind_of_type p.first) (nearest_property S d (top p.first) (top p.second))

-- what a walk answers: the record count of the common type, if there is one
abbrev pub walk_answer : math.Option Ty → Option ℕ
walk_answer math.none = None
walk_answer (math.some u) = Some (size_t u)

-- The answer, and the buffer before and after: of the records of the first type some may be written over, and nothing
-- else; where there is a common type, it is what is written.
pub record Walked (o : math.Option Ty) (s : Ty) (at : ℕ) (w : Bytes) (x : Option ℕ) (w' : Bytes) : Type 0 where
  pub says : x ≡ walk_answer o
  pub piece : Bytes
  pub within : length piece ≤ type_width * size_t s
  pub wrote : w' ≡ splice (type_width * at) piece w
  pub is : (u : Ty) → o ≡ math.some u → piece ≡ encode_type u
