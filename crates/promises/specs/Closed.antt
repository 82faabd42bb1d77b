-- Closed objects close what is in them: two values have equal sheets for a group exactly where they are alike outside
-- of what is closed to it (manual, 7.2 and 11). Nothing is said of how a value came about: steps, ends and lengths of
-- runs may depend on what is closed.
use Rattle.std.specs.Prelude.{◌≡◌, true, false, ◌↔◌, [], ℕ}
use Rattle.calculus.specs.Security.{Property}
use Rattle.calculus.specs.Terms.{Side, Term, unit, lam, pair, inj, literal, is_value}
use Rattle.rules.specs.Answer.{Bytes, accepted}
use Rattle.rules.specs.Groups.{leq}
use Rattle.rules.specs.Script.{term}
use Rattle.rules.specs.Sheet.{sheet}
use Rattle.rules.specs.Calls.{script_check, sheet_call}

-- an object with r ⋢ the group
pub data Closed (g : Bytes) (group : ℕ) : Term → Type 0 where
  closed_unit : {k : Property} → leq g k.r group ≡ false → Closed g group (unit k)
  closed_function : {k : Property} {i : ℕ} {e : Term} → leq g k.r group ≡ false → Closed g group (lam k i e)
  closed_pair : {k : Property} {a b : Term} → leq g k.r group ≡ false → Closed g group (pair k a b)
  closed_injection : {d : Side} {k : Property} {i : ℕ} {e : Term} → leq g k.r group ≡ false → Closed g group (inj d k i e)
  closed_literal : {k : Property} {n : ℕ} → leq g k.r group ≡ false → Closed g group (literal k n)

-- the same groups, as far as a sheet shows them
abbrev pub SameReaders : Property → Property → Type 0
SameReaders k l = (k.r ≡ l.r) × (k.ir ≡ l.ir)

-- Two values that differ only inside objects closed in both: at each place both are closed, whatever stands there, or
-- they have the same kind, r, ir and, of literals, number, and parts that differ only so. A sheet shows neither c and
-- ic nor the number of a type nor a function's body, so these may be any.
pub data AlikeOutside (g : Bytes) (group : ℕ) : Term → Term → Type 0 where
  closed_in_both : {a b : Term} → Closed g group a → Closed g group b → AlikeOutside g group a b
  units : {k l : Property} → SameReaders k l → AlikeOutside g group (unit k) (unit l)
  functions : {k l : Property} {i i' : ℕ} {e e' : Term} → SameReaders k l → AlikeOutside g group (lam k i e) (lam l i' e')
  pairs : {k l : Property} {a b a' b' : Term} → SameReaders k l → AlikeOutside g group a a' → AlikeOutside g group b b'
      → AlikeOutside g group (pair k a b) (pair l a' b')
  injections : {d : Side} {k l : Property} {i i' : ℕ} {e e' : Term} → SameReaders k l → AlikeOutside g group e e'
      → AlikeOutside g group (inj d k i e) (inj d l i' e')
  literals : {k l : Property} {n : ℕ} → SameReaders k l → AlikeOutside g group (literal k n) (literal l n)

-- Of two values that pass questions 2 to 19, for every group and every room.
pub record ClosedCloses (g t s s' : Bytes) (group : ℕ) : Type 0 where
  -- sheets are equal for such values, and for no others
  pub equal_when : (sheet g group (term s) ≡ sheet g group (term s')) ↔ AlikeOutside g group (term s) (term s')
  -- and so are the call's answers, refusals too
  pub equal_answers : AlikeOutside g group (term s) (term s') → (room : ℕ) → sheet_call g t s group room ≡ sheet_call g t s' group room

-- of all values that pass questions 2 to 19
unfoldable pub ClosedObjectsClose : Type 0
ClosedObjectsClose =
    (g t s s' : Bytes) (group : ℕ) → script_check [] g t s ≡ accepted tt → script_check [] g t s' ≡ accepted tt
    → is_value (term s) ≡ true → is_value (term s') ≡ true → ClosedCloses g t s s' group
