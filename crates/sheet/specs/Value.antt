-- A value that stands in a script: what looking it over tells, and what writing its sheet is given.
use Rattle.std.specs.Prelude.{◌≡◌, Bool, true, if◌then◌else◌, ℕ, ◌+◌, Option, Some, None}
use Rattle.calculus.specs.Terms.{Term, var, unit, lam, pair, inj, app, proj, case, protect, mu, literal, reckon}
use Rattle.calculus.specs.Terms.{is_value}
use Rattle.rules.specs.Answer.{Bytes}
use Rattle.rules.specs.Groups.{leq}
use Rattle.rules.specs.Script.{size}
use Rattle.rules.specs.Sheet.{sheet}
use Rattle.records.specs.Place.{At}
use Rattle.memory.specs.Written.{Room, Written}
use Rattle.memory.specs.declared.Writer.{Writer}
use Rattle.sheet.specs.declared.Reached.{Reached}

-- the number of a value's sheet records: one for each object outside function bodies and closed objects
unfoldable pub lines : Bytes → ℕ → Term → ℕ
lines g group (unit k) = 1
lines g group (lam k i e) = 1
lines g group (pair k a b) = 1 + (if leq g k.r group then lines g group a + lines g group b else 0)
lines g group (inj d k i e) = 1 + (if leq g k.r group then lines g group e else 0)
lines g group (literal k n) = 1
lines g group _ = 0

-- none where the value isn't shown
abbrev pub lines_if : Bytes → ℕ → Bool → Term → ℕ
lines_if g group shown e = if shown then lines g group e else 0

-- what is found of e at record i, with n sheet records before its own
unfoldable pub value_found : Bytes → ℕ → Bool → Term → ℕ → ℕ → Option Reached
unfolding is_value size lines
value_found g group shown e i n =
    if is_value e then Some (record { next = i + size e; line = n + lines_if g group shown e }) else None

-- a value at record i, and room for its sheet
pub record SheetRoom (g : Bytes) (group : ℕ) (s : Bytes) (i : ℕ) (out : Writer) : Type 0 where
  pub tree : Term
  pub at : At s i tree
  pub value : is_value tree ≡ true
  pub fits : Room (sheet g group tree) out

-- the record after e, and the sheet of e is written
pub record SheetWritten (g : Bytes) (group i : ℕ) (e : Term) (out : Writer) (next : ℕ) (out' : Writer) : Type 0 where
  pub next_is : next ≡ i + size e
  pub wrote : Written (sheet g group e) out out'
