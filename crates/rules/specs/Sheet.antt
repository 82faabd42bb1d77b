-- The sheet: what the readers of a group may see of a value (manual, 7.2).
use Rattle.std.specs.Prelude.{if◌then◌else◌, [], ◌∷◌, ◌++◌, ℕ, ◌/◌, ◌%◌}
use Rattle.calculus.specs.Security.{Property}
use Rattle.calculus.specs.Terms.{choose, Term, var, unit, lam, pair, inj, app, proj, case, protect, mu, literal, reckon}
use Rattle.rules.specs.Answer.{Bytes}
use Rattle.rules.specs.Groups.{leq}

-- A record of 6 bytes: kind, r, ir, 0, number. Kinds: 0 unit, 1 first, 2 second, 3 pair, 4 function, whose body isn't
-- shown, 5 closed, 6 number.
abbrev pub shown_record : ℕ → ℕ → ℕ → ℕ → Bytes
shown_record kind r ir n = kind ∷ r ∷ ir ∷ 0 ∷ n % 256 ∷ n / 256 ∷ []

-- An object with r ⋢ g is written closed, with groups and number 0. Only a literal has a number.
abbrev pub sheet_record : Bytes → ℕ → ℕ → Property → ℕ → Bytes
sheet_record t g kind k n = if leq t k.r g then shown_record kind k.r k.ir n else shown_record 5 0 0 0

-- A closed record stands for its object and every part of it: parts follow an open object alone.
abbrev pub shown_parts : Bytes → ℕ → Property → Bytes → Bytes
shown_parts t g k parts = if leq t k.r g then parts else []

-- the sheet of a value for reader group g, in script order
unfoldable pub sheet : Bytes → ℕ → Term → Bytes
sheet t g (unit k) = sheet_record t g 0 k 0
sheet t g (lam k i e) = sheet_record t g 4 k 0
sheet t g (pair k a b) = sheet_record t g 3 k 0 ++ shown_parts t g k (sheet t g a ++ sheet t g b)
sheet t g (inj d k i e) = sheet_record t g (choose d 1 2) k 0 ++ shown_parts t g k (sheet t g e)
sheet t g (literal k n) = sheet_record t g 6 k n
sheet t g _ = []
