-- The names of an old record: which binder of it a name is for.
use Rattle.std.specs.Prelude.{Bool, if◌then◌else◌, List, ◌∷◌, ℕ, nat_eq, length, nat_lt}
use Rattle.rules.specs.Answer.{Bytes, ◌⇒◌}
use Rattle.rules.specs.Names.{nearest}
use Rattle.rules.specs.Office.{office_kind, first_name, second_name}
use Rattle.records.specs.Binders.{binds}

-- the name that operand j of record i, counted from 0, is under, if a binder stands over it: the second in a case's
-- second branch
abbrev pub name_over : Bytes → ℕ → ℕ → ℕ
name_over s i j = if nat_eq j 2 then second_name s i else first_name s i

-- question 30 of record i under these names
abbrev pub is_bound : Bytes → ℕ → List ℕ → Bool
is_bound s i ns = nat_eq (office_kind s i) 0 ⇒ nat_lt (nearest (first_name s i) ns) (length ns)
