-- The names over an operand.
use Rattle.std.proofs.Common.{List, if◌then◌else◌, nat_eq, ℕ, ◌∷◌}
use Rattle.rules.specs.Answer.{Bytes}
use Rattle.records.specs.Binders.{binds}
use Rattle.importing.specs.Fields.{name_over}

-- the names over operand j of record i, which has this kind, where ns are over the record
abbrev pub inner : Bytes → ℕ → ℕ → ℕ → List ℕ → List ℕ
inner s i kind j ns = if nat_eq (binds kind j) 1 then name_over s i j ∷ ns else ns
