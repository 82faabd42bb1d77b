-- The binders over a record's operands: a function and a recursion bind one in their operand, a case one in each
-- branch.
use Rattle.std.specs.Prelude.{◌||◌, if◌then◌else◌, ℕ, zero, suc, nat_eq}
use Rattle.records.specs.Kinds as kinds

-- how many binders stand over operand j, counted from 0, of a record of this kind
unfoldable pub binds : ℕ → ℕ → ℕ
binds kind zero = if nat_eq kind kinds.function || nat_eq kind kinds.recursion then 1 else 0
binds kind (suc j) = if nat_eq kind kinds.case then 1 else 0
