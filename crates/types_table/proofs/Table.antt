-- A types table that passes holds a type at each of its records, and none has more than 63 records.
use Rattle.std.proofs.Common.{◌≡◌, ℕ, ◌*◌, ◌≤◌, ◌<◌, drop}
use Rattle.calculus.specs.Types.{size_t, type_limit}
use Rattle.rules.specs.Answer.{Bytes, accepted}
use Rattle.rules.specs.Limits.{type_width}
use Rattle.rules.specs.Types.{type_count, type_at}
use Rattle.rules.specs.Calls.{types_check}
use Rattle.rules.proofs.TypeTables.{passes, standing, every_short}
use Rattle.types.specs.Held.{Held}
use Rattle.types_table.proofs.Questions.{all_yes}

module _ (g t : Bytes) (yes : types_check g t ≡ accepted tt) (i : ℕ) (l : i < type_count t) where
  abbrev pub type_held : Held (drop (type_width * i) t) (type_at t i)
  type_held =
      let y = all_yes g t yes in
      let s = standing t (passes g t y.to_8 y.to_9 y.to_11) i l in
      record { rest = s.rest; is = s.bytes }

  pub type_short : size_t (type_at t i) ≤ type_limit
  type_short =
      let y = all_yes g t yes in
      every_short t (passes g t y.to_8 y.to_9 y.to_11) y.to_12 i l
