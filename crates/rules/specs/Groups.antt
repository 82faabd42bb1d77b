-- The groups table: order, join and meet, and questions 2 to 7 (manual, 2.1 to 2.3).
use Rattle.std.specs.Prelude.{Bool, false, ◌&&◌, ℕ, ◌+◌, ◌*◌, ◌/◌, ◌%◌, ◌^◌, nat_eq, nat_le, nat_lt, length}
use Rattle.std.specs.Bool.{beq}
use Rattle.std.proofs.Math.Option.{Option, none, some}
use Rattle.calculus.specs.Security.{Security}
use Rattle.calculus.specs.Groups.{Groups, properties}
use Rattle.rules.specs.Answer.{Bytes, byte, Answer, ask, each, first_from, first_below, last_below, all_below, ◌⇒◌}
use Rattle.rules.specs.Limits.{row_width, group_limit}

-- The number of rows: a table is 1 to 32 rows of 4 bytes, without a header.
abbrev pub rows : Bytes → ℕ
rows t = length t / row_width

-- row g as a number, its lowest byte first
abbrev pub row : Bytes → ℕ → ℕ
row t g =
    byte t (row_width * g) + 256 * byte t (row_width * g + 1) + 65536 * byte t (row_width * g + 2) + 16777216 * byte t (row_width * g + 3)

-- is bit h of this number set?
abbrev pub bit : ℕ → ℕ → Bool
bit word h = nat_eq (word / 2 ^ h % 2) 1

-- g ⊑ h: bit h of row g. A group outside the table has row 0 and is ⊑ none.
abbrev pub leq : Bytes → ℕ → ℕ → Bool
leq t g h = bit (row t g) h

-- is bit k set in both rows?
abbrev pub in_both_rows : Bytes → ℕ → ℕ → ℕ → Bool
in_both_rows t g h k = bit (row t g) k && bit (row t h) k

-- the number, or 0 where there is none
abbrev pub or_zero : Option ℕ → ℕ
or_zero none = 0
or_zero (some n) = n

-- The join g ⊔ h: the lowest bit that is set in both rows.
unfoldable pub join : Bytes → ℕ → ℕ → ℕ
unfolding first_from
join t g h = or_zero (first_below (in_both_rows t g h) group_limit)

-- is k ⊑ both?
abbrev pub below_both : Bytes → ℕ → ℕ → ℕ → Bool
below_both t g h k = leq t k g && leq t k h

-- The meet g ⊓ h: the highest-numbered group that is ⊑ both.
unfoldable pub meet : Bytes → ℕ → ℕ → ℕ
unfolding last_below
meet t g h = or_zero (last_below (below_both t g h) group_limit)

-- 2. Are the groups whole rows of 4 bytes, 1 to 32 of them? Place: 0.
abbrev pub q2 : Bytes → Answer (Unit {0})
q2 t = ask 2 0 (nat_eq (length t % row_width) 0 && (nat_le 1 (rows t) && nat_le (rows t) group_limit))

-- 3. Has row g no bit at or past the row count? Place: g. `ok3` to `ok6` ask their question of one row.
unfoldable pub ok3 : Bytes → ℕ → Bool
unfolding first_from
ok3 t g = all_below (λ h. bit (row t g) h ⇒ nat_lt h (rows t)) group_limit

-- 3, of each row
abbrev pub q3 : Bytes → Answer (Unit {0})
q3 t = each 3 (rows t) (ok3 t)

-- is it there, and this number?
abbrev pub holds_number : Option ℕ → ℕ → Bool
holds_number none n = false
holds_number (some m) n = nat_eq m n

-- 4. Is g the lowest bit of row g? Place: g.
unfoldable pub ok4 : Bytes → ℕ → Bool
unfolding first_from
ok4 t g = holds_number (first_below (bit (row t g)) group_limit) g

-- 4, of each row
abbrev pub q4 : Bytes → Answer (Unit {0})
q4 t = each 4 (rows t) (ok4 t)

-- is every bit of v a bit of w?
abbrev pub is_row_within : ℕ → ℕ → Bool
is_row_within v w = all_below (λ k. bit v k ⇒ bit w k) group_limit

-- 5. For every bit h of row g: is every bit of row h a bit of row g? Place: g.
unfoldable pub ok5 : Bytes → ℕ → Bool
unfolding first_from
ok5 t g = all_below (λ h. bit (row t g) h ⇒ is_row_within (row t h) (row t g)) group_limit

-- 5, of each row
abbrev pub q5 : Bytes → Answer (Unit {0})
q5 t = each 5 (rows t) (ok5 t)

-- Are the bits of `set` exactly the row of the lowest of them? Where there is none, no.
abbrev pub row_of_lowest : Bytes → (ℕ → Bool) → Option ℕ → Bool
row_of_lowest t set none = false
row_of_lowest t set (some l) = all_below (λ k. beq (set k) (bit (row t l) k)) group_limit

-- 6. For every row h: have rows g and h a bit in common, and are their common bits exactly the row of the lowest of
-- them? Both orders of a pair have the same answer, so the place, the first g with a no, is the smaller of the first
-- failing pair.
unfoldable pub ok6 : Bytes → ℕ → Bool
unfolding first_from
ok6 t g = all_below (λ h. row_of_lowest t (in_both_rows t g h) (first_below (in_both_rows t g h) group_limit)) (rows t)

-- 6, of each row
abbrev pub q6 : Bytes → Answer (Unit {0})
q6 t = each 6 (rows t) (ok6 t)

-- 7. Has row 0 every bit below the row count? Place: 0.
unfoldable pub ok7 : Bytes → Bool
unfolding first_from
ok7 t = all_below (λ h. bit (row t 0) h) (rows t)

-- 7, as a question
abbrev pub q7 : Bytes → Answer (Unit {0})
q7 t = ask 7 0 (ok7 t)

-- a groups table as the calculus sees it
abbrev pub groups_of : Bytes → Groups
groups_of t = record { group = λ g. nat_lt g (rows t); leq = leq t; join = join t; meet = meet t }

-- the properties over a groups table
abbrev pub properties_of : Bytes → Security
properties_of t = properties (groups_of t)
