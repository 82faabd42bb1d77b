-- The record count of one type, by a pass with a pending count.
use Rattle.std.proofs.Common.{◌≡◌, ap, sym, ◌∙◌, Bool, true, false, cond, ◌||◌, ℕ, ◌-◌, ◌≤◌, ◌<◌, arith, nat_eq}
use Rattle.std.proofs.Math.Decide.{dec_lt}
use Rattle.std.proofs.Math.Option.{Option, some}
use Rattle.calculus.specs.Types.{Ty, size_t}
use Rattle.rules.specs.Answer.{Bytes}
use Rattle.rules.specs.Types.{type_count, type_kind, sides, end_after, type_end}
use Rattle.rules.proofs.Search.{some_inj, none≢some}
use Rattle.rules.proofs.PrefixLaws.{runs_out, comes_to_end, tree_end}
use Rattle.rules.proofs.TypeCode.{type_prefix}
use Rattle.types.specs.Held.{Held, Starts}
use Rattle.types.proofs.Parts.{held_length}

-- the records' sides, as the definitions read them
abbrev pub ops : Bytes → ℕ → ℕ
ops t j = sides (type_kind t j)

-- the walk with `need` types to come at record i
abbrev pub walk : Bytes → ℕ → ℕ → Option ℕ
walk t need i = end_after (ops t) (type_count t - i) need i

pub at_most_two : (k : ℕ) → sides k ≤ 2
at_most_two k = go (nat_eq k 0 || nat_eq k 4)
  where
    go : (b : Bool) → cond b 0 2 ≤ 2
    go true = omega arith
    go false = omega arith

module _ {s : Bytes} where
  pub held_end : {t : Ty} → Held s t → type_end s 0 ≡ some (size_t t)
  unfolding type_end
  held_end {t} h = tree_end type_prefix t s 0 (type_count s - 0) h.rest (omega (arith, held_length h)) h.is ∙ ap some (omega arith)

  -- while a side is to come, so is a record
  pub in_range : (w : Starts s) (p i : ℕ) → type_end s 0 ≡ walk s p i → 0 < p → i < type_count s
  in_range w p i e q = by (dec_lt i (type_count s))
    where
      by : Dec (i < type_count s) → i < type_count s
      by (yes l) = l
      by (no n) = absurd (none≢some (sym (runs_out (ops s) (type_count s - i) p i (omega arith) q) ∙ sym e ∙ held_end w.held))

  pub all_counted : (p i : ℕ) → type_end s 0 ≡ walk s p i → p ≡ 0 → (t : Ty) → Held s t → i ≡ size_t t
  all_counted p i e z t h = some_inj (sym (comes_to_end (ops s) (type_count s - i) p i z) ∙ sym e ∙ held_end h)
