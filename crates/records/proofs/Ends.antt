-- Where a term ends.
use Rattle.std.proofs.Common.{◌≡◌, sym, ◌∙◌, ℕ, zero, suc, ◌+◌, ◌-◌, ◌≤◌, ◌<◌, arith}
use Rattle.std.proofs.Math.Decide.{dec_lt}
use Rattle.std.proofs.Math.Option.{some}
use Rattle.rules.specs.Answer.{Bytes}
use Rattle.rules.specs.Types.{end_after}
use Rattle.rules.specs.Script.{records, kind, arity, term_end}
use Rattle.rules.proofs.PrefixLaws.{runs_out}
use Rattle.rules.proofs.Search.{some_inj, none≢some}

bounds : (f : ℕ → ℕ) (left need i e : ℕ) → end_after f left need i ≡ some e → (i ≤ e) × (e ≤ i + left)
unfolding end_after
bounds f zero zero i e h = let p = some_inj h in (omega arith, omega arith)
bounds f zero (suc need) i e h = absurd (none≢some h)
bounds f (suc left) zero i e h = let p = some_inj h in (omega arith, omega arith)
bounds f (suc left) (suc need) i e h = let b = bounds f left (need + f i) (suc i) e h in (omega (arith, b.0), omega (arith, b.1))

none_past : (f : ℕ → ℕ) (left i e : ℕ) → left ≡ 0 → end_after f left 1 i ≡ some e → ⊥
none_past f left i e z h = none≢some (sym (runs_out f left 1 i z (omega arith)) ∙ h)

-- a term that ends ends within its script
pub end_inside : (s : Bytes) (i e : ℕ) → term_end s i ≡ some e → (i ≤ e) × (e ≤ records s)
unfolding term_end
end_inside s i e h = within (dec_lt i (records s))
  where
    within : Dec (i < records s) → (i ≤ e) × (e ≤ records s)
    within (yes l) = let b = bounds (λ j. arity (kind s j)) (records s - i) 1 i e h in (b.0, omega (arith, b.1))
    within (no l) = absurd (none_past (λ j. arity (kind s j)) (records s - i) i e (omega arith) h)
