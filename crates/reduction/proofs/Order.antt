-- Groups of a lattice whose join is the lowest common bit stand in order.
use Rattle.std.proofs.Common.{◌≡◌, refl, sym, ◌∙◌, subst, true, ℕ, ◌≤◌, ◌<◌, arith, IsTrue}
use Rattle.std.proofs.Math.Bool.{false≢true}
use Rattle.std.proofs.Math.Decide.{dec_lt}
use Rattle.std.proofs.Math.Option.{Option, none, some}
use Rattle.calculus.specs.Groups.{Lattice}
use Rattle.calculus.proofs.Booleans.{and_right}
use Rattle.rules.specs.Answer.{Bytes, first_below}
use Rattle.rules.specs.Limits.{group_limit}
use Rattle.rules.specs.Groups.{leq, in_both_rows, join, or_zero, groups_of}
use Rattle.rules.proofs.Search.{found}
use Rattle.contraction.specs.Order.{InOrder}

-- no common bit is before the join
lowest : (t : Bytes) (g h j : ℕ) → in_both_rows t g h j ≡ true → join t g h ≤ j
unfolding join
lowest t g h j p = by (first_below (in_both_rows t g h) group_limit) refl
  where
    by : (o : Option ℕ) → first_below (in_both_rows t g h) group_limit ≡ o → or_zero o ≤ j
    by none e = omega arith
    by (some i) e = here (dec_lt j i)
      where
        here : Dec (j < i) → i ≤ j
        here (no l) = omega arith
        here (yes l) = absurd (false≢true (sym ((found (in_both_rows t g h) group_limit 0 i e).least j (omega arith) l) ∙ p))

module _ (t : Bytes) (X : Lattice (groups_of t)) where
  rising : (g h : ℕ) → IsTrue (leq t g h) → g ≤ h
  rising g h p =
      let own = X.self_left g h p in
      let itself : join t g g ≡ g = X.antisym (join t g g) g (X.least g g g own own) (X.upper_left g g own own) in
      omega (arith, itself, lowest t g g h (rw p))

  -- 0 is below a group whose row has a bit; of any other the join is 0
  from_zero : (g : ℕ) → join t 0 g ≤ g
  unfolding join
  from_zero g = by (first_below (in_both_rows t 0 g) group_limit) refl
    where
      by : (o : Option ℕ) → first_below (in_both_rows t 0 g) group_limit ≡ o → or_zero o ≤ g
      by none e = omega arith
      by (some j) e =
          let own = X.self_left g j (and_right (leq t 0 j) (leq t g j) (found (in_both_rows t 0 g) group_limit 0 j e).passes) in
          subst (λ o. or_zero o ≤ g) e (lowest t 0 g g (rw (X.bottom g own, own)))

  pub in_order : InOrder t
  in_order = record { rising = rising; from_zero = from_zero }
