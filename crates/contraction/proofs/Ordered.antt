-- Over the rows up to group n of a table that stands in order, joins of groups up to n are those over the whole table,
-- and so is a meet with one of them: nothing past it is below it.
use Rattle.std.proofs.Common.{◌≡◌, refl, ap, ap₂, ◌∙◌, Bool, true, false, ◌&&◌, ℕ, zero, suc, ◌+◌, ◌*◌, ◌≤◌, ◌<◌, min}
use Rattle.std.proofs.Common.{max, arith, length-take, get_or-take}
use Rattle.std.proofs.Math.Decide.{dec_lt}
use Rattle.std.proofs.Math.ListN.{get_or-eq_default}
use Rattle.calculus.specs.Security.{Property, Reader, Indirect, Security}
use Rattle.calculus.specs.Numbers.{of_both}
use Rattle.calculus.proofs.Booleans.{and_left, and_right}
use Rattle.rules.specs.Answer.{Bytes, byte, first_below, last_below}
use Rattle.rules.specs.Limits.{row_width, group_limit}
use Rattle.rules.specs.Groups.{row, bit, leq, join, below_both, meet, or_zero, properties_of}
use Rattle.lattice.proofs.Words.{bit_of_zero}
use Rattle.contraction.specs.Order.{InOrder, up_to}
use Rattle.std.proofs.lemmas.Grind.{common_steps}

-- the last number that passes, where none past b does
at_most : (test : ℕ → Bool) (n b : ℕ) → ((k : ℕ) → test k ≡ true → k ≤ b) → or_zero (last_below test n) ≤ b
unfolding last_below
at_most test zero b h = omega arith
at_most test (suc n) b h = by (test n) refl (at_most test n b h)
  where
    by : (x : Bool) → test n ≡ x → or_zero (last_below test n) ≤ b → or_zero (last_below test (suc n)) ≤ b
    by true e l = rw (e, last_below) (h n e)
    by false e l = rw (e, last_below) l

module _ {t : Bytes} (o : InOrder t) where
  both_below : (g h k : ℕ) → below_both t g h k ≡ true → k ≤ min g h
  both_below g h k e = omega (arith, o.rising k g (and_left _ _ e), o.rising k h (and_right (leq t k g) _ e))

  meet_low : (g h : ℕ) → meet t g h ≤ min g h
  unfolding meet
  meet_low g h = at_most (below_both t g h) group_limit (min g h) (both_below g h)

  module _ (n : ℕ) where
    abbrev cut : Bytes
    cut = up_to t n

    row_kept : (k : ℕ) → k ≤ n → row cut k ≡ row t k
    row_kept k l = grind (arith, common_steps)

    row_past : (k : ℕ) → n < k → row cut k ≡ 0
    row_past k l = grind (arith, common_steps)

    join_kept : (g h : ℕ) → g ≤ n → h ≤ n → join cut g h ≡ join t g h
    unfolding join
    join_kept g h a b =
        ap₂ (λ (x y : ℕ). or_zero (first_below (λ k. bit x k && bit y k) group_limit)) (row_kept g a) (row_kept h b)

    none_past : (g h k : ℕ) → min g h ≤ n → n < k → below_both t g h k ≡ false
    none_past g h k l m = grind arith

    below_kept : (g h : ℕ) → min g h ≤ n → (k : ℕ) → below_both cut g h k ≡ below_both t g h k
    below_kept g h l k = grind (arith, dec_lt, row_past, bit_of_zero, none_past, row_kept)

    meet_kept : (g h : ℕ) → min g h ≤ n → meet cut g h ≡ meet t g h
    unfolding meet
    meet_kept g h l = ap (λ (test : ℕ → Bool). or_zero (last_below test group_limit)) (λ j k. below_kept g h l k j)

    abbrev S : Security
    S = properties_of t

    pub influence_kept : (k : Property) (w : Reader) → min k.ic w ≤ n → (properties_of cut).influence k w ≡ S.influence k w
    influence_kept k w l = λ j. record { ir = k.ir; ic = meet_kept k.ic w l j }

    pub raise_kept : (k : Property) (m : Indirect) → max (max k.r k.ir) m.ir ≤ n → min m.ic (max k.c k.ic) ≤ n → (properties_of cut).raise k m ≡ S.raise k m
    raise_kept k m j l = grind (arith, join_kept, meet_kept)

    pub both_kept : (w : Reader) (k l : Property) → max k.ir l.ir ≤ n → min w (max k.ic l.ic) ≤ n → of_both (properties_of cut) w k l ≡ of_both S w k l
    both_kept w k l j m =
        let x = S.influence k w in
        let y = S.influence l w in
        ap₂ (λ x y. (properties_of cut).raise ((properties_of cut).raise (S.fresh w) x) y) (influence_kept k w (omega arith)) (influence_kept l w (omega arith))
        ∙ ap (λ p. (properties_of cut).raise p y) (raise_kept (S.fresh w) x (omega arith) (omega (arith, meet_low k.ic w)))
        ∙ raise_kept (S.raise (S.fresh w) x) y (omega (arith, o.from_zero k.ir)) (omega (arith, meet_low l.ic w))
