-- The highest group below two, by a search down the rows.
use Rattle.std.proofs.Common.{◌≡◌, ap, sym, ◌∙◌, Bool, true, false, ◌&&◌, ℕ, zero, suc, ◌-◌, ◌≤◌, ◌<◌, arith}
use Rattle.std.proofs.Math.Decide.{ℕ_discrete}
use Rattle.std.proofs.Math.Option.{some}
use Rattle.rules.specs.Answer.{Bytes, last_below}
use Rattle.rules.specs.Limits.{group_limit}
use Rattle.rules.specs.Groups.{row, bit, below_both, meet, or_zero}
use Rattle.lattice.proofs.Words.{bit_of_zero}

-- numbers that fail are left out of the search
last_lower : (test : ℕ → Bool) (n m : ℕ) → m ≤ n → ((k : ℕ) → m ≤ k → k < n → test k ≡ false) → last_below test n ≡ last_below test m
unfolding last_below
last_lower test zero m l h = let z : 0 ≡ m = omega arith in ap (last_below test) z
last_lower test (suc n) m l h =
    elim (ℕ_discrete m (suc n)) [
      | yes e ↦ ap (last_below test) (sym e)
      | no d ↦ rw (h n (omega arith) (omega arith), last_below) (last_lower test n m (omega arith) (λ k a b. h k a (omega arith)))
    ]

-- the highest number passes
last_here : (test : ℕ → Bool) (n k : ℕ) → n ≡ suc k → test k ≡ true → last_below test n ≡ some k
unfolding last_below
last_here test n k e h = rw (e, h, last_below)

-- A search for the meet of g and h that has come down to k: the rows from k on are not below both.
module _ (t : Bytes) (g h : ℕ) where
  abbrev pub Searched : ℕ → Type 0
  Searched k = last_below (below_both t g h) group_limit ≡ last_below (below_both t g h) k

  pub past_table : (k : ℕ) → k ≤ group_limit → ((j : ℕ) → k ≤ j → j < group_limit → 0 ≡ row t j) → Searched k
  past_table k l p =
      last_lower (below_both t g h) group_limit k l
      (λ j a b. rw (← p j a b) (ap (λ x. x && bit 0 h) (bit_of_zero g)))

  pub searched_more : (k : ℕ) → 0 < k → Searched k → below_both t g h (k - 1) ≡ false → Searched (k - 1)
  searched_more k l s f =
      s ∙ last_lower (below_both t g h) k (k - 1) (omega arith)
      (λ j a b. let e : j ≡ k - 1 = omega arith in ap (below_both t g h) e ∙ f)

  pub meet_found : (k : ℕ) → 0 < k → Searched k → below_both t g h (k - 1) ≡ true → k - 1 ≡ meet t g h
  unfolding meet
  meet_found k l s f = sym (ap or_zero (s ∙ last_here (below_both t g h) k (k - 1) (omega arith) f))

  pub meet_none : (k : ℕ) → k ≡ 0 → Searched k → 0 ≡ meet t g h
  unfolding meet last_below
  meet_none k z s = sym (ap or_zero (s ∙ ap (last_below (below_both t g h)) z))
