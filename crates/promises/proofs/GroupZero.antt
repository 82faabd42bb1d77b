-- Group 0 of a table that passes: its join with itself and its meet with anything, a group or not, are itself.
use Rattle.std.proofs.Common.{◌≡◌, refl, sym, ap, ◌∙◌, Bool, true, false, ℕ, zero, suc, lt-ltb, IsTrue}
use Rattle.std.proofs.Math.Option.{none, some, Option}
use Rattle.calculus.specs.Groups.{Lattice}
use Rattle.calculus.proofs.Booleans.{and_left, and_right}
use Rattle.calculus.proofs.Creators.{Least}
use Rattle.rules.specs.Answer.{Bytes, Octets, accepted, last_below}
use Rattle.rules.specs.Limits.{group_limit}
use Rattle.rules.specs.Groups.{rows, leq, join, below_both, meet, or_zero, groups_of}
use Rattle.rules.specs.Calls.{groups_check}
use Rattle.rules.proofs.Search.{some_inj, none≢some}
use Rattle.promises.proofs.Groups.{lattice, some_rows}

last_passes : (test : ℕ → Bool) (n j : ℕ) → last_below test n ≡ some j → test j ≡ true
unfolding last_below
last_passes test zero j e = absurd (none≢some e)
last_passes test (suc n) j e = here (test n) refl (λ h. last_passes test n j h)
  where
    here : (b : Bool) → test n ≡ b → (last_below test n ≡ some j → test j ≡ true) → test j ≡ true
    here true p ih = ap test (sym (some_inj (rw (p, last_below) at e))) ∙ p
    here false p ih = ih (rw (p, last_below) at e)

module _ (g : Bytes) (octets : Octets g) (passed : groups_check g ≡ accepted tt) where
  abbrev X : Lattice (groups_of g)
  X = lattice g octets passed

  -- what is ⊑ 0 is 0
  only_zero : (h : ℕ) → IsTrue (leq g h 0) → h ≡ 0
  only_zero h p = X.antisym h 0 p (X.bottom h (X.self_left h 0 p))

  meet_zero : (h : ℕ) → meet g 0 h ≡ 0
  unfolding meet
  meet_zero h = go (last_below (below_both g 0 h) group_limit) refl
    where
      go : (o : Option ℕ) → last_below (below_both g 0 h) group_limit ≡ o → or_zero o ≡ 0
      go none e = refl
      go (some k) e = only_zero k (and_left (leq g k 0) (leq g k h) (last_passes (below_both g 0 h) group_limit k e))

  meet_with : (h : ℕ) → meet g h 0 ≡ 0
  unfolding meet
  meet_with h = go (last_below (below_both g h 0) group_limit) refl
    where
      go : (o : Option ℕ) → last_below (below_both g h 0) group_limit ≡ o → or_zero o ≡ 0
      go none e = refl
      go (some k) e = only_zero k (and_right (leq g k h) (leq g k 0) (last_passes (below_both g h 0) group_limit k e))

  pub group_zero : Least (groups_of g)
  group_zero =
      let own = X.in_table 0 (lt-ltb 0 (rows g) (some_rows g octets passed)) in
      record { leq = own; join = only_zero (join g 0 0) (X.least 0 0 0 own own); meet = meet_zero; meet_with = meet_with }
