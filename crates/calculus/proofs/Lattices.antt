-- Joins and meets in a lattice of groups.
use Rattle.std.proofs.Common.{◌≡◌, ℕ, IsTrue}
use Rattle.calculus.specs.Groups.{Groups, Lattice}

module _ {G : Groups} (X : Lattice G) where
  pub join_mono : (g h m n : ℕ) → IsTrue (G.leq g h) → IsTrue (G.leq m n) → IsTrue (G.leq (G.join g m) (G.join h n))
  join_mono g h m n p q =
      let h' = X.self_right g h p in
      let n' = X.self_right m n q in
      X.least g m _ (X.trans g h _ p (X.upper_left h n h' n')) (X.trans m n _ q (X.upper_right h n h' n'))

  -- (g ⊔ m) ⊔ n ⊑ (g ⊔ n) ⊔ m
  join_swap : (g m n : ℕ) → IsTrue (G.leq g g) → IsTrue (G.leq m m) → IsTrue (G.leq n n) → IsTrue (G.leq (G.join (G.join g m) n) (G.join (G.join g n) m))
  join_swap g m n p q s =
      let gn = X.upper_left g n p s in
      let gn' = X.self_right _ _ gn in
      let a = X.upper_left (G.join g n) m gn' q in
      X.least _ n _ (X.least g m _ (X.trans g _ _ gn a) (X.upper_right (G.join g n) m gn' q)) (X.trans n _ _ (X.upper_right g n p s) a)

  pub join_comm : (g m n : ℕ) → IsTrue (G.leq g g) → IsTrue (G.leq m m) → IsTrue (G.leq n n) → G.join (G.join g m) n ≡ G.join (G.join g n) m
  join_comm g m n p q s = X.antisym _ _ (join_swap g m n p q s) (join_swap g n m p s q)

  pub meet_mono : (g h m n : ℕ) → IsTrue (G.leq g h) → IsTrue (G.leq m n) → IsTrue (G.leq (G.meet g m) (G.meet h n))
  meet_mono g h m n p q =
      let g' = X.self_left g h p in
      let m' = X.self_left m n q in
      X.greatest h n _ (X.trans _ g h (X.lower_left g m g' m') p) (X.trans _ m n (X.lower_right g m g' m') q)

  -- (g ⊓ m) ⊓ n ⊑ (g ⊓ n) ⊓ m
  meet_swap : (g m n : ℕ) → IsTrue (G.leq g g) → IsTrue (G.leq m m) → IsTrue (G.leq n n) → IsTrue (G.leq (G.meet (G.meet g m) n) (G.meet (G.meet g n) m))
  meet_swap g m n p q s =
      let gm = X.lower_left g m p q in
      let gm' = X.self_left _ _ gm in
      let a = X.lower_left (G.meet g m) n gm' s in
      X.greatest _ m _ (X.greatest g n _ (X.trans _ _ g a gm) (X.lower_right (G.meet g m) n gm' s)) (X.trans _ _ m a (X.lower_right g m p q))

  pub meet_comm : (g m n : ℕ) → IsTrue (G.leq g g) → IsTrue (G.leq m m) → IsTrue (G.leq n n) → G.meet (G.meet g m) n ≡ G.meet (G.meet g n) m
  meet_comm g m n p q s = X.antisym _ _ (meet_swap g m n p q s) (meet_swap g n m p s q)
