-- A lattice of groups, and the properties over it (manual, 2.2 and 2.5).
use Rattle.std.specs.Prelude.{◌≡◌, Bool, ◌&&◌, ℕ, zero, IsTrue}
use Rattle.calculus.specs.Security.{Security}

-- What a groups table says of numbers. A number outside the table is no group, and ⊑ none.
pub record Groups : Type 0 where
  pub group : ℕ → Bool
  -- g ⊑ h
  pub leq : ℕ → ℕ → Bool
  -- g ⊔ h
  pub join : ℕ → ℕ → ℕ
  -- g ⊓ h
  pub meet : ℕ → ℕ → ℕ

-- What questions 2 to 7 make of a groups table: a lattice with 0 at the bottom, in which a group is what is ⊑ itself.
pub record Lattice (G : Groups) : Type 0 where
  -- ⊑ is an order on groups,
  pub self_left : (g h : ℕ) → IsTrue (G.leq g h) → IsTrue (G.leq g g)
  pub self_right : (g h : ℕ) → IsTrue (G.leq g h) → IsTrue (G.leq h h)
  pub trans : (g h k : ℕ) → IsTrue (G.leq g h) → IsTrue (G.leq h k) → IsTrue (G.leq g k)
  pub antisym : (g h : ℕ) → IsTrue (G.leq g h) → IsTrue (G.leq h g) → g ≡ h
  -- of which the join is the least upper bound
  pub upper_left : (g h : ℕ) → IsTrue (G.leq g g) → IsTrue (G.leq h h) → IsTrue (G.leq g (G.join g h))
  pub upper_right : (g h : ℕ) → IsTrue (G.leq g g) → IsTrue (G.leq h h) → IsTrue (G.leq h (G.join g h))
  pub least : (g h k : ℕ) → IsTrue (G.leq g k) → IsTrue (G.leq h k) → IsTrue (G.leq (G.join g h) k)
  -- and the meet the greatest lower bound,
  pub lower_left : (g h : ℕ) → IsTrue (G.leq g g) → IsTrue (G.leq h h) → IsTrue (G.leq (G.meet g h) g)
  pub lower_right : (g h : ℕ) → IsTrue (G.leq g g) → IsTrue (G.leq h h) → IsTrue (G.leq (G.meet g h) h)
  pub greatest : (g h k : ℕ) → IsTrue (G.leq k g) → IsTrue (G.leq k h) → IsTrue (G.leq k (G.meet g h))
  -- with 0 below every group.
  pub bottom : (g : ℕ) → IsTrue (G.leq g g) → IsTrue (G.leq zero g)
  -- What is ⊑ itself is just the groups of the table.
  pub in_table : (g : ℕ) → IsTrue (G.group g) → IsTrue (G.leq g g)
  pub groups_only : (g h : ℕ) → IsTrue (G.leq g h) → IsTrue (G.group g)

-- Readers and creators: what the calculus does with them. For creators everything is turned round.
abbrev pub properties : Groups → Security
properties G = record {
  -- κ ≤ κ': readers may go up, and creators down.
  le = λ k l. G.leq k.r l.r && (G.leq k.ir l.ir && (G.leq l.c k.c && G.leq l.ic k.ic));
  le_i = λ m n. G.leq m.ir n.ir && G.leq n.ic m.ic;
  -- The common property joins readers and meets creators; the other way round for the highest below both.
  join = λ k l. record { r = G.join k.r l.r; ir = G.join k.ir l.ir; c = G.meet k.c l.c; ic = G.meet k.ic l.ic };
  meet = λ k l. record { r = G.meet k.r l.r; ir = G.meet k.ir l.ir; c = G.join k.c l.c; ic = G.join k.ic l.ic };
  -- what nobody has read yet, made by the node's group
  fresh = λ w. record { r = zero; ir = zero; c = w; ic = w };
  -- Raising joins ir into both readers, and meets ic into both creators.
  raise = λ k m. record { r = G.join k.r m.ir; ir = G.join k.ir m.ir; c = G.meet k.c m.ic; ic = G.meet k.ic m.ic };
  permits = λ k w. G.leq k.r w;
  -- A reading passes on the object's ir, and its ic ⊓ the reader.
  influence = λ k w. record { ir = k.ir; ic = G.meet k.ic w };
  -- a recursion's unrolled calls are made as the group that it carries
  caller = λ k w. w;
  -- The result of a recursion is as secret, and made by nobody better, than such a call makes it.
  absorbs = λ k w l. G.leq k.ir l.ir && G.leq l.c (G.meet k.ic w);
  -- ir ⊑ r and ic ⊑ c
  secure = λ k. G.leq k.ir k.r && G.leq k.ic k.c;
  secure_i = λ m. G.group m.ir && G.group m.ic;
}
