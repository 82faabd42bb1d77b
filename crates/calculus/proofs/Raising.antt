-- Raising on types: it keeps order, security and size, and two raisings commute.
use Rattle.std.proofs.Common.{◌≡◌, IsTrue, arith}
use Rattle.calculus.specs.Security.{Indirect, Security, Laws}
use Rattle.calculus.specs.Types.{Ty, raise_t, secure_t, size_t, fits}
use Rattle.calculus.specs.Subtyping.{Subtype, below}
use Rattle.calculus.proofs.Directed.{Directed, d_leaf, d_node, directed_subtype, subtype_directed}

module _ {S : Security} (L : Laws S) where
  pub raise_directed : {s t : Ty} (m n : Indirect) → Directed S below s t → IsTrue (S.le_i m n) → Directed S below (raise_t S s m) (raise_t S t n)
  raise_directed m n (d_leaf {k = k} {l = l} h) g = d_leaf (L.raise_mono k l m n h g)
  raise_directed m n (d_node {k = k} {l = l} h p q) g = d_node (L.raise_mono k l m n h g) p q

  pub raise_commutes : (s : Ty) (m n : Indirect) → IsTrue (secure_t S s) → IsTrue (S.secure_i m) → IsTrue (S.secure_i n)
      → raise_t S (raise_t S s m) n ≡ raise_t S (raise_t S s n) m
  unfolding secure_t
  raise_commutes s m n h x y = grind arith

  pub raise_secure : (s : Ty) (m : Indirect) → IsTrue (secure_t S s) → IsTrue (S.secure_i m) → IsTrue (secure_t S (raise_t S s m))
  unfolding secure_t
  raise_secure s m h g = grind arith

pub raise_size : (S : Security) (s : Ty) (m : Indirect) → size_t (raise_t S s m) ≡ size_t s
unfolding size_t
raise_size S s m = grind arith

pub raise_fits : (S : Security) (s : Ty) (m : Indirect) → IsTrue (fits s) → IsTrue (fits (raise_t S s m))
raise_fits S s m h = rw (raise_size S s m) h
