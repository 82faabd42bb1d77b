-- Who looks, over groups: who reads as a group, and who trusts a group.
use Rattle.std.specs.Prelude.{◌≡◌, false, not, ℕ, zero}
use Rattle.calculus.specs.Groups.{Groups, Lattice, properties}
use Rattle.calculus.specs.Security.{Security}
use Rattle.calculus.specs.Terms.{Term}
use Rattle.noninterference.specs.Hidden.{Observer, Alike, Clear, Observes}

-- Secrecy: from who reads as g hidden is what has ir ⋢ g. He doesn't heed creators, the groups that readings are made
-- as, nor numbers that no run reads.
abbrev pub reader_at : Groups → ℕ → Observer
reader_at G g = record {
  hidden = λ k. not (G.leq k.ir g);
  hiding = λ m. not (G.leq m.ir g);
  foreign = λ w. false;
  object = λ k. record { r = k.r; ir = k.ir; c = zero; ic = zero };
  influence = λ m. record { ir = m.ir; ic = zero };
  reader = λ w. zero;
  number = λ i. zero;
}

-- Integrity: who trusts h, and the groups above it, doesn't heed what has h ⋢ ic, nor what was read as a group w with h
-- ⋢ w, nor who may read.
abbrev pub who_trusts : Groups → ℕ → Observer
who_trusts G h = record {
  hidden = λ k. not (G.leq h k.ic);
  hiding = λ m. not (G.leq h m.ic);
  foreign = λ w. not (G.leq h w);
  object = λ k. record { r = zero; ir = zero; c = k.c; ic = k.ic };
  influence = λ m. record { ir = zero; ic = m.ic };
  reader = λ w. w;
  number = λ i. zero;
}

-- The same is hidden, and of all else he keeps every label and number.
abbrev pub exact : Observer → Observer
exact O = record O { object = λ k. k; influence = λ m. m; reader = λ w. w; number = λ i. i }

-- who reads as a group is an observer over any lattice
unfoldable pub ReadersObserve : Type 0
ReadersObserve = (G : Groups) (g : ℕ) → Lattice G → Observes (properties G) (reader_at G g)

-- who trusts a group is an observer over any lattice
unfoldable pub WhoTrustsObserves : Type 0
WhoTrustsObserves = (G : Groups) (h : ℕ) → Lattice G → Observes (properties G) (who_trusts G h)

-- an observer who keeps every label too is one
unfoldable pub ExactObserves : Type 0
ExactObserves = (S : Security) (O : Observer) → Observes S O → Observes S (exact O)

-- What is like a clear term in every label is that term.
unfoldable pub ClearIsOne : Type 0
ClearIsOne = (O : Observer) (e e' : Term) → Alike (exact O) e e' → Clear (exact O) e → e ≡ e'
