-- Rules that know readers alone, and terms whose creators are all group 0: what rewriting compares (manual, 7.12).
use Rattle.std.specs.Prelude.{◌&&◌, ℕ, zero}
use Rattle.calculus.specs.Security.{Property, Reader, Indirect, Security}
use Rattle.calculus.specs.Groups.{Groups}
use Rattle.calculus.specs.Types.{Ty, top}
use Rattle.calculus.specs.Relabelling.{Labels}

-- the same readers, and group 0 as creators
abbrev pub without_creators : Property → Property
without_creators k = record { r = k.r; ir = k.ir; c = zero; ic = zero }

-- a protect's label with the same ir, and group 0 as ic
abbrev pub without_creators_i : Indirect → Indirect
without_creators_i m = record { ir = m.ir; ic = zero }

-- The rules of earlier forms: creators are neither read nor kept.
abbrev pub readers : Groups → Security
readers G = record {
  le = λ k l. G.leq k.r l.r && G.leq k.ir l.ir;
  le_i = λ m n. G.leq m.ir n.ir;
  join = λ k l. record { r = G.join k.r l.r; ir = G.join k.ir l.ir; c = zero; ic = zero };
  meet = λ k l. record { r = G.meet k.r l.r; ir = G.meet k.ir l.ir; c = zero; ic = zero };
  fresh = λ w. record { r = zero; ir = zero; c = zero; ic = zero };
  raise = λ k m. record { r = G.join k.r m.ir; ir = G.join k.ir m.ir; c = zero; ic = zero };
  permits = λ k w. G.leq k.r w;
  influence = λ k w. record { ir = k.ir; ic = zero };
  caller = λ k w. w;
  absorbs = λ k w l. G.leq k.ir l.ir;
  secure = λ k. G.leq k.ir k.r;
  secure_i = λ m. G.group m.ir;
}

-- Rewriting a term: c and ic as group 0, and in every recursion the group that its call is made as.
abbrev pub rewriting_labels : (Property → Reader → Reader) → (ℕ → Ty) → Labels
rewriting_labels caller tab =
    record { property = without_creators; reader = λ w. w; indirect = without_creators_i; recursion = λ i w. caller (top (tab i)) w }
