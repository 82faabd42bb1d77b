-- A type that stands at a record of a buffer: its kind and its property, its first record written over, and where its
-- sides stand.
use Rattle.std.proofs.Common.{◌≡◌, ℕ, zero, suc, ◌+◌, ◌*◌, ◌≤◌, ◌<◌, [], ◌∷◌, ◌++◌, length, take, drop, set, refl, ap}
use Rattle.std.proofs.Common.{ap₂, sym, ◌∙◌, arith, length-drop, get_or-drop, drop-drop}
use Rattle.calculus.specs.Security.{Property, Security}
use Rattle.calculus.specs.Subtyping.{Direction}
use Rattle.calculus.specs.Common.{nearest_property}
use Rattle.calculus.specs.Types.{Ty, top, size_t}
use Rattle.rules.specs.Answer.{Bytes, byte}
use Rattle.rules.specs.Limits.{type_width}
use Rattle.rules.specs.Types.{type_count, sides, type_record, encode_type}
use Rattle.memory.specs.Splice.{splice}
use Rattle.types.specs.Held.{Held, kind_of_type, left_of, right_of, type_property, with_property}
use Rattle.common_types.specs.Walks.{TypeAt, TwoTypes, common_record}
use Rattle.types.proofs.Parts.{held_length, type_positive, property_is, left_held, right_held}

-- four stores past the front
shifted : (n : ℕ) (w : Bytes) (k : Property) → n ≤ length w
    → set (set (set (set w (suc n) k.r) (suc (suc n)) k.ir) (suc (suc (suc (suc n)))) k.c) (suc (suc (suc (suc (suc n))))) k.ic
    ≡ take n w ++ with_property (drop n w) 0 k
shifted zero w k l = refl
shifted (suc n) [] k l = absurd (omega arith)
shifted (suc n) (x ∷ w) k l = ap (λ (b : Bytes). x ∷ b) (shifted n w k (omega arith))

-- the first record with another property
over : {s : Bytes} (t : Ty) (k : Property) → Held s t → with_property s 0 k ≡ type_record (kind_of_type t) k ++ drop type_width s
unfolding encode_type
over t k h = grind arith

-- a type stands where the same bytes stand
pub at_same : {w w' : Bytes} {i : ℕ} {t : Ty} → drop (type_width * i) w' ≡ drop (type_width * i) w → TypeAt w i t → TypeAt w' i t
at_same e h = record { held = record { rest = h.held.rest; is = e ∙ h.held.is } }

module _ {w : Bytes} {i : ℕ} {t : Ty} (h : TypeAt w i t) where
  pub room : type_width * i + type_width * size_t t ≤ length w
  room = omega (arith, held_length h.held, length-drop (type_width * i) w, type_positive t)

  pub in_range : i < type_count w
  in_range = omega (arith, room, type_positive t)

  pub property_here : type_property w i ≡ top t
  property_here =
      let there : (j : ℕ) → byte w (type_width * i + j) ≡ byte (drop (type_width * i) w) j = λ j. sym (get_or-drop (type_width * i) w j 0) in
      (λ j. record { r = there 1 j; ir = there 2 j; c = there 4 j; ic = there 5 j }) ∙ property_is t h.held

  -- its first record with another property
  pub record_over : (k : Property) → with_property w i k ≡ splice (type_width * i) (type_record (kind_of_type t) k) w
  record_over k =
      let n = type_width * i in
      let a : n + 1 ≡ suc n = omega arith in
      let b : n + 2 ≡ suc (suc n) = omega arith in
      let c : n + 4 ≡ suc (suc (suc (suc n))) = omega arith in
      let d : n + 5 ≡ suc (suc (suc (suc (suc n)))) = omega arith in
      rw (a, b, c, d) (shifted n w k (omega (arith, room)))
      ∙ ap (λ (b : Bytes). take n w ++ b) (over t k h.held ∙ ap (λ (b : Bytes). type_record (kind_of_type t) k ++ b) (drop-drop type_width n w))

  module _ (two : sides (kind_of_type t) ≡ 2) where
    pub left_at : TypeAt w (i + 1) (left_of t)
    left_at =
        let e : type_width * (i + 1) ≡ type_width * i + type_width = omega arith in
        record { held = rw (e, ← drop-drop type_width (type_width * i) w) (left_held t two h.held) }

    pub right_at : (n : ℕ) → n ≡ size_t (left_of t) → TypeAt w (i + 1 + n) (right_of t)
    right_at n c =
        let e : type_width * (i + 1 + n) ≡ type_width * i + (type_width + type_width * n) = omega arith in
        record { held = rw (e, ← drop-drop (type_width + type_width * n) (type_width * i) w) (right_held t n two c h.held) }

-- two types' first records: the common one, stored over the first
pub record_wrote : (S : Security) (d : Direction) {w : Bytes} {at other : ℕ} (p : TwoTypes w at other) {k l m : Property}
    → m ≡ nearest_property S d k l → k ≡ type_property w at → l ≡ type_property w other
    → with_property w at m ≡ splice (type_width * at) (common_record S d p) w
record_wrote S d {w} {at = at} p e f g =
    ap (with_property w at) (e ∙ ap₂ (nearest_property S d) (f ∙ property_here p.first_at) (g ∙ property_here p.second_at))
    ∙ record_over p.first_at _
