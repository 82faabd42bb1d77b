-- What stands at the front of a slice that starts with a type, and where its sides start.
use Rattle.std.proofs.Common.{◌≡◌, refl, ap, sym, ◌∙◌, ◌++◌, append_assoc, ℕ, ◌+◌, ◌*◌, ◌-◌, ◌≤◌, ◌<◌, arith, length}
use Rattle.std.proofs.Common.{take, drop, length-append, length-drop, length-set, take_all, drop_at, drop-drop}
use Rattle.calculus.specs.Security.{Property, Indirect, Security}
use Rattle.calculus.specs.Types.{Leaf, one, number, Ty, leaf, node, top, raise_t, size_t}
use Rattle.rules.specs.Answer.{Bytes, byte}
use Rattle.rules.specs.Limits.{type_width}
use Rattle.rules.specs.Types.{sides, leaf_kind, encode_type}
use Rattle.rules.proofs.PrefixLaws.{encode_length, size_positive, unique}
use Rattle.rules.proofs.TypeCode.{type_code, type_prefix}
use Rattle.types.specs.Held.{Held, Starts, TwoSided, LeftSize, kind_of_type, left_of, right_of, type_property}
use Rattle.types.specs.Held.{with_property}

-- the part of a list from `a` to its end, as the code takes it
pub to_end : (a : ℕ) (s : Bytes) → take (length s - a) (drop a s) ≡ drop a s
to_end a s = take_all (length s - a) (drop a s) (simp length-drop (omega arith))

pub type_length : (t : Ty) → length (encode_type t) ≡ type_width * size_t t
type_length t = encode_length type_code t

pub type_positive : (t : Ty) → 1 ≤ size_t t
type_positive t = size_positive type_code t

abbrev pub starts_of : {s : Bytes} {t : Ty} → Held s t → Starts s
starts_of {s} {t} h = record { type = t; held = h }

-- a type without sides has not two
pub sideless : (b : Leaf) → sides (leaf_kind b) ≡ 2 → ⊥
sideless one h = omega arith
sideless number h = omega arith

-- a type's own record and its sides
pub sides_size : (t : Ty) → sides (kind_of_type t) ≡ 2 → size_t t ≡ 1 + (size_t (left_of t) + size_t (right_of t))
unfolding size_t
sides_size (leaf b k) two = absurd (sideless b two)
sides_size (node f k a b) two = refl

module _ {s : Bytes} where
  pub held_length : {t : Ty} (h : Held s t) → length s ≡ type_width * size_t t + length h.rest
  held_length {t} h = ap length h.is ∙ length-append (encode_type t) h.rest ∙ omega (arith, type_length t)

  pub long : {t : Ty} → Held s t → type_width ≤ length s
  long {t} h = omega (arith, held_length h, type_positive t)

  pub starts_long : Starts s → type_width ≤ length s
  starts_long w = long w.held

  pub kind_is : (t : Ty) → Held s t → byte s 0 ≡ kind_of_type t
  unfolding encode_type
  kind_is (leaf b k) h = ap (λ l. byte l 0) h.is
  kind_is (node f k a b) h = ap (λ l. byte l 0) h.is

  pub reader_is : (t : Ty) → Held s t → byte s 1 ≡ (top t).r
  unfolding encode_type
  reader_is (leaf b k) h = ap (λ l. byte l 1) h.is
  reader_is (node f k a b) h = ap (λ l. byte l 1) h.is

  pub property_is : (t : Ty) → Held s t → type_property s 0 ≡ top t
  unfolding encode_type
  property_is (leaf b k) h = ap (λ (l : Bytes). type_property l 0) h.is
  property_is (node f k a b) h = ap (λ (l : Bytes). type_property l 0) h.is

  pub left_held : (t : Ty) → sides (kind_of_type t) ≡ 2 → Held s t → Held (drop type_width s) (left_of t)
  unfolding encode_type
  left_held (leaf b k) two h = absurd (sideless b two)
  left_held (node f k a b) two h =
      record { rest = encode_type b ++ h.rest; is = ap (drop type_width) h.is ∙ append_assoc (encode_type a) (encode_type b) h.rest }

  pub right_held : (t : Ty) (n : ℕ) → sides (kind_of_type t) ≡ 2 → n ≡ size_t (left_of t) → Held s t → Held (drop (type_width + type_width * n) s) (right_of t)
  unfolding encode_type
  right_held (leaf b k) n two e h = absurd (sideless b two)
  right_held (node f k a b) n two e h =
      record {
        rest = h.rest;
        is = sym (drop-drop (type_width * n) type_width s) ∙ ap (drop (type_width * n)) (ap (drop type_width) h.is ∙ append_assoc (encode_type a) (encode_type b) h.rest)
            ∙ drop_at (encode_type a) (encode_type b ++ h.rest) (type_width * n) (omega (arith, type_length a));
      }

  pub right_fits : (t : Ty) (n : ℕ) → sides (kind_of_type t) ≡ 2 → n ≡ size_t (left_of t) → Held s t → 2 * type_width + type_width * n ≤ length s
  unfolding size_t
  right_fits (leaf b k) n two e h = absurd (sideless b two)
  right_fits (node f k a b) n two e h = omega (arith, held_length h, type_positive b)

  -- a slice starts with one type only
  pub same_type : {t u : Ty} → Held s t → Held s u → t ≡ u
  same_type {t} {u} h i = (unique type_prefix t u h.rest i.rest (sym h.is ∙ i.is)).0

  pub two_of : (w : TwoSided s) (t : Ty) → Held s t → sides (kind_of_type t) ≡ 2
  two_of w t h = ap (λ u. sides (kind_of_type u)) (sym (same_type w.held h)) ∙ w.two

  pub sided_left : TwoSided s → (t : Ty) → Held s t → Held (drop type_width s) (left_of t)
  sided_left w t h = left_held t (two_of w t h) h

  pub counted_right : {n : ℕ} → LeftSize s n → (t : Ty) → Held s t → Held (drop (type_width + type_width * n) s) (right_of t)
  counted_right {n} w t h =
      right_held t n (ap (λ u. sides (kind_of_type u)) (sym (same_type w.held h)) ∙ w.two) (w.count ∙ ap (λ u. size_t (left_of u)) (same_type w.held h)) h

  pub counted_fits : {n : ℕ} → LeftSize s n → 2 * type_width + type_width * n ≤ length s
  counted_fits {n} w = right_fits w.type n w.two w.count w.held

  -- the first record with another property
  pub raised : (S : Security) (t : Ty) (m : Indirect) (h : Held s t)
      → with_property s 0 (S.raise (top t) m) ≡ encode_type (raise_t S t m) ++ h.rest
  unfolding encode_type
  raised S (leaf b k) m h = ap (λ (l : Bytes). with_property l 0 (S.raise k m)) h.is
  raised S (node f k a b) m h = ap (λ (l : Bytes). with_property l 0 (S.raise k m)) h.is

-- four stores keep the length
pub with_property_length : (t : Bytes) (i : ℕ) (k : Property) → length (with_property t i k) ≡ length t
with_property_length t i k = simp length-set
