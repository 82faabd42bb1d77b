-- What a list that starts with a type has at its front.
use Rattle.std.proofs.Common.{◌≡◌, ◌++◌, ℕ, ◌+◌, ◌-◌, ◌*◌, ◌≤◌, arith, length, take, drop, length-append, length-drop}
use Rattle.std.proofs.Common.{length-take-le, take_at}
use Rattle.calculus.specs.Security.{Indirect, Security}
use Rattle.calculus.specs.Types.{Ty, size_t, raise_t}
use Rattle.calculus.specs.Terms.{Side}
use Rattle.rules.specs.Limits.{type_width}
use Rattle.rules.specs.Answer.{Bytes}
use Rattle.rules.specs.Types.{sides, encode_type}
use Rattle.rules.specs.Typing.{left, right}
use Rattle.types.specs.Held.{Held, kind_of_type, left_of, right_of}
use Rattle.types.proofs.Parts.{type_length, type_positive, left_held, right_held, sides_size}
use Rattle.inference.specs.Stages.{type_side}

-- the sides in the rules' words
pub left_is : (t : Ty) → sides (kind_of_type t) ≡ 2 → left t ≡ left_of t
left_is t n = grind arith

pub right_is : (t : Ty) → sides (kind_of_type t) ≡ 2 → right t ≡ right_of t
right_is t n = grind arith

pub rule_sides_size : (t : Ty) → sides (kind_of_type t) ≡ 2 → size_t t ≡ 1 + (size_t (left t) + size_t (right t))
rule_sides_size t n = rw (left_is t n, right_is t n) (sides_size t n)

module _ {l : Bytes} {t : Ty} (h : Held l t) where
  pub held_long : type_width * size_t t ≤ length l
  held_long = grind (arith, length-append, type_length, h.is)

  pub held_take : take (type_width * size_t t) l ≡ encode_type t
  held_take = rw h.is (take_at (encode_type t) h.rest _ (type_length t))

  -- as the code takes it, with the count of its records
  pub held_bytes : (n : ℕ) → n ≡ size_t t → take (type_width * n) l ≡ encode_type t
  held_bytes n e = rw e held_take

  pub taken_length : (n : ℕ) → n ≡ size_t t → length (take (type_width * n) l) ≡ type_width * n
  taken_length n e = length-take-le (type_width * n) l (omega (arith, held_long))

-- a part that starts with a type
pub held_within : {t : Ty} (a : ℕ) (l : Bytes) → Held (drop a l) t → a + type_width * size_t t ≤ length l
held_within {t} a l h = omega (arith, held_long h, length-drop a l, type_positive t)

-- the sides, where they start
module _ {l : Bytes} (t : Ty) (n : sides (kind_of_type t) ≡ 2) (h : Held l t) where
  pub held_left : Held (drop type_width l) (left t)
  held_left = rw (left_is t n) (left_held t n h)

  pub held_right : (m : ℕ) → m ≡ size_t (left_of t) → Held (drop (type_width + type_width * m) l) (right t)
  held_right m e = rw (right_is t n) (right_held t m n e h)

pub side_small : (d : Side) (t : Ty) → sides (kind_of_type t) ≡ 2 → size_t (type_side d t) ≤ size_t t
side_small d t n = grind (arith, rule_sides_size)

-- the sides' bytes
pub sides_bytes : (w : Bytes) (t : Ty) → Held w t → sides (kind_of_type t) ≡ 2 → take (type_width * (size_t t - 1)) (drop type_width w) ≡ encode_type (left t) ++ encode_type (right t)
unfolding encode_type size_t
sides_bytes w t h n = grind (arith, take_at, encode_type, length-append, type_length)

-- a raised type has as many records
pub size_raised : (S : Security) (t : Ty) (m : Indirect) → size_t (raise_t S t m) ≡ size_t t
unfolding size_t
size_raised S t m = grind arith
