-- A slice that starts with an encoded type, and the parts of a type.
use Rattle.std.specs.Prelude.{◌≡◌, ◌++◌, ℕ, ◌+◌, ◌*◌, set}
use Rattle.calculus.specs.Security.{Property}
use Rattle.calculus.specs.Types.{Ty, leaf, node, size_t}
use Rattle.rules.specs.Answer.{Bytes}
use Rattle.rules.specs.Limits.{type_width}
use Rattle.rules.specs.Types.{type_r, type_ir, type_c, type_ic, sides, leaf_kind, former_kind, encode_type}

-- s starts with the records of t
pub record Held (s : Bytes) (t : Ty) : Type 0 where
  pub rest : Bytes
  pub is : s ≡ encode_type t ++ rest

-- s starts with the records of a type
pub record Starts (s : Bytes) : Type 0 where
  pub type : Ty
  pub held : Held s type

-- the kind of a type's first record
abbrev pub kind_of_type : Ty → ℕ
kind_of_type (leaf b k) = leaf_kind b
kind_of_type (node f k s t) = former_kind f

-- the left side; a type without sides stands for it
abbrev pub left_of : Ty → Ty
left_of (leaf b k) = leaf b k
left_of (node f k s t) = s

-- the right side; a type without sides stands for it
abbrev pub right_of : Ty → Ty
right_of (leaf b k) = leaf b k
right_of (node f k s t) = t

-- s starts with a type that has two sides
pub record TwoSided (s : Bytes) : Type 0 where
  pub type : Ty
  pub held : Held s type
  pub two : sides (kind_of_type type) ≡ 2

-- and the left one has n records
pub record LeftSize (s : Bytes) (n : ℕ) : Type 0 where
  pub type : Ty
  pub held : Held s type
  pub two : sides (kind_of_type type) ≡ 2
  pub count : n ≡ size_t (left_of type)

-- the property of record i
abbrev pub type_property : Bytes → ℕ → Property
type_property t i = record { r = type_r t i; ir = type_ir t i; c = type_c t i; ic = type_ic t i }

-- the table with this property in record i
abbrev pub with_property : Bytes → ℕ → Property → Bytes
with_property t i k =
    set (set (set (set t (type_width * i + 1) k.r) (type_width * i + 2) k.ir) (type_width * i + 4) k.c)
    (type_width * i + 5) k.ic
