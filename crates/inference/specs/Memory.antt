-- The work buffer: the found type in front, the binders' types in slots at the high end, the nearest binder's lowest.
use Rattle.std.specs.Prelude.{◌≡◌, List, ℕ, ◌+◌, ◌-◌, ◌*◌, ◌≤◌, ◌<◌, Result, Ok, Err, length, drop, get_or}
use Rattle.calculus.specs.Types.{Ty, size_t, type_limit}
use Rattle.calculus.specs.Terms.{Term}
use Rattle.rules.specs.Answer.{Bytes, Answer, accepted, refused}
use Rattle.rules.specs.Limits.{type_width, script_limit, answer_length}
use Rattle.rules.specs.Types.{type_count, no_type, sides, type_at}
use Rattle.rules.specs.Script.{encode, size, depth}
use Rattle.rules.specs.Typing.{left, right}
use Rattle.types.specs.Held.{Held, kind_of_type}
use Rattle.inference.specs.Operands.{WellFormed}
use Rattle.answer.specs.Numbers.{question_number}
use Rattle.answer.specs.Said.{answer_of}
use Rattle.answer.specs.declared.Refusal.{Refusal}

-- the last b slots; each holds a type of the most records that there may be
abbrev pub high : ℕ → Bytes → Bytes
high b w = drop (length w - answer_length * b) w

-- a type in front that fits a slot
pub record Slot (l : Bytes) (t : Ty) : Type 0 where
  pub held : Held l t
  pub small : size_t t ≤ type_limit

-- a type in front that fits a slot, with n records
pub record Sized (l : Bytes) (n : ℕ) (t : Ty) : Type 0 where
  pub held : Held l t
  pub small : size_t t ≤ type_limit
  pub count : n ≡ size_t t

-- the slots hold the context
pub record HoldsContext (Γ : List Ty) (hi : Bytes) : Type 0 where
  pub len : length hi ≡ answer_length * length Γ
  pub slot : (n : ℕ) → n < length Γ → Slot (drop (answer_length * n) hi) (get_or Γ n no_type)

-- every record of the types table starts a type that fits a slot
pub record SlotTable (types : Bytes) : Type 0 where
  pub entry : (i : ℕ) → i < type_count types → Slot (drop (type_width * i) types) (type_at types i)

-- a type found: its bytes in front, its record count, the slots as they were
pub record Wrote (t : Ty) (b : ℕ) (w : Bytes) (n : ℕ) (w' : Bytes) : Type 0 where
  pub sized : Sized w' n t
  pub kept : high b w' ≡ high b w

-- what a typing rule gives, against the answer and the buffer before and after
pub data Meets : Answer Ty → ℕ → Bytes → Result ℕ Refusal → Bytes → Type 0 where
  meets_type : {t : Ty} {b : ℕ} {w : Bytes} {n : ℕ} {w' : Bytes} → Wrote t b w n w' → Meets (accepted t) b w (Ok n) w'
  meets_refusal : {e : Refusal} {b : ℕ} {w w' : Bytes} → Meets (refused (question_number e.question) e.place) b w (Err e) w'

-- the same under any count of binders that the buffer has slots for
abbrev pub Gives : Answer Ty → Bytes → Result ℕ Refusal → Bytes → Type 0
Gives a w x w' = (b : ℕ) → answer_length * (b + 1) ≤ length w → Meets a b w x w'

-- What a call of the checker is given: the context in b slots, the script part of one formed node, and a slot's room
-- for each level below it.
pub record CheckerInput (types s : Bytes) (place b : ℕ) (w : Bytes) : Type 0 where
  pub table : SlotTable types
  pub ctx : List Ty
  pub binders : length ctx ≡ b
  pub holds : HoldsContext ctx (high b w)
  pub tree : Term
  pub is : s ≡ encode tree
  pub formed : WellFormed types b tree
  pub room : answer_length * (b + depth tree) ≤ length w
  pub placed : place + size tree ≤ script_limit

-- the slots with a context over that of b binders
pub record Entered (Γ : List Ty) (b : ℕ) (w w' : Bytes) : Type 0 where
  pub least : b ≤ length Γ
  pub holds : HoldsContext Γ (high (length Γ) w')
  pub kept : high b w' ≡ high b w

-- questions with no type of their own; if they are answered yes, the slots hold the next operand's context
pub record Enters (asked : Answer (Unit {0})) (Γ : List Ty) (b : ℕ) (w : Bytes)
    (x : Result (Unit {0}) Refusal) (w' : Bytes) : Type 0 where
  pub says : answer_of x ≡ asked
  pub entered : asked ≡ accepted tt → Entered Γ b w w'

-- a variable's slot
pub record InScope (i b : ℕ) (w : Bytes) : Type 0 where
  pub ctx : List Ty
  pub binders : length ctx ≡ b
  pub holds : HoldsContext ctx (high b w)
  pub below : i < b
  pub room : answer_length * (b + 1) ≤ length w

-- a type in front
pub record TypedFront (l : Bytes) (n : ℕ) : Type 0 where
  pub type : Ty
  pub sized : Sized l n type

-- a type in front, and another behind the room that any type has there
pub record TwoTypesHeld (w : Bytes) : Type 0 where
  pub first : Ty
  pub second : Ty
  pub slot : Slot w first
  pub other : Held (drop answer_length w) second

-- a type in front that fits a slot, as each of the table's does
pub record SlotType (l : Bytes) : Type 0 where
  pub type : Ty
  pub slot : Slot l type

-- so with a type of two sides
pub record SlotSided (l : Bytes) : Type 0 where
  pub type : Ty
  pub slot : Slot l type
  pub two : sides (kind_of_type type) ≡ 2

-- a case's slot b + 1 holds the two sides of the tested type, one after the other
pub record Beside (t : Ty) (b : ℕ) (w : Bytes) : Type 0 where
  pub one : Slot (high (b + 1) w) (left t)
  pub other : Slot (drop (type_width * size_t (left t)) (high (b + 1) w)) (right t)
  pub fits : type_width * size_t (left t) + type_width * size_t (right t) ≤ answer_length
