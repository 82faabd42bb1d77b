-- The rules of `typing`, taken apart at the operands: what is asked before, between and after them.
use Rattle.std.specs.Prelude.{◌≡◌, true, false, if◌then◌else◌, List, ◌∷◌, ℕ, ◌+◌, ◌*◌, ◌≤◌, ◌<◌, length, get_or, drop}
use Rattle.calculus.specs.Security.{Property, Indirect, Security}
use Rattle.calculus.specs.Types.{one, number as number_leaf, sum, product, function, Ty, leaf, node, top, raise_t}
use Rattle.calculus.specs.Typing.{finds_own}
use Rattle.calculus.specs.Terms.{Side, first, second, Operation, Term, var, unit, lam, pair, inj, app, proj, case}
use Rattle.calculus.specs.Terms.{protect, mu, literal, reckon}
use Rattle.calculus.specs.Numbers.{of_both}
use Rattle.rules.specs.Answer.{Bytes, Answer, accepted, ◌>>=◌, ◌>>◌, ask}
use Rattle.rules.specs.Limits.{type_width, script_width, answer_length}
use Rattle.rules.specs.Types.{no_type, type_count}
use Rattle.rules.specs.Script.{kind, number, own_at, encode}
use Rattle.rules.specs.Groups.{properties_of}
use Rattle.rules.specs.Typing.{left, right, q21, q22, q23, q24, q22_of_branch, branch_type, number_result}
use Rattle.types.specs.Held.{Held}
use Rattle.types.specs.declared.Kind.{Kind}
use Rattle.types.specs.declared.Kind.TheVariants.{Sum, Pair, Function, Number}
use Rattle.records.specs.Kinds as kinds
use Rattle.inference.specs.Kinds.{has_kind}
use Rattle.inference.specs.Operands.{operand_count, WellFormed}
use Rattle.inference.specs.Memory.{high, Slot, Sized, HoldsContext, SlotTable, Beside}

-- a term without operands
unfoldable pub leaf_type : List Ty → Term → Answer Ty
leaf_type Γ (var n) = accepted (get_or Γ n no_type)
leaf_type Γ (unit k) = accepted (leaf one k)
leaf_type Γ (literal k n) = accepted (leaf number_leaf k)
leaf_type Γ _ = accepted no_type

-- calling a recursion of type s as group w: questions 21 and 23
abbrev pub may_recur : Security → ℕ → Ty → ℕ → Answer (Unit {0})
may_recur S p s w = do
  q21 S p s (S.caller (top s) w)
  q23 S p s (S.caller (top s) w)

-- before the first operand: a recursion's questions
unfoldable pub before_first : Security → (ℕ → Ty) → ℕ → Term → Answer (Unit {0})
before_first S tab p (mu w i e) = may_recur S p (tab i) w
before_first S tab p _ = accepted tt

-- the first operand's context
unfoldable pub first_context : (ℕ → Ty) → List Ty → Term → List Ty
first_context tab Γ (lam k i e) = tab i ∷ Γ
first_context tab Γ (mu w i e) = tab i ∷ Γ
first_context tab Γ _ = Γ

-- bytes of the front that are not lent for the first operand: an injection's record
unfoldable pub kept_front : Term → ℕ
kept_front (inj d k i e) = type_width
kept_front _ = 0

-- a function's type
abbrev pub function_type : ℕ → Property → Ty → Ty → Answer Ty
function_type p k s t = do
  q24 p (node function k s t)
  accepted (node function k s t)

-- a pair's type
abbrev pub pair_type : ℕ → Property → Ty → Ty → Answer Ty
pair_type p k s t = do
  q24 p (node product k s t)
  accepted (node product k s t)

-- question 22 of t, and what is found then
abbrev pub after_22 : Security → ℕ → Ty → Ty → Ty → Answer Ty
after_22 S p t wanted result = do
  q22 S p t wanted
  accepted result

-- an injection's type, of a sum type u, where `wanted` is its side
abbrev pub injection_type : Security → ℕ → Property → Ty → Ty → Ty → Answer Ty
injection_type S p k u wanted t = after_22 S p t wanted (node sum k (left u) (right u))

-- the type of what reading s gives
abbrev pub reads : Security → Ty → ℕ → Ty → Ty
reads S s w t = raise_t S t (S.influence (top s) w)

-- reading an object of type s, of this kind, with group w: questions 20 and 21
abbrev pub may_read : Security → ℕ → Kind → Ty → ℕ → Answer (Unit {0})
may_read S p k s w = do
  ask 20 p (has_kind k s)
  q21 S p s w

-- the side that an injection or a projection names
abbrev pub type_side : Side → Ty → Ty
type_side first t = left t
type_side second t = right t

-- a projection's type
abbrev pub projection_type : Security → ℕ → ℕ → Side → Ty → Answer Ty
projection_type S p w d t = do
  may_read S p Pair t w
  accepted (reads S t w (type_side d t))

-- one operand of type t
unfoldable pub after_one : Security → (ℕ → Ty) → ℕ → Term → Ty → Answer Ty
after_one S tab p (lam k i e) t = function_type p k (tab i) t
after_one S tab p (inj d k i e) t = injection_type S p k (tab i) (type_side d (tab i)) t
after_one S tab p (proj d w e) t = projection_type S p w d t
after_one S tab p (protect m e) t = accepted (raise_t S t m)
after_one S tab p (mu w i e) t = after_22 S p t (tab i) (tab i)
after_one S tab p _ t = accepted t

-- between the first operand, of type s, and the second: questions 20 and 21
unfoldable pub between : Security → ℕ → Term → Ty → Answer (Unit {0})
between S p (app w f a) s = may_read S p Function s w
between S p (case w i e a b) s = may_read S p Sum s w
between S p (reckon o w a b) s = may_read S p Number s w
between S p _ s = accepted tt

-- the second operand's context
unfoldable pub second_context : List Ty → Term → Ty → List Ty
second_context Γ (case w i e a b) s = left s ∷ Γ
second_context Γ _ s = Γ

-- the property of what is reckoned of operands of types s and t: questions 20 and 21 of the right one
abbrev pub operands_property : Security → ℕ → ℕ → Ty → Ty → Answer Property
operands_property S p w s t = do
  may_read S p Number t w
  accepted (of_both S w (top s) (top t))

-- its type
abbrev pub operation_type : Security → (ℕ → Ty) → ℕ → Operation → ℕ → Ty → Ty → Answer Ty
operation_type S tab p o w s t = do
  k ← operands_property S p w s t
  accepted (number_result tab o k)

-- two operands of types s and t
unfoldable pub after_two : Security → (ℕ → Ty) → ℕ → Term → Ty → Ty → Answer Ty
after_two S tab p (pair k a b) s t = pair_type p k s t
after_two S tab p (app w f a) s t = after_22 S p t (left s) (reads S s w (right s))
after_two S tab p (reckon o w a b) s t = operation_type S tab p o w s t
after_two S tab p _ s t = accepted t

-- bytes of the front that are not lent for a case's second branch: the first one's type, where the case finds its own
abbrev pub kept_branch : Bytes → ℕ
kept_branch s = if own_at s 0 then answer_length else 0

-- the type of a case of number i, before it is raised, when its branches have the types t and u
abbrev pub result_type : Security → (ℕ → Ty) → ℕ → ℕ → Ty → Ty → Answer Ty
result_type S tab p i t u = do
  q22_of_branch S p tab i u
  branch_type S p tab i t u

-- the type of a case, raised by what testing left
abbrev pub case_type : Security → (ℕ → Ty) → ℕ → ℕ → Ty → Ty → Indirect → Answer Ty
case_type S tab p i t u by = do
  q22_of_branch S p tab i u
  r ← branch_type S p tab i t u
  accepted (raise_t S r by)

-- a node without operands
pub record LeafNode (s : Bytes) (b : ℕ) (w : Bytes) : Type 0 where
  pub ctx : List Ty
  pub binders : length ctx ≡ b
  pub holds : HoldsContext ctx (high b w)
  pub tree : Term
  pub is : s ≡ encode tree
  pub leaf : operand_count tree ≡ 0
  pub types : Bytes
  pub formed : WellFormed types b tree
  pub room : answer_length * (b + 1) ≤ length w

-- what a node of one operand is given when that has its type
pub record OneOperand (types s w : Bytes) (n : ℕ) : Type 0 where
  pub table : SlotTable types
  pub tree : Term
  pub is : s ≡ encode tree
  pub one : operand_count tree ≡ 1
  pub binders : ℕ
  pub formed : WellFormed types binders tree
  pub type : Ty
  pub sized : Sized (drop (kept_front tree) w) n type
  pub room : answer_length ≤ length w

-- a node of two or three operands, when the first has its type
pub record AfterFirst (s : Bytes) (b : ℕ) (w : Bytes) (n : ℕ) : Type 0 where
  pub tree : Term
  pub is : s ≡ encode tree
  pub some : 2 ≤ operand_count tree
  pub type : Ty
  pub sized : Sized w n type
  pub ctx : List Ty
  pub binders : length ctx ≡ b
  pub holds : HoldsContext ctx (high b w)
  pub room : answer_length * (b + 2) ≤ length w

-- where the first operand's type is kept while the second is typed: in front, or its two sides in the slot
pub record Aside (e : Term) (s : Ty) (b : ℕ) (w : Bytes) (n : ℕ) : Type 0 where
  pub front : operand_count e ≡ 2 → Sized w n s
  pub slot : operand_count e ≡ 3 → Beside s b w

-- a node of two operands, when both have their types
pub record TwoOperands (g types s : Bytes) (place : ℕ) (w : Bytes) (n m : ℕ) : Type 0 where
  pub table : SlotTable types
  pub tree : Term
  pub is : s ≡ encode tree
  pub two : operand_count tree ≡ 2
  pub binders : ℕ
  pub formed : WellFormed types binders tree
  pub first : Ty
  pub second : Ty
  pub sized : Sized w n first
  pub other : Sized (drop answer_length w) m second
  pub asked : between (properties_of g) place tree first ≡ accepted tt
  pub room : answer_length * 2 ≤ length w

-- a case, whose type is in the table where it names one
pub record CaseNode (types s : Bytes) : Type 0 where
  pub table : SlotTable types
  pub long : script_width ≤ length s
  pub kind_is : kind s 0 ≡ kinds.case
  pub named : finds_own (number s 0) ≡ false → number s 0 < type_count types

-- a case, when its first branch has its type, in front
pub record FirstBranchTyped (types s : Bytes) (b : ℕ) (w : Bytes) : Type 0 where
  pub node : CaseNode types s
  pub tested : Ty
  pub sides : Beside tested b w
  pub type : Ty
  pub slot : Slot w type
  pub ctx : List Ty
  pub binders : length ctx ≡ b
  pub holds : HoldsContext ctx (high b w)
  pub room : answer_length * (b + 2) ≤ length w

-- a case, when both branches have their types: the first one's is still in front where the case finds its own
pub record BranchesTyped (types s w : Bytes) : Type 0 where
  pub node : CaseNode types s
  pub first : Ty
  pub second : Ty
  pub front : own_at s 0 ≡ true → Slot w first
  pub other : Held (drop (kept_branch s) w) second
  pub room : answer_length ≤ length w
