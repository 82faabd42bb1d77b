-- How a redex's contractum is made from parts of its script, and what counting and writing it are given.
use Rattle.std.specs.Prelude.{◌≡◌, Bool, if◌then◌else◌, ℕ, ◌+◌, ◌≤◌, ◌<◌, IsTrue}
use Rattle.calculus.specs.Security.{Property, Reader, Indirect}
use Rattle.calculus.specs.Types.{Ty, top}
use Rattle.calculus.specs.Terms.{Side, first, second, choose, Operation, less, Term, unit, lam, pair, inj, app, proj}
use Rattle.calculus.specs.Terms.{case, protect, mu, literal, reckon, is_value, substitute, raise_value}
use Rattle.calculus.specs.Numbers.{Literal, of_both, side, reckon_result}
use Rattle.calculus.specs.Reduction.{unrolled_function}
use Rattle.rules.specs.Answer.{Bytes}
use Rattle.rules.specs.Limits.{script_limit, depth_limit, table_limit}
use Rattle.rules.specs.Groups.{properties_of}
use Rattle.rules.specs.Types.{type_count, type_at}
use Rattle.rules.specs.Script.{records as record_count, kind, r, full_record, encode, size, depth}
use Rattle.records.specs.Kinds as kinds
use Rattle.records.specs.Place.{At}
use Rattle.records.specs.Labels.{property_at, influence_at}
use Rattle.types.specs.Held.{type_property}
use Rattle.redex.specs.Fates.{is_function, reduces, fate, contractum}
use Rattle.memory.specs.Written.{Room}
use Rattle.memory.specs.declared.Writer.{Writer}
use Rattle.contraction.specs.declared.Plan.{Plan}
use Rattle.contraction.specs.declared.Plan.TheVariants.{Part, Body, Raised, Unrolled, Reckoned}
use Rattle.substitution.specs.declared.Size.{Size}
use Rattle.contraction.specs.Order.{InOrder}

-- the left sides of the reduction rules, apart from who may read
pub data Left : Term → Type 0 where
  applies : {w : Reader} {k : Property} {i : ℕ} {b v : Term} → Left (app w (lam k i b) v)
  projects : (d : Side) {w : Reader} {k : Property} {a b : Term} → Left (proj d w (pair k a b))
  branches : (d : Side) {w : Reader} {j : ℕ} {k : Property} {i : ℕ} {v a b : Term} → Left (case w j (inj d k i v) a b)
  lifts : {m : Indirect} {v : Term} → IsTrue (is_value v) → Left (protect m v)
  unrolls : {w : Reader} {i : ℕ} {b : Term} → Left (mu w i b)
  reckons : (o : Operation) {w : Reader} {k l : Property} {m n : ℕ} → Left (reckon o w (literal k m) (literal l n))

-- a left side stands at record `at`
pub record Fires (s : Bytes) (at : ℕ) : Type 0 where
  pub tree : Term
  pub stands : At s at tree
  pub left : Left tree

-- the redex of a case stands at record `at`
pub record CaseRedex (s : Bytes) (at : ℕ) : Type 0 where
  pub tree : Term
  pub stands : At s at tree
  pub left : Left tree
  pub cases : kind s at ≡ kinds.case

-- the plan of a redex: which parts of the script its contractum is made of
pub data Planned (s : Bytes) : Term → Plan → Type 0 where
  applied : {x y : ℕ} {w : Reader} {k : Property} {i : ℕ} {b v : Term} → At s x b → At s y v
      → Planned s (app w (lam k i b) v) (Body x y)
  projected : {x : ℕ} {d : Side} {w : Reader} {k : Property} {a b : Term} → At s x (choose d a b)
      → Planned s (proj d w (pair k a b)) (Part x)
  branched : {x y : ℕ} {d : Side} {w : Reader} {j : ℕ} {k : Property} {i : ℕ} {v a b : Term}
      → At s x (choose d a b) → At s y v → Planned s (case w j (inj d k i v) a b) (Body x y)
  lifted : {m : Indirect} {v : Term} → IsTrue (is_value v) → Planned s (protect m v) Raised
  unrolled_one : {w : Reader} {i : ℕ} {b : Term} → Planned s (mu w i b) Unrolled
  reckoned_one : {o : Operation} {w : Reader} {k l : Property} {m n : ℕ}
      → Planned s (reckon o w (literal k m) (literal l n)) Reckoned

-- a redex with its plan stands at record `at`, within the limits
pub record PlannedRedex (s : Bytes) (at : ℕ) (p : Plan) : Type 0 where
  pub tree : Term
  pub stands : At s at tree
  pub planned : Planned s tree p
  pub small : size tree ≤ script_limit
  pub shallow : depth tree ≤ depth_limit

-- What a step's protect carries: the influence of the object that is read, which stands at the next record, on the
-- group of the destructor at record `at`.
abbrev pub protection : Bytes → Bytes → ℕ → Indirect
protection g s at = (properties_of g).influence (property_at s (at + 1)) (r s at)

-- a protect's record as bytes
abbrev pub protect_record : Indirect → Bytes
protect_record m = full_record kinds.protect 0 m.ir 0 0 m.ic

-- m tells the records and the depth of e
pub record Measures (e : Term) (m : Size) : Type 0 where
  pub records : m.records ≡ size e
  pub deep : m.depth ≡ depth e

-- a body at record x and a value at record y of one script, within the limits
pub record BodyAndValue (s : Bytes) (x y : ℕ) : Type 0 where
  pub body : Term
  pub value : Term
  pub at_body : At s x body
  pub at_value : At s y value
  pub small : size body + size value ≤ script_limit
  pub shallow_body : depth body ≤ depth_limit
  pub shallow_value : depth value ≤ depth_limit

-- a recursion stands at record `at`, within the limits
pub record Recursive (s : Bytes) (at : ℕ) : Type 0 where
  pub label : Reader
  pub type : ℕ
  pub body : Term
  pub stands : At s at (mu label type body)
  pub small : size (mu label type body) ≤ script_limit
  pub shallow : depth (mu label type body) ≤ depth_limit

-- a sum or a comparison of two literals stands at record `at`
pub record Literals (s : Bytes) (at : ℕ) : Type 0 where
  pub operation : Operation
  pub label : Reader
  pub left : Literal
  pub right : Literal
  pub stands : At s at (reckon operation label (literal left.own left.value) (literal right.own right.value))

-- what is reckoned of them
abbrev pub reckon_contractum : Bytes → Bytes → {s : Bytes} {at : ℕ} → Literals s at → Term
reckon_contractum g t q =
    reckon_result (type_at t) q.operation (of_both (properties_of g) q.label q.left.own q.right.own)
    q.left.value q.right.value

-- Type i has its left side at the next record and its right side at the one after, as a sum of two units has.
pub record Sides (t : Bytes) (i : ℕ) : Type 0 where
  pub inside : i + 2 < type_count t
  pub left : type_property t (i + 1) ≡ top (side first (type_at t i))
  pub right : type_property t (i + 2) ≡ top (side second (type_at t i))

-- the side that says whether the left number is less
abbrev pub flag_side : Bool → Side
flag_side is_less = if is_less then first else second

-- the injection that a comparison gives, of a unit with its side's property
abbrev pub flag : (ℕ → Ty) → ℕ → Property → Bool → Term
flag tab i k is_less = inj (flag_side is_less) k i (unit (top (side (flag_side is_less) (tab i))))

-- The writer has room for the protect with the part that is read. A destructor at record `at` has an operand, and so a
-- record after its own.
pub record PartRoom (g s : Bytes) (at x : ℕ) (out : Writer) : Type 0 where
  pub order : InOrder g
  pub part : Term
  pub stands : At s x part
  pub operand : at + 1 < record_count s
  pub room : Room (encode (protect (protection g s at) part)) out

-- the writer has room for the protect with the body in which the value is put
pub record BodyRoom (g s : Bytes) (at x y : ℕ) (out : Writer) : Type 0 where
  pub order : InOrder g
  pub body : Term
  pub value : Term
  pub at_body : At s x body
  pub at_value : At s y value
  pub shallow : depth body ≤ depth_limit
  pub operand : at + 1 < record_count s
  pub room : Room (encode (protect (protection g s at) (substitute 0 value body))) out

-- the writer has room for the value that is raised
pub record RaisedRoom (g s : Bytes) (at : ℕ) (out : Writer) : Type 0 where
  pub order : InOrder g
  pub value : Term
  pub stands : At s (at + 1) value
  pub is_one : IsTrue (is_value value)
  pub room : Room (encode (raise_value (properties_of g) value (influence_at s at))) out

-- the writer has room for the recursion that is unrolled
pub record UnrolledRoom (t s : Bytes) (at : ℕ) (out : Writer) : Type 0 where
  pub label : Reader
  pub type : ℕ
  pub body : Term
  pub stands : At s at (mu label type body)
  pub shallow : depth body ≤ depth_limit
  pub function : IsTrue (is_function (type_at t type))
  pub table : type_count t ≤ table_limit
  -- no group is joined, so the groups table doesn't matter
  pub groups : Bytes
  pub room : Room (encode (substitute 0 (unrolled_function (properties_of groups) label type (top (type_at t type)) body) body)) out

-- the writer has room for the injection that a comparison gives
pub record FlagRoom (t : Bytes) (i : ℕ) (k : Property) (is_less : Bool) (out : Writer) : Type 0 where
  pub sides : Sides t i
  pub room : Room (encode (flag (type_at t) i k is_less)) out

-- the writer has room for what two numbers give
pub record ReckonedRoom (g t s : Bytes) (at : ℕ) (out : Writer) : Type 0 where
  pub order : InOrder g
  pub literals : Literals s at
  pub sides : (i : ℕ) → literals.operation ≡ less i → Sides t i
  pub room : Room (encode (reckon_contractum g t literals)) out

-- a redex with its plan stands at record `at`, and there is room for its contractum
pub record ContractumRoom (g t s : Bytes) (at : ℕ) (p : Plan) (out : Writer) : Type 0 where
  pub order : InOrder g
  pub ready : PlannedRedex s at p
  pub contracts : fate (properties_of g) (type_at t) ready.tree ≡ reduces
  pub table : type_count t ≤ table_limit
  pub sides : (i : ℕ) {w : Reader} {a b : Term} → ready.tree ≡ reckon (less i) w a b → Sides t i
  pub room : Room (encode (contractum (properties_of g) (type_at t) ready.tree)) out
