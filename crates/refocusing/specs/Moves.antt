-- How the gap moves, and how a step is made in place: what these are given, and what they leave.
use Rattle.std.specs.Prelude.{◌≡◌, ℕ, ◌+◌, ◌*◌, ◌≤◌, length, IsTrue}
use Rattle.calculus.specs.Terms.{Term, is_value}
use Rattle.calculus.specs.Reduction.{Context}
use Rattle.rules.specs.Answer.{Bytes}
use Rattle.rules.specs.Limits.{script_width}
use Rattle.rules.specs.Groups.{properties_of}
use Rattle.rules.specs.Types.{type_at}
use Rattle.rules.specs.Script.{records as record_count, size}
use Rattle.memory.specs.Splice.{splice}
use Rattle.records.specs.Place.{At}
use Rattle.redex.specs.Fates.{contractum}
use Rattle.contraction.specs.declared.Plan.{Plan}
use Rattle.refocusing.specs.declared.Point.{Point}
use Rattle.refocusing.specs.Contracted.{Contracting}

-- a term comes next, and there is room for it left of the gap
pub record Passable (p : Point) (a b : Bytes) : Type 0 where
  pub term : Term
  pub stands : At b p.right term
  pub room : script_width * (p.left + size term) ≤ length a

-- Point q is n records further than p on both sides of the gap, and the bytes x are put left of it.
pub record PassesOver (n : ℕ) (x : Bytes) (p q : Point) (a a' : Bytes) : Type 0 where
  pub left : q.left ≡ p.left + n
  pub right : q.right ≡ p.right + n
  pub steps : q.steps ≡ p.steps
  pub front : a' ≡ splice (script_width * p.left) x a

-- A redex with its plan stands at record `at`, and its contractum is as long as the room for it.
pub record Fills (g t s : Bytes) (at : ℕ) (plan : Plan) (room : Bytes) : Type 0 where
  pub context : Context
  pub redex : Term
  pub contracts : Contracting g t s at plan context redex
  pub fills : length room ≡ script_width * size (contractum (properties_of g) (type_at t) redex)

-- a value at record i is the last of the records before record `end`
pub record ValueLast (s : Bytes) (i end : ℕ) : Type 0 where
  pub value : Term
  pub stands : At s i value
  pub is_one : IsTrue (is_value value)
  pub ends : i + size value ≡ end

-- a component stands at record `part`, and there is room for it behind record `at`
pub record Component (s : Bytes) (at part : ℕ) : Type 0 where
  pub term : Term
  pub stands : At s part term
  pub room : at + 1 + size term ≤ record_count s
