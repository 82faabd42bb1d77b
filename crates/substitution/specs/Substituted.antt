-- A closed value put for a variable of a term that stands in a script: what counting and writing it are given, and what
-- they tell.
use Rattle.std.specs.Prelude.{◌≡◌, ◌++◌, ℕ, ◌+◌, ◌*◌, ◌≤◌, take, drop}
use Rattle.calculus.specs.Terms.{Term, substitute}
use Rattle.rules.specs.Answer.{Bytes}
use Rattle.rules.specs.Limits.{script_width, script_limit, depth_limit}
use Rattle.rules.specs.Script.{encode, size, depth}
use Rattle.records.specs.Place.{At}
use Rattle.memory.specs.Written.{Room, Written}
use Rattle.memory.specs.declared.Writer.{Writer}
use Rattle.substitution.specs.declared.Extent.{Extent}
use Rattle.substitution.specs.declared.Size.{Size}

-- The most records of a value: an unrolled function has a few more than the recursion in it.
abbrev pub value_limit : ℕ
value_limit = 2 * script_limit

-- The term at record i, within the limits. n binders have been passed on the way to it, so that n + depth is at most
-- the depth of the whole: calls are never deeper than that.
pub record Sizes (s : Bytes) (i n : ℕ) (m : Size) : Type 0 where
  pub tree : Term
  pub at : At s i tree
  pub value : Term
  pub records_of : m.records ≡ size value
  pub depth_of : m.depth ≡ depth value
  pub shallow : n + depth tree ≤ depth_limit
  pub small : size tree ≤ script_limit
  pub small_value : m.records ≤ value_limit

-- the record after e, and the records and the depth of e with v for its variable n
pub record Measured (i n : ℕ) (e v : Term) (x : Extent) : Type 0 where
  pub next : x.next ≡ i + size e
  pub records : x.size.records ≡ size (substitute n v e)
  pub deep : x.size.depth ≡ depth (substitute n v e)

-- a term stands at record i, within the limits
pub record TermWithinLimits (s : Bytes) (i : ℕ) : Type 0 where
  pub tree : Term
  pub at : At s i tree
  pub shallow : depth tree ≤ depth_limit
  pub small : size tree ≤ script_limit

-- x tells the record after e, which stands at record i, and the records and the depth of e
pub record Extends (i : ℕ) (e : Term) (x : Extent) : Type 0 where
  pub next : x.next ≡ i + size e
  pub records : x.size.records ≡ size e
  pub deep : x.size.depth ≡ depth e

-- the bytes of record i
abbrev pub record_at : Bytes → ℕ → Bytes
record_at s i = take script_width (drop (script_width * i) s)

-- the term at record i, a value in three pieces, and room for the term with the value for its variable n
pub record Substitution (s : Bytes) (i : ℕ) (front mid back : Bytes) (n : ℕ) (out : Writer) : Type 0 where
  pub tree : Term
  pub at : At s i tree
  pub value : Term
  pub pieces : front ++ (mid ++ back) ≡ encode value
  pub shallow : n + depth tree ≤ depth_limit
  pub room : Room (encode (substitute n value tree)) out

-- the record after e, and e with v for its variable n is written
pub record Substituted (i n : ℕ) (e v : Term) (out : Writer) (next : ℕ) (out' : Writer) : Type 0 where
  pub next_is : next ≡ i + size e
  pub wrote : Written (encode (substitute n v e)) out out'
