-- Where a term neither is a value nor reduces: what stands at the position that would reduce next.
use Rattle.std.specs.Prelude.{◌≡◌, Bool, false, ◌&&◌, ℕ, IsTrue}
use Rattle.std.proofs.Math.Option.{none}
use Rattle.calculus.specs.Security.{Property, Reader, Security}
use Rattle.calculus.specs.Types.{Former, sum, product, function, Ty, equal_formers, exists, parts}
use Rattle.calculus.specs.Terms.{Side, Operation, Term, var, unit, lam, pair, inj, app, proj, case, protect, mu}
use Rattle.calculus.specs.Terms.{literal, reckon, is_value}
use Rattle.calculus.specs.Numbers.{literal_of}
use Rattle.calculus.specs.Reduction.{Context, plug}

-- Is it a function, a pair or an injection: what a destructor of that form takes apart?
unfoldable pub built_by : Former → Term → Bool
built_by f (lam k i e) = equal_formers f function
built_by f (pair k a b) = equal_formers f product
built_by f (inj d k i e) = equal_formers f sum
built_by f _ = false

-- A destructor that may not read what it meets: the operands of a redex whose condition on the reader fails.
pub data Denied (S : Security) : Term → Type 0 where
  denied_app : {k : Property} {i : ℕ} {e v : Term} {w : Reader} → IsTrue (is_value v) → S.permits k w ≡ false → Denied S (app w (lam k i e) v)
  denied_proj : {d : Side} {k : Property} {v v' : Term} {w : Reader} → IsTrue (is_value v) → IsTrue (is_value v') → S.permits k w ≡ false
      → Denied S (proj d w (pair k v v'))
  denied_case : {d : Side} {k : Property} {i j : ℕ} {v a b : Term} {w : Reader} → IsTrue (is_value v) → S.permits k w ≡ false
      → Denied S (case w j (inj d k i v) a b)
  denied_reckon : {o : Operation} {w : Reader} {k l : Property} {m n : ℕ} → (S.permits k w && S.permits l w) ≡ false
      → Denied S (reckon o w (literal k m) (literal l n))

-- A destructor that meets a value of the wrong kind, a recursion whose type is no function, or a free variable.
pub data Wrong (tab : ℕ → Ty) : Term → Type 0 where
  -- a variable in the position that is evaluated
  wrong_var : {n : ℕ} → Wrong tab (var n)
  -- what is applied is no function
  wrong_app : {w : Reader} {f v : Term} → IsTrue (is_value f) → IsTrue (is_value v) → built_by function f ≡ false → Wrong tab (app w f v)
  -- what is projected is no pair
  wrong_proj : {d : Side} {w : Reader} {v : Term} → IsTrue (is_value v) → built_by product v ≡ false → Wrong tab (proj d w v)
  -- what is tested is no injection
  wrong_case : {w : Reader} {i : ℕ} {v a b : Term} → IsTrue (is_value v) → built_by sum v ≡ false → Wrong tab (case w i v a b)
  -- an operand is no number
  wrong_reckon : {o : Operation} {w : Reader} {a b : Term} → IsTrue (is_value a) → IsTrue (is_value b) → (exists (literal_of a) && exists (literal_of b)) ≡ false
      → Wrong tab (reckon o w a b)
  -- the recursion's type is no function
  wrong_mu : {w : Reader} {i : ℕ} {e : Term} → parts function (tab i) ≡ none → Wrong tab (mu w i e)

-- E[e₀], where P holds of e₀
pub record InContext (P : Term → Type 0) (e : Term) : Type 0 where
  pub context : Context
  pub position : Term
  pub holds : P position
  pub whole : e ≡ plug context position

-- evaluation stands at a reading that isn't permitted
abbrev pub DeniedAt : Security → Term → Type 0
DeniedAt S e = InContext (Denied S) e

-- evaluation stands at a wrong kind
abbrev pub StuckAt : (ℕ → Ty) → Term → Type 0
StuckAt tab e = InContext (Wrong tab) e
