-- Reduction: as a relation with evaluation contexts and as a function (manual, 6.2 and 6.3).
use Rattle.std.specs.Prelude.{◌≡◌, Bool, true, false, ◌&&◌, ℕ, suc, zero, IsTrue}
use Rattle.std.proofs.Math.Option.{Option, none, some}
use Rattle.calculus.specs.Security.{Property, Reader, Indirect, Security}
use Rattle.calculus.specs.Types.{sum, product, function, Ty, leaf, node}
use Rattle.calculus.specs.Terms.{Side, choose, Operation, Term, var, unit, lam, pair, inj, app, proj, case, protect, mu}
use Rattle.calculus.specs.Terms.{literal, reckon, is_value, substitute, raise_value}
use Rattle.calculus.specs.Numbers.{Literal, literal_of, of_both, reckon_result}

-- (λx : s₁. ((μf : s. e)_r' x)_r')_(r, ir), which stands for f when (μf : s. e)_r' unrolls. The left side of type i is
-- type i + 1. Its inner application, and so every unrolled call, is made as the recursion's own group r'.
abbrev pub unrolled_function : Security → Reader → ℕ → Property → Term → Term
unrolled_function S w i k e = lam k (suc i) (app (S.caller k w) (mu w i e) (var zero))

-- The reduction rules, one for each form of redex (manual, 6.3). `tab i` is the type with index i.
pub data Contracts (S : Security) (tab : ℕ → Ty) : Term → Term → Type 0 where
  -- (λx. e) v: the body with the value put in, protected by what reading the function passes on.
  c_app : {k : Property} {i : ℕ} {e v : Term} {w : Reader} → IsTrue (is_value v) → IsTrue (S.permits k w)
      → Contracts S tab (app w (lam k i e) v) (protect (S.influence k w) (substitute zero v e))
  -- A projection takes its part of the pair, so protected.
  c_proj : {d : Side} {k : Property} {v v' : Term} {w : Reader} → IsTrue (is_value v) → IsTrue (is_value v') → IsTrue (S.permits k w)
      → Contracts S tab (proj d w (pair k v v')) (protect (S.influence k w) (choose d v v'))
  -- A case takes the branch of the injection's side, so protected.
  c_case : {d : Side} {k : Property} {i j : ℕ} {v a b : Term} {w : Reader} → IsTrue (is_value v) → IsTrue (S.permits k w)
      → Contracts S tab (case w j (inj d k i v) a b) (protect (S.influence k w) (substitute zero v (choose d a b)))
  -- A recursion unrolls: a function that calls it stands for it in its body.
  c_mu : {w : Reader} {i : ℕ} {e : Term} {k : Property} {s t : Ty} → tab i ≡ node function k s t
      → Contracts S tab (mu w i e) (substitute zero (unrolled_function S w i k e) e)
  -- Both operands are read in the one step, as the node's group.
  c_reckon : {o : Operation} {w : Reader} {k l : Property} {m n : ℕ} → IsTrue (S.permits k w) → IsTrue (S.permits l w)
      → Contracts S tab (reckon o w (literal k m) (literal l n)) (reckon_result tab o (of_both S w k l) m n)
  -- A protect of a value raises it, and asks nobody.
  c_protect : {m : Indirect} {v : Term} → IsTrue (is_value v) → Contracts S tab (protect m v) (raise_value S v m)

-- E ::= [ ] | (E e)_r | (v E)_r | (proj_i E)_r | (inj_i E)_κ | ⟨E, e⟩_κ | ⟨v, E⟩_κ | (protect_ir E) | (case E of ..)_r
--   | (E + e)_r | (v + E)_r | (E < e)_r | (v < E)_r
pub data Context : Type 0 where
  hole : Context
  app_left : Reader → Context → Term → Context
  app_right : Reader → (v : Term) → IsTrue (is_value v) → Context → Context
  in_proj : Side → Reader → Context → Context
  in_inj : Side → Property → ℕ → Context → Context
  pair_left : Property → Context → Term → Context
  pair_right : Property → (v : Term) → IsTrue (is_value v) → Context → Context
  in_protect : Indirect → Context → Context
  in_case : Reader → ℕ → Context → Term → Term → Context
  reckon_left : Operation → Reader → Context → Term → Context
  reckon_right : Operation → Reader → (v : Term) → IsTrue (is_value v) → Context → Context

-- E[e]
unfoldable pub plug : Context → Term → Term
plug hole e = e
plug (app_left w E a) e = app w (plug E e) a
plug (app_right w v h E) e = app w v (plug E e)
plug (in_proj d w E) e = proj d w (plug E e)
plug (in_inj d k i E) e = inj d k i (plug E e)
plug (pair_left k E b) e = pair k (plug E e) b
plug (pair_right k v h E) e = pair k v (plug E e)
plug (in_protect m E) e = protect m (plug E e)
plug (in_case w i E a b) e = case w i (plug E e) a b
plug (reckon_left o w E b) e = reckon o w (plug E e) b
plug (reckon_right o w v h E) e = reckon o w v (plug E e)

-- E[e] → E[e'] where e → e' by one of the rules.
pub record Reduces (S : Security) (tab : ℕ → Ty) (e e' : Term) : Type 0 where
  pub context : Context
  pub redex : Term
  pub contractum : Term
  pub contracts : Contracts S tab redex contractum
  pub before : e ≡ plug context redex
  pub after : e' ≡ plug context contractum

-- How a step ends where nothing limits a term's size.
pub data Outcome : Type 0 where
  -- the term is a value
  value : Outcome
  -- it went to this term
  moved : Term → Outcome
  -- a destructor whose label may not read what it meets
  denied : Outcome
  -- a destructor that meets a value of the wrong kind
  stuck : Outcome

-- Left to right: an operand that moves goes back into its place; once it is a value, `next`.
unfoldable pub operand_first : Outcome → (Term → Term) → Outcome → Outcome
operand_first value place next = next
operand_first (moved e) place next = moved (place e)
operand_first denied place next = denied
operand_first stuck place next = stuck

-- a reading that must be permitted
unfoldable pub if_permitted : Bool → Term → Outcome
if_permitted true e = moved e
if_permitted false e = denied

-- (f v)_w of two values
unfoldable pub apply : Security → Reader → Term → Term → Outcome
apply S w (lam k i e) v = if_permitted (S.permits k w) (protect (S.influence k w) (substitute zero v e))
apply S w _ v = stuck

-- (proj_d v)_w of a value
unfoldable pub project : Security → Side → Reader → Term → Outcome
project S d w (pair k a b) = if_permitted (S.permits k w) (protect (S.influence k w) (choose d a b))
project S d w _ = stuck

-- (case v of inj₁(x). a | inj₂(x). b)_w of a value
unfoldable pub branch : Security → Reader → Term → Term → Term → Outcome
branch S w (inj d k i v) a b = if_permitted (S.permits k w) (protect (S.influence k w) (substitute zero v (choose d a b)))
branch S w _ a b = stuck

-- μf : s. e, where s has to be a function type
unfoldable pub unroll : Security → Reader → ℕ → Term → Ty → Outcome
unroll S w i e (node function k s t) = moved (substitute zero (unrolled_function S w i k e) e)
unroll S w i e _ = stuck

-- (v + v')_w or (v < v')_w of two values: a wrong kind comes before a reader that may not
unfoldable pub calculate : Security → (ℕ → Ty) → Operation → Reader → Option Literal → Option Literal → Outcome
calculate S tab o w none y = stuck
calculate S tab o w (some x) none = stuck
calculate S tab o w (some x) (some y) =
    if_permitted (S.permits x.own w && S.permits y.own w) (reckon_result tab o (of_both S w x.own y.own) x.value y.value)

-- One step: left to right, never inside a function, a recursion or a branch.
unfoldable pub step : Security → (ℕ → Ty) → Term → Outcome
step S tab (var n) = stuck
step S tab (pair k a b) = operand_first (step S tab a) (λ e. pair k e b) (operand_first (step S tab b) (λ e. pair k a e) value)
step S tab (inj d k i e) = operand_first (step S tab e) (λ x. inj d k i x) value
step S tab (app w f a) = operand_first (step S tab f) (λ e. app w e a) (operand_first (step S tab a) (λ e. app w f e) (apply S w f a))
step S tab (proj d w e) = operand_first (step S tab e) (λ x. proj d w x) (project S d w e)
step S tab (case w i e a b) = operand_first (step S tab e) (λ x. case w i x a b) (branch S w e a b)
step S tab (protect m e) = operand_first (step S tab e) (λ x. protect m x) (moved (raise_value S e m))
step S tab (mu w i e) = unroll S w i e (tab i)
step S tab (reckon o w a b) =
    operand_first (step S tab a) (λ e. reckon o w e b)
    (operand_first (step S tab b) (λ e. reckon o w a e) (calculate S tab o w (literal_of a) (literal_of b)))
step S tab _ = value
