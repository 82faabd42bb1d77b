-- The typing rules with their limits: as a relation with subsumption, and as a function (manual, 5).
use Rattle.std.specs.Prelude.{◌≡◌, Bool, false, if◌then◌else◌, ◌&&◌, List, [], ◌∷◌, ℕ, suc, zero, nat_eq, IsTrue}
use Rattle.std.proofs.Math.Option.{Option, none, some}
use Rattle.calculus.specs.Security.{Property, Reader, Indirect, Security}
use Rattle.calculus.specs.Types.{one, number, Former, sum, product, function, Ty, leaf, node, top, raise_t, secure_t}
use Rattle.calculus.specs.Types.{fits, when, ◌>>=◌, Parts, parts}
use Rattle.calculus.specs.Subtyping.{Subtype, subtype, below}
use Rattle.calculus.specs.Common.{nearest_type}
use Rattle.calculus.specs.Terms.{Side, choose, Operation, Term, var, unit, lam, pair, inj, app, proj, case, protect, mu}
use Rattle.calculus.specs.Terms.{literal, reckon}
use Rattle.calculus.specs.Numbers.{of_both, Reckons, reckon_type, number_property}

-- the type of variable n in a context, whose nearest binder stands first
unfoldable pub lookup : List Ty → ℕ → Option Ty
lookup [] n = none
lookup (t ∷ Γ) zero = some t
lookup (t ∷ Γ) (suc n) = lookup Γ n

-- A case with number 65,535 finds its own type: the lowest above both branches.
abbrev pub own_type : ℕ
own_type = 65535

-- does a case with this number find its own type?
abbrev pub finds_own : ℕ → Bool
finds_own i = nat_eq i own_type

-- The types that a case with number i may give its branches: the named one, or any. [Sub] leads up to it.
pub data TypeOfCase (tab : ℕ → Ty) : ℕ → Ty → Type 0 where
  -- a named type is the branches' own
  as_named : {i : ℕ} → finds_own i ≡ false → TypeOfCase tab i (tab i)
  -- one that finds its own type may give its branches any
  as_found : {i : ℕ} {t : Ty} → IsTrue (finds_own i) → TypeOfCase tab i t

-- The typing rules, Γ ⊢ e : s (manual, 5.13). `tab i` is the type with index i. Types are secure types, so [Sub] leads
-- to no other. Question 24 is the last premise of functions and of pairs, and questions 21 and 23 are premises of
-- recursions.
pub data HasType (S : Security) (tab : ℕ → Ty) : List Ty → Term → Ty → Type 0 where
  -- [Sub]: what has a type has every type above it.
  t_sub : {Γ : List Ty} {e : Term} {s s' : Ty} → HasType S tab Γ e s → Subtype S s s' → IsTrue (secure_t S s') → HasType S tab Γ e s'
  -- A variable has the type of its binder.
  t_var : {Γ : List Ty} {n : ℕ} {s : Ty} → lookup Γ n ≡ some s → HasType S tab Γ (var n) s
  -- A unit has its own property (manual, 5.2).
  t_unit : {Γ : List Ty} {k : Property} → IsTrue (S.secure k) → HasType S tab Γ (unit k) (leaf one k)
  -- A function's body is typed with the parameter bound (5.3).
  t_lam : {Γ : List Ty} {k : Property} {i : ℕ} {e : Term} {t : Ty} → IsTrue (S.secure k) → HasType S tab (tab i ∷ Γ) e t
      → IsTrue (fits (node function k (tab i) t)) → HasType S tab Γ (lam k i e) (node function k (tab i) t)
  -- A pair has the types of its parts (5.4).
  t_pair : {Γ : List Ty} {k : Property} {a b : Term} {s t : Ty} → IsTrue (S.secure k) → HasType S tab Γ a s → HasType S tab Γ b t
      → IsTrue (fits (node product k s t)) → HasType S tab Γ (pair k a b) (node product k s t)
  -- The named sum gives the two sides and nothing else; its own property isn't read.
  t_inj : {Γ : List Ty} {d : Side} {k l : Property} {i : ℕ} {e : Term} {s t : Ty} → IsTrue (S.secure k) → tab i ≡ node sum l s t
      → HasType S tab Γ e (choose d s t) → HasType S tab Γ (inj d k i e) (node sum k s t)
  -- Who applies must be a reader of the function, whose influence raises the result (5.6).
  t_app : {Γ : List Ty} {k : Property} {w : Reader} {f a : Term} {s t : Ty} → HasType S tab Γ f (node function k s t) → HasType S tab Γ a s
      → IsTrue (S.permits k w) → HasType S tab Γ (app w f a) (raise_t S t (S.influence k w))
  -- Who takes a part must be a reader of the pair (5.7).
  t_proj : {Γ : List Ty} {d : Side} {k : Property} {w : Reader} {e : Term} {s t : Ty} → HasType S tab Γ e (node product k s t)
      → IsTrue (S.permits k w) → HasType S tab Γ (proj d w e) (raise_t S (choose d s t) (S.influence k w))
  -- Both branches have the case's type, and its result is raised by what reading the tested operand passes on.
  t_case : {Γ : List Ty} {k : Property} {w : Reader} {i : ℕ} {e a b : Term} {s t u : Ty} → HasType S tab Γ e (node sum k s t)
      → IsTrue (S.permits k w) → TypeOfCase tab i u → HasType S tab (s ∷ Γ) a u → HasType S tab (t ∷ Γ) b u
      → HasType S tab Γ (case w i e a b) (raise_t S u (S.influence k w))
  -- A protect raises by its own label (5.9).
  t_protect : {Γ : List Ty} {m : Indirect} {e : Term} {t : Ty} → IsTrue (S.secure_i m) → HasType S tab Γ e t
      → HasType S tab Γ (protect m e) (raise_t S t m)
  -- 21: r of the type ⊑ the group of the recursion's calls. 23: ir of the type ⊑ ir of its result, and c of its result
  -- ⊑ ic of the type ⊓ that group.
  t_mu : {Γ : List Ty} {w : Reader} {i : ℕ} {e : Term} {k : Property} {s t : Ty} → tab i ≡ node function k s t → IsTrue (S.permits k (S.caller k w))
      → IsTrue (S.absorbs k (S.caller k w) (top t)) → HasType S tab (tab i ∷ Γ) e (tab i) → HasType S tab Γ (mu w i e) (tab i)
  -- A literal has its own property (5.2).
  t_literal : {Γ : List Ty} {k : Property} {n : ℕ} → IsTrue (S.secure k) → HasType S tab Γ (literal k n) (leaf number k)
  -- Both operands are read: 20 and 21 are asked of each.
  t_reckon : {Γ : List Ty} {o : Operation} {w : Reader} {a b : Term} {k l : Property} {t : Ty} → HasType S tab Γ a (leaf number k)
      → IsTrue (S.permits k w) → HasType S tab Γ b (leaf number l) → IsTrue (S.permits l w) → Reckons tab o (of_both S w k l) t
      → HasType S tab Γ (reckon o w a b) t

-- A table of types as the theory needs it: secure types within the limit, in which the type after i is the left side of
-- type i.
pub record Table (S : Security) (tab : ℕ → Ty) : Type 0 where
  pub secure : (i : ℕ) → IsTrue (secure_t S (tab i))
  pub small : (i : ℕ) → IsTrue (fits (tab i))
  pub left : {f : Former} {k : Property} {s t : Ty} (i : ℕ) → tab i ≡ node f k s t → tab (suc i) ≡ s

-- the result type of a case with number i whose branches have these types
unfoldable pub type_of_case : Security → (ℕ → Ty) → ℕ → Ty → Ty → Option Ty
type_of_case S tab i t u = if finds_own i then nearest_type S below t u else when (subtype S below t (tab i) && subtype S below u (tab i)) (tab i)

-- questions 21 and 23 of a recursion labelled w, of a type with these parts
abbrev pub recurs : Security → Parts → Reader → Bool
recurs S p w = S.permits p.own (S.caller p.own w) && S.absorbs p.own (S.caller p.own w) (top p.rhs)

-- The least type that the rules give, if any.
unfoldable pub infer : Security → (ℕ → Ty) → List Ty → Term → Option Ty
infer S tab Γ (var n) = lookup Γ n
infer S tab Γ (unit k) = when (S.secure k) (leaf one k)
infer S tab Γ (lam k i e) = do
  t ← infer S tab (tab i ∷ Γ) e
  when (S.secure k && fits (node function k (tab i) t)) (node function k (tab i) t)
infer S tab Γ (pair k a b) = do
  s ← infer S tab Γ a
  t ← infer S tab Γ b
  when (S.secure k && fits (node product k s t)) (node product k s t)
infer S tab Γ (inj d k i e) = do
  t ← infer S tab Γ e
  p ← parts sum (tab i)
  when (S.secure k && subtype S below t (choose d p.lhs p.rhs)) (node sum k p.lhs p.rhs)
infer S tab Γ (app w f a) = do
  s ← infer S tab Γ f
  p ← parts function s
  t ← infer S tab Γ a
  when (S.permits p.own w && subtype S below t p.lhs) (raise_t S p.rhs (S.influence p.own w))
infer S tab Γ (proj d w e) = do
  s ← infer S tab Γ e
  p ← parts product s
  when (S.permits p.own w) (raise_t S (choose d p.lhs p.rhs) (S.influence p.own w))
infer S tab Γ (case w i e a b) = do
  s ← infer S tab Γ e
  p ← parts sum s
  t ← infer S tab (p.lhs ∷ Γ) a
  u ← infer S tab (p.rhs ∷ Γ) b
  r ← type_of_case S tab i t u
  when (S.permits p.own w) (raise_t S r (S.influence p.own w))
infer S tab Γ (protect m e) = do
  t ← infer S tab Γ e
  when (S.secure_i m) (raise_t S t m)
infer S tab Γ (literal k n) = when (S.secure k) (leaf number k)
infer S tab Γ (reckon o w a b) = do
  s ← infer S tab Γ a
  k ← number_property s
  t ← infer S tab Γ b
  l ← number_property t
  u ← reckon_type tab o (of_both S w k l)
  when (S.permits k w && S.permits l w) u
infer S tab Γ (mu w i e) = do
  p ← parts function (tab i)
  t ← infer S tab (tab i ∷ Γ) e
  when (recurs S p w && subtype S below t (tab i)) (tab i)
