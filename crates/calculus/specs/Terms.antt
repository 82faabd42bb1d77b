-- Terms and values; substitution and raising (manual, 4.2, 6.1 and 6.3). A variable is a number, and a type is named by
-- an index.
use Rattle.std.specs.Prelude.{Bool, true, false, if◌then◌else◌, ◌&&◌, ℕ, suc, nat_eq}
use Rattle.calculus.specs.Security.{Property, Reader, Indirect, Security}

-- the i of inj_i and proj_i
pub data Side : Type 0 where
  first second : Side

-- the first or the second of two
abbrev pub choose : {A : Type 0} → Side → A → A → A
choose first a b = a
choose second a b = b

-- sum of two, and less than, whose number names a sum of two units
pub data Operation : Type 0 where
  plus : Operation
  less : ℕ → Operation

-- A variable's number counts binders outward, 0 the nearest: de Bruijn numbers. A type is named by its index in a types
-- table.
pub data Term : Type 0 where
  var : ℕ → Term
  unit : Property → Term
  -- (λx : s. e)_κ: property, parameter type, body under one binder
  lam : Property → ℕ → Term → Term
  pair : Property → Term → Term → Term
  -- (inj_i e)_κ: side, property, sum type, operand
  inj : Side → Property → ℕ → Term → Term
  -- (e e')_r
  app : Reader → Term → Term → Term
  -- (proj_i e)_r
  proj : Side → Reader → Term → Term
  -- (case e of inj₁(x). e₁ | inj₂(x). e₂)_r: label, result type, tested operand, two branches under one binder each
  case : Reader → ℕ → Term → Term → Term → Term
  -- (protect_ir e)
  protect : Indirect → Term → Term
  -- (μf : s. e)_r: label of the application that unrolling makes, function type, body under one binder
  mu : Reader → ℕ → Term → Term
  -- n_κ: property, value
  literal : Property → ℕ → Term
  -- (e + e')_r or (e < e')_r: operation, label, two operands
  reckon : Operation → Reader → Term → Term → Term

-- Values: units, literals, functions, and pairs and injections of values (manual, 6.1).
unfoldable pub is_value : Term → Bool
is_value (unit k) = true
is_value (lam k i e) = true
is_value (pair k a b) = is_value a && is_value b
is_value (inj d k i e) = is_value e
is_value (literal k n) = true
is_value _ = false

-- e[v/x] for a closed value v and the variable x that n binders separate from its own. Reduction never goes under a
-- binder, so x is the only free variable of e: nothing is shifted in v, and no other number falls.
unfoldable pub substitute : ℕ → Term → Term → Term
substitute n v (var m) = if nat_eq m n then v else var m
substitute n v (unit k) = unit k
substitute n v (lam k i e) = lam k i (substitute (suc n) v e)
substitute n v (pair k a b) = pair k (substitute n v a) (substitute n v b)
substitute n v (inj d k i e) = inj d k i (substitute n v e)
substitute n v (app w f a) = app w (substitute n v f) (substitute n v a)
substitute n v (proj d w e) = proj d w (substitute n v e)
substitute n v (case w i e a b) = case w i (substitute n v e) (substitute (suc n) v a) (substitute (suc n) v b)
substitute n v (protect m e) = protect m (substitute n v e)
substitute n v (mu w i e) = mu w i (substitute (suc n) v e)
substitute n v (literal k m) = literal k m
substitute n v (reckon o w a b) = reckon o w (substitute n v a) (substitute n v b)

-- bv_κ • ir is bv_(κ • ir)
unfoldable pub raise_value : Security → Term → Indirect → Term
raise_value S (var n) m = var n
raise_value S (unit k) m = unit (S.raise k m)
raise_value S (lam k i e) m = lam (S.raise k m) i e
raise_value S (pair k a b) m = pair (S.raise k m) a b
raise_value S (inj d k i e) m = inj d (S.raise k m) i e
raise_value S (app w f a) m = app w f a
raise_value S (proj d w e) m = proj d w e
raise_value S (case w i e a b) m = case w i e a b
raise_value S (protect n e) m = protect n e
raise_value S (mu w i e) m = mu w i e
raise_value S (literal k n) m = literal (S.raise k m) n
raise_value S (reckon o w a b) m = reckon o w a b
