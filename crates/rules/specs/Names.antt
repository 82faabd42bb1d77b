-- Terms with names, and what a variable means in them: the nearest binder of its name (manual, 7.9).
use Rattle.std.specs.Prelude.{◌≡◌, if◌then◌else◌, List, [], ◌∷◌, ◌++◌, ℕ, suc, ◌-◌, nat_eq}
use Rattle.calculus.specs.Security.{Property, Reader, Indirect}
use Rattle.calculus.specs.Terms.{Side, Operation, Term, var, unit, lam, pair, inj, app, proj, case, protect, mu}
use Rattle.calculus.specs.Terms.{literal, reckon}

-- A term whose binders and variables have names. A name stands after the number that its record holds: a function and a
-- recursion bind one, a case one in each branch.
pub data Named : Type 0 where
  named_var : ℕ → Named
  named_unit : Property → Named
  named_lam : Property → ℕ → ℕ → Named → Named
  named_pair : Property → Named → Named → Named
  named_inj : Side → Property → ℕ → Named → Named
  named_app : Reader → Named → Named → Named
  named_proj : Side → Reader → Named → Named
  -- the first branch's name and the second's
  named_case : Reader → ℕ → ℕ → ℕ → Named → Named → Named → Named
  named_protect : Indirect → Named → Named
  named_mu : Reader → ℕ → ℕ → Named → Named
  named_literal : Property → ℕ → Named
  named_reckon : Operation → Reader → Named → Named → Named

-- Of the binders over a record, the nearest first, number n is the nearest with name x.
pub data Nearest (x : ℕ) : List ℕ → ℕ → Type 0 where
  nearest_here : {ns : List ℕ} → Nearest x (x ∷ ns) 0
  nearest_further : {y n : ℕ} {ns : List ℕ} → (x ≡ y → ⊥) → Nearest x ns n → Nearest x (y ∷ ns) (suc n)

-- Under binders of these names, the nearest first, a term with names means a term: each variable has the number of the
-- nearest binder of its name. A branch's name holds in that branch alone, neither in the other nor in the tested
-- operand.
pub data Means : List ℕ → Named → Term → Type 0 where
  means_var : {ns : List ℕ} {x n : ℕ} → Nearest x ns n → Means ns (named_var x) (var n)
  means_unit : {ns : List ℕ} {k : Property} → Means ns (named_unit k) (unit k)
  means_lam : {ns : List ℕ} {k : Property} {i x : ℕ} {e : Named} {e' : Term} → Means (x ∷ ns) e e' → Means ns (named_lam k i x e) (lam k i e')
  means_pair : {ns : List ℕ} {k : Property} {a b : Named} {a' b' : Term} → Means ns a a' → Means ns b b' → Means ns (named_pair k a b) (pair k a' b')
  means_inj : {ns : List ℕ} {d : Side} {k : Property} {i : ℕ} {e : Named} {e' : Term} → Means ns e e' → Means ns (named_inj d k i e) (inj d k i e')
  means_app : {ns : List ℕ} {w : Reader} {f a : Named} {f' a' : Term} → Means ns f f' → Means ns a a' → Means ns (named_app w f a) (app w f' a')
  means_proj : {ns : List ℕ} {d : Side} {w : Reader} {e : Named} {e' : Term} → Means ns e e' → Means ns (named_proj d w e) (proj d w e')
  means_case : {ns : List ℕ} {w : Reader} {i x y : ℕ} {e a b : Named} {e' a' b' : Term} → Means ns e e' → Means (x ∷ ns) a a' → Means (y ∷ ns) b b'
      → Means ns (named_case w i x y e a b) (case w i e' a' b')
  means_protect : {ns : List ℕ} {m : Indirect} {e : Named} {e' : Term} → Means ns e e' → Means ns (named_protect m e) (protect m e')
  means_mu : {ns : List ℕ} {w : Reader} {i x : ℕ} {e : Named} {e' : Term} → Means (x ∷ ns) e e' → Means ns (named_mu w i x e) (mu w i e')
  means_literal : {ns : List ℕ} {k : Property} {n : ℕ} → Means ns (named_literal k n) (literal k n)
  means_reckon : {ns : List ℕ} {o : Operation} {w : Reader} {a b : Named} {a' b' : Term} → Means ns a a' → Means ns b b'
      → Means ns (named_reckon o w a b) (reckon o w a' b')

-- the number of the nearest binder with name x; where none has it, how many there are
unfoldable pub nearest : ℕ → List ℕ → ℕ
nearest x [] = 0
nearest x (y ∷ ns) = if nat_eq x y then 0 else suc (nearest x ns)

-- the term that is meant
unfoldable pub meant : List ℕ → Named → Term
meant ns (named_var x) = var (nearest x ns)
meant ns (named_unit k) = unit k
meant ns (named_lam k i x e) = lam k i (meant (x ∷ ns) e)
meant ns (named_pair k a b) = pair k (meant ns a) (meant ns b)
meant ns (named_inj d k i e) = inj d k i (meant ns e)
meant ns (named_app w f a) = app w (meant ns f) (meant ns a)
meant ns (named_proj d w e) = proj d w (meant ns e)
meant ns (named_case w i x y e a b) = case w i (meant ns e) (meant (x ∷ ns) a) (meant (y ∷ ns) b)
meant ns (named_protect m e) = protect m (meant ns e)
meant ns (named_mu w i x e) = mu w i (meant (x ∷ ns) e)
meant ns (named_literal k n) = literal k n
meant ns (named_reckon o w a b) = reckon o w (meant ns a) (meant ns b)

-- the names of the binders over each record, in the records' order
unfoldable pub scopes : List ℕ → Named → List (List ℕ)
scopes ns (named_lam k i x e) = ns ∷ scopes (x ∷ ns) e
scopes ns (named_pair k a b) = ns ∷ (scopes ns a ++ scopes ns b)
scopes ns (named_inj d k i e) = ns ∷ scopes ns e
scopes ns (named_app w f a) = ns ∷ (scopes ns f ++ scopes ns a)
scopes ns (named_proj d w e) = ns ∷ scopes ns e
scopes ns (named_case w i x y e a b) = ns ∷ (scopes ns e ++ (scopes (x ∷ ns) a ++ scopes (y ∷ ns) b))
scopes ns (named_protect m e) = ns ∷ scopes ns e
scopes ns (named_mu w i x e) = ns ∷ scopes (x ∷ ns) e
scopes ns (named_reckon o w a b) = ns ∷ (scopes ns a ++ scopes ns b)
scopes ns _ = ns ∷ []

-- A term with names again: each binder is named by its count of binders outside it, and n of them are outside of the
-- term. Variable m's binder has m binders inside it.
unfoldable pub level_names : ℕ → Term → Named
level_names n (var m) = named_var (n - suc m)
level_names n (unit k) = named_unit k
level_names n (lam k i e) = named_lam k i n (level_names (suc n) e)
level_names n (pair k a b) = named_pair k (level_names n a) (level_names n b)
level_names n (inj d k i e) = named_inj d k i (level_names n e)
level_names n (app w f a) = named_app w (level_names n f) (level_names n a)
level_names n (proj d w e) = named_proj d w (level_names n e)
level_names n (case w i e a b) = named_case w i n n (level_names n e) (level_names (suc n) a) (level_names (suc n) b)
level_names n (protect m e) = named_protect m (level_names n e)
level_names n (mu w i e) = named_mu w i n (level_names (suc n) e)
level_names n (literal k m) = named_literal k m
level_names n (reckon o w a b) = named_reckon o w (level_names n a) (level_names n b)
