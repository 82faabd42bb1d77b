-- Types and terms that differ in labels only: every property, reader and indirect reader is replaced, and nothing else.
use Rattle.std.specs.Prelude.{ℕ}
use Rattle.calculus.specs.Security.{Property, Reader, Indirect}
use Rattle.calculus.specs.Types.{Ty, leaf, node}
use Rattle.calculus.specs.Terms.{Term, var, unit, lam, pair, inj, app, proj, case, protect, mu, literal, reckon}
use Rattle.calculus.specs.Reduction.{Outcome, value, moved, denied, stuck}

-- what becomes of each label
pub record Labels : Type 0 where
  pub property : Property → Property
  pub reader : Reader → Reader
  pub indirect : Indirect → Indirect
  -- the label of a recursion of type i
  pub recursion : ℕ → Reader → Reader

-- a type with each property replaced
unfoldable pub relabel_t : Labels → Ty → Ty
relabel_t R (leaf b k) = leaf b (R.property k)
relabel_t R (node f k s t) = node f (R.property k) (relabel_t R s) (relabel_t R t)

-- a term with each of its labels replaced
unfoldable pub relabel : Labels → Term → Term
relabel R (var n) = var n
relabel R (unit k) = unit (R.property k)
relabel R (lam k i e) = lam (R.property k) i (relabel R e)
relabel R (pair k a b) = pair (R.property k) (relabel R a) (relabel R b)
relabel R (inj d k i e) = inj d (R.property k) i (relabel R e)
relabel R (app w f a) = app (R.reader w) (relabel R f) (relabel R a)
relabel R (proj d w e) = proj d (R.reader w) (relabel R e)
relabel R (case w i e a b) = case (R.reader w) i (relabel R e) (relabel R a) (relabel R b)
relabel R (protect m e) = protect (R.indirect m) (relabel R e)
relabel R (mu w i e) = mu (R.recursion i w) i (relabel R e)
relabel R (literal k n) = literal (R.property k) n
relabel R (reckon o w a b) = reckon o (R.reader w) (relabel R a) (relabel R b)
