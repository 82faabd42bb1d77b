-- A place in a script and what stands there, what of a value is compared, and the types that an observer reads whole.
use Rattle.std.specs.Prelude.{Bool, false, ◌&&◌, List, [], ◌∷◌, ◌++◌, ℕ}
use Rattle.calculus.specs.Security.{Property, Reader, Indirect}
use Rattle.calculus.specs.Groups.{Groups}
use Rattle.calculus.specs.Types.{function, Ty, leaf, node}
use Rattle.calculus.specs.Terms.{Side, first, second, Operation, plus, less, Term, var, unit, lam, pair, inj, app, proj}
use Rattle.calculus.specs.Terms.{case, protect, mu, literal, reckon}

-- A place: all of a script but what stands there, which may be under binders too.
pub data Place : Type 0 where
  whole : Place
  in_lam : Property → ℕ → Place → Place
  in_pair_left : Property → Place → Term → Place
  in_pair_right : Property → Term → Place → Place
  at_inj : Side → Property → ℕ → Place → Place
  in_app_left : Reader → Place → Term → Place
  in_app_right : Reader → Term → Place → Place
  at_proj : Side → Reader → Place → Place
  in_tested : Reader → ℕ → Place → Term → Term → Place
  in_first : Reader → ℕ → Term → Place → Term → Place
  in_second : Reader → ℕ → Term → Term → Place → Place
  at_protect : Indirect → Place → Place
  in_mu : Reader → ℕ → Place → Place
  in_reckon_left : Operation → Reader → Place → Term → Place
  in_reckon_right : Operation → Reader → Term → Place → Place

-- the script in which this term stands at the place
unfoldable pub put : Place → Term → Term
put whole e = e
put (in_lam k i C) e = lam k i (put C e)
put (in_pair_left k C b) e = pair k (put C e) b
put (in_pair_right k a C) e = pair k a (put C e)
put (at_inj d k i C) e = inj d k i (put C e)
put (in_app_left w C a) e = app w (put C e) a
put (in_app_right w f C) e = app w f (put C e)
put (at_proj d w C) e = proj d w (put C e)
put (in_tested w i C a b) e = case w i (put C e) a b
put (in_first w i c C b) e = case w i c (put C e) b
put (in_second w i c a C) e = case w i c a (put C e)
put (at_protect m C) e = protect m (put C e)
put (in_mu w i C) e = mu w i (put C e)
put (in_reckon_left o w C b) e = reckon o w (put C e) b
put (in_reckon_right o w a C) e = reckon o w a (put C e)

-- what is compared of a record: its kind, or, of a literal, that it is one and its number
pub data Shown : Type 0 where
  shown_kind : ℕ → Shown
  shown_literal : ℕ → Shown

-- The kinds of record of a term in script order, with the numbers of literals.
unfoldable pub shown_records : Term → List Shown
shown_records (var n) = shown_kind 0 ∷ []
shown_records (unit k) = shown_kind 1 ∷ []
shown_records (lam k i e) = shown_kind 2 ∷ shown_records e
shown_records (pair k a b) = shown_kind 3 ∷ (shown_records a ++ shown_records b)
shown_records (inj first k i e) = shown_kind 4 ∷ shown_records e
shown_records (inj second k i e) = shown_kind 5 ∷ shown_records e
shown_records (app w f a) = shown_kind 6 ∷ (shown_records f ++ shown_records a)
shown_records (proj first w e) = shown_kind 7 ∷ shown_records e
shown_records (proj second w e) = shown_kind 8 ∷ shown_records e
shown_records (case w i e a b) = shown_kind 9 ∷ (shown_records e ++ (shown_records a ++ shown_records b))
shown_records (protect m e) = shown_kind 10 ∷ shown_records e
shown_records (mu w i e) = shown_kind 11 ∷ shown_records e
shown_records (literal k n) = shown_literal n ∷ []
shown_records (reckon plus w a b) = shown_kind 13 ∷ (shown_records a ++ shown_records b)
shown_records (reckon (less i) w a b) = shown_kind 14 ∷ (shown_records a ++ shown_records b)

-- The readers and the indirect readers of one record are ⊑ those of k.
abbrev pub readers_within : Groups → Property → Property → Bool
readers_within G k l = G.leq l.ir k.ir && G.leq l.r k.r

-- A type that holds no function, and of which every record passes the test.
unfoldable pub plain : (Property → Bool) → Ty → Bool
plain f (leaf b l) = f l
plain f (node function l s t) = false
plain f (node _ l s t) = f l && (plain f s && plain f t)

-- It holds no function, and of every record of it the readers are so.
abbrev pub type_within : Groups → Property → Ty → Bool
type_within G k = plain (readers_within G k)

-- It holds no function, and its indirect creators are all ⊒ h.
abbrev pub made_within : Groups → ℕ → Ty → Bool
made_within G h = plain (λ l. G.leq h l.ic)
