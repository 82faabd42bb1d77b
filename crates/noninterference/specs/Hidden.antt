-- What an observer can't tell, by labels alone: no term here need have a type.
use Rattle.std.specs.Prelude.{◌≡◌, Bool, false, ◌||◌, ℕ, IsTrue}
use Rattle.calculus.specs.Security.{Property, Reader, Indirect, Security, Laws}
use Rattle.calculus.specs.Types.{Ty}
use Rattle.calculus.specs.Terms.{Side, Operation, Term, var, unit, lam, pair, inj, app, proj, case, protect, mu}
use Rattle.calculus.specs.Terms.{literal, reckon}
use Rattle.calculus.specs.Typing.{Table}
use Rattle.noninterference.specs.Places.{Place, put}
use Rattle.noninterference.specs.Noninterference.{EndsInValue}

-- Who looks: three tests say what is hidden from him, and four maps what he keeps of the labels of all else.
pub record Observer : Type 0 where
  -- an object with this property is hidden,
  pub hidden : Property → Bool
  -- so is what a protect with this label gives,
  pub hiding : Indirect → Bool
  -- and so is what is read as this group
  pub foreign : Reader → Bool
  -- of all else, what he keeps of a property, of a protect's label and of a reader
  pub object : Property → Property
  pub influence : Indirect → Indirect
  pub reader : Reader → Reader
  -- of the type numbers that no run reads: those of functions, injections and cases
  pub number : ℕ → ℕ

-- Whatever value this term may come to, it is hidden. The argument of an application, the branches of a case and a
-- recursion say nothing of that.
unfoldable pub dark : Observer → Term → Bool
dark O (var n) = false
dark O (unit k) = O.hidden k
dark O (lam k i e) = O.hidden k
dark O (pair k a b) = O.hidden k
dark O (inj d k i e) = O.hidden k
dark O (app w f a) = O.foreign w || dark O f
dark O (proj d w e) = O.foreign w || dark O e
dark O (case w i e a b) = O.foreign w || dark O e
dark O (protect m e) = O.hiding m || dark O e
dark O (mu w i e) = false
dark O (literal k n) = O.hidden k
dark O (reckon o w a b) = O.foreign w || (dark O a || dark O b)

-- Two terms that the observer can't tell apart: both are dark, whatever stands in them, or they are one kind of node
-- with labels of which he keeps the same, and their parts are alike.
pub data Alike (O : Observer) : Term → Term → Type 0 where
  -- what is dark may be anything; all else is of one kind, with alike parts
  both_dark : {e e' : Term} → IsTrue (dark O e) → IsTrue (dark O e') → Alike O e e'
  variables : {n : ℕ} → Alike O (var n) (var n)
  units : {k l : Property} → O.object k ≡ O.object l → Alike O (unit k) (unit l)
  functions : {k l : Property} {i j : ℕ} {e e' : Term} → O.object k ≡ O.object l → O.number i ≡ O.number j → Alike O e e'
      → Alike O (lam k i e) (lam l j e')
  pairs : {k l : Property} {a b a' b' : Term} → O.object k ≡ O.object l → Alike O a a' → Alike O b b' → Alike O (pair k a b) (pair l a' b')
  injections : {d : Side} {k l : Property} {i j : ℕ} {e e' : Term} → O.object k ≡ O.object l → O.number i ≡ O.number j → Alike O e e'
      → Alike O (inj d k i e) (inj d l j e')
  applications : {w v : Reader} {f a f' a' : Term} → O.reader w ≡ O.reader v → Alike O f f' → Alike O a a' → Alike O (app w f a) (app v f' a')
  projections : {d : Side} {w v : Reader} {e e' : Term} → O.reader w ≡ O.reader v → Alike O e e' → Alike O (proj d w e) (proj d v e')
  cases : {w v : Reader} {i j : ℕ} {e a b e' a' b' : Term} → O.reader w ≡ O.reader v → O.number i ≡ O.number j → Alike O e e' → Alike O a a'
      → Alike O b b' → Alike O (case w i e a b) (case v j e' a' b')
  protects : {m n : Indirect} {e e' : Term} → O.influence m ≡ O.influence n → Alike O e e' → Alike O (protect m e) (protect n e')
  recursions : {w v : Reader} {i : ℕ} {e e' : Term} → O.reader w ≡ O.reader v → Alike O e e' → Alike O (mu w i e) (mu v i e')
  literals : {k l : Property} {n : ℕ} → O.object k ≡ O.object l → Alike O (literal k n) (literal l n)
  reckonings : {o : Operation} {w v : Reader} {a b a' b' : Term} → O.reader w ≡ O.reader v → Alike O a a' → Alike O b b'
      → Alike O (reckon o w a b) (reckon o v a' b')

-- At no place in it stands anything dark, also not in a function's body.
abbrev pub Clear : Observer → Term → Type 0
Clear O e = (P : Place) (a : Term) → e ≡ put P a → dark O a ≡ false

-- Every label is one of groups, with ir ⊑ r and ic ⊑ c, as questions 15 and 36 ask.
abbrev pub Labelled : Security → Term → Type 0
Labelled S (var n) = Unit {0}
Labelled S (unit k) = IsTrue (S.secure k)
Labelled S (lam k i e) = IsTrue (S.secure k) × Labelled S e
Labelled S (pair k a b) = IsTrue (S.secure k) × Labelled S a × Labelled S b
Labelled S (inj d k i e) = IsTrue (S.secure k) × Labelled S e
Labelled S (app w f a) = Labelled S f × Labelled S a
Labelled S (proj d w e) = Labelled S e
Labelled S (case w i e a b) = Labelled S e × Labelled S a × Labelled S b
Labelled S (protect m e) = IsTrue (S.secure_i m) × Labelled S e
Labelled S (mu w i e) = Labelled S e
Labelled S (literal k n) = IsTrue (S.secure k)
Labelled S (reckon o w a b) = Labelled S a × Labelled S b

-- What is asked of an observer. What is hidden stays so when it is raised, and hides what is read of it; and what he
-- keeps of a new label depends on nothing but what he keeps of those that it is made of.
pub record Observes (S : Security) (O : Observer) : Type 0 where
  -- what is hidden stays so when it is raised,
  pub raised : (k : Property) (m : Indirect) → IsTrue (S.secure k) → IsTrue (S.secure_i m) → IsTrue (O.hiding m || O.hidden k)
      → IsTrue (O.hidden (S.raise k m))
  -- and hides what is read of it
  pub read : (k : Property) (w : Reader) → IsTrue (S.secure k) → IsTrue (S.permits k w) → IsTrue (O.foreign w || O.hidden k)
      → IsTrue (O.hiding (S.influence k w))
  -- what he keeps of a new label depends on what he keeps of those that it is made of
  pub same_raised : (k l : Property) (m n : Indirect) → O.object k ≡ O.object l → O.influence m ≡ O.influence n
      → O.object (S.raise k m) ≡ O.object (S.raise l n)
  pub same_read : (k l : Property) (w v : Reader) → O.object k ≡ O.object l → O.reader w ≡ O.reader v
      → O.influence (S.influence k w) ≡ O.influence (S.influence l v)
  pub same_fresh : (w v : Reader) → O.reader w ≡ O.reader v → O.object (S.fresh w) ≡ O.object (S.fresh v)
  pub same_caller : (k : Property) (w v : Reader) → O.reader w ≡ O.reader v → O.reader (S.caller k w) ≡ O.reader (S.caller k v)

-- Two terms that are alike, both of which run to a value, run to values that are alike.
unfoldable pub AlikeRunsEndAlike : Type 0
AlikeRunsEndAlike =
    (S : Security) (tab : ℕ → Ty) (O : Observer) (e e' v v' : Term) → Laws S → Table S tab → Observes S O → Labelled S e → Labelled S e'
    → Alike O e e' → EndsInValue S tab e v → EndsInValue S tab e' v' → Alike O v v' × Labelled S v × Labelled S v'

-- Parts that are alike, at the same place, make terms that are alike.
unfoldable pub AlikeAtAPlace : Type 0
AlikeAtAPlace = (O : Observer) (P : Place) (a b : Term) → Alike O a b → Alike O (put P a) (put P b)
