-- What is promised of two scripts that differ only in a part that may not be seen, or that others made.
use Rattle.std.specs.Prelude.{◌≡◌, false, [], ℕ, IsTrue}
use Rattle.std.proofs.Math.Option.{some}
use Rattle.calculus.specs.Security.{Security}
use Rattle.calculus.specs.Groups.{Groups, Lattice, properties}
use Rattle.calculus.specs.Types.{Ty, top}
use Rattle.calculus.specs.Terms.{Term, is_value}
use Rattle.calculus.specs.Runs.{Runs}
use Rattle.calculus.specs.Typing.{HasType, Table, infer}
use Rattle.noninterference.specs.Places.{Place, put, shown_records, type_within, made_within}

-- Two closed scripts, for both of which checking reports the same type, stand at the same place of an otherwise equal
-- closed script. Both whole scripts have one type by the rules.
pub record Exchanged (G : Groups) (tab : ℕ → Ty) (P : Place) (a b : Term) (s t : Ty) : Type 0 where
  pub first_reported : infer (properties G) tab [] a ≡ some s
  pub second_reported : infer (properties G) tab [] b ≡ some s
  pub first_typed : HasType (properties G) tab [] (put P a) t
  pub second_typed : HasType (properties G) tab [] (put P b) t

-- The whole's type, with readers (r', ir'), holds no function, its readers are all ⊑ r', its indirect readers all ⊑
-- ir', and the part's ir ⋢ ir'.
pub record SamePlace (G : Groups) (tab : ℕ → Ty) (P : Place) (a b : Term) (s t : Ty) : Type 0 where
  pub exchanged : Exchanged G tab P a b s t
  pub read_whole : IsTrue (type_within G (top t) t)
  pub not_seen : G.leq (top s).ir (top t).ir ≡ false

-- The whole's type, with indirect creators ic', holds no function, its indirect creators are all ⊒ ic', and ic' ⋢ the
-- part's ic.
pub record MadeByOthers (G : Groups) (tab : ℕ → Ty) (P : Place) (a b : Term) (s t : Ty) : Type 0 where
  pub exchanged : Exchanged G tab P a b s t
  pub made_whole : IsTrue (made_within G (top t).ic t)
  pub not_made : G.leq (top t).ic (top s).ic ≡ false

-- a run that ends 0: after some number of steps a value stands
pub record EndsInValue (S : Security) (tab : ℕ → Ty) (e v : Term) : Type 0 where
  pub steps : ℕ
  pub runs : Runs S tab steps e v
  pub ended : IsTrue (is_value v)

-- If both runs end 0, the two values are one, with all their groups and numbers.
unfoldable pub OneValue : Type 0
OneValue =
    (G : Groups) (tab : ℕ → Ty) (P : Place) (a b v v' : Term) (s t : Ty) → Lattice G → Table (properties G) tab → SamePlace G tab P a b s t
    → EndsInValue (properties G) tab (put P a) v → EndsInValue (properties G) tab (put P b) v' → v ≡ v'

-- So they have the same kinds of record in the same order, and equal literals.
unfoldable pub NothingLearned : Type 0
NothingLearned =
    (G : Groups) (tab : ℕ → Ty) (P : Place) (a b v v' : Term) (s t : Ty) → Lattice G → Table (properties G) tab → SamePlace G tab P a b s t
    → EndsInValue (properties G) tab (put P a) v → EndsInValue (properties G) tab (put P b) v' → shown_records v ≡ shown_records v'

-- The dual for creators: whoever trusts the whole learns nothing from an exchange of what others made.
unfoldable pub OneMade : Type 0
OneMade =
    (G : Groups) (tab : ℕ → Ty) (P : Place) (a b v v' : Term) (s t : Ty) → Lattice G → Table (properties G) tab → MadeByOthers G tab P a b s t
    → EndsInValue (properties G) tab (put P a) v → EndsInValue (properties G) tab (put P b) v' → v ≡ v'
