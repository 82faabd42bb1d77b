-- Pairs of terms over two groups 0 ⊑ 1: such as an observer tells apart when they run, so that none of them may count
-- as alike, and such as are alike.
use Rattle.std.specs.Prelude.{◌&&◌, ℕ, zero, suc, min, max, nat_le, nat_lt}
use Rattle.calculus.specs.Security.{Property}
use Rattle.calculus.specs.Groups.{Groups, properties}
use Rattle.calculus.specs.Types.{one, sum, function, Ty, leaf, node}
use Rattle.calculus.specs.Terms.{less, Term, var, unit, lam, pair, app, case, protect, mu, literal, reckon}
use Rattle.calculus.specs.Typing.{Table}
use Rattle.noninterference.specs.Noninterference.{EndsInValue}
use Rattle.noninterference.specs.Hidden.{Observer, Alike}
use Rattle.noninterference.specs.Observers.{reader_at, who_trusts, exact}

abbrev pub two : Groups
two = record { group = λ g. nat_lt g 2; leq = λ g h. nat_le g h && nat_lt h 2; join = max; meet = min }

-- (r, ir, c, ic): open to 0; closed to 0, yet what is read of it is open; closed to 0 with all that is read of it; and
-- made by 1
abbrev pub open_to_all : Property
open_to_all = record { r = 0; ir = 0; c = 0; ic = 0 }

abbrev pub closed_alone : Property
closed_alone = record { r = 1; ir = 0; c = 0; ic = 0 }

abbrev pub secret : Property
secret = record { r = 1; ir = 1; c = 0; ic = 0 }

abbrev pub made_by_1 : Property
made_by_1 = record { r = 0; ir = 0; c = 1; ic = 1 }

-- a table of types: type 0 is a sum of two units, types 1 and 2 are its sides, type 3 is a function type, and the types
-- after it are units
abbrev pub types : ℕ → Ty
types zero = node sum open_to_all (leaf one open_to_all) (leaf one open_to_all)
types (suc (suc (suc zero))) = node function made_by_1 (leaf one made_by_1) (leaf one made_by_1)
types (suc (suc (suc (suc i)))) = leaf one made_by_1
types _ = leaf one open_to_all

-- It is such a table as the law of terms that are alike asks for.
unfoldable pub TypesOfPairs : Type 0
TypesOfPairs = Table (properties two) types

-- Two terms come to values that aren't alike. So they aren't alike themselves.
pub record ToldApart (O : Observer) (e e' : Term) : Type 0 where
  pub first : Term
  pub second : Term
  pub first_ends : EndsInValue (properties two) types e first
  pub second_ends : EndsInValue (properties two) types e' second
  pub apart : Alike O first second → ⊥
  pub not_alike : Alike O e e' → ⊥

-- Is a number that is closed by its r alone less than 2? The answer is open.
abbrev pub asked : ℕ → Term
asked n = reckon (less 0) 1 (literal closed_alone n) (literal open_to_all 2)

-- This number is given whatever secret the application has for its argument.
abbrev pub forgetful : ℕ → Term
forgetful n = app 1 (lam open_to_all 0 (literal open_to_all n)) (literal secret 7)

-- A recursion whose group is 0 gives a function that 1 made.
abbrev pub unrolled_as_0 : ℕ → Term
unrolled_as_0 n = mu 0 3 (lam made_by_1 0 (literal made_by_1 n))

unfoldable pub ReadersAloneHideNothing : Type 0
ReadersAloneHideNothing = ToldApart (reader_at two 0) (asked 1) (asked 2)

unfoldable pub ArgumentsHideNothing : Type 0
ArgumentsHideNothing = ToldApart (reader_at two 0) (forgetful 1) (forgetful 2)

unfoldable pub RecursionsHideNothing : Type 0
RecursionsHideNothing = ToldApart (who_trusts two 1) (unrolled_as_0 1) (unrolled_as_0 2)

-- But a case by a secret number hides what it gives, a unit or a function, and a protect what stands in it.
abbrev pub chosen_in_secret : ℕ → Term
chosen_in_secret n =
    pair open_to_all (case 1 0 (reckon (less 0) 1 (literal secret n) (literal open_to_all 2)) (unit open_to_all) (lam open_to_all 0 (var 0)))
    (protect (record { ir = 1; ic = 0 }) (literal open_to_all n))

unfoldable pub SecretsHide : Type 0
SecretsHide = (m n : ℕ) → Alike (exact (reader_at two 0)) (chosen_in_secret m) (chosen_in_secret n)

-- From who trusts 1, a reading as 0 hides what is read of what 1 made, and so does being made by others.
abbrev pub read_as_0 : ℕ → Term
read_as_0 n = pair made_by_1 (app 0 (lam made_by_1 0 (literal made_by_1 n)) (unit made_by_1)) (literal open_to_all n)

unfoldable pub OthersHide : Type 0
OthersHide = (m n : ℕ) → Alike (exact (who_trusts two 1)) (read_as_0 m) (read_as_0 n)

-- Readers don't heed creators, the groups of readings, nor numbers that no run reads; who trusts doesn't heed readers.
unfoldable pub ReadersDoNotHeed : Type 0
ReadersDoNotHeed =
    Alike (reader_at two 0) (app 0 (lam open_to_all 0 (var 0)) (protect (record { ir = 0; ic = 0 }) (unit made_by_1)))
    (app 1 (lam made_by_1 1 (var 0)) (protect (record { ir = 0; ic = 1 }) (unit open_to_all)))

unfoldable pub WhoTrustsDoesNotHeed : Type 0
WhoTrustsDoesNotHeed =
    Alike (who_trusts two 0) (lam open_to_all 0 (protect (record { ir = 0; ic = 0 }) (unit secret)))
    (lam closed_alone 1 (protect (record { ir = 1; ic = 0 }) (unit open_to_all)))
