-- What an accepted question says, and when a question is accepted.
use Rattle.std.proofs.Common.{◌≡◌, refl, ap, Bool, true, false, ◌&&◌, ℕ, ◌%◌, ◌≤◌, arith, eqb-true, leb-true, nat_eq}
use Rattle.std.proofs.Common.{nat_le, length}
use Rattle.std.proofs.Math.Option.{none, some, Option}
use Rattle.std.proofs.Math.Bool.{false≢true}
use Rattle.calculus.proofs.Booleans.{and_right}
use Rattle.rules.specs.Answer.{Bytes, Answer, accepted, ask, ◌>>◌, ◌⇒◌}
use Rattle.rules.specs.Limits.{group_limit, table_limit}
use Rattle.rules.specs.Groups.{rows, q2}
use Rattle.rules.specs.Types.{type_count, q8}
use Rattle.rules.specs.Script.{exactly}

pub ask_true : (q p : ℕ) (b : Bool) → ask q p b ≡ accepted tt → b ≡ true
ask_true q p b e = grind arith

pub implied : (a b : Bool) → (a ⇒ b) ≡ true → a ≡ true → b ≡ true
implied a b e h = grind arith

-- a question that is followed by others
pub and_then : {A : Type 0} (a : Answer (Unit {0})) (b : Answer A) {x : A} → ◌>>◌ a b ≡ accepted x → (a ≡ accepted tt) × (b ≡ accepted x)
and_then a b e = grind arith

pub regroup : {A : Type 0} (a b : Answer (Unit {0})) (c : Answer A) → ◌>>◌ (◌>>◌ a b) c ≡ ◌>>◌ a (◌>>◌ b c)
regroup a b c = grind arith

pub few_rows : (g : Bytes) → q2 g ≡ accepted tt → rows g ≤ group_limit
few_rows g e = grind arith

pub few_types : (t : Bytes) → q8 t ≡ accepted tt → type_count t ≤ table_limit
few_types t e = grind arith

-- question 17: a term ends with its script
pub exactly_some : (n : ℕ) (o : Option ℕ) → exactly n o ≡ accepted tt → o ≡ some n
exactly_some n o e = grind arith
