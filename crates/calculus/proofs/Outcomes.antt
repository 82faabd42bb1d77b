-- What the outcome of an operand makes of the whole.
use Rattle.std.proofs.Common.{◌≡◌, refl, sym, ap, ◌∙◌, Bool, true, false, IsTrue, arith}
use Rattle.std.proofs.Math.Bool.{false≢true}
use Rattle.calculus.specs.Terms.{Term}
use Rattle.calculus.specs.Reduction.{Outcome, value, moved, denied, stuck, operand_first}

pub moved_injective : {e e' : Term} → moved e ≡ moved e' → e ≡ e'
moved_injective h = cc

-- Only `moved` is followed by a further term.
abbrev pub is_moved : Outcome → Bool
is_moved (moved e) = true
is_moved _ = false

pub moved_only : {P : Type 0} {x : Outcome} {e : Term} → is_moved x ≡ false → x ≡ moved e → P
moved_only h m = absurd (false≢true (sym h ∙ ap is_moved m))

-- Every other outcome of an operand is one of the whole; after a value it is the next one's turn.
abbrev pub unfinished : Outcome → Bool
unfinished value = false
unfinished _ = true

-- the outcome of a term in a context, given the term's own
abbrev pub within : (Term → Term) → Outcome → Outcome
within place value = value
within place (moved e) = moved (place e)
within place denied = denied
within place stuck = stuck

pub within_itself : (x : Outcome) → x ≡ within (λ e. e) x
within_itself x = grind arith

pub operand_value : (x : Outcome) (f : Term → Term) (next : Outcome) → x ≡ value → operand_first x f next ≡ next
unfolding operand_first
operand_value x f next h = rw h

pub operand_within : (f g : Term → Term) (x next : Outcome) → IsTrue (unfinished x) → operand_first (within g x) f next ≡ within (λ e. f (g e)) x
unfolding operand_first
operand_within f g x next h = grind arith
