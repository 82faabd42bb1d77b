-- What an accepted call says of its questions, one after another.
use Rattle.std.proofs.Common.{◌≡◌, refl, sym, ap, Bool, true, false, ◌&&◌, ℕ, arith}
use Rattle.std.proofs.Math.Bool.{false≢true}
use Rattle.rules.specs.Answer.{Answer, accepted, refused, ◌>>◌, ask}

abbrev is_accepted : {A : Type 0} → Answer A → Bool
is_accepted (accepted a) = true
is_accepted (refused q p) = false

pub accepted≢refused : {P : Type 0} {A : Type 0} {q p : ℕ} {a : A} → accepted a ≡ refused q p → P
accepted≢refused e = absurd (false≢true (ap is_accepted (sym e)))

pub number_inj : {A : Type 0} {q q' p p' : ℕ} → ◌≡◌ {A = Answer A} (refused q p) (refused q' p') → q ≡ q'
number_inj e = cc

pub place_inj : {A : Type 0} {q p p' : ℕ} → ◌≡◌ {A = Answer A} (refused q p) (refused q p') → p ≡ p'
place_inj e = cc

pub accepted_inj : {A : Type 0} {a b : A} → accepted a ≡ accepted b → a ≡ b
accepted_inj e = cc

pub both : (a b : Bool) → a && b ≡ true → (a ≡ true) × (b ≡ true)
both a b e = grind arith

-- and back: questions that are all answered yes
pub go_on : {A : Type 0} {a : Answer (Unit {0})} {b : Answer A} {x : A} → a ≡ accepted tt → b ≡ accepted x → ◌>>◌ a b ≡ accepted x
go_on {A} {a} {b} {x} h k = rw (h, k)

pub asks : (q place : ℕ) (b : Bool) → b ≡ true → ask q place b ≡ accepted tt
asks q place b h = rw h

pub and_true : {a b : Bool} → a ≡ true → b ≡ true → a && b ≡ true
and_true x y = rw (x, y)

-- equal answers after equal questions
pub then_same : {A : Type 0} (a a' : Answer (Unit {0})) (b b' : Answer A) → a ≡ a' → (a' ≡ accepted tt → b ≡ b') → ◌>>◌ a b ≡ ◌>>◌ a' b'
then_same a a' b b' e h = grind arith
