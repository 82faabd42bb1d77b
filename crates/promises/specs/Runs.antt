-- A run as its steps: what it ends with, and what it reaches. `room` is the shorter of its two buffers.
use Rattle.std.specs.Prelude.{◌≡◌, true, false, ℕ, suc}
use Rattle.calculus.specs.Terms.{Term, is_value}
use Rattle.rules.specs.Answer.{Bytes, Answer, accepted}
use Rattle.rules.specs.Script.{encode, term}
use Rattle.rules.specs.Step.{End, moves, end_number}
use Rattle.rules.specs.Calls.{step_call}

-- a step takes the script s to a term, and s' has its bytes
pub data MovesBy (step : Bytes → Answer End) (s : Bytes) : Bytes → Type 0 where
  moved_to : {e : Term} → step s ≡ accepted (moves e) → MovesBy step s (encode e)

-- a step of the call takes one script to another, in a buffer of `room` bytes
abbrev pub MovesTo : Bytes → Bytes → ℕ → Bytes → Bytes → Type 0
MovesTo g t room = MovesBy (λ s. step_call g t s room)

-- Repeating the step within a budget: ends 0, 2, 3 and 4 end it; when as many steps have moved as the budget has, a
-- value ends 0 and any other term 1. The indexes are the budget, the script, the end, the steps made, and the last
-- term's bytes.
pub data Repeats (g t : Bytes) (room : ℕ) : ℕ → Bytes → ℕ → ℕ → Bytes → Type 0 where
  spent_on_value : {s : Bytes} → is_value (term s) ≡ true → Repeats g t room 0 s 0 0 s
  spent : {s : Bytes} → is_value (term s) ≡ false → Repeats g t room 0 s 1 0 s
  stops : {budget : ℕ} {s : Bytes} {x : End} → step_call g t s room ≡ accepted x → (end_number x ≡ 1 → ⊥) → Repeats g t room (suc budget) s (end_number x) 0 s
  goes_on : {budget end steps : ℕ} {s s' last : Bytes} → MovesTo g t room s s' → Repeats g t room budget s' end steps last
      → Repeats g t room (suc budget) s end (suc steps) last

-- Within its budget, a run reaches the script and the term after each step that moved.
pub data ReachesBy (step : Bytes → Answer End) : ℕ → Bytes → Bytes → Type 0 where
  the_script : {budget : ℕ} {s : Bytes} → ReachesBy step budget s s
  after_step : {budget : ℕ} {s s' u : Bytes} → MovesBy step s s' → ReachesBy step budget s' u → ReachesBy step (suc budget) s u

-- the same of the step's call
abbrev pub Reaches : Bytes → Bytes → ℕ → ℕ → Bytes → Bytes → Type 0
Reaches g t room = ReachesBy (λ s. step_call g t s room)
