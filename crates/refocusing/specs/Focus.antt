-- A run that goes on from the term in focus: how far it has come, and what stands where.
use Rattle.std.specs.Prelude.{◌≡◌, [], ◌++◌, ℕ, ◌+◌, ◌-◌, ◌*◌, ◌≤◌, ◌<◌, length, take, drop, Result, Ok, Err, IsTrue}
use Rattle.calculus.specs.Terms.{Term, is_value}
use Rattle.calculus.specs.Reduction.{Context, plug}
use Rattle.rules.specs.Answer.{Bytes}
use Rattle.rules.specs.Limits.{script_width}
use Rattle.rules.specs.Groups.{properties_of}
use Rattle.rules.specs.Types.{type_at}
use Rattle.rules.specs.Script.{encode, size}
use Rattle.rules.specs.Run.{Ran, ends, run}
use Rattle.redex.specs.Contexts.{offset, level}
use Rattle.redex.specs.Fates.{is_potential_redex}
use Rattle.reduction.specs.Steps.{Startable, reported_end}
use Rattle.refocusing.specs.declared.Point.{Point}
use Rattle.refocusing.specs.declared.Focus.{Focus}
use Rattle.refocusing.specs.declared.Focus.TheVariants.{Ahead, Turn, Value}
use Rattle.refocusing.specs.declared.Ended.{Ended}
use Rattle.refocusing.specs.Gap.{Gap}

-- a run with k steps more, made before it
abbrev pub later : ℕ → Ran → Ran
later k x = record { end = x.end; steps = k + x.steps; last = x.last }

-- A run of `whole` has come to e after k steps: what is left of it is a run of e. And e fits in `room` bytes.
pub record RunReaches (g t : Bytes) (room budget : ℕ) (whole e : Term) (k : ℕ) : Type 0 where
  pub start : Startable g t (encode e)
  pub fits : script_width * size e ≤ room
  pub made : k ≤ budget
  pub is : run (properties_of g) (type_at t) room budget whole
      ≡ later k (run (properties_of g) (type_at t) room (budget - k) e)

-- A run of `whole` has come to e in E, and of e the bytes x are passed and the bytes y come next.
pub record Stands (g t : Bytes) (room budget : ℕ) (whole : Term) (E : Context) (e : Term) (x y : Bytes)
    (p : Point) (a b : Bytes) : Type 0 where
  pub reached : RunReaches g t room budget whole (plug E e) p.steps
  pub gap : Gap E x y p a b

-- such a term comes next, `around` levels down
pub record Standing (g t : Bytes) (budget around : ℕ) (p : Point) (a b : Bytes) : Type 0 where
  pub whole : Term
  pub context : Context
  pub term : Term
  pub stands : Stands g t (length b) budget whole context term [] (encode term) p a b
  pub around_is : around ≡ level context
  pub same_length : length a ≡ length b

-- such a term lies left from record `at` on, and it is its turn
pub record FocusTurn (g t : Bytes) (budget at around : ℕ) (p : Point) (a b : Bytes) : Type 0 where
  pub whole : Term
  pub context : Context
  pub term : Term
  pub turn : IsTrue (is_potential_redex term)
  pub stands : Stands g t (length b) budget whole context term (encode term) [] p a b
  pub at_is : at ≡ offset context
  pub around_is : around ≡ level context
  pub same_length : length a ≡ length b

-- what evaluation says of the term in the hole of E
pub data Focused (g t : Bytes) (room budget : ℕ) (whole : Term) (E : Context) (a b : Bytes) : Focus → Type 0 where
  focus_ahead : {p : Point} (e : Term) → Stands g t room budget whole E e [] (encode e) p a b
      → Focused g t room budget whole E a b (Ahead p)
  focus_turn : {p : Point} (e : Term) → IsTrue (is_potential_redex e) → Stands g t room budget whole E e (encode e) [] p a b
      → Focused g t room budget whole E a b (Turn p)
  focus_value : {p : Point} (v : Term) → IsTrue (is_value v) → Stands g t room budget whole E v (encode v) [] p a b
      → Focused g t room budget whole E a b (Value p)

-- What is left to do falls with each step, and without a step from ahead to a turn and from there to a value.
abbrev pub left_to_do : ℕ → Focus → ℕ
left_to_do budget (Ahead p) = 3 * (budget - p.steps) + 2
left_to_do budget (Turn p) = 3 * (budget - p.steps) + 1
left_to_do budget (Value p) = 3 * (budget - p.steps)

-- A run of `whole` has ended as x tells, and its last term is what stands on both sides of the gap.
pub record EndedRun (g t : Bytes) (room budget : ℕ) (whole : Term) (a b : Bytes) (x : Ended) : Type 0 where
  pub last : Term
  pub is : run (properties_of g) (type_at t) room budget whole ≡ later x.point.steps (ends (reported_end x.stop) last)
  pub holds : take (script_width * x.point.left) a ++ drop (script_width * x.point.right) b ≡ encode last
  pub inside_a : script_width * x.point.left ≤ length a
  pub inside_b : script_width * x.point.right ≤ length b
  pub fits : script_width * size last ≤ room

-- Evaluation has gone on, with less than m left to do; or the run has ended.
pub data Advances (g t : Bytes) (room budget : ℕ) (whole : Term) (E : Context) (m : ℕ) (a b : Bytes)
    : Result Focus Ended → Type 0 where
  still_running : {f : Focus} → Focused g t room budget whole E a b f → left_to_do budget f < m
      → Advances g t room budget whole E m a b (Ok f)
  has_ended : {x : Ended} → EndedRun g t room budget whole a b x → Advances g t room budget whole E m a b (Err x)

-- The term in the hole of E has come to a value, with less than m left to do; or the run has ended.
pub data Settled (g t : Bytes) (room budget : ℕ) (whole : Term) (E : Context) (m : ℕ) (a b : Bytes)
    : Result Point Ended → Type 0 where
  settled_at_value : {p : Point} → Focused g t room budget whole E a b (Value p) → left_to_do budget (Value p) < m
      → Settled g t room budget whole E m a b (Ok p)
  run_ended : {x : Ended} → EndedRun g t room budget whole a b x → Settled g t room budget whole E m a b (Err x)
