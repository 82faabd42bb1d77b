-- The desk's questions, piece by piece, and what each piece is given.
use Rattle.std.specs.Prelude.{◌≡◌, Bool, true, false, [], ◌∷◌, ℕ, ◌≤◌}
use Rattle.calculus.specs.Types.{Ty}
use Rattle.calculus.specs.Subtyping.{subtype}
use Rattle.calculus.specs.Terms.{is_value}
use Rattle.rules.specs.Answer.{Bytes, Octets, Answer, accepted, refused, ◌>>=◌, ◌>>◌, last_below}
use Rattle.rules.specs.Limits.{script_limit, depth_limit}
use Rattle.rules.specs.Groups.{rows, join, meet, properties_of}
use Rattle.rules.specs.Types.{type_at}
use Rattle.rules.specs.Script.{encode, term, size, depth, q13}
use Rattle.rules.specs.Typing.{q21, typing}
use Rattle.rules.specs.Calls.{q25, q26, own_check, script_check}
use Rattle.rules.specs.Packet.{application, q39_if, q37, q38, q18_whole}
use Rattle.redex.specs.declared.Found.{Found}
use Rattle.redex.specs.declared.Found.TheVariants.{Value}
use Rattle.types.specs.Held.{Held}

-- is it a value that the search for the redex comes to?
abbrev pub says_value : Found → Bool
says_value (Value end) = true
says_value _ = false

-- the entry's 13 to 19 and 39
unfoldable pub entry_asked : Bytes → Bytes → Bytes → ℕ → Answer (Unit {0})
unfolding own_check q39_if
entry_asked g t entry profile = do
  own_check [] g t entry
  q39_if profile entry

-- 37, 21 and 38, of the types found of script and entry
unfoldable pub call_check : Bytes → ℕ → Ty → Ty → Answer (Unit {0})
unfolding subtype join meet last_below
call_check g group s u = do
  q37 s
  q21 (properties_of g) 0 s group
  q38 (properties_of g) u s

-- 13 and 18 of the application
unfoldable pub size_check : Bytes → Bytes → ℕ → ℕ → ℕ → Answer (Unit {0})
unfolding depth term
size_check script entry group first scratch = do
  q13 (first ∷ scratch ∷ []) (application group script entry)
  q18_whole (application group script entry)

-- what follows the entry's typing
unfoldable pub from_26 : Bytes → Bytes → Bytes → ℕ → ℕ → ℕ → Ty → Ty → Answer (Unit {0})
unfolding is_value term call_check size_check
from_26 g script entry group first scratch s u = do
  q26 (term entry)
  q25 0 group (rows g)
  call_check g group s u
  size_check script entry group first scratch

-- from the script's typing on
unfoldable pub from_typing : Bytes → Bytes → Bytes → Bytes → ℕ → ℕ → ℕ → ℕ → Answer (Unit {0})
unfolding typing type_at entry_asked from_26
from_typing g t script entry group profile first scratch = do
  s ← typing (properties_of g) (type_at t) [] 0 (term script)
  entry_asked g t entry profile
  u ← typing (properties_of g) (type_at t) [] 0 (term entry)
  from_26 g script entry group first scratch s u

-- A script that has passed 2 to 19.
pub record Accepted19 (g t s : Bytes) : Type 0 where
  pub groups : Octets g
  pub script : Octets s
  pub passed : script_check [] g t s ≡ accepted tt

-- A script that is a whole term within the limits.
pub record WholeTerm (s : Bytes) : Type 0 where
  pub encoded : encode (term s) ≡ s
  pub small : size (term s) ≤ script_limit
  pub shallow : depth (term s) ≤ depth_limit

-- What a typing says, whose type is set apart.
pub data SetApart : Answer Ty → Answer (Unit {0}) → Bytes → Type 0 where
  found_apart : {s : Ty} {w : Bytes} → Held w s → SetApart (accepted s) (accepted tt) w
  refused_apart : {q p : ℕ} {w : Bytes} → SetApart (refused q p) (refused q p) w

-- Script and entry have passed 2 to 19, and their types are at hand.
pub record TypesAtHand (g t script entry s u : Bytes) : Type 0 where
  pub script_passed : Accepted19 g t script
  pub entry_passed : Accepted19 g t entry
  pub script_type : Ty
  pub script_held : Held s script_type
  pub entry_type : Ty
  pub entry_held : Held u entry_type
