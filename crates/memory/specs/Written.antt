-- Pieces written one after the other into a lent buffer.
use Rattle.std.specs.Prelude.{◌≡◌, List, ℕ, ◌+◌, ◌≤◌, length}
use Rattle.memory.specs.Splice.{splice}
use Rattle.memory.specs.declared.Writer.{Writer}

-- the buffer takes b after what is written
abbrev pub Room : List ℕ → Writer → Type 0
Room b w = w.end + length b ≤ length w.out.now

-- b was written there, and the next piece goes after it
pub record Written (b : List ℕ) (w w' : Writer) : Type 0 where
  pub fits : Room b w
  pub ends : w'.end ≡ w.end + length b
  pub holds : w'.out.now ≡ splice w.end b w.out.now
  pub same_buffer : w'.out.ghost_name ≡ w.out.ghost_name
