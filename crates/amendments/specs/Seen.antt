-- Entries, and what those before one have said.
use Rattle.std.specs.Prelude.{◌≡◌, ℕ, ◌<◌}
use Rattle.rules.specs.Answer.{Bytes, accepted}
use Rattle.rules.specs.Limits.{no_script}
use Rattle.rules.specs.InForce.{entry_first, entry_replaced, q25_scripts}
use Rattle.rules.specs.Calls.{types_check}
use Rattle.amendments.specs.declared.Entry.{Entry}
use Rattle.amendments.specs.declared.Seen.{Seen}
use Rattle.amendments.specs.Marked.{Marks}

-- x is entry e of the list
pub record IsEntry (a : Bytes) (e : ℕ) (x : Entry) : Type 0 where
  pub first : x.first ≡ entry_first a e
  pub replaced : x.replaced ≡ entry_replaced a e

-- an entry's indexes are in a list of n scripts
pub record IndexesListed (n : ℕ) (x : Entry) : Type 0 where
  pub first : x.first < n
  pub replaced : (x.replaced ≡ no_script → ⊥) → x.replaced < n

-- what the entries before e have listed and replaced
pub record Before (a : Bytes) (e : ℕ) (seen : Seen) : Type 0 where
  pub listed : Marks (entry_first a) e seen.listed.0
  pub replaced : Marks (entry_replaced a) e seen.replaced.0

-- the tables pass, and each script of the list names a type
pub record ListsTyped (g t l : Bytes) : Type 0 where
  pub tables_pass : types_check g t ≡ accepted tt
  pub scripts_typed : q25_scripts t l ≡ accepted tt
