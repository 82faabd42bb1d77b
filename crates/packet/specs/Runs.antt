-- The run of an application, and its packet.
use Rattle.std.specs.Prelude.{◌≡◌, [], ℕ, ◌*◌, ◌≤◌, length, take}
use Rattle.rules.specs.Answer.{Bytes, Octets, accepted, ◌>>◌}
use Rattle.rules.specs.Limits.{script_width}
use Rattle.rules.specs.Script.{encode, records}
use Rattle.rules.specs.Calls.{q27, script_check, sheet_call}
use Rattle.rules.specs.Run.{Ran}
use Rattle.rules.specs.Sheet.{sheet}
use Rattle.rules.specs.Packet.{application}
use Rattle.evaluation.specs.Runs.{Told}
use Rattle.evaluation.specs.declared.Halt.{Halt}

-- an application that a run can start with, in buffers of these lengths
pub record Runnable (g t script entry : Bytes) (group first scratch : ℕ) : Type 0 where
  pub groups : Octets g
  pub whole : Octets (application group script entry)
  pub passed : script_check [] g t (application group script entry) ≡ accepted tt
  pub script_whole : length script ≡ script_width * records script
  pub entry_whole : length entry ≡ script_width * records entry
  pub in_first : length (application group script entry) ≤ first
  pub in_scratch : length (application group script entry) ≤ scratch

-- What a run has left: it is told, its last term stands at the front, and of that the sheet's call asks nothing but 27.
pub record LeftByRun (g t : Bytes) (group : ℕ) (halt : Halt) (first : Bytes) : Type 0 where
  pub ran : Ran
  pub told : Told ran halt
  pub fits : script_width * halt.records ≤ length first
  pub holds : take (script_width * halt.records) first ≡ encode ran.last
  pub shows : ran.end ≡ 0 → (room : ℕ)
      → sheet_call g t (encode ran.last) group room
      ≡ ◌>>◌ (q27 (sheet g group ran.last) room) (accepted (sheet g group ran.last))
