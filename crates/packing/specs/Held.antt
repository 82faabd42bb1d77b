-- One number holds what an exported call answers, and a caller reads the answer off it again.
use Rattle.std.specs.Prelude.{◌≡◌, ℕ}
use Rattle.rules.specs.Answer.{Bytes, Octets, Answer}
use Rattle.rules.specs.Limits.{type_width, script_width, office_width}
use Rattle.rules.specs.Words.{words_check}
use Rattle.rules.specs.Calls.{groups_check, types_check, check_call, type_records, step_call, step_report, run_call}
use Rattle.rules.specs.Calls.{run_report, sheet_call, sheet_records, compare_call}
use Rattle.rules.specs.Profile.{profile_checking}
use Rattle.rules.specs.Preview.{Preview, preview_call, move_call}
use Rattle.rules.specs.Rewriting.{rewriting_types, rewriting_script, rewritten_records}
use Rattle.rules.specs.Office.{import_call, export_call}
use Rattle.rules.specs.InForce.{in_force}
use Rattle.packing.specs.Packed.{packed_number, unpacked_answer, Holds, check_lower, comparison_lower, step_lower}
use Rattle.packing.specs.Packed.{run_lower, preview_lower}

-- Of any bytes, lengths and numbers.
pub record OneNumberHolds : Type 0 where
  -- what is held is read again
  pub read : (a : Answer ℕ) → Holds a → unpacked_answer (packed_number a) ≡ a
  pub groups : (g : Bytes) → Holds (check_lower (groups_check g))
  pub types : (g t : Bytes) → Holds (check_lower (types_check g t))
  pub words : (w : Bytes) → Holds (check_lower (words_check w))
  pub check : (g t s : Bytes) (work answer : ℕ) → Octets g → Octets s → Holds (type_records (check_call work answer g t s))
  pub profile : (g t s : Bytes) (work answer : ℕ) → Octets g → Octets s → Holds (type_records (profile_checking work answer g t s))
  pub run : (g t s : Bytes) (budget first scratch : ℕ) → Octets s → Holds (run_lower (run_report (run_call g t s budget first scratch)))
  pub step : (g t s : Bytes) (room : ℕ) → Holds (step_lower (step_report s (step_call g t s room)))
  pub preview : (g t s : Bytes) (room steps : ℕ) → Holds (preview_lower (preview_call g t s room steps))
  pub move_on : (g t s : Bytes) (room : ℕ) (v : Preview) → Holds (step_lower (step_report s (move_call g t s room v)))
  pub page : (g t s : Bytes) (group room : ℕ) → Octets s → Holds (sheet_records (sheet_call g t s group room))
  pub comparison : (g t : Bytes) (i j : ℕ) → Holds (comparison_lower (compare_call g t i j))
  pub types_rewritten : (g t : Bytes) (room : ℕ) → Holds (rewritten_records type_width (rewriting_types g t room))
  pub script_rewritten : (g t s : Bytes) (room : ℕ) → Holds (rewritten_records script_width (rewriting_script g t s room))
  pub importing : (g t s : Bytes) (room : ℕ) → Octets s → Holds (rewritten_records script_width (import_call g t s room))
  pub exporting : (g t s : Bytes) (room : ℕ) → Octets s → Holds (rewritten_records office_width (export_call g t s room))
  pub amended : (g t l a : Bytes) (i : ℕ) → Holds (in_force g t l a i)
