-- What import and export of old office scripts promise, and the writing of their callers (manual, 7.10 to 7.12).
use Rattle.std.specs.Prelude.{◌≡◌, [], ◌∷◌, ◌++◌, ◌↔◌, ℕ, ◌+◌, ◌*◌, ◌/◌, ◌≤◌, ◌<◌, length}
use Rattle.calculus.specs.Terms.{Term}
use Rattle.rules.specs.Answer.{Bytes, byte, Octets, Answer, accepted, refused}
use Rattle.rules.specs.Limits.{type_width, script_width, office_width}
use Rattle.rules.specs.Script.{records, encode, c, ic}
use Rattle.rules.specs.Callers.{write_callers_of, write_office_callers}
use Rattle.rules.specs.Calls.{form_check, script_check, q27}
use Rattle.rules.specs.Rewriting.{widen_types, widen_script, rewritten_after}
use Rattle.rules.specs.Names.{Means}
use Rattle.rules.specs.Office.{office_records, office_kind, nameless, named_term, q28, q30, import_of, import_call}
use Rattle.rules.specs.Office.{export_of, q28_of_export, export_call}
use Rattle.promises.specs.Questions.{question, of_groups, of_types, of_script, of_office, QuestionsDecide}
use Rattle.promises.specs.Migration.{form_1, new_script, Migrated}

-- What import promises.
pub record Imports (g t s : Bytes) : Type 0 where
  -- it asks 2 to 12, 28, 14 to 18 with 36 after 15, 29, 30 and 27, and a refusal keeps the lent buffer
  pub decides : (room : ℕ)
      → QuestionsDecide (of_groups g ++ of_types g t ++ of_office g t s ++ (question 27 (q27 (import_of s) room) ∷ [])) (import_call g t s room)
  pub keeps : (room q place : ℕ) → import_call g t s room ≡ refused q place → (old : Bytes) → rewritten_after (import_call g t s room) old ≡ old
  -- A variable means the nearest binder of its name: an old script whose other questions are yes means a term exactly
  -- where 30 is yes, and that term is what is imported.
  pub means : q28 s ≡ accepted tt → form_check g t (nameless s) ≡ accepted tt → (e : Term)
      → Means [] (named_term s) e ↔ ((q30 s ≡ accepted tt) × (import_of s ≡ encode e))
  -- what is imported has as many records, and questions 2 to 19 are yes
  pub counted : (room : ℕ) (b : Bytes) → import_call g t s room ≡ accepted b → length b / script_width ≡ office_records s
  pub checked : (room : ℕ) (b : Bytes) → import_call g t s room ≡ accepted b → script_check [] g t b ≡ accepted tt

-- c and ic are 0 in every record
abbrev pub Uncreated : Bytes → Type 0
Uncreated s = (i : ℕ) → i < records s → (c s i ≡ 0) × (ic s i ≡ 0)

-- What export promises.
pub record Exports (g t s : Bytes) : Type 0 where
  -- it asks 2 to 19, 28 and 27
  pub decides : (room : ℕ)
      → QuestionsDecide (of_groups g ++ of_types g t ++ of_script [] g t s ++ (question 28 (q28_of_export s) ∷ question 27 (q27 (export_of s) room) ∷ []))
      (export_call g t s room)
  pub keeps : (room q place : ℕ) → export_call g t s room ≡ refused q place → (old : Bytes) → rewritten_after (export_call g t s room) old ≡ old
  -- as many records
  pub counted : (room : ℕ) (o : Bytes) → export_call g t s room ≡ accepted o → length o / office_width ≡ records s
  -- Importing an export gives back the script: every byte of it, and so its record count.
  pub given_back : Uncreated s → (room : ℕ) (o : Bytes) → export_call g t s room ≡ accepted o → (room' : ℕ) → length s ≤ room'
      → import_call g t o room' ≡ accepted s

-- Old office scripts of form 1 have 0 in byte 1 of a recursion.
abbrev pub OldOffice : Bytes → Type 0
OldOffice s = (i : ℕ) → i < office_records s → office_kind s i ≡ 11 → byte s (office_width * i + 1) ≡ 0

-- an imported script with r of its type put in each recursion
abbrev pub answer_with_callers : Bytes → Answer Bytes → Answer Bytes
answer_with_callers t (accepted b) = accepted (write_callers_of type_width script_width t b)
answer_with_callers t (refused q p) = refused q p

-- Where an old office script's callers are written, import gives what it gave, with the callers put in, and every
-- refusal is the same.
abbrev pub ImportsCalled : Bytes → Bytes → Bytes → Type 0
ImportsCalled g t s = (room : ℕ) → import_call g t (write_office_callers t s) room ≡ answer_with_callers t (import_call g t s room)

-- It is checked and run as it was: over a rewritten types table, what import gave without the callers is a script of
-- form 1, widened, and with them the rewritten one.
pub record AsBefore (g t s : Bytes) (room : ℕ) (b : Bytes) : Type 0 where
  -- the script of form 1
  pub old : Bytes
  pub without : widen_script old ≡ b
  pub with : new_script form_1 t old ≡ write_callers_of type_width script_width (widen_types t) b
  pub migrated : Migrated form_1 g t old

unfoldable pub Importing : Type 0
Importing = (g t s : Bytes) → Octets s → Imports g t s

unfoldable pub Exporting : Type 0
Exporting = (g t s : Bytes) → Octets s → Exports g t s

unfoldable pub ImportingCalled : Type 0
ImportingCalled = (g t s : Bytes) → Octets s → OldOffice s → ImportsCalled g t s

unfoldable pub ImportedAsBefore : Type 0
ImportedAsBefore =
    (g t s : Bytes) → Octets g → Octets t → Octets s → OldOffice s → (room : ℕ) (b : Bytes) → import_call g (widen_types t) s room ≡ accepted b
    → AsBefore g t s room b
