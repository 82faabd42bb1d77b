-- Examples of scripts of the old office program, imported and exported.
use Rattle.std.specs.Prelude.{◌≡◌, Bool, true, false, List, [], ◌∷◌, ◌++◌, ℕ}
use Rattle.rules.specs.Answer.{Bytes, accepted, refused}
use Rattle.rules.specs.Limits.{script_width, office_width}
use Rattle.rules.specs.Script.{full_record, script_record}
use Rattle.rules.specs.Callers.{write_office_callers, office_callers_written}
use Rattle.rules.specs.Rewriting.{rewritten_records, rewritten_after}
use Rattle.rules.specs.Office.{office_record, ok29, import_call, export_call}
use Rattle.rules.specs.Cases.{groups, types, types_with}

-- a variable's old record with this name
abbrev pub named : ℕ → Bytes
named x = office_record 0 0 0 0 x 0

-- a unit's old record
abbrev pub old_unit : Bytes
old_unit = office_record 1 0 0 0 0 0

-- a pair's old record
abbrev pub old_pair : Bytes
old_pair = office_record 3 0 0 0 0 0

-- the old record of a function from unit that binds this name
abbrev pub old_function : ℕ → Bytes
old_function x = office_record 2 0 0 4 x 0

-- a first injection of a unit into the sum, as old records
abbrev pub old_first : Bytes
old_first = office_record 4 0 0 0 0 0 ++ old_unit

-- a case's old record with the names of both branches
abbrev pub old_case : ℕ → ℕ → Bytes
old_case x y = office_record 9 0 0 0 x y

-- what a variable is imported as
abbrev pub var : ℕ → Bytes
var n = script_record 0 0 0 n

-- what a unit is imported as
abbrev pub unit : Bytes
unit = script_record 1 0 0 0

-- what a pair's record is imported as
abbrev pub pair : Bytes
pair = script_record 3 0 0 0

-- what such a function's record is imported as
abbrev pub function : Bytes
function = script_record 2 0 0 4

-- a case of its three operands, imported
abbrev pub case_of : Bytes → Bytes → Bytes → Bytes
case_of e a b = script_record 9 0 0 0 ++ e ++ a ++ b

-- what that injection is imported as
abbrev pub first : Bytes
first = script_record 4 0 0 0 ++ unit

-- question 29 of a record of each kind, 0 to 14, with these names
abbrev pub unused : ℕ → ℕ → List Bool
unused x y =
    ok29 (office_record 0 0 0 0 x y) 0 ∷ ok29 (office_record 1 0 0 0 x y) 0 ∷ ok29 (office_record 2 0 0 0 x y) 0 ∷ ok29 (office_record 3 0 0 0 x y) 0
    ∷ ok29 (office_record 4 0 0 0 x y) 0 ∷ ok29 (office_record 5 0 0 0 x y) 0 ∷ ok29 (office_record 6 0 0 0 x y) 0
    ∷ ok29 (office_record 7 0 0 0 x y) 0 ∷ ok29 (office_record 8 0 0 0 x y) 0 ∷ ok29 (office_record 9 0 0 0 x y) 0
    ∷ ok29 (office_record 10 0 0 0 x y) 0 ∷ ok29 (office_record 11 0 0 0 x y) 0 ∷ ok29 (office_record 12 0 0 0 x y) 0
    ∷ ok29 (office_record 13 0 0 0 x y) 0 ∷ ok29 (office_record 14 0 0 0 x y) 0 ∷ []

-- Each field is one input with its answer, computed.
pub record OfficeExamples : Type 0 where
  -- the nearest binder of a name
  pub own : import_call groups types (old_function 7 ++ named 7) 16 ≡ accepted (function ++ var 0)
  pub outer : import_call groups types (old_function 7 ++ old_function 8 ++ named 7) 24 ≡ accepted (function ++ function ++ var 1)
  pub nearest : import_call groups types (old_function 7 ++ old_function 7 ++ named 7) 24 ≡ accepted (function ++ function ++ var 0)
  -- two bytes of a name, and 0 is a name like any other
  pub both_bytes : import_call groups types (old_function 263 ++ old_function 7 ++ named 263) 24 ≡ accepted (function ++ function ++ var 1)
  pub name_0 : import_call groups types (old_function 5 ++ old_function 0 ++ old_function 6 ++ named 0) 32 ≡ accepted (function ++ function ++ function ++ var 1)
  pub no_name_0 : import_call groups types (old_function 5 ++ named 0) 16 ≡ refused 30 1
  -- a name holds in its operand alone
  pub left_only : import_call groups types (old_pair ++ old_function 7 ++ named 7 ++ named 7) 32 ≡ refused 30 3
  pub branches : import_call groups types (old_case 7 8 ++ old_first ++ named 7 ++ named 8) 40 ≡ accepted (case_of first (var 0) (var 0))
  pub second_in_first : import_call groups types (old_case 7 8 ++ old_first ++ named 8 ++ named 8) 40 ≡ refused 30 3
  pub first_in_second : import_call groups types (old_case 7 8 ++ old_first ++ named 7 ++ named 7) 40 ≡ refused 30 4
  pub in_tested : import_call groups types (old_function 7 ++ old_case 7 7 ++ named 7 ++ named 7 ++ named 7) 40
      ≡ accepted (function ++ case_of (var 0) (var 0) (var 0))
  pub not_in_tested : import_call groups types (old_case 7 7 ++ named 7 ++ named 7 ++ named 7) 40 ≡ refused 30 1
  pub recursive : import_call groups types (office_record 11 0 0 3 7 0 ++ old_function 8 ++ named 7) 24 ≡ accepted (script_record 11 0 0 3 ++ function ++ var 1)
  -- 28
  pub empty : import_call groups types [] 64 ≡ refused 28 0
  pub not_whole : import_call groups types (old_unit ++ 1 ∷ []) 64 ≡ refused 28 0
  -- 14 passes a variable's number, 29 takes it; and an unused name
  pub numbered : import_call groups types (old_function 7 ++ office_record 0 0 0 1 7 0) 64 ≡ refused 29 1
  pub unused_first : import_call groups types (office_record 1 0 0 0 1 0) 64 ≡ refused 29 0
  pub unused_second : import_call groups types (office_record 2 0 0 4 7 256 ++ named 7) 64 ≡ refused 29 0
  -- which kinds have which name: a variable, a function and a recursion the first, a case both
  pub first_unused : unused 1 0
      ≡ true ∷ false ∷ true ∷ false ∷ false ∷ false ∷ false ∷ false ∷ false ∷ true ∷ false ∷ true ∷ false ∷ false ∷ false ∷ []
  pub second_unused : unused 0 1
      ≡ false ∷ false ∷ false ∷ false ∷ false ∷ false ∷ false ∷ false ∷ false ∷ true ∷ false ∷ false ∷ false ∷ false ∷ false ∷ []
  -- 14 to 18 before 29, 29 of all records before 30 of any, 30 before 27
  pub fields_first : import_call groups types (office_record 6 0 0 1 1 0 ++ old_unit ++ old_unit) 64 ≡ refused 14 0
  pub term_first : import_call groups types (old_pair ++ office_record 1 0 0 0 9 0) 64 ≡ refused 17 2
  pub unused_before_unbound : import_call groups types (old_pair ++ named 7 ++ office_record 1 0 0 0 0 1) 64 ≡ refused 29 2
  pub unbound_before_room : import_call groups types (old_pair ++ named 7 ++ old_unit) 0 ≡ refused 30 1
  pub no_room : import_call groups types (old_function 7 ++ named 7) 15 ≡ refused 27 0
  -- the answer and the lent bytes
  pub counted : rewritten_records script_width (import_call groups types (old_function 7 ++ named 7) 17) ≡ accepted 2
  pub bytes_past : rewritten_after (import_call groups types old_unit 9) (9 ∷ 9 ∷ 9 ∷ 9 ∷ 9 ∷ 9 ∷ 9 ∷ 9 ∷ 9 ∷ []) ≡ unit ++ 9 ∷ []
  pub kept : rewritten_after (import_call groups types (named 7) 8) (9 ∷ 9 ∷ []) ≡ 9 ∷ 9 ∷ []
  -- each binder is named by its count of binders outside it
  pub exported : export_call groups types (function ++ pair ++ function ++ var 1 ++ function ++ var 0) 60
      ≡ accepted (old_function 0 ++ old_pair ++ old_function 1 ++ named 0 ++ old_function 1 ++ named 1)
  pub exported_case : export_call groups types (function ++ case_of first (var 0) (var 1)) 60 ≡ accepted (old_function 0 ++ old_case 1 1 ++ old_first ++ named 1 ++ named 0)
  -- creators aren't exported
  pub uncreated : export_call groups types (full_record 1 1 0 0 1 1) 10 ≡ accepted (office_record 1 1 0 0 0 0)
  pub export_checks : export_call groups types (var 0) 10 ≡ refused 19 0
  pub export_room : export_call groups types (function ++ var 0) 19 ≡ refused 27 0
  pub export_counted : rewritten_records office_width (export_call groups types (function ++ var 0) 20) ≡ accepted 2
  -- callers, over types whose record 3 has r 1
  pub called : write_office_callers (types_with 1 1) (office_record 11 0 0 3 7 8) ≡ office_record 11 1 0 3 7 8
  pub not_called : write_office_callers (types_with 1 1) (office_record 11 0 0 6 7 0 ++ office_record 9 0 0 3 7 0 ++ 11 ∷ 0 ∷ 0 ∷ 0 ∷ 3 ∷ 0 ∷ [])
      ≡ office_record 11 0 0 6 7 0 ++ office_record 9 0 0 3 7 0 ++ 11 ∷ 0 ∷ 0 ∷ 0 ∷ 3 ∷ 0 ∷ []
  pub one_called : office_callers_written (types_with 1 1) (office_record 11 0 0 3 7 8 ++ office_record 11 0 0 6 7 8) ≡ 1
