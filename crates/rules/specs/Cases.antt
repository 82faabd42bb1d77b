-- The worked cases A to L (manual, 10): each statement is a field of one record.
use Rattle.std.specs.Prelude.{◌≡◌, ◌++◌, ◌∷◌, [], ℕ}
use Rattle.std.proofs.Math.Option.{none}
use Rattle.rules.specs.Answer.{Bytes, Answer, accepted, refused}
use Rattle.rules.specs.Groups.{join}
use Rattle.rules.specs.Types.{type_record}
use Rattle.rules.specs.Script.{script_record}
use Rattle.rules.specs.Calls.{groups_check, run_call, Report, run_report, type_bytes}
use Rattle.rules.specs.Reach.{verdict}
use Rattle.rules.specs.Report.{text, report}

-- a row, given as a word below 256
abbrev pub word : ℕ → Bytes
word w = w ∷ 0 ∷ 0 ∷ 0 ∷ []

-- a type record with group 0 as c and ic
abbrev pub ty : ℕ → ℕ → ℕ → Bytes
ty kind r ir = type_record kind (record { r = r; ir = ir; c = 0; ic = 0 })

-- groups 0 ⊑ 1: words 3 and 2
abbrev pub groups : Bytes
groups = word 3 ++ word 2

-- Records 0 to 2 are the sum (0,0) of units (0,0), records 3 to 5 a function from unit to unit, all (0,0) but for the
-- function's groups, which are given.
abbrev pub types_with : ℕ → ℕ → Bytes
types_with r ir = ty 1 0 0 ++ ty 0 0 0 ++ ty 0 0 0 ++ ty 3 r ir ++ ty 0 0 0 ++ ty 0 0 0

-- the same with (0,0) as the function's groups
abbrev pub types : Bytes
types = types_with 0 0

-- The case term: a first injection of a unit is tested, and its branches are a first and a second injection (0,0);
-- every unit is (0,0), and every type 0. Given are the groups of the tested injection and r of the case.
abbrev pub case_term : ℕ → ℕ → ℕ → Bytes
case_term r ir w =
    script_record 9 w 0 0
    ++ script_record 4 r ir 0
    ++ script_record 1 0 0 0
    ++ script_record 4 0 0 0
    ++ script_record 1 0 0 0
    ++ script_record 5 0 0 0
    ++ script_record 1 0 0 0

-- The loop: a recursion of type 3, whose function applies the recursion to its parameter, is applied to a unit. Given
-- are the outer application's r and the recursion's group.
abbrev pub loop : ℕ → ℕ → Bytes
loop w caller =
    script_record 6 w 0 0
    ++ script_record 11 caller 0 3
    ++ script_record 2 0 0 4
    ++ script_record 6 0 0 0
    ++ script_record 0 0 0 1
    ++ script_record 0 0 0 0
    ++ script_record 1 0 0 0

-- what checking reports, as bytes
abbrev pub check : Bytes → Bytes → Answer Bytes
check t s = type_bytes (verdict groups t s)

-- what a run reports with this budget, in two buffers of so many bytes
abbrev pub ran : ℕ → ℕ → Bytes → Answer Report
ran budget room s = run_report (run_call groups types s budget room room)

-- a run's report
abbrev pub ends : ℕ → ℕ → ℕ → Answer Report
ends end steps count = accepted (record { end = end; steps = steps; count = count })

-- The cases by their letters, each with what is asked.
pub record Cases : Type 0 where
  pub a_refused : check types (case_term 1 1 0) ≡ refused 21 0
  pub a_run : ran 1000 65536 (case_term 1 1 0) ≡ ends 2 0 7
  pub a_report : report none groups types (case_term 1 1 0) ≡ text "refused 21 at 0\n"
  pub b_type : check types (case_term 1 1 1) ≡ accepted (ty 1 1 1 ++ ty 0 0 0 ++ ty 0 0 0)
  pub b_run : ran 1000 65536 (case_term 1 1 1) ≡ ends 0 2 2
  pub b_report : report none groups types (case_term 1 1 1)
      ≡ text "accepted 3\n" ++ text "end 0 steps 2 records 2\n" ++ text "closed 0 0\n"
  pub c_type : check types (case_term 1 0 1) ≡ accepted (ty 1 0 0 ++ ty 0 0 0 ++ ty 0 0 0)
  pub c_run : ran 1000 65536 (case_term 1 0 1) ≡ ends 0 2 2
  pub D : check types (case_term 0 1 0) ≡ refused 15 1
  pub E : ran 1 65536 (case_term 1 1 1) ≡ ends 1 1 3
  pub F : check types (script_record 0 0 0 0) ≡ refused 19 0
  pub g_accepted : check types (loop 0 0) ≡ accepted (ty 0 0 0)
  pub g_run : ran 3 65536 (loop 0 0) ≡ ends 1 3 9
  pub h_96 : ran 1000 96 (loop 0 0) ≡ ends 4 0 7
  pub h_104 : ran 1 104 (loop 0 0) ≡ ends 1 1 13
  pub I : check (types_with 1 1) (loop 1 1) ≡ refused 23 1
  pub J : groups_check (word 15 ++ word 10 ++ word 12 ++ word 8) ≡ accepted tt
  pub j_join : join (word 15 ++ word 10 ++ word 12 ++ word 8) 1 2 ≡ 3
  pub K : groups_check (word 1 ++ word 2) ≡ refused 6 0
  pub L : groups_check (word 5 ++ word 6 ++ word 4) ≡ refused 7 0
