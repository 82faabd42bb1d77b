-- Further examples: the slips of the pen, and what cases A to L leave open of questions 1 to 25. What the calls give
-- and write is in CallExamples.
use Rattle.std.specs.Prelude.{◌≡◌, true, false, [], ◌∷◌, ◌++◌, ℕ, zero, suc, ◌*◌, ◌/◌, ◌%◌}
use Rattle.calculus.specs.Types.{one, leaf}
use Rattle.rules.specs.Answer.{Bytes, accepted, refused}
use Rattle.rules.specs.Groups.{leq, row, q2}
use Rattle.rules.specs.Types.{q8}
use Rattle.rules.specs.Comparison.{same, strictly_below, neither}
use Rattle.rules.specs.Script.{number, script_record, q13, q18}
use Rattle.rules.specs.Calls.{zeros, groups_check, types_check, compare_call, check_call, type_bytes, run_call}
use Rattle.rules.specs.Calls.{run_report}
use Rattle.rules.specs.Reach.{verdict}
use Rattle.rules.specs.Cases.{word, ty, groups, types_with, types, loop, check, ran}

-- a variable's record
abbrev pub var : ℕ → Bytes
var n = script_record 0 0 0 n

-- a unit's record with these readers
abbrev pub unit : ℕ → ℕ → Bytes
unit r ir = script_record 1 r ir 0

-- a pair's record with these readers
abbrev pub pair : ℕ → ℕ → Bytes
pair r ir = script_record 3 r ir 0

-- an application's record, made as w
abbrev pub app : ℕ → Bytes
app w = script_record 6 w 0 0

-- a first projection's record, made as w
abbrev pub proj : ℕ → Bytes
proj w = script_record 7 w 0 0

-- a protect's record with this ir, and 0 as ic
abbrev pub protect : ℕ → Bytes
protect m = script_record 10 0 m 0

-- the four groups of case J, in which 1 and 2 are neither ⊑ the other
abbrev pub diamond : Bytes
diamond = word 15 ++ word 10 ++ word 12 ++ word 8

-- a row, given as a word below 65,536
abbrev pub wide : ℕ → Bytes
wide w = w % 256 ∷ w / 256 ∷ 0 ∷ 0 ∷ []

-- nine groups, each ⊑ the next: the last stands in the second byte of a row
abbrev pub nine : Bytes
nine = wide 511 ++ wide 510 ++ wide 508 ++ wide 504 ++ wide 496 ++ wide 480 ++ wide 448 ++ wide 384 ++ wide 256

-- two functions to unit, from unit (1,1) and from unit (0,0)
abbrev pub two_functions : Bytes
two_functions = ty 3 0 0 ++ ty 0 1 1 ++ ty 0 0 0 ++ ty 3 0 0 ++ ty 0 0 0 ++ ty 0 0 0

-- pairs of units: (0,0) and (0,0), (0,0) and (1,1), (1,1) and (0,0), and the second again
abbrev pub mixed_pairs : Bytes
mixed_pairs =
    ty 2 0 0 ++ ty 0 0 0 ++ ty 0 0 0 ++ ty 2 0 0 ++ ty 0 0 0 ++ ty 0 1 1 ++ ty 2 0 0 ++ ty 0 1 1 ++ ty 0 0 0 ++ ty 2 0 0 ++ ty 0 0 0 ++ ty 0 1 1

-- a case whose first branch is a variable
abbrev pub branch : ℕ → Bytes
branch n = script_record 9 0 0 1 ++ script_record 4 0 0 0 ++ unit 0 0 ++ var n ++ unit 0 0

-- a case of these two branches
abbrev pub branches : Bytes → Bytes → Bytes
branches a b = script_record 9 0 0 1 ++ (script_record 4 0 0 0 ++ unit 0 0) ++ a ++ b

-- a case whose tested operand is a variable
abbrev pub tested : Bytes
tested = script_record 9 0 0 1 ++ var 0 ++ unit 0 0 ++ unit 0 0

-- n pairs around a unit, each with a unit on its left: 2n + 1 records, and so many in its type
abbrev pub pairs : ℕ → Bytes
pairs zero = unit 0 0
pairs (suc n) = pair 0 0 ++ unit 0 0 ++ pairs n

-- the type of such pairs
abbrev pub pair_types : ℕ → Bytes
pair_types zero = ty 0 0 0
pair_types (suc n) = ty 2 0 0 ++ ty 0 0 0 ++ pair_types n

-- n protects around a unit: depth n + 1
abbrev pub protects : ℕ → Bytes
protects zero = unit 0 0
protects (suc n) = protect 0 ++ protects n

-- Each field is one input with its answer, computed.
pub record Examples : Type 0 where
  -- bit h of row g, not bit g of row h
  pub row_and_bit : leq groups 0 1 ≡ true
  pub not_transposed : leq groups 1 0 ≡ false
  -- a group outside the table is ⊑ none
  pub outside : leq groups 2 2 ≡ false
  -- 3, 4, 5: each row is tried before the next question
  pub bit_past_rows : groups_check (word 3 ++ word 6) ≡ refused 3 1
  pub not_lowest : groups_check (word 3 ++ word 3) ≡ refused 4 1
  pub not_transitive : groups_check (word 7 ++ word 6 ++ word 12 ++ word 8) ≡ refused 5 0
  pub no_groups : groups_check [] ≡ refused 2 0
  -- rows are little-endian words
  pub row_bytes : row (1 ∷ 2 ∷ 3 ∷ 4 ∷ []) 0 ≡ 67305985
  pub nine_groups : groups_check nine ≡ accepted tt
  pub ninth_above : leq nine 0 8 ≡ true
  -- the limits of 2, 8 and 13
  pub 32-rows : q2 (zeros (4 * 32)) ≡ accepted tt
  pub 33-rows : q2 (zeros (4 * 33)) ≡ refused 2 0
  pub 4096-types : q8 (zeros (6 * 4096)) ≡ accepted tt
  pub 4097-types : q8 (zeros (6 * 4097)) ≡ refused 8 0
  pub 8192-records : q13 [] (zeros (8 * 8192)) ≡ accepted tt
  pub 8193-records : q13 [] (zeros (8 * 8193)) ≡ refused 13 0
  -- the join is the lowest common bit and no larger number
  pub joined_type : type_bytes (verdict diamond types (protect 2 ++ unit 1 1)) ≡ accepted (ty 0 3 3)
  -- 8 to 12
  pub no_types : types_check groups [] ≡ refused 8 0
  pub kind_past_4 : types_check groups (ty 0 0 0 ++ ty 5 0 0) ≡ refused 9 1
  pub byte_3 : types_check groups (ty 0 0 0 ++ (0 ∷ 0 ∷ 0 ∷ 1 ∷ 0 ∷ 0 ∷ [])) ≡ refused 9 1
  pub group_past_rows : types_check groups (ty 0 2 0) ≡ refused 9 0
  pub indirect_above : types_check groups (ty 0 0 1) ≡ refused 10 0
  pub unfinished : types_check groups (ty 0 0 0 ++ ty 1 0 0 ++ ty 0 0 0) ≡ refused 11 1
  pub 63-in-table : types_check groups (pair_types 31) ≡ accepted tt
  pub 65-in-table : types_check groups (ty 0 0 0 ++ pair_types 32) ≡ refused 12 1
  -- parameters are compared the other way round
  pub contravariant : compare_call groups two_functions 0 3 ≡ accepted strictly_below
  pub not_covariant : compare_call groups two_functions 3 0 ≡ accepted neither
  pub first_index : compare_call groups two_functions 256 6 ≡ refused 25 0
  pub second_index : compare_call groups two_functions 0 6 ≡ refused 25 1
  -- same is equality of the records, wherever they stand; above is neither; a type of another kind is neither
  pub same_apart : compare_call groups two_functions 2 4 ≡ accepted same
  pub only_below : compare_call groups two_functions 2 1 ≡ accepted strictly_below
  pub only_above : compare_call groups two_functions 1 2 ≡ accepted neither
  pub other_kind : compare_call groups two_functions 0 1 ≡ accepted neither
  -- one side below and one the same is below; one below and one above is neither
  pub one_side_below : compare_call groups mixed_pairs 0 3 ≡ accepted strictly_below
  pub sides_mixed : compare_call groups mixed_pairs 3 6 ≡ accepted neither
  pub equal_sides : compare_call groups mixed_pairs 3 9 ≡ accepted same
  -- 13 to 18
  pub no_room : ran 9 55 (loop 0 0) ≡ refused 13 0
  pub no_scratch : run_report (run_call groups types (loop 0 0) 9 56 55) ≡ refused 13 0
  pub unnamed_field : check types (script_record 0 1 0 0) ≡ refused 14 0
  pub label_past_rows : check types (app 2 ++ unit 0 0 ++ unit 0 0) ≡ refused 15 0
  pub case_past_rows : check types (protect 0 ++ script_record 9 2 0 1 ++ unit 0 0 ++ unit 0 0 ++ unit 0 0) ≡ refused 15 1
  pub recursion_past_rows : check types (protect 0 ++ script_record 11 2 0 3 ++ unit 0 0) ≡ refused 15 1
  pub protect_past_rows : check types (protect 2 ++ unit 0 0) ≡ refused 15 0
  pub no_such_type : check types (script_record 2 0 0 6 ++ unit 0 0) ≡ refused 16 0
  pub no_result_type : check types (protect 0 ++ script_record 9 0 0 6 ++ unit 0 0 ++ unit 0 0 ++ unit 0 0) ≡ refused 16 1
  pub no_sum : check types (script_record 4 0 0 3 ++ unit 0 0) ≡ refused 16 0
  pub no_function : check types (script_record 11 0 0 0 ++ unit 0 0) ≡ refused 16 0
  pub cut_short : check types (pair 0 0 ++ unit 0 0) ≡ refused 17 2
  pub left_over : check types (unit 0 0 ++ unit 0 0) ≡ refused 17 1
  pub cut_shorter : check types (pair 0 0 ++ pair 0 0 ++ unit 0 0 ++ unit 0 0) ≡ refused 17 4
  pub more_left_over : check types (pair 0 0 ++ unit 0 0 ++ unit 0 0 ++ unit 0 0 ++ unit 0 0) ≡ refused 17 3
  pub depth_256 : q18 (protects 255) ≡ accepted tt
  pub depth_257 : q18 (protects 256) ≡ refused 18 256
  pub depth_first : check types (pair 0 0 ++ var 0 ++ protects 255) ≡ refused 18 257
  -- a record's number is little-endian: 256 names no type, and no binder of two
  pub number_bytes : number (0 ∷ 0 ∷ 0 ∷ 0 ∷ 2 ∷ 1 ∷ 0 ∷ 0 ∷ []) 0 ≡ 258
  pub type_256 : check types ((2 ∷ 0 ∷ 0 ∷ 0 ∷ 0 ∷ 1 ∷ 0 ∷ 0 ∷ []) ++ unit 0 0) ≡ refused 16 0
  pub variable_256 : check types (script_record 2 0 0 1 ++ script_record 2 0 0 1 ++ (0 ∷ 0 ∷ 0 ∷ 0 ∷ 0 ∷ 1 ∷ 0 ∷ 0 ∷ [])) ≡ refused 19 2
  -- a branch has one binder, the tested operand none
  pub branch_binder : check types (branch 0) ≡ accepted (ty 0 0 0)
  pub one_binder : check types (branch 1) ≡ refused 19 3
  pub tested_unbound : check types tested ≡ refused 19 1
  -- the order of typing's refusals: 20 before the argument, 22 after it, at a recursion 21 before 23 and both before
  -- the body, 24 after both operands
  pub function_first : check types (app 0 ++ unit 0 0 ++ proj 0 ++ unit 0 0) ≡ refused 20 0
  pub argument_next : check types (app 0 ++ script_record 2 0 0 4 ++ var 0 ++ proj 0 ++ unit 0 0) ≡ refused 20 3
  pub argument_wanted : check types (app 0 ++ script_record 2 0 0 4 ++ var 0 ++ unit 1 1) ≡ refused 22 0
  pub reader_first : check (types_with 1 1) (protect 0 ++ script_record 11 0 0 3 ++ proj 0 ++ unit 0 0) ≡ refused 21 1
  pub condition_first : check (types_with 1 1) (protect 0 ++ script_record 11 1 0 3 ++ proj 0 ++ unit 0 0) ≡ refused 23 1
  -- a recursion may be called as a group above r of its type, and as none below
  pub called_above : check types (loop 0 1) ≡ accepted (ty 0 0 0)
  pub called_below : check (types_with 1 0) (loop 1 0) ≡ refused 21 1
  pub left_first : check types (pair 0 0 ++ proj 0 ++ unit 0 0 ++ app 0 ++ unit 0 0 ++ unit 0 0) ≡ refused 20 1
  pub size_last : check types (pair 0 0 ++ (pairs 31 ++ (proj 0 ++ unit 0 0))) ≡ refused 20 64
  -- 21, 22 and 24 at their other nodes, whose record is the place
  pub projection_may_not : check types (protect 0 ++ proj 0 ++ pair 1 1 ++ unit 0 0 ++ unit 0 0) ≡ refused 21 1
  pub injection_wanted : check types (protect 0 ++ script_record 4 0 0 0 ++ unit 1 1) ≡ refused 22 1
  pub branch_wanted : check types (protect 0 ++ branches (unit 1 1) (unit 0 0)) ≡ refused 22 1
  pub second_branch_wanted : check types (protect 0 ++ branches (unit 0 0) (unit 1 1)) ≡ refused 22 1
  pub body_wanted : check types (protect 0 ++ script_record 11 0 0 3 ++ unit 0 0) ≡ refused 22 1
  pub function_of_65 : check (pair_types 31) (protect 0 ++ script_record 2 0 0 0 ++ unit 0 0) ≡ refused 24 1
  -- 24: types have odd record counts
  pub 63-found : check types (pairs 31) ≡ accepted (pair_types 31)
  pub 65-found : check types (pairs 32) ≡ refused 24 0
  -- 1
  pub short_work : check_call 96767 378 groups types (unit 0 0) ≡ refused 1 0
  pub short_answer : check_call 96768 377 groups types (unit 0 0) ≡ refused 1 0
  pub long_enough : check_call 96768 378 groups types (unit 1 0) ≡ accepted (leaf one (record { r = 1; ir = 0; c = 0; ic = 0 }))
