-- Examples of amended lists, and of the order of questions 40, 25, 40, 41 and 42.
use Rattle.std.specs.Prelude.{◌≡◌, List, [], ◌∷◌, ◌++◌, ℕ, ◌/◌, ◌%◌}
use Rattle.rules.specs.Answer.{Bytes, Answer, accepted, refused}
use Rattle.rules.specs.Cases.{ty, groups}
use Rattle.rules.specs.InForce.{in_force}

-- 16-bit numbers
unfoldable pub numbers : List ℕ → Bytes
numbers [] = []
numbers (n ∷ ns) = n % 256 ∷ n / 256 ∷ numbers ns

-- units by their readers, nobody, group 0 and group 1, and one of group 1 as indirect readers too: each below the next
abbrev pub units : Bytes
units = ty 0 0 0 ++ ty 0 1 0 ++ ty 0 1 1

-- six scripts: three of type 1, then one of each type
abbrev pub six : Bytes
six = numbers (1 ∷ 1 ∷ 1 ∷ 0 ∷ 1 ∷ 2 ∷ [])

-- the script in force over the six, of entries as their numbers
abbrev pub amended : List ℕ → ℕ → Answer ℕ
amended a i = in_force groups units six (numbers a) i

-- the check of both lists alone
abbrev pub of_lists : Bytes → Bytes → Answer ℕ
of_lists l a = in_force groups units l a 65535

-- the check of the six scripts with these entries
abbrev pub asked : List ℕ → Answer ℕ
asked a = of_lists six (numbers a)

-- 4 is listed, 1 replaces it, 2 is listed, and 0 replaces 1
abbrev pub chain : List ℕ
chain = 4 ∷ 65535 ∷ 1 ∷ 4 ∷ 2 ∷ 65535 ∷ 0 ∷ 1 ∷ []

-- Each field is one input with its answer, computed.
pub record InForceExamples : Type 0 where
  -- empty lists pass, and have none
  pub empty : in_force groups units [] [] 0 ≡ accepted 65535
  pub no_amendment : amended [] 0 ≡ accepted 65535
  -- from each script that an entry names first, followed to the end
  pub from_first : amended chain 4 ≡ accepted 0
  pub from_middle : amended chain 1 ≡ accepted 0
  pub from_last : amended chain 0 ≡ accepted 0
  pub unreplaced : amended chain 2 ≡ accepted 2
  pub two_after_one_another : in_force groups units six (numbers (3 ∷ 65535 ∷ 4 ∷ 65535 ∷ 2 ∷ 4 ∷ 1 ∷ 2 ∷ 0 ∷ 1 ∷ [])) 4 ≡ accepted 0
  -- any other index has none, past the list too
  pub unnamed : amended chain 3 ≡ accepted 65535
  pub past_list : amended chain 6 ≡ accepted 65535
  pub no_index : amended chain 65535 ≡ accepted 65535
  pub wide_index : amended chain 65540 ≡ accepted 65535
  -- a type that is the same, and one that is below
  pub same_type : asked (0 ∷ 65535 ∷ 1 ∷ 0 ∷ []) ≡ accepted 65535
  pub lower_type : asked (5 ∷ 65535 ∷ 3 ∷ 5 ∷ []) ≡ accepted 65535
  -- 2 to 12 come first
  pub groups_first : in_force [] units (0 ∷ []) (0 ∷ []) 0 ≡ refused 2 0
  pub types_first : in_force groups [] (0 ∷ []) (0 ∷ []) 0 ≡ refused 8 0
  -- 40 at 0 of either length, before 25
  pub half_a_script : of_lists (9 ∷ []) [] ≡ refused 40 0
  pub half_an_entry : of_lists (9 ∷ 9 ∷ []) (0 ∷ 0 ∷ []) ≡ refused 40 0
  -- 25 at the script's index, of all scripts before an entry
  pub no_such_type : of_lists (numbers (2 ∷ 3 ∷ 4 ∷ [])) (numbers (9 ∷ 9 ∷ [])) ≡ refused 25 1
  pub wide_type : of_lists (numbers (2 ∷ 258 ∷ [])) [] ≡ refused 25 1
  -- 40 at the entry: past the list, 65,535 too
  pub first_past : asked (0 ∷ 65535 ∷ 6 ∷ 65535 ∷ []) ≡ refused 40 1
  pub first_none : asked (65535 ∷ 65535 ∷ []) ≡ refused 40 0
  pub replaced_past : asked (0 ∷ 65535 ∷ 1 ∷ 6 ∷ []) ≡ refused 40 1
  pub replaced_65534 : asked (0 ∷ 65535 ∷ 1 ∷ 65534 ∷ []) ≡ refused 40 1
  -- listed before
  pub first_again : asked (2 ∷ 65535 ∷ 0 ∷ 65535 ∷ 2 ∷ 65535 ∷ []) ≡ refused 40 2
  -- not yet listed: nowhere, later, and the entry's own
  pub replaced_unlisted : asked (1 ∷ 0 ∷ []) ≡ refused 40 0
  pub replaced_listed_later : asked (1 ∷ 0 ∷ 0 ∷ 65535 ∷ []) ≡ refused 40 0
  pub replaces_itself : asked (1 ∷ 65535 ∷ 0 ∷ 0 ∷ []) ≡ refused 40 1
  -- 41: replaced already
  pub replaced_again : asked (0 ∷ 65535 ∷ 1 ∷ 0 ∷ 2 ∷ 0 ∷ []) ≡ refused 41 2
  -- 42: a type that is above and not below is refused
  pub higher_type : asked (3 ∷ 65535 ∷ 5 ∷ 3 ∷ []) ≡ refused 42 1
  -- The lower entry comes before the lower question; at one entry 40 comes before 41, and 41 before 42.
  pub lower_entry : asked (3 ∷ 65535 ∷ 5 ∷ 3 ∷ 3 ∷ 65535 ∷ []) ≡ refused 42 1
  pub listed_and_replaced : asked (0 ∷ 65535 ∷ 1 ∷ 0 ∷ 1 ∷ 0 ∷ []) ≡ refused 40 2
  pub replaced_and_higher : asked (3 ∷ 65535 ∷ 4 ∷ 65535 ∷ 2 ∷ 4 ∷ 5 ∷ 4 ∷ []) ≡ refused 41 3
