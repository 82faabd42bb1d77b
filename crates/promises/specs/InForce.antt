-- What the look-up of the script in force promises (manual, 7.7 and 11): following replacements ends, the answer is its
-- end, and any script that no entry names first has none.
use Rattle.std.specs.Prelude.{◌≡◌, true, if◌then◌else◌, ◌↔◌, List, [], ◌∷◌, ◌++◌, ℕ, zero, suc, ◌≤◌, ◌<◌, nat_eq}
use Rattle.std.proofs.Math.Option.{Option, none, some}
use Rattle.rules.specs.Answer.{Bytes, Octets, accepted, ◌>>◌, ask}
use Rattle.rules.specs.Limits.{no_script}
use Rattle.rules.specs.Comparison.{Comparison}
use Rattle.rules.specs.InForce.{script_count, type_of, entry_count, entry_first, entry_replaced, q40_lengths}
use Rattle.rules.specs.InForce.{q25_scripts, ok40, ok41, ok42, same_or_below, lists_check, script_in_force, in_force}
use Rattle.rules.specs.InForce.{LeadsTo, NamedFirst, InForceFrom}
use Rattle.rules.specs.Calls.{compare_call}
use Rattle.promises.specs.Questions.{Question, question, of_groups, of_types, QuestionsDecide}

-- the questions of entry e
abbrev pub of_amendment : Bytes → Bytes → Bytes → Bytes → ℕ → List Question
of_amendment g t l a e = question 40 (ask 40 e (ok40 l a e)) ∷ question 41 (ask 41 e (ok41 a e)) ∷ question 42 (ask 42 e (ok42 g t l a e)) ∷ []

-- the questions of the first n entries
unfoldable pub of_entries : Bytes → Bytes → Bytes → Bytes → ℕ → List Question
of_entries g t l a zero = []
of_entries g t l a (suc n) = of_entries g t l a n ++ of_amendment g t l a n

-- the questions of both lists and of all entries
abbrev pub of_lists : Bytes → Bytes → Bytes → Bytes → List Question
of_lists g t l a = question 40 (q40_lengths l a) ∷ question 25 (q25_scripts t l) ∷ of_entries g t l a (entry_count a)

-- The look-up in one pass: it begins with the entry that names the script first, and an entry that replaces the newest
-- script so far is the newest.
abbrev pub newest_after : Bytes → ℕ → ℕ → Option ℕ → Option ℕ
newest_after a i e none = if nat_eq (entry_first a e) i then some i else none
newest_after a i e (some j) = if nat_eq (entry_replaced a e) j then some (entry_first a e) else some j

-- after n entries
unfoldable pub newest : Bytes → ℕ → ℕ → Option ℕ
newest a i zero = none
newest a i (suc n) = newest_after a i n (newest a i n)

-- the script, or 65,535 where there is none
abbrev pub or_no_script : Option ℕ → ℕ
or_no_script none = no_script
or_no_script (some j) = j

-- Script i's type beside script j's in the call that compares two types.
pub record SameOrBelow (g t l : Bytes) (i j : ℕ) : Type 0 where
  pub answer : Comparison
  pub compared : compare_call g t (type_of l i) (type_of l j) ≡ accepted answer
  pub usable : same_or_below answer ≡ true

-- Of lists that pass, and any index.
pub record FindsInForce (g t l a : Bytes) (i : ℕ) : Type 0 where
  -- following ends, and in fewer replacements than there are entries
  pub ends : NamedFirst a i → (j : ℕ) × InForceFrom a i j
  pub short : (n j : ℕ) → NamedFirst a i → LeadsTo a i n j → n < entry_count a
  -- the answer is its end, and there is no other
  pub found : (j : ℕ) → NamedFirst a i → (in_force g t l a i ≡ accepted j) ↔ InForceFrom a i j
  -- any other index has none, and only those
  pub none_when : (in_force g t l a i ≡ accepted no_script) ↔ (NamedFirst a i → ⊥)
  -- the pass finds what following finds
  pub pass_finds : or_no_script (newest a i (entry_count a)) ≡ script_in_force a i
  -- both are scripts of the list, and the type of the one in force is the same as or below the first's
  pub in_list : (j : ℕ) → InForceFrom a i j → (i < script_count l) × (j < script_count l)
  pub type_below : (j : ℕ) → InForceFrom a i j → SameOrBelow g t l j i

-- What is promised of all lists.
pub record Amendments : Type 0 where
  -- Any bytes and any lengths get an answer: yes, or the first no of the questions in their order.
  pub asks : (g t l a : Bytes) (i : ℕ) → QuestionsDecide (of_groups g ++ of_types g t ++ of_lists g t l a) (in_force g t l a i)
  -- 65,535 as the index checks the lists alone.
  pub alone : (g t l a : Bytes) → in_force g t l a no_script ≡ ◌>>◌ (lists_check g t l a) (accepted no_script)
  -- a list of amendments that passes has no more entries than there are scripts
  pub few : (g t l a : Bytes) → lists_check g t l a ≡ accepted tt → entry_count a ≤ script_count l
  pub finds : (g t l a : Bytes) (i : ℕ) → Octets g → lists_check g t l a ≡ accepted tt → FindsInForce g t l a i
