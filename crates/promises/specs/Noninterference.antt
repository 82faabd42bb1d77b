-- Nothing is learned from what may not be seen (manual, 11). Of runs that end 0 nothing but their last terms is
-- compared: how many steps they made, how long they took and whether they end may depend on what is not seen.
use Rattle.std.specs.Prelude.{◌≡◌, false, ◌↔◌, ◌++◌, ℕ, ◌%◌, ◌<◌, length, IsTrue}
use Rattle.calculus.specs.Types.{Ty, top}
use Rattle.calculus.specs.Terms.{Term}
use Rattle.noninterference.specs.Places.{Place, put, type_within, made_within}
use Rattle.noninterference.specs.Places as places
use Rattle.rules.specs.Answer.{Bytes, Octets, accepted}
use Rattle.rules.specs.Limits.{script_width}
use Rattle.rules.specs.Groups.{leq, groups_of}
use Rattle.rules.specs.Script.{records, kind, number, encode, term}
use Rattle.rules.specs.Run.{Ran}
use Rattle.rules.specs.Sheet.{sheet}
use Rattle.rules.specs.Calls.{run_call, first_after, sheet_call}
use Rattle.rules.specs.Reach.{Accepted}
use Rattle.promises.specs.Promises.{Typed}

-- The same place of otherwise equal scripts: a in w and b in w', with the same records before and after.
pub record ScriptsAtPlace (a b w w' : Bytes) : Type 0 where
  pub before : Bytes
  pub after : Bytes
  pub whole_records : length before % script_width ≡ 0
  pub first : w ≡ before ++ (a ++ after)
  pub second : w' ≡ before ++ (b ++ after)

-- The same of terms: all of the two but what stands at the place is one.
pub record SamePlaceOf (a b w w' : Term) : Type 0 where
  pub place : Place
  pub first : w ≡ put place a
  pub second : w' ≡ put place b

-- Two closed scripts, for both of which checking reports the same type, stand at the same place of an otherwise equal
-- closed script. Both whole scripts have one type by the rules.
pub record Exchanged (g t a b w w' : Bytes) (part type : Ty) : Type 0 where
  pub first_reported : Accepted g t a part
  pub second_reported : Accepted g t b part
  pub placed : ScriptsAtPlace a b w w'
  pub first_typed : Typed g t w type
  pub second_typed : Typed g t w' type

-- The whole's type, with readers (r', ir'), holds no function, its readers are all ⊑ r', its indirect readers all ⊑
-- ir', and the part's ir ⋢ ir'.
pub record Unseen (g t a b w w' : Bytes) (part type : Ty) : Type 0 where
  pub exchanged : Exchanged g t a b w w' part type
  pub read_whole : IsTrue (type_within (groups_of g) (top type) type)
  pub not_seen : leq g (top part).ir (top type).ir ≡ false

-- The whole's type, with indirect creators ic', holds no function, its indirect creators are all ⊒ ic', and ic' ⋢ the
-- part's ic.
pub record MadeByOthers (g t a b w w' : Bytes) (part type : Ty) : Type 0 where
  pub exchanged : Exchanged g t a b w w' part type
  pub made_whole : IsTrue (made_within (groups_of g) (top type).ic type)
  pub not_made : leq g (top type).ic (top part).ic ≡ false

-- Both runs end 0, each with a budget and two buffers of its own.
pub record BothEnd (g t w w' : Bytes) (ran ran' : Ran) : Type 0 where
  -- the first's budget and buffers, and the second's
  pub budget : ℕ
  pub first : ℕ
  pub scratch : ℕ
  pub budget' : ℕ
  pub first' : ℕ
  pub scratch' : ℕ
  pub runs : run_call g t w budget first scratch ≡ accepted ran
  pub runs' : run_call g t w' budget' first' scratch' ≡ accepted ran'
  pub ends_0 : ran.end ≡ 0
  pub ends_0' : ran'.end ≡ 0

-- The same kinds of record in the same order, and equal literals.
pub record SameRecords (u v : Bytes) : Type 0 where
  pub count : records u ≡ records v
  pub kinds : (i : ℕ) → i < records u → kind u i ≡ kind v i
  pub literals : (i : ℕ) → i < records u → kind u i ≡ 12 → number u i ≡ number v i

-- The two values are one: so a reader of any group is shown the same, by the sheet and by the sheet's call.
pub record SameValue (g t : Bytes) (ran ran' : Ran) : Type 0 where
  -- the same term, and the same bytes
  pub terms : ran.last ≡ ran'.last
  pub bytes : encode ran.last ≡ encode ran'.last
  -- first buffers of one length hold the same bytes afterwards
  pub buffers : (old old' : Bytes) → length old ≡ length old' → first_after (accepted ran) old ≡ first_after (accepted ran') old'
  -- the same sheet for every group, and the same answer of its call
  pub sheets : (group : ℕ) → sheet g group ran.last ≡ sheet g group ran'.last
  pub sheet_calls : (group room : ℕ) → sheet_call g t (encode ran.last) group room ≡ sheet_call g t (encode ran'.last) group room

-- What is promised of all scripts.
pub record Noninterference : Type 0 where
  -- of the last terms' bytes, and of the terms
  pub nothing_learned : (g t a b w w' : Bytes) (part type : Ty) (ran ran' : Ran) → Octets g → Octets w → Octets w'
      → Unseen g t a b w w' part type → BothEnd g t w w' ran ran'
      → SameRecords (encode ran.last) (encode ran'.last) × (places.shown_records ran.last ≡ places.shown_records ran'.last)
  -- and more
  pub one_value : (g t a b w w' : Bytes) (part type : Ty) (ran ran' : Ran) → Octets g → Octets w → Octets w'
      → Unseen g t a b w w' part type → BothEnd g t w w' ran ran' → SameValue g t ran ran'
  -- The same place is one notion on bytes and on terms, for all bytes that encode a term, as a script that passes
  -- questions 2 to 19 does.
  pub same_place : (a b w w' : Bytes) → encode (term a) ≡ a → encode (term b) ≡ b → encode (term w) ≡ w → encode (term w') ≡ w'
      → ScriptsAtPlace a b w w' ↔ SamePlaceOf (term a) (term b) (term w) (term w')
  -- The same kinds of record and equal literals are one notion too.
  pub same_records : (e e' : Term) → SameRecords (encode e) (encode e') ↔ (places.shown_records e ≡ places.shown_records e')
  -- What stands before and after a place is the same for all terms that are put there.
  pub place_bytes : (P : Place) → (before : Bytes) × (after : Bytes) × (length before % script_width ≡ 0)
      × ((e : Term) → encode (put P e) ≡ before ++ (encode e ++ after))

-- The dual for creators: the last terms don't depend on a part that others made.
unfoldable pub OneMade : Type 0
OneMade =
    (g t a b w w' : Bytes) (part type : Ty) (ran ran' : Ran) → Octets g → Octets w → Octets w' → MadeByOthers g t a b w w' part type
    → BothEnd g t w w' ran ran' → SameValue g t ran ran'
