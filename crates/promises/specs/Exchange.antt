-- What may be exchanged in a script so that a reader's page doesn't tell, and whose hand can't have changed what it
-- comes to. By labels alone: no script here need be checked. Only the last terms of runs that end 0 are compared:
-- steps, records, time and whether a run ends may depend on what is hidden.
use Rattle.std.specs.Prelude.{◌≡◌, Bool, not, ◌&&◌, ◌||◌, ℕ, ◌<◌, nat_eq, nat_le, if◌then◌else◌, IsTrue}
use Rattle.noninterference.specs.Hidden.{Observer, Alike, Clear}
use Rattle.noninterference.specs.Observers.{reader_at, who_trusts, exact}
use Rattle.calculus.specs.Groups.{Groups}
use Rattle.rules.specs.Answer.{Bytes, Octets, Answer, accepted}
use Rattle.rules.specs.Groups.{rows, leq, groups_of}
use Rattle.rules.specs.Script.{kind, r, ir, ic, encode, term, is_object}
use Rattle.rules.specs.Run.{Ran}
use Rattle.rules.specs.Sheet.{sheet}
use Rattle.rules.specs.Calls.{sheet_call}
use Rattle.rules.specs.Packet.{Packet, packet_call}
use Rattle.promises.specs.Closed.{AlikeOutside}
use Rattle.promises.specs.Noninterference.{ScriptsAtPlace, BothEnd}

-- Of any two scripts whose runs both end 0, each with a budget and buffers of its own.
abbrev pub OfTwoRuns : ((g t w w' : Bytes) (ran ran' : Ran) → Type 0) → Type 0
OfTwoRuns P = (g t w w' : Bytes) (ran ran' : Ran) → Octets g → Octets w → Octets w' → BothEnd g t w w' ran ran' → P g t w w' ran ran'

-- A reader at the group is told the same of both: by the sheet, and by the sheet's call, whatever room it has.
pub record SameSheets (g t : Bytes) (group : ℕ) (ran ran' : Ran) : Type 0 where
  pub alike : AlikeOutside g group ran.last ran'.last
  pub sheets : sheet g group ran.last ≡ sheet g group ran'.last
  pub calls : (room : ℕ) → sheet_call g t (encode ran.last) group room ≡ sheet_call g t (encode ran'.last) group room

-- Secrecy: exchange anything inside objects and protects with ir ⋢ the group, creators, and the groups that readings
-- are made as.
unfoldable pub SheetsTellNothing : Type 0
SheetsTellNothing =
    OfTwoRuns λ g t w w' ran ran'. (group : ℕ) → Alike (reader_at (groups_of g) group) (term w) (term w') → SameSheets g t group ran ran'

-- Scripts that one of these observers can't tell apart come to last terms that he can't tell apart.
unfoldable pub LastAlike : (Groups → ℕ → Observer) → Type 0
LastAlike O =
    OfTwoRuns λ g t w w' ran ran'. (group : ℕ) → Alike (O (groups_of g) group) (term w) (term w') → Alike (O (groups_of g) group) ran.last ran'.last

-- Where he keeps all labels, and nothing in the first last term is hidden from him, the two are one.
unfoldable pub LastIsOne : (Groups → ℕ → Observer) → Type 0
LastIsOne O =
    OfTwoRuns λ g t w w' ran ran'. (group : ℕ) → Alike (exact (O (groups_of g) group)) (term w) (term w')
    → Clear (exact (O (groups_of g) group)) ran.last → ran.last ≡ ran'.last

-- a reader who keeps all labels of what isn't hidden from him
abbrev pub reader_exactly : Groups → ℕ → Observer
reader_exactly G g = exact (reader_at G g)

-- who trusts a group, keeping all labels of what isn't hidden from him
abbrev pub who_trusts_exactly : Groups → ℕ → Observer
who_trusts_exactly G h = exact (who_trusts G h)

-- A part that a reader at the group may learn nothing of: its first record has ir ⋢ the group. So that is an object or
-- a protect; of other kinds ir is 0.
abbrev pub unread : Bytes → ℕ → Bytes → Bool
unread g group part = not (leq g (ir part 0) group)

-- application, projection, case, sum and comparison
abbrev pub is_reading : ℕ → Bool
is_reading kind = (nat_le 6 kind && nat_le kind 9) || nat_le 13 kind

-- A part that who trusts the group needn't heed: its first record is an object or a protect with the group ⋢ ic, or a
-- reading as a group that isn't ⊒ it.
abbrev pub unmade : Bytes → ℕ → Bytes → Bool
unmade g group part =
    if is_object (kind part 0) || nat_eq (kind part 0) 10 then not (leq g group (ic part 0))
    else is_reading (kind part 0) && not (leq g group (r part 0))

-- Two whole terms stand at the same place of an otherwise equal script, both of which pass. They may be under binders
-- that they use.
pub record PartsOf (passes : Bytes → Bool) (a b w w' : Bytes) : Type 0 where
  pub first_whole : encode (term a) ≡ a
  pub second_whole : encode (term b) ≡ b
  pub placed : ScriptsAtPlace a b w w'
  pub first_passes : IsTrue (passes a)
  pub second_passes : IsTrue (passes b)

-- The lender's figure: whichever of the two parts is there, a reader at the group is told the same.
unfoldable pub PartUnread : Type 0
PartUnread =
    OfTwoRuns λ g t w w' ran ran'. (group : ℕ) (a b : Bytes) → group < rows g → PartsOf (unread g group) a b w w' → SameSheets g t group ran ran'

-- The registrar's: whichever of the two parts is there, the last terms are the same but for what others made.
unfoldable pub PartUnmade : Type 0
PartUnmade =
    OfTwoRuns λ g t w w' ran ran'. (group : ℕ) (a b : Bytes) → PartsOf (unmade g group) a b w w'
    → Alike (who_trusts_exactly (groups_of g) group) ran.last ran'.last

-- What a desk's call is lent: numbers, and the lengths of its buffers.
pub record Desk : Type 0 where
  pub budget : ℕ
  pub profile : ℕ
  pub work : ℕ
  pub first : ℕ
  pub scratch : ℕ
  pub room : ℕ

-- the packet of a desk's call
abbrev pub packet_of : Desk → Bytes → Bytes → Bytes → Bytes → ℕ → Answer Packet
packet_of d g t script entry group = packet_call g t script entry group d.budget d.profile d.work d.first d.scratch d.room

-- Two packets for one group, of scripts and entries that are alike to its readers, have one page where both runs end 0.
unfoldable pub SamePages : Type 0
SamePages =
    (g t script entry script' entry' : Bytes) (group : ℕ) (d d' : Desk) (x x' : Packet) → Octets g → Octets script → Octets entry → Octets script'
    → Octets entry' → Alike (reader_at (groups_of g) group) (term script) (term script')
    → Alike (reader_at (groups_of g) group) (term entry) (term entry') → packet_of d g t script entry group ≡ accepted x
    → packet_of d' g t script' entry' group ≡ accepted x' → x.ran.end ≡ 0 → x'.ran.end ≡ 0 → x.page ≡ x'.page
