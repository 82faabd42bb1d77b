-- Examples of packets: where each refusal stands among the others, and what each of the five buffers holds afterwards.
use Rattle.std.specs.Prelude.{◌≡◌, [], ◌∷◌, ◌++◌, ℕ, zero, suc}
use Rattle.rules.specs.Answer.{Bytes, Answer, refused}
use Rattle.rules.specs.Limits.{work_length}
use Rattle.rules.specs.Script.{script_record}
use Rattle.rules.specs.Run.{Ran}
use Rattle.rules.specs.Calls.{Report, first_after, scratch_after}
use Rattle.rules.specs.Packet.{before_typing, desk_run, Packet, packet_call, packet_report, desk_work_after}
use Rattle.rules.specs.Packet.{packet_page_after}
use Rattle.rules.specs.Cases.{groups, types, ends}
use Rattle.rules.specs.Examples.{var, unit, pair, app, protect, two_functions}
use Rattle.rules.specs.CallExamples.{recursion, shown}
use Rattle.rules.specs.CreatorExamples.{unit_by}

-- A function of a unit (0,0) that gives it back, and that only readers above r may call.
abbrev pub back : ℕ → Bytes
back r = script_record 2 r r 4 ++ var 0

-- A function of a unit (0,0) that calls itself for ever.
abbrev pub endless : Bytes
endless = script_record 11 0 0 3 ++ script_record 2 0 0 4 ++ app 0 ++ var 1 ++ var 0

-- n protects around the first of them: depth n + 2
abbrev pub wrapped : ℕ → Bytes
wrapped zero = back 0
wrapped (suc n) = protect 0 ++ wrapped n

-- a unit that is applied
abbrev pub untyped : Bytes
untyped = app 0 ++ unit 0 0 ++ unit 0 0

-- the packet for group 0, by the lengths of the run's buffers and of the sheet's
abbrev pub by_rooms : ℕ → ℕ → ℕ → ℕ → Bytes → Bytes → Answer Packet
by_rooms budget first scratch room script entry = packet_call groups types script entry 0 budget 0 work_length first scratch room

-- the packet by group, budget and profile, with buffers that are long enough
abbrev pub by_desk : ℕ → ℕ → ℕ → Bytes → Bytes → Answer Packet
by_desk group budget profile script entry = packet_call groups types script entry group budget profile work_length 65536 65536 49152

-- what it reports
abbrev pub answered : Answer Packet → Answer Report
answered x = packet_report x

-- what is left, for a desk of group 0 without a profile, in run buffers of 32 bytes: room for an application of four
-- records
abbrev pub run_of : ℕ → Bytes → Bytes → Answer Ran
run_of profile script entry = desk_run groups types script entry 0 1000 profile work_length 32 32

-- of a work buffer that is taken to be long enough
abbrev pub work_left : ℕ → Bytes → Bytes
work_left profile script = desk_work_after (before_typing groups types script profile work_length) (9 ∷ 9 ∷ [])

-- seven bytes that a buffer held before
abbrev pub nines : Bytes
nines = 9 ∷ 9 ∷ 9 ∷ 9 ∷ 9 ∷ 9 ∷ 9 ∷ []

-- sixteen of them
abbrev pub sixteen : Bytes
sixteen = 9 ∷ 9 ∷ 9 ∷ 9 ∷ 9 ∷ 9 ∷ 9 ∷ 9 ∷ 9 ∷ 9 ∷ 9 ∷ 9 ∷ 9 ∷ 9 ∷ 9 ∷ 9 ∷ []

-- Each field is one packet with what it reports or leaves, computed.
pub record PacketExamples : Type 0 where
  -- a packet: the run's end and steps, and the sheet's records
  pub packet : answered (by_desk 0 1000 0 (back 0) (unit 0 0)) ≡ ends 0 2 1
  pub page : packet_page_after (by_desk 0 1000 0 (back 0) (unit 0 0)) nines ≡ shown 0 0 0 ++ (9 ∷ [])
  -- applied as the desk's group, and shown to it: as group 1, the result bears that a (1,1) was read
  pub as_group_1 : answered (by_desk 1 1000 0 (back 1) (unit 0 0)) ≡ ends 0 2 1
  pub page_for_1 : packet_page_after (by_desk 1 1000 0 (back 1) (unit 0 0)) nines ≡ shown 0 1 1 ++ (9 ∷ [])
  -- another end is reported with the last term's records, and the sheet isn't asked for
  pub spent : answered (by_desk 0 1 0 (back 0) (unit 0 0)) ≡ ends 1 1 2
  pub no_budget : answered (by_desk 0 0 0 (back 0) (unit 0 0)) ≡ ends 1 0 4
  pub too_big : answered (by_rooms 1000 96 96 0 endless (unit 0 0)) ≡ ends 4 0 7
  pub no_page_spent : packet_page_after (by_rooms 1 32 32 0 (back 0) (unit 0 0)) nines ≡ nines
  pub no_page_too_big : packet_page_after (by_rooms 1000 96 96 49152 endless (unit 0 0)) nines ≡ nines
  -- 1 of the work buffer, before 2; the longest that is too short
  pub short_work : answered (packet_call groups types (back 0) (unit 0 0) 0 1000 0 96767 32 32 6) ≡ refused 1 0
  pub work_first : answered (packet_call [] types (back 0) (unit 0 0) 0 1000 0 0 32 32 6) ≡ refused 1 0
  pub groups_next : answered (packet_call [] types (back 0) [] 0 1000 0 work_length 32 32 6) ≡ refused 2 0
  -- the script's questions before the entry's, its typing too; an entry's refusal looks like a script's
  pub script_first : answered (by_desk 0 1000 0 (var 0) []) ≡ refused 19 0
  pub typing_first : answered (by_desk 0 1000 0 untyped []) ≡ refused 20 0
  pub entry_empty : answered (by_desk 0 1000 0 (back 0) []) ≡ refused 13 0
  pub entry_creators : answered (by_desk 0 1000 0 (back 0) (unit_by 0 1)) ≡ refused 36 0
  pub entry_unbound : answered (by_desk 0 1000 0 (back 0) (var 0)) ≡ refused 19 0
  pub entry_untyped : answered (by_desk 0 1000 0 (back 0) untyped) ≡ refused 20 0
  -- 39 of either, under any number but 0: after 19 and before typing
  pub recursion_taken : answered (by_desk 0 0 0 endless (unit 0 0)) ≡ ends 1 0 7
  pub script_39 : answered (by_desk 0 0 1 (recursion 0) []) ≡ refused 39 0
  pub any_profile : answered (by_desk 0 0 256 (recursion 0) []) ≡ refused 39 0
  pub script_39_first : answered (by_desk 0 0 1 (app 0 ++ unit 0 0 ++ recursion 0) []) ≡ refused 39 2
  pub entry_39 : answered (by_desk 0 0 1 (back 0) (recursion 0)) ≡ refused 39 0
  pub entry_39_first : answered (by_desk 0 0 1 (back 0) (app 0 ++ unit 0 0 ++ recursion 0)) ≡ refused 39 2
  pub in_profile : answered (by_desk 0 1000 1 (back 0) (unit 0 0)) ≡ ends 0 2 1
  -- 26 of the entry, after its typing and before 25; the group is compared as wide as it comes
  pub no_value : answered (by_desk 0 1000 0 (back 0) (protect 0 ++ unit 0 0)) ≡ refused 26 0
  pub value_before_group : answered (by_desk 2 1000 0 (back 0) (protect 0 ++ unit 0 0)) ≡ refused 26 0
  pub no_group : answered (by_desk 2 1000 0 (back 0) (unit 0 0)) ≡ refused 25 0
  pub wide_group : answered (by_desk 4294967296 1000 0 (back 0) (unit 0 0)) ≡ refused 25 0
  -- 37, 21 and 38, in this order
  pub group_before_37 : answered (by_desk 2 1000 0 (unit 0 0) (unit 0 0)) ≡ refused 25 0
  pub no_function : answered (by_desk 0 1000 0 (unit 1 1) (unit 0 0)) ≡ refused 37 0
  pub may_not_call : answered (by_desk 0 1000 0 (back 1) (unit 0 0)) ≡ refused 21 0
  pub reader_before_38 : answered (by_desk 0 1000 0 (back 1) (pair 0 0 ++ unit 0 0 ++ unit 0 0)) ≡ refused 21 0
  pub other_entry : answered (by_desk 0 1000 0 (back 0) (pair 0 0 ++ unit 0 0 ++ unit 0 0)) ≡ refused 38 0
  pub entry_above : answered (by_desk 0 1000 0 (back 0) (unit 1 1)) ≡ refused 38 0
  -- the left side is what is compared: from unit (1,1) to unit (0,0)
  pub left_side : answered (packet_call groups two_functions (script_record 2 0 0 1 ++ unit 0 0) (unit 1 1) 0 1000 0 work_length 65536 65536 6) ≡ ends 0 2 1
  -- 13 and 18 of the application, after 38; each buffer has to hold it
  pub other_before_13 : answered (by_rooms 1000 31 31 6 (back 0) (unit 1 1)) ≡ refused 38 0
  pub short_first : answered (by_rooms 1000 31 32 6 (back 0) (unit 0 0)) ≡ refused 13 0
  pub short_scratch : answered (by_rooms 1000 32 31 6 (back 0) (unit 0 0)) ≡ refused 13 0
  pub just_long : answered (by_rooms 1000 32 32 6 (back 0) (unit 0 0)) ≡ ends 0 2 1
  pub deep : answered (by_desk 0 0 0 (wrapped 254) (unit 0 0)) ≡ refused 18 0
  pub just_shallow : answered (by_desk 0 0 0 (wrapped 253) (unit 0 0)) ≡ ends 1 0 257
  pub long_before_deep : answered (by_rooms 1000 32 32 6 (wrapped 254) (unit 0 0)) ≡ refused 13 0
  -- 27 of a packet alone
  pub no_room : answered (by_rooms 1000 32 32 5 (back 0) (unit 0 0)) ≡ refused 27 0
  pub page_kept : packet_page_after (by_rooms 1000 32 32 5 (back 0) (unit 0 0)) nines ≡ nines
  pub spent_before_27 : answered (by_rooms 1 32 32 5 (back 0) (unit 0 0)) ≡ ends 1 1 2
  -- the work buffer: unchanged up to 39 of the script, and zeros from its typing on
  pub work_unchanged_at_19 : work_left 0 (var 0) ≡ 9 ∷ 9 ∷ []
  pub work_unchanged_at_39 : work_left 1 (recursion 0) ≡ 9 ∷ 9 ∷ []
  pub work_cleared : work_left 0 untyped ≡ 0 ∷ 0 ∷ []
  -- the run's buffers: unchanged before the run, and as after a run afterwards, whatever 27 says
  pub first_unchanged : first_after (run_of 0 (back 0) (unit 1 1)) nines ≡ nines
  pub scratch_unchanged : scratch_after (run_of 0 (back 0) (unit 1 1)) nines ≡ nines
  pub first_run : first_after (run_of 0 (back 0) (unit 0 0)) sixteen ≡ unit 0 0 ++ (0 ∷ 0 ∷ 0 ∷ 0 ∷ 0 ∷ 0 ∷ 0 ∷ 0 ∷ [])
  pub scratch_run : scratch_after (run_of 0 (back 0) (unit 0 0)) (9 ∷ 9 ∷ []) ≡ 0 ∷ 0 ∷ []
