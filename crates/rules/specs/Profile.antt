-- The profile: scripts without a recursion, which always finish (manual, 7.6).
use Rattle.std.specs.Prelude.{◌≡◌, Bool, not, [], ℕ, nat_eq}
use Rattle.calculus.specs.Types.{Ty, size_t}
use Rattle.calculus.specs.Subtyping.{subtype}
use Rattle.calculus.specs.Common.{nearest_type}
use Rattle.rules.specs.Answer.{Bytes, Answer, accepted, ◌>>◌, each, first_from, last_below}
use Rattle.rules.specs.Limits.{work_length, answer_length}
use Rattle.rules.specs.Groups.{join, meet, properties_of}
use Rattle.rules.specs.Types.{type_at}
use Rattle.rules.specs.Script.{records, kind, term, size}
use Rattle.rules.specs.Typing.{typing}
use Rattle.rules.specs.Calls.{q1, script_check}

-- 39. Is the record no recursion (kind 11)? Place: the record.
unfoldable pub ok39 : Bytes → ℕ → Bool
ok39 s i = not (nat_eq (kind s i) 11)

-- 39, of each record
abbrev pub q39 : Bytes → Answer (Unit {0})
q39 s = each 39 (records s) (ok39 s)

-- The profile check is checking with 39 asked after 19, before typing.
unfoldable pub profile_checking : ℕ → ℕ → Bytes → Bytes → Bytes → Answer Ty
unfolding script_check first_from ok39 typing size size_t subtype type_at term join meet last_below nearest_type
profile_checking work answer g t s = do
  q1 work answer
  script_check [] g t s
  q39 s
  typing (properties_of g) (type_at t) [] 0 (term s)

-- the profile check accepts the script, with this type
abbrev pub AcceptedInProfile : Bytes → Bytes → Bytes → Ty → Type 0
AcceptedInProfile g t s type = profile_checking work_length answer_length g t s ≡ accepted type
