-- Records of an earlier form, whatever their width: the first bytes of each, with group 0 as c and ic after them.
use Rattle.std.specs.Prelude.{[], ◌∷◌, ◌++◌, ℕ, zero, suc, take, drop}
use Rattle.rules.specs.Answer.{Bytes, Answer, accepted, ◌>>◌}
use Rattle.rules.specs.Calls.{q27}

-- the first n of them, of `width` bytes each, of which `kept` are in the present form
unfoldable pub widened_records : ℕ → ℕ → ℕ → Bytes → Bytes
widened_records width kept zero s = []
widened_records width kept (suc n) s = take kept s ++ (0 ∷ 0 ∷ widened_records width kept n (drop width s))

-- question 27 of what is to be written, and that
abbrev pub after_27 : Bytes → ℕ → Answer Bytes
after_27 b room = do
  q27 b room
  accepted b
