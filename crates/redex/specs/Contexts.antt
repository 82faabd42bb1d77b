-- What stands around the hole of an evaluation context: the bytes, the records and the depths are the same for every
-- term in the hole.
use Rattle.std.specs.Prelude.{[], ◌++◌, ℕ, ◌+◌, max}
use Rattle.calculus.specs.Security.{Reader}
use Rattle.calculus.specs.Terms.{choose, Operation, plus, less}
use Rattle.calculus.specs.Reduction.{Context, hole, app_left, app_right, in_proj, in_inj, pair_left, pair_right}
use Rattle.calculus.specs.Reduction.{in_protect, in_case, reckon_left, reckon_right}
use Rattle.rules.specs.Answer.{Bytes}
use Rattle.rules.specs.Script.{full_record, script_record, object_record, encode, size, weight, depth}
use Rattle.records.specs.Kinds as kinds

-- the record of a sum or of a comparison
abbrev pub reckon_record : Operation → Reader → Bytes
reckon_record plus w = script_record kinds.sum w 0 0
reckon_record (less i) w = script_record kinds.less w 0 i

-- the bytes before the hole
unfoldable pub before : Context → Bytes
unfolding encode
before hole = []
before (app_left w E a) = script_record kinds.application w 0 0 ++ before E
before (app_right w v h E) = script_record kinds.application w 0 0 ++ (encode v ++ before E)
before (in_proj d w E) = script_record (choose d kinds.first_projection kinds.second_projection) w 0 0 ++ before E
before (in_inj d k i E) = object_record (choose d kinds.first_injection kinds.second_injection) k i ++ before E
before (pair_left k E b) = object_record kinds.pair k 0 ++ before E
before (pair_right k v h E) = object_record kinds.pair k 0 ++ (encode v ++ before E)
before (in_protect m E) = full_record kinds.protect 0 m.ir 0 0 m.ic ++ before E
before (in_case w i E a b) = script_record kinds.case w 0 i ++ before E
before (reckon_left o w E b) = reckon_record o w ++ before E
before (reckon_right o w v h E) = reckon_record o w ++ (encode v ++ before E)

-- the bytes after the hole
unfoldable pub after : Context → Bytes
unfolding encode
after hole = []
after (app_left w E a) = after E ++ encode a
after (app_right w v h E) = after E
after (in_proj d w E) = after E
after (in_inj d k i E) = after E
after (pair_left k E b) = after E ++ encode b
after (pair_right k v h E) = after E
after (in_protect m E) = after E
after (in_case w i E a b) = after E ++ (encode a ++ encode b)
after (reckon_left o w E b) = after E ++ encode b
after (reckon_right o w v h E) = after E

-- the records before the hole
unfoldable pub offset : Context → ℕ
unfolding size
offset hole = 0
offset (app_left w E a) = 1 + offset E
offset (app_right w v h E) = 1 + (size v + offset E)
offset (in_proj d w E) = 1 + offset E
offset (in_inj d k i E) = 1 + offset E
offset (pair_left k E b) = 1 + offset E
offset (pair_right k v h E) = 1 + (size v + offset E)
offset (in_protect m E) = 1 + offset E
offset (in_case w i E a b) = 1 + offset E
offset (reckon_left o w E b) = 1 + offset E
offset (reckon_right o w v h E) = 1 + (size v + offset E)

-- the depth of the hole: each record around it is one level, and a case that finds its own type two
unfoldable pub level : Context → ℕ
level hole = 0
level (app_left w E a) = 1 + level E
level (app_right w v h E) = 1 + level E
level (in_proj d w E) = 1 + level E
level (in_inj d k i E) = 1 + level E
level (pair_left k E b) = 1 + level E
level (pair_right k v h E) = 1 + level E
level (in_protect m E) = 1 + level E
level (in_case w i E a b) = weight i + level E
level (reckon_left o w E b) = 1 + level E
level (reckon_right o w v h E) = 1 + level E
