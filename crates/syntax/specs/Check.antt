-- The questions of a script, in order.
use Rattle.std.specs.Prelude.{[]}
use Rattle.rules.specs.Answer.{Bytes, Answer, first_from, ◌>>◌}
use Rattle.rules.specs.Script.{ok14, term_end, q13, q14, q17}

-- 13, 14 and 17: what the look-up of a subterm asks
unfoldable pub shape_check : Bytes → Answer (Unit {0})
unfolding first_from ok14 term_end
shape_check s = do
  q13 [] s
  q14 s
  q17 s
