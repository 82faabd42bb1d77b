-- What is asked before the names are looked up.
use Rattle.rules.specs.Answer.{Bytes, Answer, ◌>>◌, first_from}
use Rattle.rules.specs.Calls.{types_check, form_check}
use Rattle.rules.specs.Office.{nameless, ok29, q28, q29}

-- 2 to 12, 28, 14 to 18 and 29
unfoldable pub office_check : Bytes → Bytes → Bytes → Answer (Unit {0})
unfolding types_check form_check nameless first_from ok29
office_check g t s = do
  types_check g t
  q28 s
  form_check g t (nameless s)
  q29 s
