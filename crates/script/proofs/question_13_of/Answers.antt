use Rattle.std.proofs.Common.{◌∙◌, rules, tests, length, nat_le}
use Rattle.std.proofs.lemmas.Iterator.{YieldsList-from_slice}
use Rattle.std.proofs.lemmas.Iterator.Search.{all_from_yields_List}
use Rattle.script.proofs.Rooms.{asked}
use Rattle.script.proofs.question_13_of.Goals as goal

pub returns : goal.returns
returns c =
    let a = c.args in
    c.ask.ensures
    ∙ asked a.width a.buffers.now a.script.now c.whole-whole.ensures
    (all_from_yields_List (nat_le (length a.script.now)) _ _ c.all-fits.result c.all-fits.ensures.ran (YieldsList-from_slice a.buffers.now cc) (λ x b q k. search (rules, tests)))
