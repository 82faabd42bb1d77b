use Rattle.std.proofs.Common.{eq-eqb, eqb-true}
use Rattle.std.proofs.lemmas.Slice.Eq.{slice_eq-Decides}
use Rattle.words.proofs.WordBytes.{words_same}
use Rattle.words.proofs.same_word.Goals as goal

pub returns : goal.returns
returns c =
    words_same (record { whole = c.told-words; there = c.requires.first; is = c.word.ensures }) (record { whole = c.told-words; there = c.requires.second; is = c.word-2.ensures }) _
    (slice_eq-Decides (λ a b. (eqb-true a b, eq-eqb a b)) _ _ _ c.eq.ensures)
