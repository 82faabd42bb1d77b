use Rattle.rules.specs.Report.{our_words}
use Rattle.words.proofs.our_words.Goals as goal

pub returns : goal.returns
unfolding our_words
returns c =
    rw (c.put-7.ensures, c.put-6.ensures, c.put-5.ensures, c.put-4.ensures, c.put-3.ensures, c.put-2.ensures, c.put.ensures)
