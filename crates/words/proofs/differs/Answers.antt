use Rattle.std.proofs.Common.{rules, not}
use Rattle.rules.specs.Answer.{first_from}
use Rattle.rules.specs.Words.{same_word, ok34}
use Rattle.words.proofs.differs.Goals as goal

pub returns : goal.returns
unfolding ok34 first_from
returns c = c.all.ensures (λ j. not (same_word c.args.words.now c.args.i j)) (λ j b l h. search rules)
