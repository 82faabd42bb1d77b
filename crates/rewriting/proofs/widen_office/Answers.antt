use Rattle.rewriting.proofs.Widened.{nameless_written}
use Rattle.rewriting.proofs.widen_office.Goals as goal

pub returns : goal.returns
returns c = nameless_written c.args.script.now c.args.wide.now c.widen.ensures
