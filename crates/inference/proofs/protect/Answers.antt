use Rattle.rules.specs.Groups.{properties_of}
use Rattle.lattice.specs.Said.{said_influence}
use Rattle.inference.specs.Memory.{meets_type}
use Rattle.inference.proofs.Rules.{raise_wrote, unchanged}
use Rattle.inference.proofs.protect.Goals as goal

pub returns : goal.returns
returns c = λ t h b l.
    let a = c.args in
    let raised = c.raise.ensures in
    meets_type (raise_wrote (properties_of a.groups.now) (said_influence a.by) (unchanged h) (raised.raised t h.held) raised.size l)
