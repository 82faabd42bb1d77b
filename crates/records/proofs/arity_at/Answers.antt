use Rattle.std.proofs.Common.{ap, ◌∙◌, arith}
use Rattle.rules.specs.Script.{arity, kind}
use Rattle.records.proofs.Table.{arity_small}
use Rattle.records.proofs.arity_at.Goals as goal

pub returns : goal.returns
unfolding arity
returns c =
    let e = c.from.ensures ∙ ap (λ f. f.operands) c.signature_at.ensures in
    record { value = e; small = omega (arith, arity_small (kind c.args.script.now c.args.index)) }
