use Rattle.std.proofs.Common.{ap, ◌∙◌, arith}
use Rattle.rules.specs.Script.{arity}
use Rattle.records.specs.Numbers.{kind_number}
use Rattle.records.proofs.Table.{arity_small}
use Rattle.records.proofs.Kind.arity.Goals as goal

pub returns : goal.returns
unfolding arity
returns c =
    let e = c.from.ensures ∙ ap (λ f. f.operands) c.signature.ensures in record { value = e; small = omega (arith, arity_small (kind_number c.args.self)) }
