use Rattle.std.proofs.Common.{◌≡◌, true, eq-eqb, nat_eq, ◌∙◌}
use Rattle.rules.specs.Report.{text}
use Rattle.lines.proofs.printed_number.Goals as goal

pub named-requires : goal.named-requires
unfolding text
named-requires c =
    let six : nat_eq c.args.kind 6 ≡ true = eq-eqb c.args.kind 6 (c.if-kind-number.true ∙ c.number.ensures) in
    rw c.from.ensures (rw six at c.requires)

pub returns-then-kind-number : goal.returns-then-kind-number
unfolding text
returns-then-kind-number c =
    let six : nat_eq c.args.kind 6 ≡ true = eq-eqb c.args.kind 6 (c.if-kind-number.true ∙ c.number.ensures) in
    rw (six, ← c.from.ensures) c.named.ensures
