-- The raised property in the first record.
use Rattle.std.proofs.Common.{length, ap, ◌∙◌, arith}
use Rattle.calculus.specs.Security as security
use Rattle.rules.specs.Groups.{properties_of}
use Rattle.lattice.specs.Said.{said_property, said_influence}
use Rattle.types.specs.Held.{with_property}
use Rattle.types.proofs.Parts.{starts_long, raised, with_property_length}
use Rattle.types.proofs.raise.Goals as goal

pub put_property-requires : goal.put_property-requires
put_property-requires c = omega (arith, starts_long c.requires)

pub returns : goal.returns
returns c =
    let S = properties_of c.args.groups.now in
    let m = said_influence c.args.by in
    let put = c.put_property.ensures in record {
      raised = λ t h.
          put
          ∙ ap (λ (x : security.Property). with_property c.args.part.now 0 x)
          (c.raised-raised.ensures ∙ ap (λ (x : security.Property). S.raise x m) (c.property.ensures t h))
          ∙ raised S t m h;
      size = ap length put ∙ with_property_length c.args.part.now 0 (said_property c.raised-raised.result);
    }
