-- A node without operands is a variable, a literal or a unit.
use Rattle.std.proofs.Common.{◌≡◌, ℕ, ◌<◌, refl, sym, ap, ◌∙◌, subst, arith}
use Rattle.calculus.specs.Types.{one, number, leaf}
use Rattle.calculus.specs.Terms.{Term, var}
use Rattle.rules.specs.Answer.{Bytes}
use Rattle.rules.specs.Types.{encode_type}
use Rattle.lattice.specs.Said.{said_property}
use Rattle.inference.specs.Operands.{WellFormed}
use Rattle.inference.specs.Stages.{leaf_type}
use Rattle.inference.proofs.Shapes.{arity_of, unit_left, of_fields}
use Rattle.inference.proofs.Rules.{meets_of}
use Rattle.inference.proofs.leaf.Goals as goal

in_scope : (t : Bytes) (b n : ℕ) (e : Term) → e ≡ var n → WellFormed t b e → n < b
unfolding WellFormed
in_scope t b n e p f = subst (λ d. WellFormed t b d) p f

pub variable-requires : goal.variable-requires
variable-requires c =
    let v = c.requires in
    let e = of_fields c.args.part.now v.tree _ v.is c.in-Variable.ensures refl c.index.ensures in
    record {
      ctx = v.ctx;
      binders = v.binders;
      holds = v.holds;
      below = in_scope v.types c.args.binders c.index.result v.tree e v.formed;
      room = v.room;
    }

pub returns-in-Variable : goal.returns-in-Variable
unfolding leaf_type
returns-in-Variable c v =
    let e = of_fields c.args.part.now v.tree _ v.is c.in-Variable.ensures refl c.index.ensures in
    meets_of (ap (leaf_type v.ctx) e) (c.variable.ensures v.ctx v.binders v.holds)

pub one_record-requires : goal.one_record-requires
one_record-requires c = omega (arith, c.requires.room)

pub returns-in-Literal : goal.returns-in-Literal
unfolding leaf_type encode_type
returns-in-Literal c v =
    let e = of_fields c.args.part.now v.tree _ v.is c.in-Literal.ensures c.property.ensures refl in
    meets_of (ap (leaf_type v.ctx) e) (c.one_record.ensures (leaf number (said_property c.property.result)) refl c.args.binders v.room)

pub one_record-requires-in_default : goal.one_record-requires-in_default
one_record-requires-in_default c = omega (arith, c.requires.room)

pub returns-in_default : goal.returns-in_default
unfolding leaf_type encode_type
returns-in_default c v =
    let f = c.kind_of.ensures in
    let z = unit_left _ (arity_of v.tree v.is f ∙ v.leaf) c.in_default.not-Variable c.in_default.not-Literal in
    let e = of_fields c.args.part.now v.tree _ v.is (sym z ∙ f) c.property-in_default.ensures refl in
    meets_of (ap (leaf_type v.ctx) e) (c.one_record-in_default.ensures (leaf one (said_property c.property-in_default.result)) refl c.args.binders v.room)
