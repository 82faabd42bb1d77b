-- The questions are put to the right operand's type, and both properties are read.
use Rattle.std.proofs.Common.{Result, sym, subst, ap, ap₂, ◌∙◌}
use Rattle.calculus.specs.Security.{Security}
use Rattle.calculus.specs.Types.{top}
use Rattle.calculus.specs.Numbers.{of_both}
use Rattle.rules.specs.Answer.{Answer, accepted, ◌>>=◌ as bind, ◌>>◌ as then}
use Rattle.rules.specs.Limits.{answer_length}
use Rattle.rules.specs.Groups.{properties_of}
use Rattle.lattice.specs.Said.{said_property}
use Rattle.lattice.specs.declared.Property.{Property}
use Rattle.answer.specs.Said.{answer_of}
use Rattle.answer.specs.declared.Refusal.{Refusal}
use Rattle.answer.proofs.Passed.{then_asked, returned}
use Rattle.types.specs.Held.{Starts}
use Rattle.types.specs.declared.Kind.TheVariants.{Number}
use Rattle.types.proofs.Parts.{to_end}
use Rattle.inference.specs.Stages.{may_read}
use Rattle.inference.proofs.reckoned.Goals as goal

pub may_read-requires : goal.may_read-requires
may_read-requires c = subst Starts (sym (to_end answer_length c.args.work.now)) c.requires.right

pub returns-in_err-may_read : goal.returns-in_err-may_read
returns-in_err-may_read c s t h k =
    ap (λ (x : Result Property Refusal). bind (answer_of x) (λ k. accepted (said_property k))) (returned _ c.from_residual.ensures.1)
    ∙ ap (λ (o : Answer (Unit {0})). then o (accepted (of_both (properties_of c.args.groups.now) c.args.r.0 (top s) (top t))))
    (c.in_err-may_read.ensures t (rw to_end k))

pub property-right-requires : goal.property-right-requires
property-right-requires c = rw to_end c.requires.right

pub returns : goal.returns
returns c s t h k =
    let S : Security = properties_of c.args.groups.now in
    let r = c.args.r.0 in
    then_asked (may_read S c.args.place Number t r) (accepted (of_both S r (top s) (top t))) (c.in_ok-may_read.ensures t (rw to_end k))
    (ap accepted
    (c.reckoned_with.ensures ∙ ap₂ (of_both S r) (c.property-left.ensures s h) (c.property-right.ensures t (rw to_end k))))
