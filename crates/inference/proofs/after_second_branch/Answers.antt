-- The result type is raised in place.
use Rattle.std.proofs.Common.{◌≡◌, ℕ, ap, ◌∙◌, arith}
use Rattle.calculus.specs.Security.{Indirect, Security}
use Rattle.calculus.specs.Types.{Ty, raise_t}
use Rattle.rules.specs.Answer.{Bytes, Answer, accepted, ◌>>=◌ as bind}
use Rattle.rules.specs.Groups.{properties_of}
use Rattle.rules.specs.Types.{type_at}
use Rattle.rules.specs.Script.{number}
use Rattle.lattice.specs.Said.{said_influence}
use Rattle.inference.specs.Memory.{meets_type}
use Rattle.inference.specs.Stages.{result_type, case_type, BranchesTyped}
use Rattle.inference.proofs.Rules.{case_raises, meets_of, raise_wrote, typed_as, refused_as, refused_meets}
use Rattle.inference.proofs.after_second_branch.Goals as goal

-- the case's type from its result's
raised : {types s w : Bytes} (v : BranchesTyped types s w) (S : Security) (place : ℕ) (by : Indirect) {o : Answer Ty}
    → result_type S (type_at types) place (number s 0) v.first v.second ≡ o
    → case_type S (type_at types) place (number s 0) v.first v.second by ≡ bind o (λ r. accepted (raise_t S r by))
raised {types} {s} v S place by e =
    case_raises S place (type_at types) (number s 0) v.first v.second by ∙ ap (λ a. bind a (λ r. accepted (raise_t S r by))) e

pub returns-in_err-n : goal.returns-in_err-n
returns-in_err-n c v b l =
    refused_meets _ (raised v (properties_of c.args.groups.now) c.args.place (said_influence c.args.by) (refused_as (c.in_err-n.ensures v b l))) c.from_residual.ensures.1

pub raise-requires : goal.raise-requires
raise-requires c =
    let v = c.requires in
    let z = typed_as (c.in_ok-n.ensures v 0 (omega (arith, v.room))) in
    record { type = z.type; held = z.wrote.sized.held }

pub returns : goal.returns
returns c v b l =
    let y = typed_as (c.in_ok-n.ensures v b l) in
    let S = properties_of c.args.groups.now in
    let by = said_influence c.args.by in
    meets_of (raised v S c.args.place by y.is)
    (meets_type
    (raise_wrote S by y.wrote (c.raise.ensures.raised y.type y.wrote.sized.held) c.raise.ensures.size (omega (arith, c.result_type.auto.work))))
