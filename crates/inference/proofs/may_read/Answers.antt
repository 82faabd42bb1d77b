-- Question 20 by the first record's kind, question 21 by its readers.
use Rattle.std.proofs.Common.{◌≡◌, sym, ap, ◌∙◌, nat_eq}
use Rattle.calculus.specs.Types.{Ty}
use Rattle.rules.specs.Answer.{ask}
use Rattle.rules.specs.Groups.{properties_of, leq}
use Rattle.rules.specs.Typing.{q21}
use Rattle.answer.proofs.Passed.{then_asked, left_by}
use Rattle.types.specs.Kinds.{type_kind_number}
use Rattle.types.specs.Held.{Held}
use Rattle.types.proofs.Numbered.{tests_numbers, eqb_comm}
use Rattle.inference.specs.Kinds.{has_kind}
use Rattle.inference.proofs.KindLaws.{kind_is}
use Rattle.inference.proofs.may_read.Goals as goal
use Rattle.inference.proofs.may_read.Goals.{After-at_or_below-readable}

-- both questions, as the code asks them
module _ (c : After-at_or_below-readable) (t : Ty) (h : Held c.args.work.now t) where
  asked_20 : ask 20 c.args.place c.eq-of_kind.result ≡ ask 20 c.args.place (has_kind c.args.kind t)
  asked_20 =
      ap (ask 20 c.args.place)
      (c.eq-of_kind.ensures ∙ tests_numbers _ _ ∙ ap (λ n. nat_eq n (type_kind_number c.args.kind)) (c.kind_of.ensures t h) ∙ eqb_comm _ _ ∙ sym (kind_is c.args.kind t))

  asked_21 : ask 21 c.args.place c.at_or_below-readable.result ≡ q21 (properties_of c.args.groups.now) c.args.place t c.args.r.0
  asked_21 =
      ap (ask 21 c.args.place) (c.at_or_below-readable.ensures ∙ ap (λ r. leq c.args.groups.now r c.args.r.0) (c.reader-own.ensures t h))

pub returns-in_err-ask : goal.returns-in_err-ask
returns-in_err-ask c t h =
    left_by (ask 20 c.args.place (has_kind c.args.kind t)) (q21 (properties_of c.args.groups.now) c.args.place t c.args.r.0) _ _
    (c.in_err-ask.ensures ∙ asked_20 (goal.at.returns-in_err-ask c).After-at_or_below-readable t h) c.from_residual.ensures.1

pub returns : goal.returns
returns c t h =
    let both = (goal.at.returns c).After-at_or_below-readable in
    then_asked (ask 20 c.args.place (has_kind c.args.kind t)) (q21 (properties_of c.args.groups.now) c.args.place t c.args.r.0)
    (c.in_ok-ask.ensures ∙ asked_20 both t h) (c.ask-2.ensures ∙ asked_21 both t h)
