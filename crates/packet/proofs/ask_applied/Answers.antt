-- A function is told by the kind of its first record.
use Rattle.std.proofs.Common.{sym, ap, ◌∙◌, nat_eq}
use Rattle.rules.specs.Answer.{ask}
use Rattle.types.specs.Kinds.{type_kind_number}
use Rattle.types.specs.declared.Kind.TheVariants.{Function}
use Rattle.types.proofs.Numbered.{tests_numbers, eqb_comm}
use Rattle.inference.proofs.KindLaws.{kind_is}
use Rattle.packet.proofs.ask_applied.Goals as goal

pub returns : goal.returns
returns c s h =
    c.ask.ensures
    ∙ ap (ask 37 0) (c.eq-is_function.ensures ∙ tests_numbers c.kind_of.result Function ∙ ap (λ n. nat_eq n (type_kind_number Function)) (c.kind_of.ensures s h) ∙ eqb_comm _ _ ∙ sym (kind_is Function s))
