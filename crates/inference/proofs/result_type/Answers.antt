-- Both types are there where the case finds its own, and else the second is in front.
use Rattle.std.proofs.Common.{◌≡◌, sym, ◌∙◌, subst, Bool, true, false, cond, drop}
use Rattle.calculus.specs.Typing.{finds_own}
use Rattle.rules.specs.Answer.{Bytes}
use Rattle.rules.specs.Limits.{answer_length}
use Rattle.rules.specs.Groups.{properties_of}
use Rattle.rules.specs.Types.{type_at}
use Rattle.rules.specs.Script.{number, own_at}
use Rattle.types.specs.Held.{Held}
use Rattle.inference.specs.Memory.{TwoTypesHeld}
use Rattle.inference.specs.Stages.{BranchesTyped}
use Rattle.inference.proofs.Names.{within, named, owns}
use Rattle.inference.proofs.Rules.{result_own, gives_of}
use Rattle.inference.proofs.result_type.Goals as goal

module _ {types s w : Bytes} (v : BranchesTyped types s w) where
  -- where the second branch's type stands
  abbrev both : own_at s 0 ≡ true → TwoTypesHeld w
  both e =
      record {
        first = v.first;
        second = v.second;
        slot = v.front e;
        other = subst (λ b. Held (drop (cond b answer_length 0) w) v.second) e v.other;
      }

  front : own_at s 0 ≡ false → Held w v.second
  front e = subst (λ b. Held (drop (cond b answer_length 0) w) v.second) e v.other

  -- whether the case finds its own type
  own_is : {x b : Bool} → x ≡ own_at s 0 → x ≡ b → finds_own (number s 0) ≡ b
  own_is f e = sym (owns v.node) ∙ sym f ∙ e

pub returns-then-finds_own : goal.returns-then-finds_own
returns-then-finds_own c v =
    let f = c.finds_own.ensures in
    let q = c.if-finds_own.true in
    gives_of
    (result_own (properties_of c.args.groups.now) c.args.place (type_at c.args.types.now) (number c.args.part.now 0) v.first v.second (own_is v f q))
    (c.common_type.ensures (both v (sym f ∙ q)))

pub named-requires : goal.named-requires
named-requires c =
    let v = c.requires in
    record { node = v.node.long; in_table = within _ _ (v.node.named (own_is v c.finds_own.ensures c.if-finds_own.false)) }

pub adopt-requires : goal.adopt-requires
adopt-requires c =
    let v = c.requires in
    let f = c.finds_own.ensures in
    let q = c.if-finds_own.false in
    record {
      wanted = named v.node.table (v.node.named (own_is v f q)) c.named.ensures;
      starts = record { type = v.second; held = front v (sym f ∙ q) };
      room = v.room;
    }
