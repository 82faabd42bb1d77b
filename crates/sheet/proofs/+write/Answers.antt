-- What is written at a node is its own line, and where it is open the sheets of its parts.
use Rattle.std.proofs.Common.{◌≡◌, ℕ, ◌≤◌, ◌<◌, Bool, sym, ap, subst, ◌∙◌, arith}
use Rattle.calculus.specs.Terms.{Term}
use Rattle.rules.specs.Answer.{Bytes}
use Rattle.rules.specs.Groups.{leq}
use Rattle.rules.specs.Script.{kind, r}
use Rattle.records.specs.Kinds as kinds
use Rattle.records.specs.Place.{At}
use Rattle.records.specs.Operands.{first_operand, second_operand}
use Rattle.records.proofs.Stands.{kind_of, here, at_second}
use Rattle.memory.specs.Written.{Written}
use Rattle.memory.specs.declared.Writer.{Writer}
use Rattle.sheet.specs.Shown.{shown_line}
use Rattle.sheet.proofs.Values.{kind_is, view, own, own_at, injects, pairs, of_injection, no_parts_kind}
use Rattle.sheet.proofs.Sheets.{shown, without, closed, first_value, second_value, part_at, wrote_alone}
use Rattle.sheet.proofs.Sheets.{wrote_injection, wrote_pair, value_there, line_fits, injection_room, first_room}
use Rattle.sheet.proofs.Sheets.{second_room}
use Rattle.sheet.proofs.+write.Goals as goal

-- a pair or an injection
parts : {s : Bytes} {i k : ℕ} (u : Term) → k ≡ kind s i → kinds.function < k → k ≤ kinds.second_injection → At s i u
    → (kinds.function < kind_of u) × (kind_of u ≤ kinds.second_injection)
parts u e l m w = (omega (arith, kind_is u e w), omega (arith, kind_is u e w))

module _ (g s : Bytes) (group i : ℕ) {told : Bool} (is_open : told ≡ leq g (r s i) group) where
  line_is : {bytes : Bytes} {x y : Writer} → Written bytes x y → bytes ≡ shown_line told s i → Written (shown g group s i) x y
  line_is {x = x} {y} put e = subst (λ b. Written b x y) (e ∙ ap (λ t. shown_line t s i) is_open) put

  told_is : (u : Term) → At s i u → leq g (own u) group ≡ told
  told_is u w = sym (is_open ∙ ap (λ x. leq g x group) (own_at s i u w))

pub is_open-open-requires : goal.is_open-open-requires
is_open-open-requires t c = value_there c.requires

pub line_of-requires : goal.line_of-requires
line_of-requires t c = here c.requires.at

pub put-requires : goal.put-requires
put-requires t c = line_fits c.requires

pub end_of-requires : goal.end_of-requires
end_of-requires t c = here c.requires.at

pub returns-then-not-open : goal.returns-then-not-open
returns-then-not-open t c u w v = record {
  next_is = c.end_of.ensures u w;
  wrote = wrote_alone _ _ u w v (line_is _ _ _ _ c.is_open-open.ensures c.put.ensures c.line_of.ensures)
      (closed _ _ (view u) v (told_is _ _ _ _ c.is_open-open.ensures u w ∙ c.if-not-open.true));
}

pub write-requires : goal.write-requires
write-requires t c =
    let q = c.requires in
    let n = of_injection c.in-FirstInjection.is in
    let l = parts q.tree c.kind_of.ensures n.0 n.1 q.at in (
      omega (arith, c.decreases, value_there q),
      injection_room q (told_is _ _ _ _ c.is_open-open.ensures q.tree q.at ∙ c.if-not-open.false) (line_is _ _ _ _ c.is_open-open.ensures c.put.ensures c.line_of.ensures)
          l.0 l.1 (λ h. n.2 (kind_is q.tree c.kind_of.ensures q.at ∙ h)),
    )

pub write-second-requires : goal.write-second-requires
write-second-requires t c =
    let q = c.requires in (
      omega (arith, c.decreases, value_there q),
      first_room q (told_is _ _ _ _ c.is_open-open.ensures q.tree q.at ∙ c.if-not-open.false) (line_is _ _ _ _ c.is_open-open.ensures c.put.ensures c.line_of.ensures)
          (sym (kind_is q.tree c.in-Pair.ensures q.at)),
    )

pub write-requires-in-Pair : goal.write-requires-in-Pair
write-requires-in-Pair t c =
    let g = c.args.groups.now in
    let group = c.args.group.0 in
    let q = c.requires in
    let l = parts q.tree c.in-Pair.ensures (omega arith) (omega arith) q.at in
    let x = c.write-second.ensures (first_operand q.tree) (part_at g group q.tree q.at q.value l.0 l.1) (first_value (view q.tree) q.value l.0 l.1) in
    let z = second_room q (told_is g c.args.value.now group c.args.i c.is_open-open.ensures q.tree q.at ∙ c.if-not-open.false)
    (line_is _ _ _ _ c.is_open-open.ensures c.put.ensures c.line_of.ensures) (sym (kind_is q.tree c.in-Pair.ensures q.at)) x.next_is x.wrote in
    (omega (arith, c.decreases, value_there q, x.next_is, value_there z), z)

pub returns-in-FirstInjection : goal.returns-in-FirstInjection
returns-in-FirstInjection t c u w v =
    let g = c.args.groups.now in
    let group = c.args.group.0 in
    let n = of_injection c.in-FirstInjection.is in
    let l = parts u c.kind_of.ensures n.0 n.1 w in
    let h : kind_of u ≡ kinds.pair → ⊥ = λ h. n.2 (kind_is u c.kind_of.ensures w ∙ h) in
    let x = c.write.ensures (first_operand u) (part_at g group u w v l.0 l.1) (first_value (view u) v l.0 l.1) in
    record {
      next_is = omega (arith, x.next_is, (injects (view u) l.0 l.1 h).sized);
      wrote = wrote_injection _ _ u w v (line_is _ _ _ _ c.is_open-open.ensures c.put.ensures c.line_of.ensures)
          (told_is _ _ _ _ c.is_open-open.ensures u w ∙ c.if-not-open.false) x.wrote l.0 l.1 h;
    }

pub returns-in-Pair : goal.returns-in-Pair
returns-in-Pair t c u w v =
    let h = sym (kind_is u c.in-Pair.ensures w) in
    let l = parts u c.in-Pair.ensures (omega arith) (omega arith) w in
    let p = pairs (view u) h in
    let x = c.write-second.ensures (first_operand u) (part_at c.args.groups.now c.args.group.0 u w v l.0 l.1) (first_value (view u) v l.0 l.1) in
    let y = c.write-in-Pair.ensures (second_operand u) (at_second _ _ u w c.write-second.result p.two x.next_is) (second_value v p) in
    record {
      next_is = omega (arith, x.next_is, y.next_is, p.sized);
      wrote = wrote_pair _ _ u w v (line_is _ _ _ _ c.is_open-open.ensures c.put.ensures c.line_of.ensures)
          (told_is _ _ _ _ c.is_open-open.ensures u w ∙ c.if-not-open.false) x.wrote h y.wrote;
    }

pub end_of-requires-in_default : goal.end_of-requires-in_default
end_of-requires-in_default t c = here c.requires.at

pub returns-in_default : goal.returns-in_default
returns-in_default t c u w v =
    let e = kind_is u c.kind_of.ensures w in
    let d = c.in_default in
    let l = no_parts_kind _ d.not-Pair d.not-FirstInjection d.not-SecondInjection in
    record {
      next_is = c.end_of-in_default.ensures u w;
      wrote = wrote_alone _ _ u w v (line_is _ _ _ _ c.is_open-open.ensures c.put.ensures c.line_of.ensures)
          (without _ _ (view u) v (λ m. omega (arith, e, l (omega (arith, e)))));
    }
