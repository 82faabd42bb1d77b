-- What is found at a node follows from what is found at the operands.
use Rattle.std.proofs.Common.{◌≡◌, ℕ, ◌+◌, ◌≤◌, ◌<◌, Bool, ◌&&◌, cond, sym, ap, ◌∙◌, arith}
use Rattle.calculus.specs.Terms.{Term}
use Rattle.rules.specs.Answer.{Bytes}
use Rattle.rules.specs.Groups.{leq}
use Rattle.rules.specs.Script.{kind, r, is_object}
use Rattle.records.specs.Kinds as kinds
use Rattle.records.specs.Place.{At}
use Rattle.records.specs.Operands.{first_operand, second_operand}
use Rattle.records.proofs.Stands.{here, there, at_first, at_second}
use Rattle.sheet.specs.Value.{value_found}
use Rattle.sheet.specs.declared.Reached.{Reached}
use Rattle.sheet.proofs.Values.{kind_is, view, own, own_at, at_most_one, ValueLines, found, lost, looked_no, looked_yes}
use Rattle.sheet.proofs.Values.{no_object, no_parts, first_part, injects, pairs, look_injection, look_pair, lines_size}
use Rattle.sheet.proofs.Values.{plain, of_injection, no_object_kind}
use Rattle.sheet.proofs.+look.Goals as goal

own_most : (shown : Bool) (n : ℕ) {own_line : ℕ} → own_line ≡ n + cond shown 1 0 → own_line ≤ n + 1
own_most shown n e = omega (arith, at_most_one shown)

-- the node has parts
module _ {s : Bytes} {i k : ℕ} (kind_read : k ≡ kind s i) (from_pair : kinds.function < k) (to_injections : k ≤ kinds.second_injection) where
  first_at : (u : Term) → At s i u → At s (i + 1) (first_operand u)
  first_at u w =
      let e = kind_is u kind_read w in
      at_first s i u w (first_part (view u) (omega (arith, e)) (omega (arith, e))).0

module _ (g : Bytes) (group : ℕ) (shown : Bool) (n : ℕ) {is_open : Bool} {s : Bytes} {i k own_line : ℕ} (kind_read : k ≡ kind s i) (counts : own_line ≡ n + cond shown 1 0)
    (opens : is_open ≡ leq g (r s i) group) where
  inside_is : (u : Term) → At s i u → (shown && is_open) ≡ (shown && leq g (own u) group)
  inside_is u w = ap (λ x. shown && x) (opens ∙ ap (λ x. leq g x group) (own_at s i u w))

  -- an injection's part is all
  injected : kinds.function < k → k ≤ kinds.second_injection → (k ≡ kinds.pair → ⊥) → (u : Term) → At s i u
      → value_found g group (shown && is_open) (first_operand u) (i + 1) own_line ≡ value_found g group shown u i n
  injected l m h u w =
      let e = kind_is u kind_read w in
      look_injection g group shown (shown && is_open) u i n own_line counts (inside_is u w) (injects (view u) (omega (arith, e)) (omega (arith, e)) (λ x. h (e ∙ x)))

  -- the first part of a pair is a value
  module _ {x : Reached} (is_pair : k ≡ kinds.pair) (u : Term) (w : At s i u) (first_found : ValueLines g group (shown && is_open) (first_operand u) (i + 1) own_line x) where
    second_at : At s x.next (second_operand u)
    second_at = at_second s i u w x.next (pairs (view u) (sym (kind_is u kind_read w) ∙ is_pair)).two first_found.end

    second_looked : value_found g group (shown && is_open) (second_operand u) x.next x.line ≡ value_found g group shown u i n
    second_looked =
        look_pair g group shown (shown && is_open) u i n own_line counts (inside_is u w) x (pairs (view u) (sym (kind_is u kind_read w) ∙ is_pair)) first_found

pub counted-own-requires : goal.counted-own-requires
counted-own-requires t c = omega (arith, there _ _ _ c.requires.here.at, c.requires.before)

pub is_open-requires : goal.is_open-requires
is_open-requires t c = there _ _ _ c.requires.here.at

pub look-requires : goal.look-requires
look-requires t c =
    let n = of_injection c.in-FirstInjection.is in
    let p = first_at c.kind_of.ensures n.0 n.1 _ c.requires.here.at in
    (omega (arith, c.decreases, there _ _ _ c.requires.here.at), (here p, omega (arith, c.requires.before, own_most c.args.shown c.args.count c.counted-own.ensures)))

pub look-requires-in-Pair : goal.look-requires-in-Pair
look-requires-in-Pair t c =
    let p = first_at c.in-Pair.ensures (omega arith) (omega arith) _ c.requires.here.at in
    (omega (arith, c.decreases, there _ _ _ c.requires.here.at), (here p, omega (arith, c.requires.before, own_most c.args.shown c.args.count c.counted-own.ensures)))

pub returns-in_err-first-in-Pair : goal.returns-in_err-first-in-Pair
returns-in_err-first-in-Pair t c u w =
    let e = kind_is u c.in-Pair.ensures w in
    let p = first_at c.in-Pair.ensures (omega arith) (omega arith) u w in
    let f = first_part (view u) (omega (arith, e)) (omega (arith, e)) in
    c.from_residual.ensures
    ∙ looked_no _ _ _ u _ _ (f.1 (lost _ _ _ (first_operand u) _ _ (c.in_err-first-in-Pair.ensures (first_operand u) p)))

pub look-requires-in-Pair-2 : goal.look-requires-in-Pair-2
look-requires-in-Pair-2 t c =
    let g = c.args.groups.now in
    let group = c.args.group.0 in
    let u = c.requires.here.tree in
    let w = c.requires.here.at in
    let p = first_at c.in-Pair.ensures (omega arith) (omega arith) u w in
    let f = found g group _ (first_operand u) _ _ _ (c.in_ok-first-in-Pair.ensures (first_operand u) p) in
    let q = second_at g group c.args.shown c.args.count c.in-Pair.ensures c.counted-own.ensures c.is_open.ensures (omega arith) u w f in (
      omega (arith, c.decreases, there _ _ _ w, f.end, there _ _ _ q),
      (here q, omega (arith, c.requires.before, f.end, f.count, own_most c.args.shown c.args.count c.counted-own.ensures, lines_size g group (c.args.shown && c.is_open.result) (first_operand u))),
    )

pub returns-in-Unit : goal.returns-in-Unit
returns-in-Unit t c u w =
    let e = kind_is u c.kind_of.ensures w in
    let n = plain c.in-Unit.is in
    let p = no_parts c.args.groups.now c.args.group.0 c.args.shown (view u) (ap is_object (sym e) ∙ n.0) (λ l. omega (arith, e, n.1 (omega (arith, e)))) in
    looked_yes _ _ _ u _ _ _ p.0 (c.end_of.ensures u w) (omega (arith, p.1, c.counted-own.ensures))

pub returns-in-FirstInjection : goal.returns-in-FirstInjection
returns-in-FirstInjection t c u w =
    let n = of_injection c.in-FirstInjection.is in
    let p = first_at c.kind_of.ensures n.0 n.1 u w in
    c.look.ensures (first_operand u) p
    ∙ injected c.args.groups.now c.args.group.0 c.args.shown c.args.count c.kind_of.ensures c.counted-own.ensures c.is_open.ensures n.0 n.1 n.2 u w

pub returns-in_ok-first-in-Pair : goal.returns-in_ok-first-in-Pair
returns-in_ok-first-in-Pair t c u w =
    let g = c.args.groups.now in
    let group = c.args.group.0 in
    let p = first_at c.in-Pair.ensures (omega arith) (omega arith) u w in
    let f = found g group _ (first_operand u) _ _ _ (c.in_ok-first-in-Pair.ensures (first_operand u) p) in
    let q = second_at g group c.args.shown c.args.count c.in-Pair.ensures c.counted-own.ensures c.is_open.ensures (omega arith) u w f in
    c.look-in-Pair-2.ensures (second_operand u) q
    ∙ second_looked g group c.args.shown c.args.count c.in-Pair.ensures c.counted-own.ensures c.is_open.ensures (omega arith) u w f

pub returns-in_default : goal.returns-in_default
returns-in_default t c u w =
    let e = kind_is u c.kind_of.ensures w in
    let d = c.in_default in
    looked_no _ _ _ u _ _
    (no_object (view u) (ap is_object (sym e) ∙ no_object_kind _ d.not-Unit d.not-Function d.not-Literal d.not-Pair d.not-FirstInjection d.not-SecondInjection))
