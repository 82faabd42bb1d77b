-- Each walk calls both on shorter parts, and `Order` has the laws once for both directions.
use Rattle.std.proofs.Common.{ℕ, ◌∙◌, arith}
use Rattle.calculus.specs.Subtyping.{below, above}
use Rattle.rules.specs.Groups.{properties_of}
use Rattle.types.specs.Held.{left_of, right_of}
use Rattle.types.proofs.Parts.{starts_of}
use Rattle.subtyping.proofs.Order.{turned_round, straight_on, apart, alike, at_leaf, sided_b, lefts, walk}
use Rattle.subtyping.proofs.Order.{first_decides, second_decides, third_decides, rights, no_left, counted_a, counted_b}
use Rattle.subtyping.proofs.Order.{no_right, Done, done}
use Rattle.subtyping.proofs.+at_or_above_at_or_below.Goals as goal
use Rattle.subtyping.proofs.+at_or_above_at_or_below.Goals.{at_or_above-in-Function, at_or_above-in_default}
use Rattle.subtyping.proofs.+at_or_above_at_or_below.Goals.{at_or_below-in-Function, at_or_below-in_default}
use Rattle.subtyping.proofs.+at_or_above_at_or_below.Goals.{at_or_above-then-first+then-left}
use Rattle.subtyping.proofs.+at_or_above_at_or_below.Goals.{at_or_above-then-first+else-left, at_or_above-else-first}
use Rattle.subtyping.proofs.+at_or_above_at_or_below.Goals.{at_or_above-Joined-first, at_or_below-then-first+then-left}
use Rattle.subtyping.proofs.+at_or_above_at_or_below.Goals.{at_or_below-then-first+else-left, at_or_below-else-first}
use Rattle.subtyping.proofs.+at_or_above_at_or_below.Goals.{at_or_below-Joined-first}

pub at_or_above-returns-then-not-first_below : goal.at_or_above-returns-then-not-first_below
at_or_above-returns-then-not-first_below t c = apart (properties_of c.args.groups.now) above c.if-not-first_below.ensures

pub at_or_above-returns-then-not-has_sides : goal.at_or_above-returns-then-not-has_sides
at_or_above-returns-then-not-has_sides t c =
    let h = alike (properties_of c.args.groups.now) above c.requires.first c.requires.second c.if-not-first_below.ensures c.first_same-first.ensures c.kind_of-upper_kind.ensures in
    at_leaf h c.if-not-has_sides.ensures

pub at_or_above-left_side-requires-in-Function : goal.at_or_above-left_side-requires-in-Function
at_or_above-left_side-requires-in-Function t c =
    let h = alike (properties_of c.args.groups.now) above c.requires.first c.requires.second c.if-not-first_below.ensures c.first_same-first.ensures c.kind_of-upper_kind.ensures in
    sided_b h c.if-not-has_sides.ensures

pub at_or_above-at_or_below-requires : goal.at_or_above-at_or_below-requires
at_or_above-at_or_below-requires t c = (omega arith, (starts_of (c.left_side.ensures.side _ c.requires.first.held), starts_of (c.left_side-in-Function.ensures.side _ c.requires.second.held)))

pub at_or_above-left_side-requires-in_default-2 : goal.at_or_above-left_side-requires-in_default-2
at_or_above-left_side-requires-in_default-2 t c =
    let h = alike (properties_of c.args.groups.now) above c.requires.first c.requires.second c.if-not-first_below.ensures c.first_same-first.ensures c.kind_of-upper_kind.ensures in
    sided_b h c.if-not-has_sides.ensures

pub at_or_above-at_or_above-requires : goal.at_or_above-at_or_above-requires
at_or_above-at_or_above-requires t c = (omega arith, (starts_of (c.left_side-in_default.ensures.side _ c.requires.first.held), starts_of (c.left_side-in_default-2.ensures.side _ c.requires.second.held)))

pub at_or_above-returns-in_err-left : goal.at_or_above-returns-in_err-left
at_or_above-returns-in_err-left t c =
    let h = alike (properties_of c.args.groups.now) above c.requires.first c.requires.second c.if-not-first_below.ensures c.first_same-first.ensures c.kind_of-upper_kind.ensures in
    let l = lefts h c.if-not-has_sides.ensures c.match-upper_kind.branch'
    (elim c.match-upper_kind.branch [
      | at_or_above-in-Function w ↦
          walk h c.if-not-has_sides.ensures (turned_round above w.in-Function.is) w.branch'-is w.at_or_below.ensures w.left_side.ensures.side w.left_side-in-Function.ensures.side
      | at_or_above-in_default w ↦
          walk h c.if-not-has_sides.ensures (straight_on above w.in_default.not-Function) w.branch'-is w.at_or_above.ensures w.left_side-in_default.ensures.side w.left_side-in_default-2.ensures.side
    ]) in
    λ v w p q. c.from_residual.ensures ∙ no_left l c.in_err-left.was v w p q

pub at_or_above-right_side-upper_right-requires : goal.at_or_above-right_side-upper_right-requires
at_or_above-right_side-upper_right-requires t c =
    let h = alike (properties_of c.args.groups.now) above c.requires.first c.requires.second c.if-not-first_below.ensures c.first_same-first.ensures c.kind_of-upper_kind.ensures in
    let l = lefts h c.if-not-has_sides.ensures c.match-upper_kind.branch'
    (elim c.match-upper_kind.branch [
      | at_or_above-in-Function w ↦
          walk h c.if-not-has_sides.ensures (turned_round above w.in-Function.is) w.branch'-is w.at_or_below.ensures w.left_side.ensures.side w.left_side-in-Function.ensures.side
      | at_or_above-in_default w ↦
          walk h c.if-not-has_sides.ensures (straight_on above w.in_default.not-Function) w.branch'-is w.at_or_above.ensures w.left_side-in_default.ensures.side w.left_side-in_default-2.ensures.side
    ]) in
    counted_a l c.in_ok-left.was

pub at_or_above-right_side-lower_right-requires : goal.at_or_above-right_side-lower_right-requires
at_or_above-right_side-lower_right-requires t c =
    let h = alike (properties_of c.args.groups.now) above c.requires.first c.requires.second c.if-not-first_below.ensures c.first_same-first.ensures c.kind_of-upper_kind.ensures in
    let l = lefts h c.if-not-has_sides.ensures c.match-upper_kind.branch'
    (elim c.match-upper_kind.branch [
      | at_or_above-in-Function w ↦
          walk h c.if-not-has_sides.ensures (turned_round above w.in-Function.is) w.branch'-is w.at_or_below.ensures w.left_side.ensures.side w.left_side-in-Function.ensures.side
      | at_or_above-in_default w ↦
          walk h c.if-not-has_sides.ensures (straight_on above w.in_default.not-Function) w.branch'-is w.at_or_above.ensures w.left_side-in_default.ensures.side w.left_side-in_default-2.ensures.side
    ]) in
    counted_b l c.in_ok-left.was

pub at_or_above-at_or_above-requires-2 : goal.at_or_above-at_or_above-requires-2
at_or_above-at_or_above-requires-2 t c = (omega arith, (starts_of (c.right_side-upper_right.ensures.side _ c.requires.first.held), starts_of (c.right_side-lower_right.ensures.side _ c.requires.second.held)))

pub at_or_above-returns-in_err-right : goal.at_or_above-returns-in_err-right
at_or_above-returns-in_err-right t c =
    let h = alike (properties_of c.args.groups.now) above c.requires.first c.requires.second c.if-not-first_below.ensures c.first_same-first.ensures c.kind_of-upper_kind.ensures in
    let l = lefts h c.if-not-has_sides.ensures c.match-upper_kind.branch'
    (elim c.match-upper_kind.branch [
      | at_or_above-in-Function w ↦
          walk h c.if-not-has_sides.ensures (turned_round above w.in-Function.is) w.branch'-is w.at_or_below.ensures w.left_side.ensures.side w.left_side-in-Function.ensures.side
      | at_or_above-in_default w ↦
          walk h c.if-not-has_sides.ensures (straight_on above w.in_default.not-Function) w.branch'-is w.at_or_above.ensures w.left_side-in_default.ensures.side w.left_side-in_default-2.ensures.side
    ]) in
    let r = rights (properties_of c.args.groups.now) above c.at_or_above-2.ensures c.right_side-upper_right.ensures.side c.right_side-lower_right.ensures.side in
    λ v w p q. c.from_residual-in_err-right.ensures ∙ no_right l c.in_ok-left.was r c.in_err-right.was v w p q

above_done : (t : ℕ) (c : at_or_above-Joined-first t) → Done (properties_of c.args.groups.now) above c.args.upper.now c.args.lower.now c.first_same-first.result c.in_ok-left.left c.in_ok-right.right
above_done t c =
    let h = alike (properties_of c.args.groups.now) above c.requires.first c.requires.second c.if-not-first_below.ensures c.first_same-first.ensures c.kind_of-upper_kind.ensures in
    let l = lefts h c.if-not-has_sides.ensures c.match-upper_kind.branch'
    (elim c.match-upper_kind.branch [
      | at_or_above-in-Function w ↦
          walk h c.if-not-has_sides.ensures (turned_round above w.in-Function.is) w.branch'-is w.at_or_below.ensures w.left_side.ensures.side w.left_side-in-Function.ensures.side
      | at_or_above-in_default w ↦
          walk h c.if-not-has_sides.ensures (straight_on above w.in_default.not-Function) w.branch'-is w.at_or_above.ensures w.left_side-in_default.ensures.side w.left_side-in_default-2.ensures.side
    ]) in
    let r = rights (properties_of c.args.groups.now) above c.at_or_above-2.ensures c.right_side-upper_right.ensures.side c.right_side-lower_right.ensures.side in
    done l c.in_ok-left.was r c.in_ok-right.was

pub at_or_above-overflow_add-result : goal.at_or_above-overflow_add-result
at_or_above-overflow_add-result t c = let q = above_done t c in omega arith

pub at_or_above-overflow_add-result-2 : goal.at_or_above-overflow_add-result-2
at_or_above-overflow_add-result-2 t c = let q = above_done t c in omega arith

pub at_or_above-returns : goal.at_or_above-returns
at_or_above-returns t c =
    (above_done t c).says
    (elim c.if-first.branch [
      | at_or_above-then-first+then-left w ↦ third_decides w.if-first.true w.if-left.true w.result-is
      | at_or_above-then-first+else-left w ↦ second_decides _ w.if-first.true w.if-left.false w.result-is
      | at_or_above-else-first w ↦ first_decides _ w.if-first.false w.result-is
    ])

pub at_or_below-returns-then-not-first_below : goal.at_or_below-returns-then-not-first_below
at_or_below-returns-then-not-first_below t c = apart (properties_of c.args.groups.now) below c.if-not-first_below.ensures

pub at_or_below-returns-then-not-has_sides : goal.at_or_below-returns-then-not-has_sides
at_or_below-returns-then-not-has_sides t c =
    let h = alike (properties_of c.args.groups.now) below c.requires.first c.requires.second c.if-not-first_below.ensures c.first_same-first.ensures c.kind_of-lower_kind.ensures in
    at_leaf h c.if-not-has_sides.ensures

pub at_or_below-left_side-requires-in_default-2 : goal.at_or_below-left_side-requires-in_default-2
at_or_below-left_side-requires-in_default-2 t c =
    let h = alike (properties_of c.args.groups.now) below c.requires.first c.requires.second c.if-not-first_below.ensures c.first_same-first.ensures c.kind_of-lower_kind.ensures in
    sided_b h c.if-not-has_sides.ensures

pub at_or_below-at_or_above-requires : goal.at_or_below-at_or_above-requires
at_or_below-at_or_above-requires t c = (omega arith, (starts_of (c.left_side.ensures.side _ c.requires.first.held), starts_of (c.left_side-in-Function.ensures.side _ c.requires.second.held)))

pub at_or_below-at_or_below-requires : goal.at_or_below-at_or_below-requires
at_or_below-at_or_below-requires t c = (omega arith, (starts_of (c.left_side-in_default.ensures.side _ c.requires.first.held), starts_of (c.left_side-in_default-2.ensures.side _ c.requires.second.held)))

pub at_or_below-returns-in_err-left : goal.at_or_below-returns-in_err-left
at_or_below-returns-in_err-left t c =
    let h = alike (properties_of c.args.groups.now) below c.requires.first c.requires.second c.if-not-first_below.ensures c.first_same-first.ensures c.kind_of-lower_kind.ensures in
    let l = lefts h c.if-not-has_sides.ensures c.match-lower_kind.branch'
    (elim c.match-lower_kind.branch [
      | at_or_below-in-Function w ↦
          walk h c.if-not-has_sides.ensures (turned_round below w.in-Function.is) w.branch'-is w.at_or_above.ensures w.left_side.ensures.side w.left_side-in-Function.ensures.side
      | at_or_below-in_default w ↦
          walk h c.if-not-has_sides.ensures (straight_on below w.in_default.not-Function) w.branch'-is w.at_or_below.ensures w.left_side-in_default.ensures.side w.left_side-in_default-2.ensures.side
    ]) in
    λ v w p q. c.from_residual.ensures ∙ no_left l c.in_err-left.was v w p q

pub at_or_below-right_side-lower_right-requires : goal.at_or_below-right_side-lower_right-requires
at_or_below-right_side-lower_right-requires t c =
    let h = alike (properties_of c.args.groups.now) below c.requires.first c.requires.second c.if-not-first_below.ensures c.first_same-first.ensures c.kind_of-lower_kind.ensures in
    let l = lefts h c.if-not-has_sides.ensures c.match-lower_kind.branch'
    (elim c.match-lower_kind.branch [
      | at_or_below-in-Function w ↦
          walk h c.if-not-has_sides.ensures (turned_round below w.in-Function.is) w.branch'-is w.at_or_above.ensures w.left_side.ensures.side w.left_side-in-Function.ensures.side
      | at_or_below-in_default w ↦
          walk h c.if-not-has_sides.ensures (straight_on below w.in_default.not-Function) w.branch'-is w.at_or_below.ensures w.left_side-in_default.ensures.side w.left_side-in_default-2.ensures.side
    ]) in
    counted_a l c.in_ok-left.was

pub at_or_below-right_side-upper_right-requires : goal.at_or_below-right_side-upper_right-requires
at_or_below-right_side-upper_right-requires t c =
    let h = alike (properties_of c.args.groups.now) below c.requires.first c.requires.second c.if-not-first_below.ensures c.first_same-first.ensures c.kind_of-lower_kind.ensures in
    let l = lefts h c.if-not-has_sides.ensures c.match-lower_kind.branch'
    (elim c.match-lower_kind.branch [
      | at_or_below-in-Function w ↦
          walk h c.if-not-has_sides.ensures (turned_round below w.in-Function.is) w.branch'-is w.at_or_above.ensures w.left_side.ensures.side w.left_side-in-Function.ensures.side
      | at_or_below-in_default w ↦
          walk h c.if-not-has_sides.ensures (straight_on below w.in_default.not-Function) w.branch'-is w.at_or_below.ensures w.left_side-in_default.ensures.side w.left_side-in_default-2.ensures.side
    ]) in
    counted_b l c.in_ok-left.was

pub at_or_below-at_or_below-requires-2 : goal.at_or_below-at_or_below-requires-2
at_or_below-at_or_below-requires-2 t c = (omega arith, (starts_of (c.right_side-lower_right.ensures.side _ c.requires.first.held), starts_of (c.right_side-upper_right.ensures.side _ c.requires.second.held)))

pub at_or_below-returns-in_err-right : goal.at_or_below-returns-in_err-right
at_or_below-returns-in_err-right t c =
    let h = alike (properties_of c.args.groups.now) below c.requires.first c.requires.second c.if-not-first_below.ensures c.first_same-first.ensures c.kind_of-lower_kind.ensures in
    let l = lefts h c.if-not-has_sides.ensures c.match-lower_kind.branch'
    (elim c.match-lower_kind.branch [
      | at_or_below-in-Function w ↦
          walk h c.if-not-has_sides.ensures (turned_round below w.in-Function.is) w.branch'-is w.at_or_above.ensures w.left_side.ensures.side w.left_side-in-Function.ensures.side
      | at_or_below-in_default w ↦
          walk h c.if-not-has_sides.ensures (straight_on below w.in_default.not-Function) w.branch'-is w.at_or_below.ensures w.left_side-in_default.ensures.side w.left_side-in_default-2.ensures.side
    ]) in
    let r = rights (properties_of c.args.groups.now) below c.at_or_below-2.ensures c.right_side-lower_right.ensures.side c.right_side-upper_right.ensures.side in
    λ v w p q. c.from_residual-in_err-right.ensures ∙ no_right l c.in_ok-left.was r c.in_err-right.was v w p q

below_done : (t : ℕ) (c : at_or_below-Joined-first t) → Done (properties_of c.args.groups.now) below c.args.lower.now c.args.upper.now c.first_same-first.result c.in_ok-left.left c.in_ok-right.right
below_done t c =
    let h = alike (properties_of c.args.groups.now) below c.requires.first c.requires.second c.if-not-first_below.ensures c.first_same-first.ensures c.kind_of-lower_kind.ensures in
    let l = lefts h c.if-not-has_sides.ensures c.match-lower_kind.branch'
    (elim c.match-lower_kind.branch [
      | at_or_below-in-Function w ↦
          walk h c.if-not-has_sides.ensures (turned_round below w.in-Function.is) w.branch'-is w.at_or_above.ensures w.left_side.ensures.side w.left_side-in-Function.ensures.side
      | at_or_below-in_default w ↦
          walk h c.if-not-has_sides.ensures (straight_on below w.in_default.not-Function) w.branch'-is w.at_or_below.ensures w.left_side-in_default.ensures.side w.left_side-in_default-2.ensures.side
    ]) in
    let r = rights (properties_of c.args.groups.now) below c.at_or_below-2.ensures c.right_side-lower_right.ensures.side c.right_side-upper_right.ensures.side in
    done l c.in_ok-left.was r c.in_ok-right.was

pub at_or_below-overflow_add-result : goal.at_or_below-overflow_add-result
at_or_below-overflow_add-result t c = let q = below_done t c in omega arith

pub at_or_below-overflow_add-result-2 : goal.at_or_below-overflow_add-result-2
at_or_below-overflow_add-result-2 t c = let q = below_done t c in omega arith

pub at_or_below-returns : goal.at_or_below-returns
at_or_below-returns t c =
    (below_done t c).says
    (elim c.if-first.branch [
      | at_or_below-then-first+then-left w ↦ third_decides w.if-first.true w.if-left.true w.result-is
      | at_or_below-then-first+else-left w ↦ second_decides _ w.if-first.true w.if-left.false w.result-is
      | at_or_below-else-first w ↦ first_decides _ w.if-first.false w.result-is
    ])
