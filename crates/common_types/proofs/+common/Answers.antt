-- The walk calls itself at records further on, and `Stages` has its laws.
use Rattle.std.proofs.Common.{ℕ, ◌+◌, ap, ◌∙◌, arith}
use Rattle.rules.specs.Groups.{properties_of}
use Rattle.types.specs.Held.{right_of}
use Rattle.common_types.specs.Directions.{said_direction}
use Rattle.common_types.specs.Walks.{TwoTypes}
use Rattle.types.proofs.Parts.{starts_of}
use Rattle.common_types.proofs.Places.{room, in_range}
use Rattle.common_types.proofs.Stages.{First, Sided, Lefts, at_once, at_leaves, no_sides, firsts, at_function, at_other}
use Rattle.common_types.proofs.Stages.{lefts, walked_lefts, no_left, rights, no_right, both_found, few}
use Rattle.common_types.proofs.+common.Goals as goal
use Rattle.common_types.proofs.+common.Goals.{in-Function, in_default, Joined-kind, After-common, After-common-2}

-- the first records are of one kind, and the common one is written
first : (t : ℕ) (c : Joined-kind t) (p : TwoTypes c.args.work.now c.args.at c.args.other)
    → First (properties_of c.args.groups.now) (said_direction c.args.direction) p c.bound_first.new.work
first t c p = firsts p _ _ (c.if-not-of_one_kind.ensures p) c.bound_first.ensures

-- the types have sides
sided : (t : ℕ) (c : Joined-kind t) (p : TwoTypes c.args.work.now c.args.at c.args.other)
    → Sided (properties_of c.args.groups.now) (said_direction c.args.direction) p (said_direction c.match-kind.leftward)
sided t c p =
    let S = properties_of c.args.groups.now in
    let d = said_direction c.args.direction in
    let k = c.kind_of-kind.ensures p.first (c.type_at.ensures p.first p.first_at) in
    elim c.match-kind.branch [
      | in-Function w ↦ at_function S d p _ k c.if-not-has_sides.ensures w.in-Function.is (ap said_direction w.leftward-is ∙ w.opposite-leftward.ensures)
      | in_default w ↦ at_other S d p _ k c.if-not-has_sides.ensures w.in_default.not-Function (ap said_direction w.leftward-is)
    ]

-- the left sides, as their walk takes them, and what it answers
abbrev left_sides : (t : ℕ) (c : Joined-kind t) (p : TwoTypes c.args.work.now c.args.at c.args.other) → TwoTypes c.bound_first.new.work (c.args.at + 1) (c.args.other + 1)
left_sides t c p = lefts (first t c p) (sided t c p).two

left_walked : (t : ℕ) (c : After-common t) (p : TwoTypes c.args.work.now c.args.at c.args.other)
    → Lefts (properties_of c.args.groups.now) (said_direction c.args.direction) p c.bound_first.new.work c.common.result c.common.new.work
left_walked t c p =
    let j = (goal.at.After-common t c).Joined-kind in
    walked_lefts (first t j p) (sided t j p) (c.common.ensures (left_sides t j p))

pub kind_of-kind-requires : goal.kind_of-kind-requires
kind_of-kind-requires t c = starts_of (c.type_at.ensures c.requires.first c.requires.first_at)

pub type_at-requires : goal.type_at-requires
type_at-requires t c = (c.requires.first, c.requires.first_at)

pub returns-then-not-of_one_kind : goal.returns-then-not-of_one_kind
returns-then-not-of_one_kind t c p =
    at_once (properties_of c.args.groups.now) (said_direction c.args.direction) p (c.if-not-of_one_kind.ensures p)

pub returns-then-not-has_sides : goal.returns-then-not-has_sides
returns-then-not-has_sides t c p =
    let S = properties_of c.args.groups.now in
    let d = said_direction c.args.direction in
    let f = firsts p S d (c.if-not-of_one_kind.ensures p) c.bound_first.ensures in
    at_leaves f (no_sides S d p _ (c.kind_of-kind.ensures p.first (c.type_at.ensures p.first p.first_at)) c.if-not-has_sides.ensures)

pub overflow_add-next : goal.overflow_add-next
overflow_add-next t c = omega (arith, room c.requires.first_at, c.bound_first.auto.work)

pub overflow_add-next_other : goal.overflow_add-next_other
overflow_add-next_other t c = omega (arith, room c.requires.second_at, c.bound_first.auto.work)

pub common-requires : goal.common-requires
common-requires t c =
    (omega (arith, c.decreases, in_range c.requires.first_at, c.bound_first.auto.work), left_sides t (goal.at.common-requires t c).Joined-kind c.requires)

pub returns-in_err-left : goal.returns-in_err-left
returns-in_err-left t c p = rw c.from_residual.ensures (no_left (left_walked t (goal.at.returns-in_err-left t c).After-common p) c.in_err-left.was)

pub overflow_add-next-2 : goal.overflow_add-next-2
overflow_add-next-2 t c =
    let l = left_walked t (goal.at.overflow_add-next-2 t c).After-common c.requires in
    omega (arith, room {t = right_of c.requires.first} (rights l c.in_ok-left.was).first_at, c.common.auto.work)

pub overflow_add-next_other-2 : goal.overflow_add-next_other-2
overflow_add-next_other-2 t c =
    let l = left_walked t (goal.at.overflow_add-next_other-2 t c).After-common c.requires in
    omega (arith, room {t = right_of c.requires.second} (rights l c.in_ok-left.was).second_at, c.common.auto.work)

pub common-requires-2 : goal.common-requires-2
common-requires-2 t c =
    let l = left_walked t (goal.at.common-requires-2 t c).After-common c.requires in
    (omega (arith, c.decreases, in_range c.requires.first_at, c.common.auto.work, c.bound_first.auto.work), rights l c.in_ok-left.was)

pub returns-in_err-right : goal.returns-in_err-right
returns-in_err-right t c p =
    let l = left_walked t (goal.at.returns-in_err-right t c).After-common p in
    rw c.from_residual-in_err-right.ensures (no_right l c.in_ok-left.was (c.common-2.ensures (rights l c.in_ok-left.was)) c.in_err-right.was)

pub overflow_add-result : goal.overflow_add-result
overflow_add-result t c =
    let l = left_walked t (goal.at.overflow_add-result t c).After-common c.requires in
    omega (arith, few l c.in_ok-left.was (c.common-2.ensures (rights l c.in_ok-left.was)) c.in_ok-right.was)

pub overflow_add-result-2 : goal.overflow_add-result-2
overflow_add-result-2 t c =
    let l = left_walked t (goal.at.overflow_add-result-2 t c).After-common c.requires in
    omega (arith, few l c.in_ok-left.was (c.common-2.ensures (rights l c.in_ok-left.was)) c.in_ok-right.was)

pub returns : goal.returns
returns t c p =
    let l = left_walked t (goal.at.returns t c).After-common p in
    both_found l c.in_ok-left.was (c.common-2.ensures (rights l c.in_ok-left.was)) c.in_ok-right.was
