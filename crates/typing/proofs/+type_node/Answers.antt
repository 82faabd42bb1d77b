-- The checker calls itself on the part of each operand. What is known from one operand to the next is in `Course`: e,
-- e2 and e3 when an operand's context is there, d, d2 and d3 when the operand has its type.
use Rattle.std.proofs.Common.{ℕ, ◌+◌, ◌-◌, length, sym, ap, ◌∙◌, arith}
use borrow.Rule.Slice.PartMut.{put_mid}
use Rattle.calculus.specs.Security.{Property, Security}
use Rattle.calculus.specs.Types.{top}
use Rattle.rules.specs.Answer.{Bytes}
use Rattle.rules.specs.Groups.{properties_of}
use Rattle.rules.specs.Types.{type_at}
use Rattle.lattice.specs.Said.{said_property}
use Rattle.records.specs.Numbers.{kind_number}
use Rattle.records.specs.Operands.{first_operand, second_operand}
use Rattle.records.proofs.ThirdOperand.{third_operand}
use Rattle.inference.specs.Memory.{CheckerInput}
use Rattle.inference.proofs.Shapes.{long}
use Rattle.inference.proofs.Rules.{meets_of}
use Rattle.typing.specs.Parts.{kept_between}
use Rattle.typing.proofs.Apart.{typing_leaf}
use Rattle.typing.proofs.Below.{first_whole, second_whole, third_whole}
use Rattle.typing.proofs.Steps as steps
use Rattle.typing.proofs.Course as course
use Rattle.typing.proofs.+type_node.Goals as goal
use Rattle.typing.proofs.+type_node.Goals.{After-from, In_ok-n, After-from-2, In_ok-m, In_ok-after_first_branch}
use Rattle.typing.proofs.+type_node.Goals.{In_ok-type_node}

-- the work buffer with what a call on a part of it left there
abbrev after : ℕ → Bytes → Bytes → Bytes
after low w z = put_mid low (length w - low) w z

entered : (t : ℕ) (c : After-from t) (v : CheckerInput c.args.types.now c.args.part.now c.args.place c.args.binders c.args.work.now)
    → course.Entered c.args.groups.now v (kind_number c.kind_of-kind.result) c.arity-o.result (c.args.binders + c.from.result) c.before_operands.new.work
entered t c v =
    course.entered c.args.groups.now v c.kind_of-kind.ensures c.arity-o.ensures.value c.if-o-eq0.false (c.in_ok-before_operands.ensures v) (c.from.ensures ∙ c.binders.ensures.value) c.before_operands.auto.work

first_done : (t : ℕ) (c : In_ok-n t) (v : CheckerInput c.args.types.now c.args.part.now c.args.place c.args.binders c.args.work.now)
    → course.FirstDone c.args.groups.now v (kind_number c.kind_of-kind.result) c.arity-o.result c.operand_end-i2.result c.in_ok-n.n (after c.kept_front-low.result c.before_operands.new.work c.type_node.new.work)
first_done t c v =
    course.first_done c.args.groups.now v (entered t (goal.at.In_ok-n t c).After-from v) c.operand_end-i2.ensures c.kept_front-low.ensures c.operand-first.ensures.bytes c.in_ok-n.ensures c.type_node.auto.work

second_entered : (t : ℕ) (c : After-from-2 t) (v : CheckerInput c.args.types.now c.args.part.now c.args.place c.args.binders c.args.work.now)
    → course.SecondEntered c.args.groups.now v c.arity-o.result c.operand_end-i2.result c.in_ok-n.n (c.args.binders + c.from-2.result) (said_property c.property-tested.result) c.between.new.work
second_entered t c v =
    course.second_entered c.args.groups.now v (first_done t (goal.at.After-from-2 t c).In_ok-n v) c.if-o-eq1.false (λ u. (c.in_ok-between.ensures.enters u, c.in_ok-between.ensures.kept u)) c.property-tested.ensures (c.from-2.ensures ∙ c.binders-2.ensures.value) c.between.auto.work

second_done : (t : ℕ) (c : In_ok-m t) (v : CheckerInput c.args.types.now c.args.part.now c.args.place c.args.binders c.args.work.now)
    → course.SecondDone c.args.groups.now v c.arity-o.result c.operand_end-i3.result c.in_ok-n.n c.in_ok-m.m (c.args.binders + c.from-2.result) (said_property c.property-tested.result)
    (after c.kept_between-mid.result c.between.new.work c.type_node-2.new.work)
second_done t c v =
    course.second_done c.args.groups.now v (second_entered t (goal.at.In_ok-m t c).After-from-2 v) c.operand_end-i3.ensures c.kept_between-mid.ensures c.operand-second.ensures.bytes c.in_ok-m.ensures c.type_node-2.auto.work

third_entered : (t : ℕ) (c : In_ok-after_first_branch t) (v : CheckerInput c.args.types.now c.args.part.now c.args.place c.args.binders c.args.work.now)
    → course.ThirdEntered c.args.groups.now v c.arity-o.result c.operand_end-i3.result (c.args.binders + c.from-2.result) (said_property c.property-tested.result) c.after_first_branch.new.work
third_entered t c v =
    course.third_entered c.args.groups.now v (second_done t (goal.at.In_ok-after_first_branch t c).In_ok-m v) c.if-o-eq2.false (λ u. (c.in_ok-after_first_branch.ensures.enters u, c.in_ok-after_first_branch.ensures.kept u)) c.after_first_branch.auto.work

third_done : (t : ℕ) (c : In_ok-type_node t) (v : CheckerInput c.args.types.now c.args.part.now c.args.place c.args.binders c.args.work.now)
    → course.ThirdDone c.args.groups.now v (said_property c.property-tested.result) (after c.kept_branch-past.result c.after_first_branch.new.work c.type_node-3.new.work)
third_done t c v =
    course.third_done c.args.groups.now v (third_entered t (goal.at.In_ok-type_node t c).In_ok-after_first_branch v) c.operand_end-end.ensures c.kept_branch-past.ensures c.operand-third.ensures.bytes c.in_ok-type_node.ensures c.type_node-3.auto.work

pub leaf-requires : goal.leaf-requires
leaf-requires t c =
    let v = c.requires in
    course.leaf_of c.args.groups.now v (sym (course.counted c.args.groups.now v c.kind_of-kind.ensures c.arity-o.ensures.value) ∙ c.if-o-eq0.true)

pub returns-then-o-eq0 : goal.returns-then-o-eq0
returns-then-o-eq0 t c v =
    let o = sym (course.counted c.args.groups.now v c.kind_of-kind.ensures c.arity-o.ensures.value) ∙ c.if-o-eq0.true in
    meets_of (typing_leaf (properties_of c.args.groups.now) (type_at c.args.types.now) v.ctx c.args.place v.tree o) (c.leaf.ensures (course.leaf_of c.args.groups.now v o))

pub returns-in_err-before_operands : goal.returns-in_err-before_operands
returns-in_err-before_operands t c v =
    steps.before_refuses c.args.groups.now v _ (c.in_err-before_operands.ensures v) c.from_residual.ensures.1

pub operand_end-i2-requires : goal.operand_end-i2-requires
operand_end-i2-requires t c =
    let v = c.requires in
    let e = entered t (goal.at.operand_end-i2-requires t c).After-from v in
    record { tree = first_operand v.tree; at = e.stands; whole = λ z. first_whole c.args.part.now v.tree v.is (sym e.count ∙ sym z) }

pub kept_front-low-requires : goal.kept_front-low-requires
kept_front-low-requires t c =
    let v = c.requires in
    long v.tree v.is

pub operand-first-requires : goal.operand-first-requires
operand-first-requires t c =
    let v = c.requires in
    let e = entered t (goal.at.operand-first-requires t c).After-from v in
    record { tree = first_operand v.tree; at = e.stands; ends = c.operand_end-i2.ensures _ e.stands }

pub slice_bounds-type_node-count : goal.slice_bounds-type_node-count
slice_bounds-type_node-count t c =
    let v = c.requires in
    let e = entered t (goal.at.slice_bounds-type_node-count t c).After-from v in
    steps.low_within c.args.groups.now v e.some e.went (c.kept_front-low.ensures v.tree v.is)

pub slice_bounds-type_node-start : goal.slice_bounds-type_node-start
slice_bounds-type_node-start t c =
    let v = c.requires in
    let e = entered t (goal.at.slice_bounds-type_node-start t c).After-from v in
    steps.low_within c.args.groups.now v e.some e.went (c.kept_front-low.ensures v.tree v.is)

pub type_node-requires : goal.type_node-requires
type_node-requires t c =
    let v = c.requires in
    let e = entered t (goal.at.type_node-requires t c).After-from v in
    (omega (arith, c.operand-first.ensures.shorter (omega arith), c.decreases), course.first_ready c.args.groups.now v e c.operand_end-i2.ensures c.kept_front-low.ensures c.operand-first.ensures.bytes)

pub returns-in_err-n : goal.returns-in_err-n
returns-in_err-n t c v =
    let e = entered t (goal.at.returns-in_err-n t c).After-from v in
    course.first_refuses c.args.groups.now v e c.operand_end-i2.ensures c.kept_front-low.ensures c.operand-first.ensures.bytes _ c.in_err-n.ensures c.from_residual-in_err-n.ensures.1

pub after_one-requires : goal.after_one-requires
after_one-requires t c =
    let v = c.requires in
    let d = first_done t (goal.at.after_one-requires t c).In_ok-n v in
    steps.one_of c.args.groups.now v d.done (sym d.count ∙ c.if-o-eq1.true)

pub returns-then-o-eq1 : goal.returns-then-o-eq1
returns-then-o-eq1 t c v =
    let d = first_done t (goal.at.returns-then-o-eq1 t c).In_ok-n v in
    let o = sym d.count ∙ c.if-o-eq1.true in
    steps.last_meets c.args.groups.now v d.done o (c.after_one.ensures (steps.one_of c.args.groups.now v d.done o) c.args.binders (steps.room2 c.args.groups.now v d.done))

pub property-tested-requires : goal.property-tested-requires
property-tested-requires t c =
    let v = c.requires in
    let d = first_done t (goal.at.property-tested-requires t c).In_ok-n v in
    record { type = d.done.type; held = (steps.front c.args.groups.now v d.done (course.has_two c.args.groups.now v d c.if-o-eq1.false)).held }

pub between-requires : goal.between-requires
between-requires t c =
    let v = c.requires in
    let d = first_done t (goal.at.between-requires t c).In_ok-n v in
    course.some_of c.args.groups.now v d c.if-o-eq1.false

pub returns-in_err-between : goal.returns-in_err-between
returns-in_err-between t c v =
    let d = first_done t (goal.at.returns-in_err-between t c).In_ok-n v in
    steps.between_refuses c.args.groups.now v d.done (course.has_two c.args.groups.now v d c.if-o-eq1.false) _ (c.in_err-between.ensures.enters (course.some_of c.args.groups.now v d c.if-o-eq1.false)) c.from_residual-in_err-between.ensures.1

pub operand_end-i3-requires : goal.operand_end-i3-requires
operand_end-i3-requires t c =
    let v = c.requires in
    let e2 = second_entered t (goal.at.operand_end-i3-requires t c).After-from-2 v in
    record { tree = second_operand v.tree; at = e2.stands; whole = λ z. second_whole c.args.part.now v.tree v.is _ e2.from (sym e2.count ∙ sym z) }

pub operand-second-requires : goal.operand-second-requires
operand-second-requires t c =
    let v = c.requires in
    let e2 = second_entered t (goal.at.operand-second-requires t c).After-from-2 v in
    record { tree = second_operand v.tree; at = e2.stands; ends = c.operand_end-i3.ensures _ e2.stands }

pub overflow_add-place-2 : goal.overflow_add-place-2
overflow_add-place-2 t c =
    let v = c.requires in
    let e2 = second_entered t (goal.at.overflow_add-place-2 t c).After-from-2 v in
    omega (arith, steps.second_placed c.args.groups.now v e2.two {t = e2.tested} e2.done (c.kept_between-mid.ensures ∙ ap kept_between e2.count) e2.from)

pub slice_bounds-type_node-count-2 : goal.slice_bounds-type_node-count-2
slice_bounds-type_node-count-2 t c =
    let v = c.requires in
    let e2 = second_entered t (goal.at.slice_bounds-type_node-count-2 t c).After-from-2 v in
    steps.mid_within c.args.groups.now v e2.two e2.done (c.kept_between-mid.ensures ∙ ap kept_between e2.count) e2.from

pub slice_bounds-type_node-start-2 : goal.slice_bounds-type_node-start-2
slice_bounds-type_node-start-2 t c =
    let v = c.requires in
    let e2 = second_entered t (goal.at.slice_bounds-type_node-start-2 t c).After-from-2 v in
    steps.mid_within c.args.groups.now v e2.two e2.done (c.kept_between-mid.ensures ∙ ap kept_between e2.count) e2.from

pub type_node-requires-2 : goal.type_node-requires-2
type_node-requires-2 t c =
    let v = c.requires in
    let e2 = second_entered t (goal.at.type_node-requires-2 t c).After-from-2 v in
    (omega (arith, c.operand-second.ensures.shorter (omega (arith, e2.from)), c.decreases), course.second_ready c.args.groups.now v e2 c.operand_end-i3.ensures c.kept_between-mid.ensures c.operand-second.ensures.bytes)

pub returns-in_err-m : goal.returns-in_err-m
returns-in_err-m t c v =
    let e2 = second_entered t (goal.at.returns-in_err-m t c).After-from-2 v in
    course.second_refuses c.args.groups.now v e2 c.operand_end-i3.ensures c.kept_between-mid.ensures c.operand-second.ensures.bytes _ c.in_err-m.ensures c.from_residual-in_err-m.ensures.1

pub after_two-requires : goal.after_two-requires
after_two-requires t c =
    let v = c.requires in
    let d2 = second_done t (goal.at.after_two-requires t c).In_ok-m v in
    steps.two_of c.args.groups.now v (sym d2.count ∙ c.if-o-eq2.true) d2.done

pub returns-then-o-eq2 : goal.returns-then-o-eq2
returns-then-o-eq2 t c v =
    let d2 = second_done t (goal.at.returns-then-o-eq2 t c).In_ok-m v in
    let o = sym d2.count ∙ c.if-o-eq2.true in
    steps.ends_meets c.args.groups.now v o d2.done (c.after_two.ensures (steps.two_of c.args.groups.now v o d2.done) c.args.binders (omega (arith, steps.level c.args.groups.now v, d2.done.same)))

pub after_first_branch-requires : goal.after_first_branch-requires
after_first_branch-requires t c =
    let v = c.requires in
    let d2 = second_done t (goal.at.after_first_branch-requires t c).In_ok-m v in
    course.branch_of c.args.groups.now v d2 c.if-o-eq2.false

pub returns-in_err-after_first_branch : goal.returns-in_err-after_first_branch
returns-in_err-after_first_branch t c v =
    let d2 = second_done t (goal.at.returns-in_err-after_first_branch t c).In_ok-m v in
    steps.branch_refuses c.args.groups.now v (course.has_three c.args.groups.now v d2 c.if-o-eq2.false) d2.done _ (c.in_err-after_first_branch.ensures.enters (course.branch_of c.args.groups.now v d2 c.if-o-eq2.false)) c.from_residual-in_err-after_first_branch.ensures.1

pub operand_end-end-requires : goal.operand_end-end-requires
operand_end-end-requires t c =
    let v = c.requires in
    let e3 = third_entered t (goal.at.operand_end-end-requires t c).In_ok-after_first_branch v in
    record { tree = third_operand v.tree; at = e3.stands; whole = λ z. third_whole c.args.part.now v.tree v.is _ e3.from (sym e3.count ∙ sym z) }

pub kept_branch-past-requires : goal.kept_branch-past-requires
kept_branch-past-requires t c =
    let v = c.requires in
    long v.tree v.is

pub operand-third-requires : goal.operand-third-requires
operand-third-requires t c =
    let v = c.requires in
    let e3 = third_entered t (goal.at.operand-third-requires t c).In_ok-after_first_branch v in
    record { tree = third_operand v.tree; at = e3.stands; ends = c.operand_end-end.ensures _ e3.stands }

pub overflow_add-place-3 : goal.overflow_add-place-3
overflow_add-place-3 t c =
    let v = c.requires in
    let e3 = third_entered t (goal.at.overflow_add-place-3 t c).In_ok-after_first_branch v in
    omega (arith, steps.third_placed c.args.groups.now v e3.three {t = e3.tested} {first = e3.first} e3.done c.kept_branch-past.ensures e3.from)

pub slice_bounds-type_node-count-3 : goal.slice_bounds-type_node-count-3
slice_bounds-type_node-count-3 t c =
    let v = c.requires in
    let e3 = third_entered t (goal.at.slice_bounds-type_node-count-3 t c).In_ok-after_first_branch v in
    steps.past_within c.args.groups.now v e3.three e3.done c.kept_branch-past.ensures e3.from

pub slice_bounds-type_node-start-3 : goal.slice_bounds-type_node-start-3
slice_bounds-type_node-start-3 t c =
    let v = c.requires in
    let e3 = third_entered t (goal.at.slice_bounds-type_node-start-3 t c).In_ok-after_first_branch v in
    steps.past_within c.args.groups.now v e3.three e3.done c.kept_branch-past.ensures e3.from

pub type_node-requires-3 : goal.type_node-requires-3
type_node-requires-3 t c =
    let v = c.requires in
    let e3 = third_entered t (goal.at.type_node-requires-3 t c).In_ok-after_first_branch v in
    (omega (arith, c.operand-third.ensures.shorter (omega (arith, e3.from)), c.decreases), course.third_ready c.args.groups.now v e3 c.operand_end-end.ensures c.kept_branch-past.ensures c.operand-third.ensures.bytes)

pub returns-in_err-type_node : goal.returns-in_err-type_node
returns-in_err-type_node t c v =
    let e3 = third_entered t (goal.at.returns-in_err-type_node t c).In_ok-after_first_branch v in
    course.third_refuses c.args.groups.now v e3 c.operand_end-end.ensures c.kept_branch-past.ensures c.operand-third.ensures.bytes _ c.in_err-type_node.ensures c.from_residual-in_err-type_node.ensures.1

pub reader-requires : goal.reader-requires
reader-requires t c =
    let v = c.requires in
    omega (arith, long v.tree v.is)

pub after_second_branch-requires : goal.after_second_branch-requires
after_second_branch-requires t c =
    let v = c.requires in
    let d3 = third_done t (goal.at.after_second_branch-requires t c).In_ok-type_node v in
    steps.branches_of c.args.groups.now v d3.three d3.done

pub returns : goal.returns
returns t c v =
    let d3 = third_done t (goal.at.returns t c).In_ok-type_node v in
    let S : Security = properties_of c.args.groups.now in
    let by = c.influence-by.ensures
    ∙ ap (λ (p : Property). S.influence p c.reader.result.0) d3.property_is
    ∙ ap (S.influence (top d3.tested)) c.reader.ensures in
    steps.done_meets c.args.groups.now v d3.three d3.done by
    (c.after_second_branch.ensures (steps.branches_of c.args.groups.now v d3.three d3.done) c.args.binders (steps.done_room c.args.groups.now v d3.three d3.done))
