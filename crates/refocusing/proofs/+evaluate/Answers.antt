-- A term is passed operand by operand, each settled in its own context, and settled turn by turn of the loop.
use Rattle.std.proofs.Common.{inl, inr, ◌≡◌, refl, sym, ap, ◌∙◌, [], ℕ, ◌-◌, ◌≤◌, arith, length}
use Rattle.std.proofs.lemmas.Result.{err_from_is_err_and}
use Rattle.calculus.specs.Terms.{Term}
use Rattle.calculus.specs.Reduction.{Context}
use Rattle.rules.specs.Groups.{properties_of}
use Rattle.rules.specs.Types.{type_at}
use Rattle.rules.specs.Script.{encode, size}
use Rattle.rules.proofs.PrefixLaws.{size_positive}
use Rattle.rules.proofs.TermCode.{term_code}
use Rattle.records.specs.Operands.{second_operand}
use Rattle.records.proofs.Stands.{there}
use Rattle.records.proofs.Numbered.{same_kind}
use Rattle.records.specs.declared.Kind.TheVariants.{Pair}
use Rattle.records.proofs.Weights.{weights, stands_weight}
use Rattle.records.proofs.ThirdOperand.{third_operand}
use Rattle.redex.specs.Contexts.{level}
use Rattle.redex.proofs.Forms.{pair_value, injection_value, second_position, one_turn, lone_turn, variable_fate}
use Rattle.redex.proofs.Searches.{position_shallow}
use Rattle.redex.proofs.Stages.{Opened, opened, kind_read, first_of, injects, is_kind}
use Rattle.refocusing.specs.Focus.{Stands, focus_ahead, has_ended, left_to_do}
use Rattle.reduction.specs.declared.Stop.TheVariants.{WrongKind}
use Rattle.refocusing.proofs.Runs.{ended_as, turn_ended, turn_told}
use Rattle.refocusing.proofs.Passing.{roomy, next_at, went_on, shallow}
use Rattle.refocusing.proofs.Nodes.{Twofolds, twofold, two, FirstPassed, BothPassed, first_passed, both_passed}
use Rattle.refocusing.proofs.Stages.{begun, ahead_at, term_passed, operand_stands, operand_settles, comes_to_value}
use Rattle.refocusing.proofs.Stages.{comes_to_turn, settled_value, settled_end, ends_so, lone_value, unary_read}
use Rattle.refocusing.proofs.Stages.{unary_size, unary_of_one, branches}
use Rattle.refocusing.proofs.Settling.{stands_ahead, operates, stands_turn, contracts, advanced, advanced_end, settled}
use Rattle.refocusing.proofs.+evaluate.Goals as goal
use Rattle.refocusing.proofs.+evaluate.Goals.{operands-In_default, operands-In_ok-first, operands-In_default-kind}
use Rattle.refocusing.proofs.+evaluate.Goals.{operands-In_ok-second}

-- What is known of the node in focus, arm by arm: its kind is read; its first operand is a value; its second comes
-- next, and is a value too.
module _ (t : ℕ) {whole : Term} {E : Context} {e : Term} where
  evaluating : (c : operands-In_default t)
      → Stands c.args.groups.now c.args.types.now (length c.args.back.now) c.args.budget whole E e [] (encode e) c.args.point c.args.front.now c.args.back.now
      → Opened c.args.back.now c.args.point.right c.kind_of-kind.result e
  evaluating c s =
      opened c.kind_of-kind.ensures c.in_default.not-Variable c.in_default.not-Unit c.in_default.not-Literal c.in_default.not-Function c.in_default.not-Recursion
      (ahead_at s)

  first_is : (c : operands-In_ok-first t) → Opened c.args.back.now c.args.point.right c.kind_of-kind.result e
      → Stands c.args.groups.now c.args.types.now (length c.args.back.now) c.args.budget whole E e [] (encode e) c.args.point c.args.front.now c.args.back.now
      → c.args.around ≡ level E
      → FirstPassed c.args.groups.now c.args.types.now (length c.args.back.now) c.args.budget whole E c.kind_of-kind.result c.in_ok-first.first c.settle.new.front c.settle.new.back
      × (c.args.budget - c.in_ok-first.first.steps ≤ c.args.budget - c.args.point.steps)
  first_is c o s d =
      let q = first_of o c.weight.ensures.value in
      let p = went_on (begun s) 1 (omega (arith, size_positive term_code e)) c.pass-opened.result c.pass-opened.ensures in
      let v = settled_value (operand_settles p q refl _ (omega arith) c.settle.ensures) c.in_ok-first.was in
      (first_passed o q v.0, omega (arith, v.1, c.pass-opened.ensures.steps))

module _ (t : ℕ) where
  twofolds : (c : operands-In_default-kind t) → Twofolds c.kind_of-kind.result
  twofolds c =
      let d = c.in_default-kind in
      (d.not-FirstInjection, d.not-SecondInjection, d.not-FirstProjection, d.not-SecondProjection, d.not-Case, d.not-Protect)

module _ (t : ℕ) {whole : Term} {E : Context} where
  both_are : (c : operands-In_ok-second t) → Twofolds c.kind_of-kind.result
      → FirstPassed c.args.groups.now c.args.types.now (length c.args.back.now) c.args.budget whole E c.kind_of-kind.result c.in_ok-first.first c.settle.new.front c.settle.new.back
      → c.args.around ≡ level E
      → BothPassed c.args.groups.now c.args.types.now (length c.args.back.now) c.args.budget whole E c.kind_of-kind.result c.in_ok-second.second c.settle-2.new.front c.settle-2.new.back
      × (c.args.budget - c.in_ok-second.second.steps ≤ c.args.budget - c.in_ok-first.first.steps)
  both_are c h f d =
      let x = two h f.value in
      let v = settled_value (operand_settles f.passed x.position c.settle.auto.back _ (omega arith) c.settle-2.ensures) c.in_ok-second.was in
      (both_passed f h x v.0, omega (arith, v.1))

pub operands-returns-in-Variable : goal.operands-returns-in-Variable
operands-returns-in-Variable t c whole E e s d =
    let S = properties_of c.args.groups.now in
    let tab = type_at c.args.types.now in
    let room = length c.args.back.now in
    let k = kind_read c.kind_of-kind.ensures (ahead_at s) c.in-Variable.is in
    let h = lone_turn e (inl k) in
    has_ended (ended_as c.stopped.result (c.stopped.ensures.stop, c.stopped.ensures.point) (turn_ended s refl WrongKind h (turn_told S tab room E e h 0 0 (rw (variable_fate S tab e k)))))

pub operands-pass_term-requires : goal.operands-pass_term-requires
operands-pass_term-requires t c =
    let q = c.requires in
    record {
      term = q.term;
      stands = ahead_at q.stands;
      room = omega (arith, (roomy (begun q.stands) (size q.term) (omega arith)).1, q.same_length);
    }

pub operands-returns-in-Unit : goal.operands-returns-in-Unit
operands-returns-in-Unit t c whole E e s d =
    let f = c.pass_term.ensures e (ahead_at s) in
    comes_to_value (term_passed (begun s) e (ahead_at s) (omega arith) f) (omega arith) (lone_value c.kind_of-kind.ensures (ahead_at s) c.in-Unit.is) (omega (arith, f.steps))

pub operands-pass_term-requires-in-Recursion : goal.operands-pass_term-requires-in-Recursion
operands-pass_term-requires-in-Recursion t c =
    let q = c.requires in
    record {
      term = q.term;
      stands = ahead_at q.stands;
      room = omega (arith, (roomy (begun q.stands) (size q.term) (omega arith)).1, q.same_length);
    }

pub operands-returns-in-Recursion : goal.operands-returns-in-Recursion
operands-returns-in-Recursion t c whole E e s d =
    let f = c.pass_term-in-Recursion.ensures e (ahead_at s) in
    let k = kind_read c.kind_of-kind.ensures (ahead_at s) c.in-Recursion.is in
    comes_to_turn (term_passed (begun s) e (ahead_at s) (omega arith) f) (omega arith)
    (lone_turn e (inr k)) (omega (arith, f.steps))

pub operands-weight-requires : goal.operands-weight-requires
operands-weight-requires t c = there _ _ _ (ahead_at c.requires.stands)

pub operands-overflow_add-inside : goal.operands-overflow_add-inside
operands-overflow_add-inside t c = omega (arith, c.requires.around_is, shallow (begun c.requires.stands), c.weight.ensures.small)

pub operands-pass-opened-requires : goal.operands-pass-opened-requires
operands-pass-opened-requires t c =
    let q = c.requires in
    let r = roomy (begun q.stands) 1 (omega (arith, size_positive term_code q.term)) in
    record { from = r.0; to = omega (arith, r.1, q.same_length) }

pub operands-settle-requires : goal.operands-settle-requires
operands-settle-requires t c =
    let q = c.requires in
    let o = evaluating t (goal.at.operands-settle-requires t c).In_default q.stands in
    let f = first_of o c.weight.ensures.value in
    let p = went_on (begun q.stands) 1 (omega (arith, size_positive term_code q.term)) c.pass-opened.result c.pass-opened.ensures in
    let h = position_shallow c.args.around f (omega (arith, shallow (begun q.stands), q.around_is)) in (
      omega (arith, c.decreases, h, c.weight.ensures.value, stands_weight (ahead_at q.stands), (weights q.term).0),
      operand_stands p f refl _ (omega arith) (omega (arith, c.pass-opened.auto.front, q.same_length)),
    )

pub operands-returns-in_err-first : goal.operands-returns-in_err-first
operands-returns-in_err-first t c whole E e s d =
    let o = evaluating t (goal.at.operands-returns-in_err-first t c).In_default s in
    let q = first_of o c.weight.ensures.value in
    let p = went_on (begun s) 1 (omega (arith, size_positive term_code e)) c.pass-opened.result c.pass-opened.ensures in
    let x = err_from_is_err_and c.from_residual.result c.from_residual.ensures.1 in
    ends_so x.1 x.2 (settled_end (operand_settles p q refl _ (omega arith) c.settle.ensures) c.in_err-first.was)

pub operands-returns-in-FirstInjection : goal.operands-returns-in-FirstInjection
operands-returns-in-FirstInjection t c whole E e s d =
    let r = goal.at.operands-returns-in-FirstInjection t c in
    let f = first_is t r.In_ok-first (evaluating t r.In_default s) s d in
    let v = injection_value f.0.node (injects f.0.value.own c.in-FirstInjection.is) f.0.value.value in
    comes_to_value f.0.passed (sym v.1) v.0 (omega (arith, f.1))

pub operands-returns-in-Protect : goal.operands-returns-in-Protect
operands-returns-in-Protect t c whole E e s d =
    let r = goal.at.operands-returns-in-Protect t c in
    let f = first_is t r.In_ok-first (evaluating t r.In_default s) s d in
    let k = unary_read f.0.value.own c.in-Protect.is in
    comes_to_turn f.0.passed (sym (unary_size f.0.node k)) (one_turn f.0.node (unary_of_one k) f.0.value.value) (omega (arith, f.1))

pub operands-pass_term-branch-requires : goal.operands-pass_term-branch-requires
operands-pass_term-branch-requires t c =
    let q = c.requires in
    let r = goal.at.operands-pass_term-branch-requires t c in
    let f = (first_is t r.In_ok-first (evaluating t r.In_default q.stands) q.stands q.around_is).0 in
    let z = branches f (is_kind f.value.own c.in-Case.is) in
    record {
      term = second_operand f.node;
      stands = next_at f.passed z.second;
      room = omega (arith, (roomy f.passed (size (second_operand f.node)) (omega (arith, z.sizes))).1, c.settle.auto.front, q.same_length);
    }

pub operands-pass_term-requires-in-Case : goal.operands-pass_term-requires-in-Case
operands-pass_term-requires-in-Case t c =
    let q = c.requires in
    let r = goal.at.operands-pass_term-requires-in-Case t c in
    let f = (first_is t r.In_ok-first (evaluating t r.In_default q.stands) q.stands q.around_is).0 in
    let z = branches f (is_kind f.value.own c.in-Case.is) in
    let b = next_at f.passed z.second in
    let h = c.pass_term-branch.ensures (second_operand f.node) b in
    let m = term_passed f.passed (second_operand f.node) b (omega (arith, z.sizes)) h in
    let n = size (third_operand f.node) in
    record {
      term = third_operand f.node;
      stands = next_at m (z.third _ h.left);
      room = omega (arith, (roomy m n (omega (arith, z.sizes))).1, c.pass_term-branch.auto.front, c.settle.auto.front, c.pass-opened.auto.front, q.same_length);
    }

pub operands-returns-in-Case : goal.operands-returns-in-Case
operands-returns-in-Case t c whole E e s d =
    let r = goal.at.operands-returns-in-Case t c in
    let f = first_is t r.In_ok-first (evaluating t r.In_default s) s d in
    let k = is_kind f.0.value.own c.in-Case.is in
    let z = branches f.0 k in
    let b = next_at f.0.passed z.second in
    let h = c.pass_term-branch.ensures (second_operand f.0.node) b in
    let m = term_passed f.0.passed (second_operand f.0.node) b (omega (arith, z.sizes)) h in
    let b' = next_at m (z.third _ h.left) in
    let h' = c.pass_term-in-Case.ensures (third_operand f.0.node) b' in
    comes_to_turn (term_passed m (third_operand f.0.node) b' (omega (arith, z.sizes)) h') (sym z.sizes) (one_turn f.0.node (inr (inr (inr k))) f.0.value.value)
    (omega (arith, f.1, h.steps, h'.steps))

pub operands-overflow_add-around : goal.operands-overflow_add-around
operands-overflow_add-around t c = omega (arith, c.requires.around_is, shallow (begun c.requires.stands))

pub operands-settle-requires-2 : goal.operands-settle-requires-2
operands-settle-requires-2 t c =
    let q = c.requires in
    let r = goal.at.operands-settle-requires-2 t c in
    let f = (first_is t r.In_ok-first (evaluating t r.In_default q.stands) q.stands q.around_is).0 in
    let x = two (twofolds t r.In_default-kind) f.value in (
      omega (arith, c.decreases, position_shallow c.args.around x.position (omega (arith, shallow f.passed, q.around_is))),
      operand_stands f.passed x.position c.settle.auto.back _ (omega arith) (omega (arith, c.settle.auto.front, c.pass-opened.auto.front, q.same_length)),
    )

pub operands-returns-in_err-second : goal.operands-returns-in_err-second
operands-returns-in_err-second t c whole E e s d =
    let r = goal.at.operands-returns-in_err-second t c in
    let f = (first_is t r.In_ok-first (evaluating t r.In_default s) s d).0 in
    let x = two (twofolds t r.In_default-kind) f.value in
    let z = err_from_is_err_and c.from_residual-in_err-second.result c.from_residual-in_err-second.ensures.1 in
    ends_so z.1 z.2 (settled_end (operand_settles f.passed x.position c.settle.auto.back _ (omega arith) c.settle-2.ensures) c.in_err-second.was)

pub operands-returns-in-Pair : goal.operands-returns-in-Pair
operands-returns-in-Pair t c whole E e s d =
    let r = goal.at.operands-returns-in-Pair t c in
    let f = first_is t r.In_ok-first (evaluating t r.In_default s) s d in
    let v = both_are t r.In_ok-second (twofolds t r.In_default-kind) f.0 d in
    comes_to_value v.0.passed refl (pair_value v.0.node (is_kind v.0.first.own c.in-Pair.is) v.0.first.value v.0.second) (omega (arith, f.1, v.1))

pub operands-returns-in_default-kind-2 : goal.operands-returns-in_default-kind-2
operands-returns-in_default-kind-2 t c whole E e s d =
    let r = goal.at.operands-returns-in_default-kind-2 t c in
    let f = first_is t r.In_ok-first (evaluating t r.In_default s) s d in
    let h = twofolds t r.In_default-kind in
    let v = both_are t r.In_ok-second h f.0 d in
    let o = v.0.first.own in
    comes_to_turn v.0.passed refl
    ((second_position v.0.node o.evaluates (twofold v.0.node h o.kind_is) v.0.first.value).turns (λ k. c.in_default-kind-2.not-Pair (same_kind _ Pair (o.kind_is ∙ k))) v.0.second)
    (omega (arith, f.1, v.1))

pub settle-loop-focus-init : goal.settle-loop-focus-init
settle-loop-focus-init t c whole E e s d = record { focused = focus_ahead e s; within = omega arith; at_is = omega (arith, (begun s).left_is) }

pub settle-operands-requires : goal.settle-operands-requires
settle-operands-requires t c =
    let q = c.requires in
    let l = c.loop-focus in
    let w = l.invariant q.whole q.context q.term q.stands q.around_is in (
      omega (arith, c.decreases),
      stands_ahead w l.auto.back q.around_is c.in-Ahead.is (omega (arith, l.auto.front, l.auto.back, q.same_length)),
    )

pub settle-returns-in_err-focus-in-Ahead : goal.settle-returns-in_err-focus-in-Ahead
settle-returns-in_err-focus-in-Ahead t c whole E e s d =
    let l = c.loop-focus in
    let z = err_from_is_err_and c.from_residual.result c.from_residual.ensures.1 in
    advanced_end (operates (l.invariant whole E e s d) l.auto.back d c.in-Ahead.is c.operands.ensures) c.in_err-focus-in-Ahead.was z.1 z.2

pub settle-contract-requires : goal.settle-contract-requires
settle-contract-requires t c =
    let q = c.requires in
    let l = c.loop-focus in
    stands_turn (l.invariant q.whole q.context q.term q.stands q.around_is) l.auto.back q.around_is c.in-Turn.is (omega (arith, l.auto.front, l.auto.back, q.same_length))

pub settle-returns-in_err-focus-in-Turn : goal.settle-returns-in_err-focus-in-Turn
settle-returns-in_err-focus-in-Turn t c whole E e s d =
    let l = c.loop-focus in
    let z = err_from_is_err_and c.from_residual-in_err-focus-in-Turn.result c.from_residual-in_err-focus-in-Turn.ensures.1 in
    advanced_end (contracts (l.invariant whole E e s d) l.auto.back d c.in-Turn.is c.contract.ensures) c.in_err-focus-in-Turn.was z.1 z.2

pub settle-returns-in-Value : goal.settle-returns-in-Value
settle-returns-in-Value t c whole E e s d =
    let w = c.loop-focus.invariant whole E e s d in
    settled w c.in-Value.is (omega (arith, w.within, ap (left_to_do c.args.budget) c.in-Value.is))

pub settle-loop-focus-smaller-in_ok-focus-in-Ahead : goal.settle-loop-focus-smaller-in_ok-focus-in-Ahead
settle-loop-focus-smaller-in_ok-focus-in-Ahead t c =
    let q = c.requires in
    let l = c.loop-focus in
    (advanced (operates (l.invariant q.whole q.context q.term q.stands q.around_is) l.auto.back q.around_is c.in-Ahead.is c.operands.ensures) c.in_ok-focus-in-Ahead.was).1

pub settle-loop-focus-preserved-in_ok-focus-in-Ahead : goal.settle-loop-focus-preserved-in_ok-focus-in-Ahead
settle-loop-focus-preserved-in_ok-focus-in-Ahead t c whole E e s d =
    let l = c.loop-focus in
    let w = l.invariant whole E e s d in
    let x = advanced (operates w l.auto.back d c.in-Ahead.is c.operands.ensures) c.in_ok-focus-in-Ahead.was in
    record { focused = x.0; within = omega (arith, x.1, w.within); at_is = w.at_is }

pub settle-loop-focus-smaller : goal.settle-loop-focus-smaller
settle-loop-focus-smaller t c =
    let q = c.requires in
    let l = c.loop-focus in
    (advanced (contracts (l.invariant q.whole q.context q.term q.stands q.around_is) l.auto.back q.around_is c.in-Turn.is c.contract.ensures) c.in_ok-focus-in-Turn.was).1

pub settle-loop-focus-preserved : goal.settle-loop-focus-preserved
settle-loop-focus-preserved t c whole E e s d =
    let l = c.loop-focus in
    let w = l.invariant whole E e s d in
    let x = advanced (contracts w l.auto.back d c.in-Turn.is c.contract.ensures) c.in_ok-focus-in-Turn.was in
    record { focused = x.0; within = omega (arith, x.1, w.within); at_is = w.at_is }
