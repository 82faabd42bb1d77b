-- One call of the checker, stage by stage, over plain lists.
use Rattle.std.proofs.Common.{Result, Ok, Err, IsErrAnd, ◌≡◌, sym, ap, ◌∙◌, subst, true, cond, ◌∷◌, ◌++◌, ℕ, suc, ◌+◌}
use Rattle.std.proofs.Common.{◌-◌, ◌*◌, ◌≤◌, arith, length, take, drop, length-drop}
use borrow.Rule.Slice.PartMut.{put_mid}
use Rattle.calculus.specs.Security.{Indirect}
use Rattle.calculus.specs.Types.{Ty, top}
use Rattle.calculus.specs.Typing.{finds_own}
use Rattle.calculus.specs.Terms.{case}
use Rattle.rules.specs.Limits.{answer_length, script_limit}
use Rattle.rules.specs.Answer.{Bytes, Answer, accepted, ◌>>=◌ as bind, ◌>>◌ as then}
use Rattle.rules.specs.Groups.{properties_of}
use Rattle.rules.specs.Types.{type_at}
use Rattle.rules.specs.Script.{encode, size, depth, kind, r, number, own_at}
use Rattle.rules.specs.Typing.{right, q22_of_branch, typing}
use Rattle.types.specs.Held.{Held}
use Rattle.records.specs.Kinds as kinds
use Rattle.inference.specs.Operands.{operand_count, WellFormed}
use Rattle.records.specs.Operands.{first_operand, second_operand}
use Rattle.inference.specs.Memory.{high, Slot, Sized, HoldsContext, Meets, CheckerInput, Enters, Beside}
use Rattle.inference.specs.Stages.{before_first, first_context, kept_front, after_one, between, second_context}
use Rattle.inference.specs.Stages.{after_two, kept_branch, case_type, OneOperand, AfterFirst, Aside, TwoOperands}
use Rattle.inference.specs.Stages.{CaseNode, FirstBranchTyped, BranchesTyped}
use Rattle.records.specs.Binders.{binds}
use Rattle.records.proofs.ThirdOperand.{third_operand}
use Rattle.answer.specs.declared.Refusal.{Refusal}
use Rattle.answer.specs.Numbers.{question_number}
use Rattle.typing.specs.Parts.{kept_between}
use Rattle.inference.proofs.Regions.{high_drop, lent_rest, drop_lent, length_lent, high_lent, high_within, slot_of}
use Rattle.inference.proofs.Regions.{slot_lent, sized_lent, rebase}
use Rattle.inference.proofs.Shapes.{long, of_kind, depth_positive, several}
use Rattle.inference.proofs.Rules.{meets_of, typed_as, refused_as, refused_meets}
use Rattle.inference.proofs.Names.{owns, case_index}
use Rattle.typing.proofs.Apart.{after_second, stops_before, stops_first, one_typed, first_typed, second_typed}
use Rattle.typing.proofs.Apart.{branch_typed}
use Rattle.typing.proofs.Below.{first_smaller, second_smaller, third_larger, first_formed, second_formed, third_formed}
use Rattle.typing.proofs.Below.{first_room, second_room, third_room, first_binders, second_binders, several_front}
use Rattle.typing.proofs.Below.{branch_binders, three, three_kind}

-- what reading an object of type t leaves, by the node of the record that s starts with
abbrev pub reading : Bytes → Bytes → Ty → Indirect
reading g s t = (properties_of g).influence (top t) (r s 0)

-- ---- answers taken apart

-- ---- a part that was lent

beside_same : {t : Ty} {b : ℕ} {w w' : Bytes} → high (b + 1) w' ≡ high (b + 1) w → Beside t b w → Beside t b w'
beside_same e d = record { one = rw e d.one; other = rw e d.other; fits = d.fits }

record Back (b : ℕ) (w₁ w₂ z : Bytes) (low : ℕ) : Type 0 where
  is : w₂ ≡ take low w₁ ++ z
  behind : drop low w₂ ≡ z
  kept : high b w₂ ≡ high b w₁
  same : length w₂ ≡ length w₁

back : (b c low : ℕ) (w₁ u z w₂ : Bytes) → b ≤ c → low + answer_length * c ≤ length w₁ → u ≡ drop low w₁ → length z ≡ length u → high c z ≡ high c u
    → w₂ ≡ put_mid low (length w₁ - low) w₁ z → Back b w₁ w₂ z low
back b c low w₁ u z w₂ m l eu n k e =
    let i : w₂ ≡ take low w₁ ++ z = e ∙ lent_rest low w₁ z in
    let lu : length u ≡ length w₁ - low = ap length eu ∙ length-drop low w₁ in
    record {
      is = i;
      behind = ap (drop low) i ∙ drop_lent low w₁ z (omega arith);
      kept = ap (high b) i ∙ high_lent low b w₁ z (omega arith) (omega arith) ∙ high_within b c u z m (omega arith) n k ∙ ap (high b) eu ∙ high_drop low b w₁ (omega arith);
      same = ap length i ∙ length_lent low w₁ z (omega arith) (omega arith);
    }

-- ---- the first operand

pub record Went (g : Bytes) {types s : Bytes} {place b : ℕ} {w : Bytes} (v : CheckerInput types s place b w) (c : ℕ) (w₁ : Bytes) : Type 0 where
  pub asked : before_first (properties_of g) (type_at types) place v.tree ≡ accepted tt
  pub binders : length (first_context (type_at types) v.ctx v.tree) ≡ c
  pub holds : HoldsContext (first_context (type_at types) v.ctx v.tree) (high c w₁)
  pub least : b ≤ c
  pub kept : high b w₁ ≡ high b w
  pub same : length w₁ ≡ length w

pub record Done1 (g : Bytes) {types s : Bytes} {place b : ℕ} {w : Bytes} (v : CheckerInput types s place b w) (n : ℕ) (w₂ : Bytes) : Type 0 where
  pub asked : before_first (properties_of g) (type_at types) place v.tree ≡ accepted tt
  pub type : Ty
  pub is : typing (properties_of g) (type_at types) (first_context (type_at types) v.ctx v.tree) (1 + place) (first_operand v.tree) ≡ accepted type
  pub sized : Sized (drop (kept_front v.tree) w₂) n type
  pub kept : high b w₂ ≡ high b w
  pub same : length w₂ ≡ length w

pub record Done2 (g : Bytes) {types s : Bytes} {place b : ℕ} {w : Bytes} (v : CheckerInput types s place b w) (t : Ty) (n c : ℕ) (w₃ : Bytes) : Type 0 where
  pub asked : between (properties_of g) place v.tree t ≡ accepted tt
  pub is : typing (properties_of g) (type_at types) v.ctx place v.tree
      ≡ bind (typing (properties_of g) (type_at types) (second_context v.ctx v.tree t) (1 + place + size (first_operand v.tree)) (second_operand v.tree))
      (after_second (properties_of g) (type_at types) v.ctx place v.tree t)
  pub binders : length (second_context v.ctx v.tree t) ≡ c
  pub holds : HoldsContext (second_context v.ctx v.tree t) (high c w₃)
  pub least : b ≤ c
  pub kept : high b w₃ ≡ high b w
  pub aside : Aside v.tree t b w₃ n
  pub same : length w₃ ≡ length w

pub record Done3 (g : Bytes) {types s : Bytes} {place b : ℕ} {w : Bytes} (v : CheckerInput types s place b w) (t : Ty) (n m : ℕ) (w₄ : Bytes) : Type 0 where
  pub asked : between (properties_of g) place v.tree t ≡ accepted tt
  pub other : Ty
  pub is : typing (properties_of g) (type_at types) v.ctx place v.tree ≡ after_second (properties_of g) (type_at types) v.ctx place v.tree t other
  pub sized : Sized (drop (kept_between (operand_count v.tree)) w₄) m other
  pub kept : high b w₄ ≡ high b w
  pub front : operand_count v.tree ≡ 2 → Sized w₄ n t
  pub slot : operand_count v.tree ≡ 3 → Beside t b w₄
  pub same : length w₄ ≡ length w

module _ (g : Bytes) {types s : Bytes} {place b : ℕ} {w : Bytes} (v : CheckerInput types s place b w) where
  -- what is left when the first of several operands has its type
  abbrev after_first : Ty → Answer Ty
  after_first t =
      bind (typing (properties_of g) (type_at types) (second_context v.ctx v.tree t) (1 + place + size (first_operand v.tree)) (second_operand v.tree))
      (after_second (properties_of g) (type_at types) v.ctx place v.tree t)

  pub level : answer_length * (b + 1) ≤ length w
  level = omega (arith, v.room, depth_positive v.tree)

  module _ {w₁ : Bytes} where
    pub before_refuses : (e : Refusal) {y : Result ℕ Refusal} {w₂ : Bytes} → Enters (before_first (properties_of g) (type_at types) place v.tree) (first_context (type_at types) v.ctx v.tree) b w (Err e) w₁
        → IsErrAnd y (λ z. z ≡ e) → Meets (typing (properties_of g) (type_at types) v.ctx place v.tree) b w y w₂
    before_refuses e h p = refused_meets e (stops_before (properties_of g) (type_at types) v.ctx place v.tree (question_number e.question) e.place (sym h.says)) p

    pub went : {c : ℕ} → Enters (before_first (properties_of g) (type_at types) place v.tree) (first_context (type_at types) v.ctx v.tree) b w (Ok tt) w₁ → c ≡ b + binds (kind s 0) 0 → length w₁ ≡ length w → Went g v c w₁
    went {c} h ec l =
        let a = sym h.says in
        let e = h.entered a in
        let q : length (first_context (type_at types) v.ctx v.tree) ≡ c = omega (arith, first_binders s (type_at types) v.ctx v.tree v.is, v.binders) in
        record {
          asked = a;
          binders = q;
          holds = subst (λ j. HoldsContext (first_context (type_at types) v.ctx v.tree) (high j w₁)) q e.holds;
          least = omega (arith, e.least);
          kept = e.kept;
          same = l;
        }

  module _ (o : 1 ≤ operand_count v.tree) {c : ℕ} {w₁ : Bytes} (h : Went g v c w₁) {low : ℕ} (el : low ≡ kept_front v.tree) where
    pub low_fits : low + answer_length * c ≤ answer_length * (b + 1)
    low_fits = omega (arith, first_room (type_at types) v.ctx v.tree, h.binders, v.binders)

    pub low_within : low ≤ length w₁
    low_within = omega (arith, low_fits, level, h.same)

    pub first_holds : {u : Bytes} → u ≡ drop low w₁ → HoldsContext (first_context (type_at types) v.ctx v.tree) (high c u)
    first_holds eu = rw (eu, high_drop low c w₁ (omega (arith, low_fits, level, h.same))) h.holds

    pub first_room_left : {u : Bytes} → u ≡ drop low w₁ → answer_length * (c + depth (first_operand v.tree)) ≤ length u
    first_room_left eu = rw eu (simp length-drop (omega (arith, low_fits, v.room, h.same, (first_smaller v.tree o).deeper)))

    pub first_formed_at : WellFormed types c (first_operand v.tree)
    first_formed_at =
        subst (λ j. WellFormed types j (first_operand v.tree)) h.binders
        (first_formed types (type_at types) v.ctx v.tree o (subst (λ j. WellFormed types j v.tree) (sym v.binders) v.formed))

    pub first_placed : place + 1 + size (first_operand v.tree) ≤ script_limit
    first_placed = omega (arith, v.placed, (first_smaller v.tree o).larger)

    abbrev pub ready1 : {s₁ u : Bytes} → s₁ ≡ encode (first_operand v.tree) → u ≡ drop low w₁ → CheckerInput types s₁ (place + 1) c u
    ready1 es eu =
        record {
          table = v.table;
          ctx = first_context (type_at types) v.ctx v.tree;
          binders = h.binders;
          holds = first_holds eu;
          tree = first_operand v.tree;
          is = es;
          formed = first_formed_at;
          room = first_room_left eu;
          placed = first_placed;
        }

    placed1 : typing (properties_of g) (type_at types) (first_context (type_at types) v.ctx v.tree) (1 + place) (first_operand v.tree)
        ≡ typing (properties_of g) (type_at types) (first_context (type_at types) v.ctx v.tree) (place + 1) (first_operand v.tree)
    placed1 =
        let q : 1 + place ≡ place + 1 = omega arith in
        ap (λ p. typing (properties_of g) (type_at types) (first_context (type_at types) v.ctx v.tree) p (first_operand v.tree)) q

    module _ {u z : Bytes} where
      pub first_refuses : (e : Refusal) {x : Result ℕ Refusal} {w₂ : Bytes}
          → Meets (typing (properties_of g) (type_at types) (first_context (type_at types) v.ctx v.tree) (place + 1) (first_operand v.tree)) c u (Err e) z
          → IsErrAnd x (λ y. y ≡ e) → Meets (typing (properties_of g) (type_at types) v.ctx place v.tree) b w x w₂
      first_refuses e m p =
          refused_meets e (stops_first (properties_of g) (type_at types) v.ctx place v.tree (question_number e.question) e.place o h.asked (placed1 ∙ refused_as m)) p

      pub done1 : {n : ℕ} {w₂ : Bytes}
          → Meets (typing (properties_of g) (type_at types) (first_context (type_at types) v.ctx v.tree) (place + 1) (first_operand v.tree)) c u (Ok n) z
          → u ≡ drop low w₁ → length z ≡ length u → w₂ ≡ put_mid low (length w₁ - low) w₁ z → Done1 g v n w₂
      done1 {n} {w₂} m eu lz e₂ =
          let a = typed_as m in
          let k = back b c low w₁ u z w₂ h.least (omega (arith, low_fits, level, h.same)) eu lz a.wrote.kept e₂ in
          record {
            asked = h.asked;
            type = a.type;
            is = placed1 ∙ a.is;
            sized = subst (λ j. Sized (drop j w₂) n a.type) el (rw k.behind a.wrote.sized);
            kept = k.kept ∙ h.kept;
            same = k.same ∙ h.same;
          }

  -- ---- one operand

  module _ {n : ℕ} {w₂ : Bytes} (d : Done1 g v n w₂) where
    pub room2 : answer_length * (b + 1) ≤ length w₂
    room2 = omega (arith, level, d.same)

    pub slot_room : answer_length ≤ length w₂
    slot_room = omega (arith, room2)

    abbrev pub one_of : operand_count v.tree ≡ 1 → OneOperand types s w₂ n
    one_of o =
        record {
          table = v.table;
          tree = v.tree;
          is = v.is;
          one = o;
          binders = b;
          formed = v.formed;
          type = d.type;
          sized = d.sized;
          room = slot_room;
        }

    pub last_meets : (o : operand_count v.tree ≡ 1) {x : Result ℕ Refusal} {w₃ : Bytes} → Meets (after_one (properties_of g) (type_at types) place v.tree d.type) b w₂ x w₃
        → Meets (typing (properties_of g) (type_at types) v.ctx place v.tree) b w x w₃
    last_meets o m = rebase d.kept (meets_of (one_typed (properties_of g) (type_at types) v.ctx place v.tree d.type o d.asked d.is) m)

    -- ---- several operands

    module _ (o : 2 ≤ operand_count v.tree) where
      pub front : Sized w₂ n d.type
      front = subst (λ j. Sized (drop j w₂) n d.type) (several_front (several v.tree o)) d.sized

      pub holds2 : HoldsContext v.ctx (high b w₂)
      holds2 = rw d.kept v.holds

      pub two_levels : answer_length * (b + 2) ≤ length w₂
      two_levels = omega (arith, v.room, d.same, depth_positive (first_operand v.tree), (first_smaller v.tree (omega arith)).deeper)

      abbrev pub some_of : AfterFirst s b w₂ n
      some_of =
          record {
            tree = v.tree;
            is = v.is;
            some = o;
            type = d.type;
            sized = front;
            ctx = v.ctx;
            binders = v.binders;
            holds = holds2;
            room = two_levels;
          }

      under_first : typing (properties_of g) (type_at types) v.ctx place v.tree ≡ then (between (properties_of g) place v.tree d.type) (after_first d.type)
      under_first = first_typed (properties_of g) (type_at types) v.ctx place v.tree d.type o d.is

      module _ {w₃ : Bytes} where
        pub between_refuses : (e : Refusal) {y : Result ℕ Refusal} {w₄ : Bytes} → Enters (between (properties_of g) place v.tree d.type) (second_context v.ctx v.tree d.type) b w₂ (Err e) w₃
            → IsErrAnd y (λ z. z ≡ e) → Meets (typing (properties_of g) (type_at types) v.ctx place v.tree) b w y w₄
        between_refuses e h p = refused_meets e (under_first ∙ ap (λ a. then a (after_first d.type)) (sym h.says)) p

        pub done2 : {c : ℕ} → Enters (between (properties_of g) place v.tree d.type) (second_context v.ctx v.tree d.type) b w₂ (Ok tt) w₃ → c ≡ b + binds (kind s 0) 1 → length w₃ ≡ length w₂ → (between (properties_of g) place v.tree d.type ≡ accepted tt → Aside v.tree d.type b w₃ n)
            → Done2 g v d.type n c w₃
        done2 {c} h ec l k =
            let a = sym h.says in
            let e = h.entered a in
            let q : length (second_context v.ctx v.tree d.type) ≡ c = omega (arith, second_binders s v.ctx d.type v.tree (several v.tree o) v.is, v.binders) in
            record {
              asked = a;
              is = under_first ∙ ap (λ y. then y (after_first d.type)) a;
              binders = q;
              holds = subst (λ j. HoldsContext (second_context v.ctx v.tree d.type) (high j w₃)) q e.holds;
              least = omega (arith, e.least);
              kept = e.kept ∙ d.kept;
              aside = k a;
              same = l ∙ d.same;
            }

-- ---- the second operand

module _ (g : Bytes) {types s : Bytes} {place b : ℕ} {w : Bytes} (v : CheckerInput types s place b w) (o : 2 ≤ operand_count v.tree) where
  module _ {t : Ty} {n c : ℕ} {w₃ : Bytes} (d : Done2 g v t n c w₃) {mid : ℕ} (em : mid ≡ kept_between (operand_count v.tree)) {j : ℕ} (ej : j ≡ 1 + size (first_operand v.tree)) where
    pub mid_fits : mid + answer_length * c ≤ answer_length * (b + 1)
    mid_fits = omega (arith, second_room v.ctx t (several v.tree o), d.binders, v.binders)

    pub mid_within : mid ≤ length w₃
    mid_within = omega (arith, mid_fits, level g v, d.same)

    pub second_holds : {u : Bytes} → u ≡ drop mid w₃ → HoldsContext (second_context v.ctx v.tree t) (high c u)
    second_holds eu = rw (eu, high_drop mid c w₃ (omega (arith, mid_fits, level g v, d.same))) d.holds

    pub second_room_left : {u : Bytes} → u ≡ drop mid w₃ → answer_length * (c + depth (second_operand v.tree)) ≤ length u
    second_room_left eu = rw eu (simp length-drop (omega (arith, mid_fits, v.room, d.same, (second_smaller (several v.tree o)).deeper)))

    pub second_formed_at : WellFormed types c (second_operand v.tree)
    second_formed_at =
        subst (λ k. WellFormed types k (second_operand v.tree)) d.binders
        (second_formed types v.ctx t (several v.tree o) (subst (λ k. WellFormed types k v.tree) (sym v.binders) v.formed))

    pub second_placed : place + j + size (second_operand v.tree) ≤ script_limit
    second_placed = omega (arith, v.placed, (second_smaller (several v.tree o)).larger)

    abbrev pub ready2 : {s₂ u : Bytes} → s₂ ≡ encode (second_operand v.tree) → u ≡ drop mid w₃ → CheckerInput types s₂ (place + j) c u
    ready2 es eu =
        record {
          table = v.table;
          ctx = second_context v.ctx v.tree t;
          binders = d.binders;
          holds = second_holds eu;
          tree = second_operand v.tree;
          is = es;
          formed = second_formed_at;
          room = second_room_left eu;
          placed = second_placed;
        }

    placed2 : typing (properties_of g) (type_at types) (second_context v.ctx v.tree t) (1 + place + size (first_operand v.tree)) (second_operand v.tree)
        ≡ typing (properties_of g) (type_at types) (second_context v.ctx v.tree t) (place + j) (second_operand v.tree)
    placed2 =
        let q : 1 + place + size (first_operand v.tree) ≡ place + j = omega arith in
        ap (λ p. typing (properties_of g) (type_at types) (second_context v.ctx v.tree t) p (second_operand v.tree)) q

    module _ {u z : Bytes} where
      pub second_refuses : (e : Refusal) {x : Result ℕ Refusal} {w₄ : Bytes}
          → Meets (typing (properties_of g) (type_at types) (second_context v.ctx v.tree t) (place + j) (second_operand v.tree)) c u (Err e) z
          → IsErrAnd x (λ y. y ≡ e) → Meets (typing (properties_of g) (type_at types) v.ctx place v.tree) b w x w₄
      second_refuses e m p =
          refused_meets e (d.is ∙ ap (λ a. bind a (after_second (properties_of g) (type_at types) v.ctx place v.tree t)) (placed2 ∙ refused_as m)) p

      pub done3 : {k : ℕ} {w₄ : Bytes}
          → Meets (typing (properties_of g) (type_at types) (second_context v.ctx v.tree t) (place + j) (second_operand v.tree)) c u (Ok k) z
          → u ≡ drop mid w₃ → length z ≡ length u → w₄ ≡ put_mid mid (length w₃ - mid) w₃ z → Done3 g v t n k w₄
      done3 {k} {w₄} m eu lz e₄ =
          let a = typed_as m in
          let q = back b c mid w₃ u z w₄ d.least (omega (arith, mid_fits, level g v, d.same)) eu lz a.wrote.kept e₄ in
          record {
            asked = d.asked;
            other = a.type;
            is = d.is ∙ ap (λ y. bind y (after_second (properties_of g) (type_at types) v.ctx place v.tree t)) (placed2 ∙ a.is);
            sized = subst (λ y. Sized (drop y w₄) k a.type) em (rw q.behind a.wrote.sized);
            kept = q.kept ∙ d.kept;
            front = λ two. rw q.is (sized_lent mid w₃ z (d.aside.front two) (omega (arith, em ∙ ap kept_between two)) mid_within);
            slot = λ h.
                let p = back c c mid w₃ u z w₄ (omega arith) (omega (arith, mid_fits, level g v, d.same)) eu lz a.wrote.kept e₄ in
                let y : c ≡ b + 1 = omega (arith, branch_binders v.ctx t (three v.tree h), d.binders, v.binders) in
                beside_same (subst (λ i. high i w₄ ≡ high i w₃) y p.kept) (d.aside.slot h);
            same = q.same ∙ d.same;
          }

-- ---- two operands

module _ (g : Bytes) {types s : Bytes} {place b : ℕ} {w : Bytes} (v : CheckerInput types s place b w) (o : operand_count v.tree ≡ 2) {t : Ty} {n m : ℕ} {w₄ : Bytes} (d : Done3 g v t n m w₄) where
  pub two_sized : Sized (drop answer_length w₄) m d.other
  two_sized = subst (λ y. Sized (drop (kept_between y) w₄) m d.other) o d.sized

  pub two_room : answer_length * 2 ≤ length w₄
  two_room = omega (arith, v.room, d.same, depth_positive (first_operand v.tree), (first_smaller v.tree (omega arith)).deeper)

  abbrev pub two_of : TwoOperands g types s place w₄ n m
  two_of =
      record {
        table = v.table;
        tree = v.tree;
        is = v.is;
        two = o;
        binders = b;
        formed = v.formed;
        first = t;
        second = d.other;
        sized = d.front o;
        other = two_sized;
        asked = d.asked;
        room = two_room;
      }

  pub ends_meets : {x : Result ℕ Refusal} {w₅ : Bytes} → Meets (after_two (properties_of g) (type_at types) place v.tree t d.other) b w₄ x w₅
      → Meets (typing (properties_of g) (type_at types) v.ctx place v.tree) b w x w₅
  ends_meets h = rebase d.kept (meets_of (d.is ∙ second_typed (properties_of g) (type_at types) v.ctx place v.tree t d.other o) h)

-- ---- a case's branches

pub record Done5 (g : Bytes) {types s : Bytes} {place b : ℕ} {w : Bytes} (v : CheckerInput types s place b w) (t first : Ty) (c : ℕ) (w₅ : Bytes) : Type 0 where
  pub is : typing (properties_of g) (type_at types) v.ctx place v.tree
      ≡ bind (typing (properties_of g) (type_at types) (right t ∷ v.ctx) (1 + place + size (first_operand v.tree) + size (second_operand v.tree)) (third_operand v.tree))
      (λ u. case_type (properties_of g) (type_at types) place (number s 0) first u (reading g s t))
  pub binders : length (right t ∷ v.ctx) ≡ c
  pub holds : HoldsContext (right t ∷ v.ctx) (high c w₅)
  pub kept : high b w₅ ≡ high b w
  pub front : Slot w₅ first
  pub same : length w₅ ≡ length w

pub record Done6 (g : Bytes) {types s : Bytes} {place b : ℕ} {w : Bytes} (v : CheckerInput types s place b w) (t first : Ty) (w₆ : Bytes) : Type 0 where
  pub type : Ty
  pub is : typing (properties_of g) (type_at types) v.ctx place v.tree ≡ case_type (properties_of g) (type_at types) place (number s 0) first type (reading g s t)
  pub front : own_at s 0 ≡ true → Slot w₆ first
  pub other : Held (drop (kept_branch s) w₆) type
  pub kept : high b w₆ ≡ high b w
  pub same : length w₆ ≡ length w

module _ (g : Bytes) {types s : Bytes} {place b : ℕ} {w : Bytes} (v : CheckerInput types s place b w) (o : operand_count v.tree ≡ 3) where
  pub case_kind : kind s 0 ≡ kinds.case
  case_kind = ap (λ x. kind x 0) v.is ∙ three_kind (three v.tree o)

  pub case_is : v.tree ≡ case (r s 0) (number s 0) (first_operand v.tree) (second_operand v.tree) (third_operand v.tree)
  case_is = of_kind s v.tree kinds.case v.is (sym case_kind)

  abbrev pub case_node : CaseNode types s
  case_node =
      record {
        table = v.table;
        long = long v.tree v.is;
        kind_is = case_kind;
        named = case_index types b (number s 0) v.tree v.formed case_is;
      }

  module _ {t : Ty} {n m : ℕ} {w₄ : Bytes} (d : Done3 g v t n m w₄) where
    pub case_room : answer_length * (b + 2) ≤ length w₄
    case_room = omega (arith, v.room, d.same, depth_positive (first_operand v.tree), (first_smaller v.tree (omega arith)).deeper)

    pub branch_sized : Sized w₄ m d.other
    branch_sized = subst (λ y. Sized (drop (kept_between y) w₄) m d.other) o d.sized

    abbrev pub branch_of : FirstBranchTyped types s b w₄
    branch_of =
        record {
          node = case_node;
          tested = t;
          sides = d.slot o;
          type = d.other;
          slot = slot_of branch_sized;
          ctx = v.ctx;
          binders = v.binders;
          holds = rw d.kept v.holds;
          room = case_room;
        }

    -- what is left when the first branch has its type
    abbrev after_branch : Answer Ty
    after_branch =
        bind (typing (properties_of g) (type_at types) (right t ∷ v.ctx) (1 + place + size (first_operand v.tree) + size (second_operand v.tree)) (third_operand v.tree))
        (λ u. case_type (properties_of g) (type_at types) place (number s 0) d.other u (reading g s t))

    under_branch : typing (properties_of g) (type_at types) v.ctx place v.tree
        ≡ then (q22_of_branch (properties_of g) place (type_at types) (number s 0) d.other) after_branch
    under_branch = d.is ∙ branch_typed (properties_of g) (type_at types) v.ctx place t d.other case_is

    module _ {w₅ : Bytes} where
      pub branch_refuses : (e : Refusal) {y : Result ℕ Refusal} {w₆ : Bytes} → Enters (q22_of_branch (properties_of g) place (type_at types) (number s 0) d.other) (right t ∷ v.ctx) b w₄ (Err e) w₅
          → IsErrAnd y (λ z. z ≡ e) → Meets (typing (properties_of g) (type_at types) v.ctx place v.tree) b w y w₆
      branch_refuses e h p = refused_meets e (under_branch ∙ ap (λ a. then a after_branch) (sym h.says)) p

      pub done5 : {c : ℕ} → Enters (q22_of_branch (properties_of g) place (type_at types) (number s 0) d.other) (right t ∷ v.ctx) b w₄ (Ok tt) w₅ → length w₅ ≡ length w₄ → c ≡ b + 1 → Slot w₅ d.other → Done5 g v t d.other c w₅
      done5 {c} h l ec f =
          let a = sym h.says in
          let e = h.entered a in
          let q : length (right t ∷ v.ctx) ≡ c = omega (arith, v.binders) in
          record {
            is = under_branch ∙ ap (λ p. then p after_branch) a;
            binders = q;
            holds = subst (λ j. HoldsContext (right t ∷ v.ctx) (high j w₅)) q e.holds;
            kept = e.kept ∙ d.kept;
            front = f;
            same = l ∙ d.same;
          }

  module _ {t first : Ty} {c : ℕ} {w₅ : Bytes} (d : Done5 g v t first c w₅) {past : ℕ} (ep : past ≡ kept_branch s) {j : ℕ} (ej : j ≡ 1 + size (first_operand v.tree) + size (second_operand v.tree)) where
    past_is : past ≡ cond (finds_own (number s 0)) answer_length 0
    past_is = ep ∙ ap (λ y. cond y answer_length 0) (owns case_node)

    pub past_fits : past + answer_length * (c + depth (third_operand v.tree)) ≤ length w₅
    past_fits = omega (arith, past_is, third_room case_is, d.binders, v.binders, v.room, d.same)

    pub past_within : past ≤ length w₅
    past_within = omega (arith, past_fits)

    pub third_formed_at : WellFormed types c (third_operand v.tree)
    third_formed_at =
        let q : suc b ≡ c = omega (arith, d.binders, v.binders) in
        subst (λ k. WellFormed types k (third_operand v.tree)) q (third_formed types b (three v.tree o) v.formed)

    pub third_holds : {u : Bytes} → u ≡ drop past w₅ → HoldsContext (right t ∷ v.ctx) (high c u)
    third_holds eu = rw (eu, high_drop past c w₅ (omega (arith, past_fits))) d.holds

    pub third_room_left : {u : Bytes} → u ≡ drop past w₅ → answer_length * (c + depth (third_operand v.tree)) ≤ length u
    third_room_left eu = rw eu (simp length-drop (omega (arith, past_fits)))

    pub third_placed : place + j + size (third_operand v.tree) ≤ script_limit
    third_placed = omega (arith, v.placed, third_larger (three v.tree o))

    abbrev pub ready3 : {s₃ u : Bytes} → s₃ ≡ encode (third_operand v.tree) → u ≡ drop past w₅ → CheckerInput types s₃ (place + j) c u
    ready3 es eu =
        record {
          table = v.table;
          ctx = right t ∷ v.ctx;
          binders = d.binders;
          holds = third_holds eu;
          tree = third_operand v.tree;
          is = es;
          formed = third_formed_at;
          room = third_room_left eu;
          placed = third_placed;
        }

    placed3 : typing (properties_of g) (type_at types) (right t ∷ v.ctx) (1 + place + size (first_operand v.tree) + size (second_operand v.tree)) (third_operand v.tree)
        ≡ typing (properties_of g) (type_at types) (right t ∷ v.ctx) (place + j) (third_operand v.tree)
    placed3 =
        let q : 1 + place + size (first_operand v.tree) + size (second_operand v.tree) ≡ place + j = omega arith in
        ap (λ p. typing (properties_of g) (type_at types) (right t ∷ v.ctx) p (third_operand v.tree)) q

    after_third : {a : Answer Ty} → typing (properties_of g) (type_at types) (right t ∷ v.ctx) (place + j) (third_operand v.tree) ≡ a
        → typing (properties_of g) (type_at types) v.ctx place v.tree ≡ bind a (λ u. case_type (properties_of g) (type_at types) place (number s 0) first u (reading g s t))
    after_third e = d.is ∙ ap (λ a. bind a (λ u. case_type (properties_of g) (type_at types) place (number s 0) first u (reading g s t))) (placed3 ∙ e)

    module _ {u z : Bytes} where
      pub third_refuses : (e : Refusal) {x : Result ℕ Refusal} {w₆ : Bytes} → Meets (typing (properties_of g) (type_at types) (right t ∷ v.ctx) (place + j) (third_operand v.tree)) c u (Err e) z
          → IsErrAnd x (λ y. y ≡ e) → Meets (typing (properties_of g) (type_at types) v.ctx place v.tree) b w x w₆
      third_refuses e m p = refused_meets e (after_third (refused_as m)) p

      pub done6 : {k : ℕ} {w₆ : Bytes} → Meets (typing (properties_of g) (type_at types) (right t ∷ v.ctx) (place + j) (third_operand v.tree)) c u (Ok k) z
          → u ≡ drop past w₅ → length z ≡ length u → w₆ ≡ put_mid past (length w₅ - past) w₅ z → Done6 g v t first w₆
      done6 {w₆ = w₆} m eu lz e₆ =
          let a = typed_as m in
          let q = back b c past w₅ u z w₆ (omega (arith, d.binders, v.binders)) (omega (arith, past_fits)) eu lz a.wrote.kept e₆ in
          record {
            type = a.type;
            is = after_third a.is;
            front = λ own. rw q.is (slot_lent past w₅ z d.front (omega (arith, ep ∙ ap (λ y. cond y answer_length 0) own)) past_within);
            other = subst (λ y. Held (drop y w₆) a.type) ep (rw q.behind a.wrote.sized.held);
            kept = q.kept ∙ d.kept;
            same = q.same ∙ d.same;
          }

  module _ {t first : Ty} {w₆ : Bytes} (d : Done6 g v t first w₆) where
    pub done_room : answer_length * (b + 1) ≤ length w₆
    done_room = omega (arith, level g v, d.same)

    abbrev pub branches_of : BranchesTyped types s w₆
    branches_of =
        record {
          node = case_node;
          first = first;
          second = d.type;
          front = d.front;
          other = d.other;
          room = omega (arith, done_room);
        }

    pub done_meets : {by : Indirect} {x : Result ℕ Refusal} {w₇ : Bytes} → by ≡ reading g s t
        → Meets (case_type (properties_of g) (type_at types) place (number s 0) first d.type by) b w₆ x w₇
        → Meets (typing (properties_of g) (type_at types) v.ctx place v.tree) b w x w₇
    done_meets e h =
        rebase d.kept
        (meets_of (d.is ∙ ap (λ y. case_type (properties_of g) (type_at types) place (number s 0) first d.type y) (sym e)) h)
