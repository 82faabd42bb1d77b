-- What is known of a node from one operand to the next, in the words of the code's locals: k is its kind, o its count
-- of operands, i₂ and i₃ where operands start, n and m the sizes of found types, c and c₂ counts of binders, and w₁ to
-- w₆ the work buffer after each call that writes to it.
use Rattle.std.proofs.Common.{Result, Ok, Err, IsErrAnd, ◌≡◌, refl, ap, ◌∙◌, ◌∷◌, ℕ, ◌+◌, ◌-◌, ◌≤◌, arith, length, take}
use Rattle.std.proofs.Common.{drop}
use borrow.Rule.Slice.PartMut.{put_mid}
use Rattle.calculus.specs.Security.{Property}
use Rattle.calculus.specs.Types.{Ty, top}
use Rattle.calculus.specs.Terms.{Term}
use Rattle.rules.specs.Answer.{Bytes, accepted}
use Rattle.rules.specs.Groups.{properties_of}
use Rattle.rules.specs.Types.{type_at}
use Rattle.rules.specs.Script.{kind, number, arity, encode, size}
use Rattle.rules.specs.Typing.{right, q22_of_branch, typing}
use Rattle.answer.specs.declared.Refusal.{Refusal}
use Rattle.records.specs.Place.{At}
use Rattle.records.specs.Binders.{binds}
use Rattle.records.specs.Operands.{first_operand, second_operand}
use Rattle.records.proofs.ThirdOperand.{third_operand}
use Rattle.types.specs.Held.{Held}
use Rattle.types.proofs.Parts.{to_end}
use Rattle.inference.specs.Operands.{operand_count}
use Rattle.inference.specs.Memory.{Slot, Meets, CheckerInput, Enters}
use Rattle.inference.specs.Stages.{before_first, first_context, kept_front, between, second_context, kept_branch}
use Rattle.inference.specs.Stages.{LeafNode, AfterFirst, Aside, FirstBranchTyped}
use Rattle.inference.proofs.Shapes.{counted_of, several}
use Rattle.typing.specs.Parts.{kept_between}
use Rattle.typing.proofs.Below.{first_at, second_at, third_at, at_most_three, branch_binders, three}
use Rattle.typing.proofs.Steps as steps

-- record `end` is the one after the term at record i
abbrev pub EndsAt : Bytes → ℕ → ℕ → Type 0
EndsAt s i end = (e : Term) → At s i e → end ≡ i + size e

-- the part that goes with it
abbrev pub Part : Bytes → ℕ → ℕ → Bytes → Type 0
Part s i end p = (e : Term) → At s i e → end ≡ i + size e → p ≡ encode e

-- the part of the work buffer that is lent
abbrev pub lent : ℕ → Bytes → Bytes
lent low w = take (length w - low) (drop low w)

-- what a call on an operand answers
abbrev pub Typing : Bytes → Bytes → Bytes → ℕ → ℕ → Bytes → Result ℕ Refusal → Bytes → Type 0
Typing g types p place c u x z = (r : CheckerInput types p place c u) → Meets (typing (properties_of g) (type_at types) r.ctx place r.tree) c u x z

-- the first operand's context is there
pub record Entered (g : Bytes) {types s : Bytes} {place b : ℕ} {w : Bytes} (v : CheckerInput types s place b w) (k o c : ℕ) (w₁ : Bytes) : Type 0 where
  pub kind_is : k ≡ kind s 0
  pub count : o ≡ operand_count v.tree
  pub some : 1 ≤ operand_count v.tree
  pub went : steps.Went g v c w₁
  pub stands : At s 1 (first_operand v.tree)

-- the first operand has a type
pub record FirstDone (g : Bytes) {types s : Bytes} {place b : ℕ} {w : Bytes} (v : CheckerInput types s place b w) (k o i₂ n : ℕ) (w₂ : Bytes) : Type 0 where
  pub kind_is : k ≡ kind s 0
  pub count : o ≡ operand_count v.tree
  pub some : 1 ≤ operand_count v.tree
  pub from : i₂ ≡ 1 + size (first_operand v.tree)
  pub done : steps.Done1 g v n w₂

-- the second operand's context is there; p is the first type's property
pub record SecondEntered (g : Bytes) {types s : Bytes} {place b : ℕ} {w : Bytes} (v : CheckerInput types s place b w) (o i₂ n c₂ : ℕ) (p : Property) (w₃ : Bytes) : Type 0 where
  pub count : o ≡ operand_count v.tree
  pub two : 2 ≤ operand_count v.tree
  pub from : i₂ ≡ 1 + size (first_operand v.tree)
  pub stands : At s i₂ (second_operand v.tree)
  pub tested : Ty
  pub property_is : p ≡ top tested
  pub done : steps.Done2 g v tested n c₂ w₃

-- the second operand has a type
pub record SecondDone (g : Bytes) {types s : Bytes} {place b : ℕ} {w : Bytes} (v : CheckerInput types s place b w) (o i₃ n m c₂ : ℕ) (p : Property) (w₄ : Bytes) : Type 0 where
  pub count : o ≡ operand_count v.tree
  pub two : 2 ≤ operand_count v.tree
  pub from : i₃ ≡ 1 + size (first_operand v.tree) + size (second_operand v.tree)
  pub tested : Ty
  pub property_is : p ≡ top tested
  pub binders : length (second_context v.ctx v.tree tested) ≡ c₂
  pub done : steps.Done3 g v tested n m w₄

-- the context of a case's third operand is there
pub record ThirdEntered (g : Bytes) {types s : Bytes} {place b : ℕ} {w : Bytes} (v : CheckerInput types s place b w) (o i₃ c₂ : ℕ) (p : Property) (w₅ : Bytes) : Type 0 where
  pub count : o ≡ operand_count v.tree
  pub three : operand_count v.tree ≡ 3
  pub from : i₃ ≡ 1 + size (first_operand v.tree) + size (second_operand v.tree)
  pub stands : At s i₃ (third_operand v.tree)
  pub tested : Ty
  pub property_is : p ≡ top tested
  pub first : Ty
  pub done : steps.Done5 g v tested first c₂ w₅

-- the third operand has a type
pub record ThirdDone (g : Bytes) {types s : Bytes} {place b : ℕ} {w : Bytes} (v : CheckerInput types s place b w) (p : Property) (w₆ : Bytes) : Type 0 where
  pub three : operand_count v.tree ≡ 3
  pub tested : Ty
  pub property_is : p ≡ top tested
  pub first : Ty
  pub done : steps.Done6 g v tested first w₆

module _ (g : Bytes) {types s : Bytes} {place b : ℕ} {w : Bytes} (v : CheckerInput types s place b w) where
  pub counted : {k o : ℕ} → k ≡ kind s 0 → o ≡ arity k → o ≡ operand_count v.tree
  counted ek eo = eo ∙ ap arity ek ∙ counted_of v.tree v.is

  abbrev pub leaf_of : operand_count v.tree ≡ 0 → LeafNode s b w
  leaf_of o =
      record {
        ctx = v.ctx;
        binders = v.binders;
        holds = v.holds;
        tree = v.tree;
        is = v.is;
        leaf = o;
        types = types;
        formed = v.formed;
        room = steps.level g v;
      }

  -- ---- the first operand

  pub entered : {k o j : ℕ} {w₁ : Bytes} → k ≡ kind s 0 → o ≡ arity k → (o ≡ 0 → ⊥)
      → Enters (before_first (properties_of g) (type_at types) place v.tree) (first_context (type_at types) v.ctx v.tree) b w (Ok tt) w₁
      → j ≡ binds k 0 → length w₁ ≡ length w → Entered g v k o (b + j) w₁
  entered {k} {o} {j} ek eo ne h ej l =
      let q : o ≡ operand_count v.tree = counted ek eo in
      let z : operand_count v.tree ≡ 0 → ⊥ = λ e. ne (q ∙ e) in
      let m : 1 ≤ operand_count v.tree = omega arith in
      record {
        kind_is = ek;
        count = q;
        some = m;
        went = steps.went g v h (ap (λ i. b + i) (ej ∙ ap (λ i. binds i 0) ek)) l;
        stands = first_at s v.tree v.is m;
      }

  module _ {k o c i₂ low : ℕ} {w₁ p : Bytes} (e : Entered g v k o c w₁) (ends : EndsAt s 1 i₂) (lows : (t : Term) → s ≡ encode t → low ≡ kept_front t) (part : Part s 1 i₂ p) where
    pub first_from : i₂ ≡ 1 + size (first_operand v.tree)
    first_from = ends (first_operand v.tree) e.stands

    abbrev pub first_ready : CheckerInput types p (place + 1) c (lent low w₁)
    first_ready = steps.ready1 g v e.some e.went (lows v.tree v.is) (part (first_operand v.tree) e.stands first_from) (to_end low w₁)

    module _ {z : Bytes} where
      pub first_refuses : (f : Refusal) {x : Result ℕ Refusal} {w₂ : Bytes} → Typing g types p (place + 1) c (lent low w₁) (Err f) z → IsErrAnd x (λ y. y ≡ f) → Meets (typing (properties_of g) (type_at types) v.ctx place v.tree) b w x w₂
      first_refuses f met q = steps.first_refuses g v e.some e.went (lows v.tree v.is) f (met first_ready) q

      pub first_done : {n : ℕ} → Typing g types p (place + 1) c (lent low w₁) (Ok n) z → length z ≡ length (lent low w₁) → FirstDone g v k o i₂ n (put_mid low (length w₁ - low) w₁ z)
      first_done met l =
          record {
            kind_is = e.kind_is;
            count = e.count;
            some = e.some;
            from = first_from;
            done = steps.done1 g v e.some e.went (lows v.tree v.is) (met first_ready) (to_end low w₁) l refl;
          }

  -- ---- the second operand

  module _ {k o i₂ n : ℕ} {w₂ : Bytes} (d : FirstDone g v k o i₂ n w₂) (ne : o ≡ 1 → ⊥) where
    pub has_two : 2 ≤ operand_count v.tree
    has_two =
        let h = d.some in
        let z : operand_count v.tree ≡ 1 → ⊥ = λ y. ne (d.count ∙ y) in
        omega arith

    abbrev pub some_of : AfterFirst s b w₂ n
    some_of = steps.some_of g v d.done has_two

    module _ {w₃ : Bytes} (h : (u : AfterFirst s b w₂ n) → Enters (between (properties_of g) place u.tree u.type) (second_context u.ctx u.tree u.type) b w₂ (Ok tt) w₃
        × (between (properties_of g) place u.tree u.type ≡ accepted tt → Aside u.tree u.type b w₃ n)) where
      pub second_entered : {p : Property} {j : ℕ} → ((t : Ty) → Held w₂ t → p ≡ top t) → j ≡ binds k 1 → length w₃ ≡ length w₂ → SecondEntered g v o i₂ n (b + j) p w₃
      second_entered {j = j} tops ej l =
          let q = h some_of in
          record {
            count = d.count;
            two = has_two;
            from = d.from;
            stands = second_at s (several v.tree has_two) v.is d.from;
            tested = d.done.type;
            property_is = tops d.done.type (steps.front g v d.done has_two).held;
            done = steps.done2 g v d.done has_two q.0 (ap (λ i. b + i) (ej ∙ ap (λ i. binds i 1) d.kind_is)) l q.1;
          }

  module _ {o i₂ n c₂ i₃ mid : ℕ} {q : Property} {w₃ p : Bytes} (e : SecondEntered g v o i₂ n c₂ q w₃) (ends : EndsAt s i₂ i₃) (mids : mid ≡ kept_between o) (part : Part s i₂ i₃ p) where
    pub mid_is : mid ≡ kept_between (operand_count v.tree)
    mid_is = mids ∙ ap kept_between e.count

    pub second_to : i₃ ≡ i₂ + size (second_operand v.tree)
    second_to = ends (second_operand v.tree) e.stands

    abbrev pub second_ready : CheckerInput types p (place + i₂) c₂ (lent mid w₃)
    second_ready = steps.ready2 g v e.two e.done mid_is e.from (part (second_operand v.tree) e.stands second_to) (to_end mid w₃)

    module _ {z : Bytes} where
      pub second_refuses : (f : Refusal) {x : Result ℕ Refusal} {w₄ : Bytes} → Typing g types p (place + i₂) c₂ (lent mid w₃) (Err f) z → IsErrAnd x (λ y. y ≡ f) → Meets (typing (properties_of g) (type_at types) v.ctx place v.tree) b w x w₄
      second_refuses f met q = steps.second_refuses g v e.two e.done mid_is e.from f (met second_ready) q

      pub second_done : {m : ℕ} → Typing g types p (place + i₂) c₂ (lent mid w₃) (Ok m) z → length z ≡ length (lent mid w₃) → SecondDone g v o i₃ n m c₂ q (put_mid mid (length w₃ - mid) w₃ z)
      second_done met l =
          record {
            count = e.count;
            two = e.two;
            from = omega (arith, second_to, e.from);
            tested = e.tested;
            property_is = e.property_is;
            binders = e.done.binders;
            done = steps.done3 g v e.two e.done mid_is e.from (met second_ready) (to_end mid w₃) l refl;
          }

  -- ---- a case's third operand

  module _ {o i₃ n m c₂ : ℕ} {p : Property} {w₄ : Bytes} (d : SecondDone g v o i₃ n m c₂ p w₄) (ne : o ≡ 2 → ⊥) where
    pub has_three : operand_count v.tree ≡ 3
    has_three =
        let h = d.two in
        let z : operand_count v.tree ≡ 2 → ⊥ = λ y. ne (d.count ∙ y) in
        omega (arith, at_most_three v.tree)

    abbrev pub branch_of : FirstBranchTyped types s b w₄
    branch_of = steps.branch_of g v has_three d.done

    module _ {w₅ : Bytes} (h : (u : FirstBranchTyped types s b w₄) → Enters (q22_of_branch (properties_of g) place (type_at types) (number s 0) u.type) (right u.tested ∷ u.ctx) b w₄ (Ok tt) w₅ × Slot w₅ u.type) where
      pub third_entered : length w₅ ≡ length w₄ → ThirdEntered g v o i₃ c₂ p w₅
      third_entered l =
          let q = h branch_of in
          record {
            count = d.count;
            three = has_three;
            from = d.from;
            stands = third_at s (three v.tree has_three) v.is d.from;
            tested = d.tested;
            property_is = d.property_is;
            first = d.done.other;
            done = steps.done5 g v has_three d.done q.0 l (omega (arith, branch_binders v.ctx d.tested (three v.tree has_three), d.binders, v.binders)) q.1;
          }

  module _ {o i₃ c₂ end past : ℕ} {q : Property} {w₅ p : Bytes} (e : ThirdEntered g v o i₃ c₂ q w₅) (ends : EndsAt s i₃ end) (pasts : past ≡ kept_branch s) (part : Part s i₃ end p) where
    abbrev pub third_ready : CheckerInput types p (place + i₃) c₂ (lent past w₅)
    third_ready =
        steps.ready3 g v e.three e.done pasts e.from (part (third_operand v.tree) e.stands (ends (third_operand v.tree) e.stands)) (to_end past w₅)

    module _ {z : Bytes} where
      pub third_refuses : (f : Refusal) {x : Result ℕ Refusal} {w₆ : Bytes} → Typing g types p (place + i₃) c₂ (lent past w₅) (Err f) z → IsErrAnd x (λ y. y ≡ f) → Meets (typing (properties_of g) (type_at types) v.ctx place v.tree) b w x w₆
      third_refuses f met q = steps.third_refuses g v e.three e.done pasts e.from f (met third_ready) q

      pub third_done : {m : ℕ} → Typing g types p (place + i₃) c₂ (lent past w₅) (Ok m) z → length z ≡ length (lent past w₅) → ThirdDone g v q (put_mid past (length w₅ - past) w₅ z)
      third_done met l =
          record {
            three = e.three;
            tested = e.tested;
            property_is = e.property_is;
            first = e.first;
            done = steps.done6 g v e.three e.done pasts e.from (met third_ready) (to_end past w₅) l refl;
          }
