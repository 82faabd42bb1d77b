-- What the rule functions ask, and what they leave in the work buffer.
use Rattle.std.proofs.Common.{◌≡◌, refl, ◌∙◌, Bool, true, cond, eqb-true, nat_le, Result, Ok, Err, IsErrAnd, List, ◌++◌}
use Rattle.std.proofs.Common.{ℕ, ◌+◌, ◌*◌, ◌≤◌, ◌<◌, arith, length, drop, drop_at}
use Rattle.calculus.specs.Security.{Property, Indirect, Security}
use Rattle.calculus.specs.Types.{Former, sum, product, function, Ty, node, size_t, top, raise_t, type_limit}
use Rattle.calculus.specs.Subtyping.{below}
use Rattle.calculus.specs.Common.{nearest_type}
use Rattle.calculus.specs.Typing.{finds_own}
use Rattle.rules.specs.Limits.{answer_length, type_width}
use Rattle.rules.specs.Answer.{Bytes, Answer, accepted, refused, ◌>>=◌, ◌>>◌, ask}
use Rattle.rules.specs.Types.{former_kind, type_record, sides, encode_type}
use Rattle.rules.specs.Typing.{left, right, q22, q24, found_or}
use Rattle.types.specs.Held.{kind_of_type}
use Rattle.types.specs.Kinds.{type_kind_number}
use Rattle.types.specs.declared.Kind.{Kind}
use Rattle.memory.specs.Splice.{splice}
use Rattle.memory.proofs.Laws.{join_before, join_after}
use Rattle.answer.specs.Numbers.{question_number}
use Rattle.answer.specs.Said.{answer_of}
use Rattle.answer.specs.declared.Refusal.{Refusal}
use Rattle.inference.specs.Memory.{Sized, Wrote, Meets, meets_refusal, meets_type, Gives, Entered, Enters}
use Rattle.inference.specs.Kinds.{has_kind}
use Rattle.inference.specs.Stages.{may_read, result_type, case_type}
use Rattle.inference.proofs.Front.{size_raised}
use Rattle.inference.proofs.KindLaws.{kind_is}
use Rattle.answer.proofs.Passed.{returned}
use Rattle.types.proofs.Parts.{type_length}
use Rattle.inference.proofs.Regions.{high_past, written}

-- of a case's branches, and its result type
module _ (S : Security) (p : ℕ) (tab : ℕ → Ty) (i : ℕ) (t u : Ty) where
  result_as : (b : Bool) → finds_own i ≡ b
      → result_type S tab p i t u ≡ ◌>>◌ (cond b (accepted tt) (q22 S p u (tab i))) (cond b (found_or p (nearest_type S below t u)) (accepted (tab i)))
  result_as b e = rw e

  pub result_own : finds_own i ≡ true → result_type S tab p i t u ≡ found_or p (nearest_type S below t u)
  result_own e = result_as true e

  pub case_raises : (by : Indirect) → case_type S tab p i t u by ≡ ◌>>=◌ (result_type S tab p i t u) (λ r. accepted (raise_t S r by))
  case_raises by = grind arith

-- questions 20 and 21
-- They are answered yes only where the read type is of the kind, so that it has as many sides.
module _ (S : Security) (p : ℕ) (k : Kind) (t : Ty) (w : ℕ) where
  kind_cases : (a b : Bool) → ◌>>◌ (ask 20 p a) (ask 21 p b) ≡ accepted tt → a ≡ true
  kind_cases a b e = grind arith

  read_kind : may_read S p k t w ≡ accepted tt → type_kind_number k ≡ kind_of_type t
  read_kind e = grind (arith, eqb-true, kind_is k t, kind_cases (has_kind k t) (S.permits (top t) w) e)

  pub read_two : sides (type_kind_number k) ≡ 2 → may_read S p k t w ≡ accepted tt → sides (kind_of_type t) ≡ 2
  read_two two e = rw (← read_kind e) two

pub meets_of : {o o' : Answer Ty} {b : ℕ} {w : Bytes} {x : Result ℕ Refusal} {v : Bytes} → o ≡ o' → Meets o' b w x v → Meets o b w x v
meets_of e m = rw e m

-- question 24
pub node_size : (f : Former) (k : Property) (s t : Ty) → size_t (node f k s t) ≡ 1 + (size_t s + size_t t)
unfolding size_t
node_size f k s t = refl

pub in_limit : (q p : ℕ) {n : ℕ} → accepted tt ≡ ask q p (nat_le n type_limit) → n ≤ type_limit
in_limit q p {n} e = grind arith

pub asks_24 : (p n : ℕ) (f : Former) (k : Property) (s t : Ty) → n ≡ 1 + (size_t s + size_t t) → ask 24 p (nat_le n type_limit) ≡ q24 p (node f k s t)
asks_24 p n f k s t e = rw (e, ← node_size f k s t)

-- a record before two types
node_front : (f : Former) (k : Property) (s t : Ty) (w w₂ w₃ : Bytes) → type_width + (type_width * size_t s + type_width * size_t t) ≤ length w
    → w₂ ≡ splice type_width (encode_type s ++ encode_type t) w → w₃ ≡ splice 0 (type_record (former_kind f) k) w₂
    → w₃ ≡ splice 0 (encode_type (node f k s t)) w
unfolding encode_type
node_front f k s t w w₂ w₃ l e₂ e₃ = grind arith

module _ (k : Property) (m n : ℕ) (s t : Ty) {w y x : Bytes} (f : size_t s + size_t t < type_limit) (em : m ≡ size_t s) (en : n ≡ size_t t)
    (ex : x ≡ encode_type s) (ey : y ≡ encode_type t) (l : answer_length ≤ length w) where
  placed : {w₂ w₃ : Bytes} (c : Former) → w₂ ≡ splice type_width (encode_type s ++ encode_type t) w → w₃ ≡ splice 0 (type_record (former_kind c) k) w₂
      → Gives (accepted (node c k s t)) w (Ok (m + n + 1)) w₃
  placed {w₂} {w₃} c z₂ e₃ =
      let ns = node_size c k s t in
      written (omega (arith, ns)) (omega (arith, ns)) refl (node_front c k s t w w₂ w₃ (omega arith) z₂ e₃)

  -- the second type is moved first
  pub function_given : {w₁ w₂ w₃ : Bytes} → w₁ ≡ splice (type_width + type_width * m) y w → w₂ ≡ splice type_width x w₁ → w₃ ≡ splice 0 (type_record (former_kind function) k) w₂
      → Gives (accepted (node function k s t)) w (Ok (m + n + 1)) w₃
  function_given {w₂ = w₂} e₁ e₂ e₃ =
      let a : type_width + type_width * m ≡ type_width + length (encode_type s) = omega (arith, type_length s) in
      placed {w₂ = w₂} function (rw (e₂, ex, e₁, ey, a) (join_before type_width (encode_type s) (encode_type t) w (omega (arith, type_length s, type_length t)))) e₃

  -- the first one is
  pub pair_given : {w₁ w₂ w₃ : Bytes} → w₁ ≡ splice type_width x w → w₂ ≡ splice (type_width + type_width * m) y w₁ → w₃ ≡ splice 0 (type_record (former_kind product) k) w₂
      → Gives (accepted (node product k s t)) w (Ok (m + n + 1)) w₃
  pair_given {w₂ = w₂} e₁ e₂ e₃ =
      placed {w₂ = w₂} product (rw (e₂, e₁, ex, ey) (join_after type_width (type_width + type_width * m) (encode_type s) (encode_type t) w (omega (arith, type_length s)) (omega (arith, type_length s)))) e₃

-- another record before the sides of a type
pub other_record : (u : Ty) (k : Property) (w : Bytes) → sides (kind_of_type u) ≡ 2
    → splice 0 (type_record (former_kind sum) k) (splice 0 (encode_type u) w) ≡ splice 0 (encode_type (node sum k (left u) (right u))) w
unfolding encode_type
other_record u k w n = grind arith

pub other_size : (u : Ty) (k : Property) → sides (kind_of_type u) ≡ 2 → size_t (node sum k (left u) (right u)) ≡ size_t u
unfolding size_t
other_size u k n = grind arith

-- the front, raised in place
pub raise_wrote : (S : Security) (g : Indirect) {t : Ty} {b n : ℕ} {w w₁ w₂ : Bytes} (h : Wrote t b w n w₁) → w₂ ≡ encode_type (raise_t S t g) ++ h.sized.held.rest
    → length w₂ ≡ length w₁ → answer_length * (b + 1) ≤ length w₁ → Wrote (raise_t S t g) b w n w₂
raise_wrote S g {t} {b} {n} {w} {w₁} {w₂} h e m l =
    let rest = h.sized.held.rest in
    let z = size_raised S t g in
    let k : ℕ = type_width * size_t t in
    let d : drop k w₂ ≡ drop k w₁ = grind (arith, drop_at (encode_type (raise_t S t g)) rest k, drop_at (encode_type t) rest k, type_length t, type_length (raise_t S t g)) in
    record {
      sized = record { held = record { rest = rest; is = e }; small = omega (arith, h.sized.small); count = cc };
      kept = high_past k b w₁ w₂ d m (omega (arith, h.sized.small)) ∙ h.kept;
    }

abbrev pub unchanged : {t : Ty} {b n : ℕ} {w : Bytes} → Sized w n t → Wrote t b w n w
unchanged s = record { sized = s; kept = refl }

-- ---- answers passed on

-- a type is found
pub record TypedAs (o : Answer Ty) (b : ℕ) (w : Bytes) (n : ℕ) (v : Bytes) : Type 0 where
  pub type : Ty
  pub is : o ≡ accepted type
  pub wrote : Wrote type b w n v

pub typed_as : {o : Answer Ty} {b : ℕ} {w : Bytes} {n : ℕ} {v : Bytes} → Meets o b w (Ok n) v → TypedAs o b w n v
typed_as (meets_type {t = t} h) = record { type = t; is = refl; wrote = h }

-- a refusal is passed on
pub refused_as : {o : Answer Ty} {b : ℕ} {w : Bytes} {e : Refusal} {v : Bytes} → Meets o b w (Err e) v → o ≡ refused (question_number e.question) e.place
refused_as meets_refusal = refl

-- what `?` returns then
pub refused_meets : {o : Answer Ty} {b : ℕ} {w v : Bytes} {x : Result ℕ Refusal} (e : Refusal) → o ≡ refused (question_number e.question) e.place → IsErrAnd x (λ y. y ≡ e) → Meets o b w x v
refused_meets e h p = meets_of h (rw (returned _ p) meets_refusal)

-- ---- a type given under any count of binders

pub gives_of : {o o' : Answer Ty} {w : Bytes} {x : Result ℕ Refusal} {v : Bytes} → o ≡ o' → Gives o' w x v → Gives o w x v
gives_of e m b l = meets_of e (m b l)

-- after a question answered yes
pub passed : {a : Answer (Unit {0})} {o : Answer Ty} {w : Bytes} {x : Result ℕ Refusal} {v : Bytes} → accepted tt ≡ a → Gives o w x v → Gives (◌>>◌ a o) w x v
passed {a} {o} e m b l = rw (← e) (m b l)

-- after one answered no
pub stopped : {a : Answer (Unit {0})} (o : Answer Ty) {w v : Bytes} {x : Result ℕ Refusal} (e : Refusal) → answer_of {A = Unit {0}} (Err e) ≡ a → IsErrAnd x (λ y. y ≡ e) → Gives (◌>>◌ a o) w x v
stopped o e h p b l = refused_meets e (rw (← h)) p

-- after a property that is found, or is not
module _ {a : Answer Property} (o : Property → Answer Ty) {w v : Bytes} {x : Result ℕ Refusal} where
  pub found_first : {k : Property} → accepted k ≡ a → Gives (o k) w x v → Gives (◌>>=◌ a o) w x v
  found_first e m = rw (← e) m

  pub refused_first : (e : Refusal) → refused (question_number e.question) e.place ≡ a → IsErrAnd x (λ y. y ≡ e) → Gives (◌>>=◌ a o) w x v
  refused_first e h p b l = refused_meets e (rw (← h)) p

module _ {A : Answer (Unit {0})} {Γ Γ' : List Ty} {b : ℕ} {w : Bytes} {x : Result (Unit {0}) Refusal} {w' : Bytes} where
  -- the next operand's context is there
  pub enters_as : answer_of x ≡ A → Γ ≡ Γ' → Entered Γ' b w w' → Enters A Γ b w x w'
  enters_as e f h = record { says = e; entered = λ _. rw f h }

  -- the questions and the context of a node of a shape
  pub enters_for : {A' : Answer (Unit {0})} → A ≡ A' → Γ ≡ Γ' → Enters A' Γ' b w x w' → Enters A Γ b w x w'
  enters_for e f h = rw (e, f) h
