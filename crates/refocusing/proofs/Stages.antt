-- What is known of the term in focus at each stage of its passing, and what comes of it: its operands are settled in
-- turn, a branch is passed as it is, and then it is a value or it is its turn.
use Rattle.std.proofs.Common.{◌≡◌, refl, sym, ap, subst, ◌∙◌, [], append-nil, ℕ, ◌+◌, ◌*◌, ◌≤◌, ◌<◌, ◌⊎◌, inl, inr}
use Rattle.std.proofs.Common.{arith, length, Result, Ok, Err, IsTrue}
use Rattle.calculus.specs.Terms.{Term, is_value}
use Rattle.calculus.specs.Reduction.{Context, plug}
use Rattle.calculus.proofs.Contexts.{compose}
use Rattle.rules.specs.Answer.{Bytes}
use Rattle.rules.specs.Limits.{script_width}
use Rattle.rules.specs.Script.{kind, encode, size}
use Rattle.rules.proofs.PrefixLaws.{encode_length}
use Rattle.rules.proofs.TermCode.{term_code}
use Rattle.records.specs.Kinds as kinds
use Rattle.records.specs.Place.{At}
use Rattle.records.specs.Operands.{first_operand, second_operand}
use Rattle.records.proofs.Made.{by_kind}
use Rattle.records.proofs.Stands.{kind_of, operands, at_second, at_third}
use Rattle.memory.specs.Splice.{splice}
use Rattle.redex.specs.Contexts.{after, level}
use Rattle.redex.specs.Fates.{is_potential_redex}
use Rattle.redex.proofs.Plugs.{compose_level}
use Rattle.redex.proofs.Forms.{Position, alone_value, function_value, OfOne}
use Rattle.redex.proofs.Stages.{kind_read, Opened, is_kind}
use Rattle.records.specs.Numbers.{kind_number}
use Rattle.records.specs.declared.Kind.{Kind}
use Rattle.records.specs.declared.Kind.TheVariants.{Unit, Function, Literal, Protect, FirstProjection, SecondProjection}
use Rattle.records.proofs.ThirdOperand.{third_operand}
use Rattle.refocusing.specs.Focus.{Stands, Standing, Focused, focus_value, focus_turn, left_to_do, EndedRun, Advances, still_running, has_ended, Settled, settled_at_value, run_ended}
use Rattle.refocusing.specs.declared.Point.{Point}
use Rattle.refocusing.specs.declared.Focus.{Focus}
use Rattle.refocusing.specs.declared.Focus.TheVariants.{Ahead, Turn, Value}
use Rattle.refocusing.specs.declared.Ended.{Ended}
use Rattle.refocusing.proofs.Shifts.{term_taken}
use Rattle.refocusing.proofs.Nodes.{FirstPassed}
use Rattle.refocusing.specs.Moves.{PassesOver}
use Rattle.refocusing.proofs.Passing.{Passed, passed, stands, went_on, entered}

-- what the settling of a term promises
abbrev pub Settles : (g t : Bytes) (budget around : ℕ) (p : Point) (a b a' b' : Bytes) → Result Point Ended → Type 0
Settles g t budget around p a b a' b' r =
    (whole : Term) (E : Context) (e : Term) → Stands g t (length b) budget whole E e [] (encode e) p a b → around ≡ level E
    → Settled g t (length b) budget whole E (left_to_do budget (Ahead p)) a' b' r

-- the term that comes next, before any of it is passed
module _ {g t : Bytes} {room budget : ℕ} {whole : Term} {E : Context} {e : Term} {p : Point} {a b : Bytes}
    (s : Stands g t room budget whole E e [] (encode e) p a b) where
  pub begun : Passed g t room budget whole E e 0 p a b
  begun = passed 0 s refl refl

  pub ahead_at : At b p.right e
  ahead_at = record { rest = after E; stands = s.gap.back }

module _ {g t : Bytes} {room budget : ℕ} {whole : Term} {E : Context} {e : Term} {n : ℕ} {p : Point} {a b : Bytes}
    (s : Passed g t room budget whole E e n p a b) where
  -- a term that comes next, passed as it is
  pub term_passed : (z : Term) {p' : Point} {a' : Bytes} → At b p.right z → n + size z ≤ size e
      → PassesOver (size z) (encode z) p p' a a'
      → Passed g t room budget whole E e (n + size z) p' a' b
  term_passed z {p'} h l f = went_on s (size z) l p' (record {
    left = f.left;
    right = f.right;
    steps = f.steps;
    front = f.front ∙ ap (λ m. splice (script_width * p.left) m a) (sym (term_taken h));
  })

  module _ {z : Term} {m : ℕ} (q : Position e z n m) (same : length b ≡ room) (around : ℕ) (deep : around ≡ level E + m) where
    here : Stands g t (length b) budget whole (compose E q.context) z [] (encode z) p a b
    here = stands [] (encode z) (entered (subst (λ r. Passed g t r budget whole E e n p a b) (sym same) s) q) refl refl

    deeper : around ≡ level (compose E q.context)
    deeper = omega (arith, deep, q.under, compose_level E q.context)

    -- an operand that comes next, and is evaluated
    pub operand_stands : length a ≡ room → Standing g t budget around p a b
    operand_stands l = record {
      whole = whole;
      context = compose E q.context;
      term = z;
      stands = here;
      around_is = deeper;
      same_length = l ∙ sym same;
    }

    pub operand_settles : {a' b' : Bytes} {r : Result Point Ended} → Settles g t budget around p a b a' b' r
        → Settled g t room budget whole (compose E q.context) (left_to_do budget (Ahead p)) a' b' r
    operand_settles {a'} {b'} {r} f =
        subst (λ n. Settled g t n budget whole (compose E q.context) (left_to_do budget (Ahead p)) a' b' r) same
        (f whole (compose E q.context) z here deeper)

  -- a term that is passed
  pub comes_to_value : {m : ℕ} → n ≡ size e → IsTrue (is_value e) → left_to_do budget (Value p) < m → Advances g t room budget whole E m a b (Ok (Value p))
  comes_to_value l v h = still_running (focus_value e v (stands (encode e) [] s (append-nil (encode e)) (omega (arith, encode_length term_code e)))) h

  pub comes_to_turn : {m : ℕ} → n ≡ size e → IsTrue (is_potential_redex e) → left_to_do budget (Turn p) < m → Advances g t room budget whole E m a b (Ok (Turn p))
  comes_to_turn l v h = still_running (focus_turn e v (stands (encode e) [] s (append-nil (encode e)) (omega (arith, encode_length term_code e)))) h

-- an operand that is settled, or the run has ended
module _ {g t : Bytes} {room budget : ℕ} {whole : Term} {E : Context} {m : ℕ} {a b : Bytes} where
  pub settled_value : {r : Result Point Ended} {p : Point} → Settled g t room budget whole E m a b r → r ≡ Ok p
      → Focused g t room budget whole E a b (Value p) × (left_to_do budget (Value p) < m)
  settled_value {p = p} s h = grind arith

  pub settled_end : {r : Result Point Ended} {x : Ended} → Settled g t room budget whole E m a b r → r ≡ Err x → EndedRun g t room budget whole a b x
  settled_end {x = x} s h = by (subst (λ r. Settled g t room budget whole E m a b r) h s)
    where
      by : Settled g t room budget whole E m a b (Err x) → EndedRun g t room budget whole a b x
      by (run_ended z) = z

pub ends_so : {g t : Bytes} {room budget : ℕ} {whole : Term} {E : Context} {m : ℕ} {a b : Bytes} {r : Result Focus Ended} {x y : Ended} → r ≡ Err x → x ≡ y
    → EndedRun g t room budget whole a b y → Advances g t room budget whole E m a b r
ends_so {g} {t} {room} {budget} {whole} {E} {m} {a} {b} p q h =
    subst (λ r. Advances g t room budget whole E m a b r) (sym (p ∙ ap Err q)) (has_ended h)

-- a node of one operand, and a case
abbrev pub Unary : ℕ → Type 0
Unary k = (k ≡ kinds.protect) ⊎ ((k ≡ kinds.first_projection) ⊎ (k ≡ kinds.second_projection))

pub unary_size : (e : Term) → Unary (kind_of e) → size e ≡ 1 + size (first_operand e)
unfolding size
unary_size e n = grind arith

pub unary_of_one : {n : ℕ} → Unary n → OfOne n
unary_of_one (inl h) = inl h
unary_of_one (inr (inl h)) = inr (inl h)
unary_of_one (inr (inr h)) = inr (inr (inl h))

case_operands : (e : Term) → kind_of e ≡ kinds.case
    → (3 ≤ operands e) × (size e ≡ 1 + size (first_operand e) + size (second_operand e) + size (third_operand e))
unfolding size
case_operands e h = grind arith

-- the kinds that are values as they stand
pub lone_value : {s : Bytes} {i : ℕ} {k : Kind} {e : Term} → kind_number k ≡ kind s i → At s i e → (k ≡ Unit) ⊎ ((k ≡ Literal) ⊎ (k ≡ Function)) → IsTrue (is_value e)
lone_value is a (inl h) = (alone_value _ (inl (kind_read is a h))).0
lone_value is a (inr (inl h)) = (alone_value _ (inr (kind_read is a h))).0
lone_value is a (inr (inr h)) = function_value _ (kind_read is a h)

pub unary_read : {s : Bytes} {i : ℕ} {k : Kind} {e : Term} → Opened s i k e → (k ≡ Protect) ⊎ ((k ≡ FirstProjection) ⊎ (k ≡ SecondProjection)) → Unary (kind_of e)
unary_read o (inl h) = inl (is_kind o h)
unary_read o (inr (inl h)) = inr (inl (is_kind o h))
unary_read o (inr (inr h)) = inr (inr (is_kind o h))

-- the branches of a case
pub record Branches (s : Bytes) (next : ℕ) (e : Term) : Type 0 where
  pub second : At s next (second_operand e)
  pub third : (j : ℕ) → j ≡ next + size (second_operand e) → At s j (third_operand e)
  pub sizes : size e ≡ 1 + size (first_operand e) + size (second_operand e) + size (third_operand e)

pub branches : {g t : Bytes} {room budget : ℕ} {whole : Term} {E : Context} {k : Kind} {p : Point} {a b : Bytes} (f : FirstPassed g t room budget whole E k p a b)
    → kind_of f.node ≡ kinds.case → Branches (encode (plug E f.node)) p.left f.node
branches {E = E} {p = p} f h =
    let c = case_operands f.node h in
    let w = f.value.own.stands in
    record {
      second = at_second _ _ f.node w p.left (omega (arith, c.0)) f.value.ends;
      third = λ j l. at_third _ _ f.node w j c.0 (omega (arith, f.value.ends, l));
      sizes = c.1;
    }
