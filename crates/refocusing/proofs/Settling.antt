-- A turn of the loop: what the focus tells, and what comes of it.
use Rattle.std.proofs.Common.{◌≡◌, sym, ap, subst, ◌∙◌, [], ℕ, ◌≤◌, ◌<◌, length, Result, Ok, Err, IsTrue, arith}
use Rattle.calculus.specs.Terms.{Term}
use Rattle.calculus.specs.Reduction.{Context}
use Rattle.rules.specs.Answer.{Bytes}
use Rattle.rules.specs.Script.{encode}
use Rattle.redex.specs.Contexts.{offset, level}
use Rattle.redex.specs.Fates.{is_potential_redex}
use Rattle.refocusing.specs.Focus.{Stands, Standing, FocusTurn, Focused, focus_ahead, focus_turn, left_to_do, Advances, still_running, has_ended, Settled, settled_at_value, run_ended}
use Rattle.refocusing.specs.declared.Point.{Point}
use Rattle.refocusing.specs.declared.Focus.{Focus}
use Rattle.refocusing.specs.declared.Focus.TheVariants.{Ahead, Turn, Value}
use Rattle.refocusing.specs.declared.Ended.{Ended}

-- what a turn promises of a term that comes next, and of one whose turn it is
abbrev pub Operates : (g t : Bytes) (budget around : ℕ) (p : Point) (a b a' b' : Bytes) → Result Focus Ended → Type 0
Operates g t budget around p a b a' b' r =
    (whole : Term) (E : Context) (e : Term) → Stands g t (length b) budget whole E e [] (encode e) p a b → around ≡ level E
    → Advances g t (length b) budget whole E (left_to_do budget (Ahead p)) a' b' r

abbrev pub Contracts : (g t : Bytes) (budget at around : ℕ) (p : Point) (a b a' b' : Bytes) → Result Focus Ended → Type 0
Contracts g t budget at around p a b a' b' r =
    (whole : Term) (E : Context) (e : Term) → IsTrue (is_potential_redex e) → Stands g t (length b) budget whole E e (encode e) [] p a b → at ≡ offset E → around ≡ level E
    → Advances g t (length b) budget whole E (left_to_do budget (Turn p)) a' b' r

-- Evaluation has come to f in the hole of E, with at most m left to do; the term in focus begins at record `at`.
pub record Going (g t : Bytes) (room budget : ℕ) (whole : Term) (E : Context) (at m : ℕ) (a b : Bytes) (f : Focus) : Type 0 where
  pub focused : Focused g t room budget whole E a b f
  pub within : left_to_do budget f ≤ m
  pub at_is : at ≡ offset E

module _ {g t : Bytes} {room budget : ℕ} {whole : Term} {E : Context} {at m around : ℕ} {a b : Bytes} {f : Focus}
    (q : Going g t room budget whole E at m a b f) (same : length b ≡ room) (deep : around ≡ level E) where
  focus_is : {h : Focus} → f ≡ h → Focused g t (length b) budget whole E a b h
  focus_is {h} is = subst (λ r. Focused g t r budget whole E a b h) (sym same) (subst (λ f. Focused g t room budget whole E a b f) is q.focused)

  back : {h : Focus} {a' b' : Bytes} {r : Result Focus Ended} → f ≡ h → Advances g t (length b) budget whole E (left_to_do budget h) a' b' r
      → Advances g t room budget whole E (left_to_do budget f) a' b' r
  back {a' = a'} {b' = b'} {r = r} is x =
      subst (λ n. Advances g t n budget whole E (left_to_do budget f) a' b' r) same
      (subst (λ h. Advances g t (length b) budget whole E (left_to_do budget h) a' b' r) (sym is) x)

  pub stands_ahead : {p : Point} → f ≡ Ahead p → length a ≡ length b → Standing g t budget around p a b
  stands_ahead {p} is l = by (focus_is is)
    where
      by : Focused g t (length b) budget whole E a b (Ahead p) → Standing g t budget around p a b
      by (focus_ahead e s) = record { whole = whole; context = E; term = e; stands = s; around_is = deep; same_length = l }

  pub operates : {p : Point} {a' b' : Bytes} {r : Result Focus Ended} → f ≡ Ahead p → Operates g t budget around p a b a' b' r
      → Advances g t room budget whole E (left_to_do budget f) a' b' r
  operates {p} {a'} {b'} {r} is h = back is (by (focus_is is))
    where
      by : Focused g t (length b) budget whole E a b (Ahead p) → Advances g t (length b) budget whole E (left_to_do budget (Ahead p)) a' b' r
      by (focus_ahead e s) = h whole E e s deep

  pub stands_turn : {p : Point} → f ≡ Turn p → length a ≡ length b → FocusTurn g t budget at around p a b
  stands_turn {p} is l = by (focus_is is)
    where
      by : Focused g t (length b) budget whole E a b (Turn p) → FocusTurn g t budget at around p a b
      by (focus_turn e y s) = record { whole = whole; context = E; term = e; turn = y; stands = s; at_is = q.at_is; around_is = deep; same_length = l }

  pub contracts : {p : Point} {a' b' : Bytes} {r : Result Focus Ended} → f ≡ Turn p → Contracts g t budget at around p a b a' b' r
      → Advances g t room budget whole E (left_to_do budget f) a' b' r
  contracts {p} {a'} {b'} {r} is h = back is (by (focus_is is))
    where
      by : Focused g t (length b) budget whole E a b (Turn p) → Advances g t (length b) budget whole E (left_to_do budget (Turn p)) a' b' r
      by (focus_turn e y s) = h whole E e y s q.at_is deep

module _ {g t : Bytes} {room budget : ℕ} {whole : Term} {E : Context} {m : ℕ} {a b : Bytes} {r : Result Focus Ended}
    (x : Advances g t room budget whole E m a b r) where
  pub advanced : {f : Focus} → r ≡ Ok f → Focused g t room budget whole E a b f × (left_to_do budget f < m)
  advanced {f} is = grind arith

  pub advanced_end : {n : ℕ} {s : Result Point Ended} {y z : Ended} → r ≡ Err z → s ≡ Err y → y ≡ z → Settled g t room budget whole E n a b s
  advanced_end {n} {s} {y} {z} is p q = subst (λ s. Settled g t room budget whole E n a b s) (sym (p ∙ ap Err q)) (by (subst (λ r. Advances g t room budget whole E m a b r) is x))
    where
      by : Advances g t room budget whole E m a b (Err z) → Settled g t room budget whole E n a b (Err z)
      by (has_ended h) = run_ended h

-- the loop ends at a value
pub settled : {g t : Bytes} {room budget : ℕ} {whole : Term} {E : Context} {at m : ℕ} {a b : Bytes} {f : Focus} {p : Point}
    → Going g t room budget whole E at m a b f → f ≡ Value p → left_to_do budget (Value p) < m → Settled g t room budget whole E m a b (Ok p)
settled {g} {t} {room} {budget} {whole} {E} {a = a} {b = b} q is l = settled_at_value (subst (λ f. Focused g t room budget whole E a b f) is q.focused) l
