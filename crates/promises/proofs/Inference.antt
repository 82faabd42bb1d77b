-- The rules' typing, with questions and places, finds exactly the type that the calculus's inference finds.
use Rattle.std.proofs.Common.{◌≡◌, refl, Bool, true, false, ◌&&◌, cond, List, [], ◌∷◌, ℕ, suc, zero, ◌+◌, ◌<◌, arith}
use Rattle.std.proofs.Common.{length, get_or, IsTrue}
use Rattle.std.proofs.Math.Option.{none, some, Option}
use Rattle.calculus.specs.Security.{Property, Reader, Indirect, Security}
use Rattle.calculus.specs.Types.{number, Former, sum, product, function, Ty, leaf, node, top, raise_t, fits, when}
use Rattle.calculus.specs.Types.{Parts, parts}
use Rattle.calculus.specs.Subtyping.{subtype, below}
use Rattle.calculus.specs.Terms.{Side, choose, plus, less, Term, var, unit, lam, pair, inj, app, proj, case, protect}
use Rattle.calculus.specs.Terms.{mu, literal, reckon}
use Rattle.calculus.specs.Typing.{finds_own, lookup, recurs, type_of_case, infer}
use Rattle.calculus.specs.Numbers.{of_both, reckon_type, number_property}
use Rattle.calculus.specs.Common.{nearest_type}
use Rattle.calculus.specs.Types as typing
use Rattle.rules.specs.Answer.{Bytes, Answer, accepted, refused, ◌>>=◌, ◌>>◌, ask}
use Rattle.rules.specs.Groups.{properties_of}
use Rattle.rules.specs.Types.{type_at, type_count, type_kind, no_type}
use Rattle.rules.specs.Script.{sum_of_units, size}
use Rattle.rules.specs.Typing.{has_form, left, right, q20, q20_number, q21, q22, q23, q24, found_or, number_result}
use Rattle.rules.specs.Typing.{typing}
use Rattle.rules.proofs.UnitSums.{UnitSum}
use Rattle.promises.proofs.Formed.{Formed}

-- a found type, without the question and place of a refusal
abbrev pub forget : {A : Type 0} → Answer A → Option A
forget (accepted a) = some a
forget (refused q p) = none

bind_forget : {A : Type 0} (m : Answer A) (f : A → Answer Ty) (o : Option A) (h : A → Option Ty) → forget m ≡ o → ((a : A) → forget (f a) ≡ h a)
    → forget (◌>>=◌ m f) ≡ typing.◌>>=◌ o h
bind_forget m f o h e k = grind arith

lookup_is : (Γ : List Ty) (n : ℕ) → n < length Γ → some (get_or Γ n no_type) ≡ lookup Γ n
unfolding lookup
lookup_is [] n l = absurd (omega arith)
lookup_is (s ∷ Γ) zero l = refl
lookup_is (s ∷ Γ) (suc n) l = lookup_is Γ n (omega arith)

when_true : (b : Bool) (t : Ty) → b ≡ true → some t ≡ when b t
when_true b t e = rw e

-- Each rule over what its operands have. In each, `m` is what typing answers and `o` what inference finds.
lam_rule : (S : Security) (k : Property) (a : Ty) (p : ℕ) (m : Answer Ty) (o : Option Ty) → forget m ≡ o → IsTrue (S.secure k)
    → forget (◌>>=◌ m (λ s. ◌>>◌ (q24 p (node function k a s)) (accepted (node function k a s))))
    ≡ typing.◌>>=◌ o (λ s. when (S.secure k && fits (node function k a s)) (node function k a s))
lam_rule S k a p m o e h = grind arith

pair_rule : (S : Security) (k : Property) (p : ℕ) (m m' : Answer Ty) (o o' : Option Ty) → forget m ≡ o → forget m' ≡ o' → IsTrue (S.secure k)
    → forget (◌>>=◌ m (λ s. ◌>>=◌ m' (λ s'. ◌>>◌ (q24 p (node product k s s')) (accepted (node product k s s')))))
    ≡ typing.◌>>=◌ o (λ s. typing.◌>>=◌ o' (λ s'. when (S.secure k && fits (node product k s s')) (node product k s s')))
pair_rule S k p m m' o o' e e' h = grind arith

inj_rule : (S : Security) (d : Side) (k : Property) (a : Ty) (p : ℕ) (m : Answer Ty) (o : Option Ty) → forget m ≡ o → IsTrue (S.secure k) → has_form sum a ≡ true
    → forget (◌>>=◌ m (λ s. ◌>>◌ (q22 S p s (choose d (left a) (right a))) (accepted (node sum k (left a) (right a)))))
    ≡ typing.◌>>=◌ o
    (λ s. typing.◌>>=◌ (parts sum a) (λ x. when (S.secure k && subtype S below s (choose d x.lhs x.rhs)) (node sum k x.lhs x.rhs)))
inj_rule S d k a p m o e h f = grind arith

app_rule : (S : Security) (w : Reader) (p : ℕ) (m m' : Answer Ty) (o o' : Option Ty) → forget m ≡ o → forget m' ≡ o'
    → forget (◌>>=◌ m (λ s. ◌>>◌ (q20 p function s) (◌>>◌ (q21 S p s w)
    (◌>>=◌ m' (λ s'. ◌>>◌ (q22 S p s' (left s)) (accepted (raise_t S (right s) (S.influence (top s) w))))))))
    ≡ typing.◌>>=◌ o (λ s. typing.◌>>=◌ (parts function s) (λ x. typing.◌>>=◌ o'
    (λ s'. when (S.permits x.own w && subtype S below s' x.lhs) (raise_t S x.rhs (S.influence x.own w)))))
app_rule S w p m m' o o' e e' = grind arith

proj_rule : (S : Security) (d : Side) (w : Reader) (p : ℕ) (m : Answer Ty) (o : Option Ty) → forget m ≡ o
    → forget (◌>>=◌ m (λ s. ◌>>◌ (q20 p product s) (◌>>◌ (q21 S p s w) (accepted (raise_t S (choose d (left s) (right s)) (S.influence (top s) w))))))
    ≡ typing.◌>>=◌ o (λ s. typing.◌>>=◌ (parts product s)
    (λ x. when (S.permits x.own w) (raise_t S (choose d x.lhs x.rhs) (S.influence x.own w))))
proj_rule S d w p m o e = grind arith

-- `own`: does the case find its type?
case_rule : (S : Security) (w : Reader) (own : Bool) (a : Ty) (p : ℕ) (m : Answer Ty) (o : Option Ty) (m' m'' : Ty → Answer Ty) (o' o'' : Ty → Option Ty) → forget m ≡ o
    → ((s : Ty) → forget (m' s) ≡ o' s) → ((s : Ty) → forget (m'' s) ≡ o'' s)
    → forget (◌>>=◌ m (λ s. ◌>>◌ (q20 p sum s) (◌>>◌ (q21 S p s w)
    (◌>>=◌ (m' (left s)) (λ u. ◌>>◌ (cond own (accepted tt) (q22 S p u a)) (◌>>=◌ (m'' (right s)) (λ v. ◌>>◌ (cond own (accepted tt) (q22 S p v a))
    (◌>>=◌ (cond own (found_or p (nearest_type S below u v)) (accepted a)) (λ r. accepted (raise_t S r (S.influence (top s) w)))))))))))
    ≡ typing.◌>>=◌ o (λ s. typing.◌>>=◌ (parts sum s) (λ x. typing.◌>>=◌ (o' x.lhs) (λ u. typing.◌>>=◌ (o'' x.rhs)
    (λ v. typing.◌>>=◌ (cond own (nearest_type S below u v) (when (subtype S below u a && subtype S below v a) a))
    (λ r. when (S.permits x.own w) (raise_t S r (S.influence x.own w)))))))
case_rule S w own a p m o m' m'' o' o'' e e' e'' = grind arith

protect_rule : (S : Security) (i : Indirect) (m : Answer Ty) (o : Option Ty) → forget m ≡ o → S.secure_i i ≡ true
    → forget (◌>>=◌ m (λ s. accepted (raise_t S s i))) ≡ typing.◌>>=◌ o (λ s. when (S.secure_i i) (raise_t S s i))
protect_rule S i m o e h = bind_forget m _ o _ e (λ s. when_true (S.secure_i i) (raise_t S s i) h)

mu_rule : (S : Security) (a : Ty) (w : Reader) (p : ℕ) (m : Answer Ty) (o : Option Ty) → forget m ≡ o → has_form function a ≡ true
    → forget (◌>>◌ (q21 S p a (S.caller (top a) w)) (◌>>◌ (q23 S p a (S.caller (top a) w)) (◌>>=◌ m (λ s. ◌>>◌ (q22 S p s a) (accepted a)))))
    ≡ typing.◌>>=◌ (parts function a) (λ x. typing.◌>>=◌ o (λ s. when (recurs S x w && subtype S below s a) a))
mu_rule S a w p m o e f = grind arith

reckon_rule : (S : Security) (w : Reader) (p : ℕ) (m m' : Answer Ty) (o o' : Option Ty) (f : Property → Ty) (r : Property → Option Ty) → forget m ≡ o
    → forget m' ≡ o' → ((k : Property) → r k ≡ some (f k))
    → forget (◌>>=◌ m (λ s. ◌>>◌ (q20_number p s) (◌>>◌ (q21 S p s w)
    (◌>>=◌ m' (λ t. ◌>>◌ (q20_number p t) (◌>>◌ (q21 S p t w) (accepted (f (of_both S w (top s) (top t))))))))))
    ≡ typing.◌>>=◌ o (λ s. typing.◌>>=◌ (number_property s) (λ k. typing.◌>>=◌ o' (λ t. typing.◌>>=◌ (number_property t)
    (λ l. typing.◌>>=◌ (r (of_both S w k l)) (λ u. when (S.permits k w && S.permits l w) u)))))
reckon_rule S w p m m' o o' f r e e' is = grind arith

module _ (g t : Bytes) (sums : (i : ℕ) → i < type_count t → type_kind t i ≡ 1 → IsTrue (has_form sum (type_at t i)))
    (functions : (i : ℕ) → i < type_count t → type_kind t i ≡ 3 → IsTrue (has_form function (type_at t i)))
    (units : (i : ℕ) → i < type_count t → IsTrue (sum_of_units t i) → UnitSum (type_at t i)) where
  abbrev S : Security
  S = properties_of g

  abbrev tab : ℕ → Ty
  tab = type_at t

  flag_type : (i : ℕ) → i < type_count t → IsTrue (sum_of_units t i) → (k : Property) → reckon_type tab (less i) k ≡ some (number_result tab (less i) k)
  flag_type i l h k = let u = units i l h in rw u.is

  pub agree : (Γ : List Ty) (p : ℕ) (e : Term) → Formed g t (length Γ) e → forget (typing S tab Γ p e) ≡ infer S tab Γ e
  unfolding Formed typing infer type_of_case
  agree Γ p (var n) F = lookup_is Γ n F
  agree Γ p (unit k) F = rw F
  agree Γ p (lam k i e) F = lam_rule S k (tab i) p (typing S tab (tab i ∷ Γ) (1 + p) e) (infer S tab (tab i ∷ Γ) e) (agree (tab i ∷ Γ) (1 + p) e F.2) F.0
  agree Γ p (pair k a b) F =
      pair_rule S k p (typing S tab Γ (1 + p) a) (typing S tab Γ (1 + p + size a) b) (infer S tab Γ a) (infer S tab Γ b) (agree Γ (1 + p) a F.1)
      (agree Γ (1 + p + size a) b F.2) F.0
  agree Γ p (inj d k i e) F =
      inj_rule S d k (tab i) p (typing S tab Γ (1 + p) e) (infer S tab Γ e) (agree Γ (1 + p) e F.3) F.0 (sums i F.1 F.2)
  agree Γ p (app w f a) F =
      app_rule S w p (typing S tab Γ (1 + p) f) (typing S tab Γ (1 + p + size f) a) (infer S tab Γ f) (infer S tab Γ a) (agree Γ (1 + p) f F.1)
      (agree Γ (1 + p + size f) a F.2)
  agree Γ p (proj d w e) F = proj_rule S d w p (typing S tab Γ (1 + p) e) (infer S tab Γ e) (agree Γ (1 + p) e F.1)
  agree Γ p (case w i e a b) F =
      case_rule S w (finds_own i) (tab i) p (typing S tab Γ (1 + p) e) (infer S tab Γ e) (λ s. typing S tab (s ∷ Γ) (1 + p + size e) a)
      (λ s. typing S tab (s ∷ Γ) (1 + p + size e + size a) b) (λ s. infer S tab (s ∷ Γ) a) (λ s. infer S tab (s ∷ Γ) b) (agree Γ (1 + p) e F.2)
      (λ s. agree (s ∷ Γ) (1 + p + size e) a F.3) (λ s. agree (s ∷ Γ) (1 + p + size e + size a) b F.4)
  agree Γ p (protect m e) F = protect_rule S m (typing S tab Γ (1 + p) e) (infer S tab Γ e) (agree Γ (1 + p) e F.1) F.0
  agree Γ p (mu w i e) F = mu_rule S (tab i) w p (typing S tab (tab i ∷ Γ) (1 + p) e) (infer S tab (tab i ∷ Γ) e) (agree (tab i ∷ Γ) (1 + p) e F.3) (functions i F.1 F.2)
  agree Γ p (literal k n) F = rw F.0
  agree Γ p (reckon plus w a b) F =
      reckon_rule S w p (typing S tab Γ (1 + p) a) (typing S tab Γ (1 + p + size a) b) (infer S tab Γ a) (infer S tab Γ b) (number_result tab plus) (reckon_type tab plus)
      (agree Γ (1 + p) a F.1) (agree Γ (1 + p + size a) b F.2) (λ k. refl)
  agree Γ p (reckon (less i) w a b) F =
      reckon_rule S w p (typing S tab Γ (1 + p) a) (typing S tab Γ (1 + p + size a) b) (infer S tab Γ a) (infer S tab Γ b) (number_result tab (less i)) (reckon_type tab (less i))
      (agree Γ (1 + p) a F.3) (agree Γ (1 + p + size a) b F.4) (flag_type i F.1 F.2)
