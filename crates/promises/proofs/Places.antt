-- Typing refuses with a question of its own, at a record of the script.
use Rattle.std.proofs.Common.{◌≡◌, refl, sym, ap, ◌∙◌, Bool, true, false, cond, List, ◌∷◌, ℕ, ◌+◌, ◌≤◌, ◌<◌, arith}
use Rattle.std.proofs.Common.{IsTrue}
use Rattle.std.proofs.Math.Option.{none, some, Option}
use Rattle.calculus.specs.Security.{Property, Reader, Security}
use Rattle.calculus.specs.Types.{Former, sum, product, function, Ty, node, top, raise_t, fits}
use Rattle.calculus.specs.Subtyping.{subtype, below}
use Rattle.calculus.specs.Terms.{Side, choose, Term, lam, pair, inj, app, proj, case, protect, mu, reckon}
use Rattle.calculus.specs.Numbers.{of_both}
use Rattle.calculus.specs.Common.{nearest_type}
use Rattle.calculus.specs.Typing.{finds_own}
use Rattle.rules.specs.Answer.{Answer, accepted, refused, ◌>>=◌, ◌>>◌, ask}
use Rattle.rules.specs.Script.{size}
use Rattle.rules.specs.Typing.{has_form, is_number, left, right, q20, q20_number, q21, q22, q23, q24, found_or}
use Rattle.rules.specs.Typing.{number_result, of_typing, typing}

-- an answer whose refusals are typing's, at a record before `end`
pub data Placed {A : Type 0} (end : ℕ) : Answer A → Type 0 where
  placed_yes : {a : A} → Placed end (accepted a)
  placed_no : {q place : ℕ} → IsTrue (of_typing q) → place < end → Placed end (refused q place)

bind : {A B : Type 0} {end : ℕ} (m : Answer A) (f : A → Answer B) → Placed end m → ((a : A) → Placed end (f a)) → Placed end (◌>>=◌ m f)
bind m f placed_yes k = k _
bind m f (placed_no x l) k = placed_no x l

asked : {end : ℕ} (q p : ℕ) (b : Bool) → IsTrue (of_typing q) → p < end → Placed end (ask q p b)
asked q p true x l = placed_yes
asked q p false x l = placed_no x l

then : {B : Type 0} {end : ℕ} (a : Answer (Unit {0})) (n : Answer B) → Placed end a → Placed end n → Placed end (◌>>◌ a n)
then a n placed_yes P = P
then a n (placed_no x l) P = placed_no x l

-- the rules, over what their operands answer
module _ (S : Security) (end p : ℕ) (l : p < end) where
  at_20 : (f : Former) (s : Ty) → Placed end (q20 p f s)
  at_20 f s = asked 20 p (has_form f s) refl l

  at_21 : (s : Ty) (w : Reader) → Placed end (q21 S p s w)
  at_21 s w = asked 21 p (S.permits (top s) w) refl l

  at_22 : (s t : Ty) → Placed end (q22 S p s t)
  at_22 s t = asked 22 p (subtype S below s t) refl l

  at_23 : (s : Ty) (w : Reader) → Placed end (q23 S p s w)
  at_23 s w = asked 23 p (S.absorbs (top s) w (top (right s))) refl l

  at_24 : (s : Ty) → Placed end (q24 p s)
  at_24 s = asked 24 p (fits s) refl l

  lam_placed : (k : Property) (a : Ty) (m : Answer Ty) → Placed end m
      → Placed end (◌>>=◌ m (λ s. ◌>>◌ (q24 p (node function k a s)) (accepted (node function k a s))))
  lam_placed k a m P = bind m _ P (λ s. then (q24 p (node function k a s)) _ (at_24 (node function k a s)) placed_yes)

  pair_placed : (k : Property) (m m' : Answer Ty) → Placed end m → Placed end m'
      → Placed end (◌>>=◌ m (λ s. ◌>>=◌ m' (λ s'. ◌>>◌ (q24 p (node product k s s')) (accepted (node product k s s')))))
  pair_placed k m m' P P' = bind m _ P (λ s. bind m' _ P' (λ s'. then (q24 p (node product k s s')) _ (at_24 (node product k s s')) placed_yes))

  inj_placed : (d : Side) (k : Property) (a : Ty) (m : Answer Ty) → Placed end m
      → Placed end (◌>>=◌ m (λ s. ◌>>◌ (q22 S p s (choose d (left a) (right a))) (accepted (node sum k (left a) (right a)))))
  inj_placed d k a m P = bind m _ P (λ s. then (q22 S p s (choose d (left a) (right a))) _ (at_22 s (choose d (left a) (right a))) placed_yes)

  app_placed : (w : Reader) (m m' : Answer Ty) → Placed end m → Placed end m'
      → Placed end (◌>>=◌ m (λ s. ◌>>◌ (q20 p function s) (◌>>◌ (q21 S p s w)
      (◌>>=◌ m' (λ s'. ◌>>◌ (q22 S p s' (left s)) (accepted (raise_t S (right s) (S.influence (top s) w))))))))
  app_placed w m m' P P' =
      bind m _ P (λ s. then (q20 p function s) _ (at_20 function s) (then (q21 S p s w) _ (at_21 s w)
      (bind m' _ P' (λ s'. then (q22 S p s' (left s)) _ (at_22 s' (left s)) placed_yes))))

  proj_placed : (d : Side) (w : Reader) (m : Answer Ty) → Placed end m
      → Placed end (◌>>=◌ m (λ s. ◌>>◌ (q20 p product s) (◌>>◌ (q21 S p s w) (accepted (raise_t S (choose d (left s) (right s)) (S.influence (top s) w))))))
  proj_placed d w m P = bind m _ P (λ s. then (q20 p product s) _ (at_20 product s) (then (q21 S p s w) _ (at_21 s w) placed_yes))

  at_branch : (own : Bool) (s t : Ty) → Placed end (cond own (accepted tt) (q22 S p s t))
  at_branch true s t = placed_yes
  at_branch false s t = at_22 s t

  at_31 : (c : Option Ty) → Placed end (found_or p c)
  at_31 none = placed_no {q = 31} {place = p} refl l
  at_31 (some t) = placed_yes

  at_result : (own : Bool) (c : Option Ty) (a : Ty) → Placed end (cond own (found_or p c) (accepted a))
  at_result true c a = at_31 c
  at_result false c a = placed_yes

  case_placed : (w : Reader) (own : Bool) (a : Ty) (m : Answer Ty) (m' m'' : Ty → Answer Ty) → Placed end m → ((s : Ty) → Placed end (m' s)) → ((s : Ty) → Placed end (m'' s))
      → Placed end (◌>>=◌ m (λ s. ◌>>◌ (q20 p sum s) (◌>>◌ (q21 S p s w)
      (◌>>=◌ (m' (left s)) (λ u. ◌>>◌ (cond own (accepted tt) (q22 S p u a)) (◌>>=◌ (m'' (right s)) (λ v. ◌>>◌ (cond own (accepted tt) (q22 S p v a))
      (◌>>=◌ (cond own (found_or p (nearest_type S below u v)) (accepted a)) (λ r. accepted (raise_t S r (S.influence (top s) w)))))))))))
  case_placed w own a m m' m'' P P' P'' =
      bind m _ P (λ s. then (q20 p sum s) _ (at_20 sum s) (then (q21 S p s w) _ (at_21 s w)
      (bind (m' (left s)) _ (P' (left s)) (λ u. then (cond own (accepted tt) (q22 S p u a)) _ (at_branch own u a)
      (bind (m'' (right s)) _ (P'' (right s)) (λ v. then (cond own (accepted tt) (q22 S p v a)) _ (at_branch own v a)
      (bind (cond own (found_or p (nearest_type S below u v)) (accepted a)) _ (at_result own (nearest_type S below u v) a) (λ r. placed_yes))))))))

  mu_placed : (a : Ty) (w : Reader) (m : Answer Ty) → Placed end m
      → Placed end (◌>>◌ (q21 S p a w) (◌>>◌ (q23 S p a w) (◌>>=◌ m (λ s. ◌>>◌ (q22 S p s a) (accepted a)))))
  mu_placed a w m P = then (q21 S p a w) _ (at_21 a w) (then (q23 S p a w) _ (at_23 a w) (bind m _ P (λ s. then (q22 S p s a) _ (at_22 s a) placed_yes)))

  at_20_number : (s : Ty) → Placed end (q20_number p s)
  at_20_number s = asked 20 p (is_number s) refl l

  reckon_placed : (w : Reader) (f : Ty → Ty → Ty) (m m' : Answer Ty) → Placed end m → Placed end m'
      → Placed end (◌>>=◌ m (λ s. ◌>>◌ (q20_number p s) (◌>>◌ (q21 S p s w)
      (◌>>=◌ m' (λ t. ◌>>◌ (q20_number p t) (◌>>◌ (q21 S p t w) (accepted (f s t))))))))
  reckon_placed w f m m' P P' =
      bind m _ P (λ s. then (q20_number p s) _ (at_20_number s) (then (q21 S p s w) _ (at_21 s w)
      (bind m' _ P' (λ t. then (q20_number p t) _ (at_20_number t) (then (q21 S p t w) _ (at_21 t w) placed_yes)))))

pub typing_placed : (S : Security) (tab : ℕ → Ty) (end : ℕ) (Γ : List Ty) (p : ℕ) (e : Term) → p + size e ≤ end → Placed end (typing S tab Γ p e)
unfolding typing size
typing_placed S tab end Γ p (lam k i e) l = lam_placed S end p (omega arith) k (tab i) (typing S tab (tab i ∷ Γ) (1 + p) e) (typing_placed S tab end (tab i ∷ Γ) (1 + p) e (omega arith))
typing_placed S tab end Γ p (pair k a b) l =
    pair_placed S end p (omega arith) k (typing S tab Γ (1 + p) a) (typing S tab Γ (1 + p + size a) b) (typing_placed S tab end Γ (1 + p) a (omega arith)) (typing_placed S tab end Γ (1 + p + size a) b (omega arith))
typing_placed S tab end Γ p (inj d k i e) l = inj_placed S end p (omega arith) d k (tab i) (typing S tab Γ (1 + p) e) (typing_placed S tab end Γ (1 + p) e (omega arith))
typing_placed S tab end Γ p (app w f a) l =
    app_placed S end p (omega arith) w (typing S tab Γ (1 + p) f) (typing S tab Γ (1 + p + size f) a) (typing_placed S tab end Γ (1 + p) f (omega arith)) (typing_placed S tab end Γ (1 + p + size f) a (omega arith))
typing_placed S tab end Γ p (proj d w e) l = proj_placed S end p (omega arith) d w (typing S tab Γ (1 + p) e) (typing_placed S tab end Γ (1 + p) e (omega arith))
typing_placed S tab end Γ p (case w i e a b) l =
    case_placed S end p (omega arith) w (finds_own i) (tab i) (typing S tab Γ (1 + p) e) (λ s. typing S tab (s ∷ Γ) (1 + p + size e) a) (λ s. typing S tab (s ∷ Γ) (1 + p + size e + size a) b)
    (typing_placed S tab end Γ (1 + p) e (omega arith)) (λ s. typing_placed S tab end (s ∷ Γ) (1 + p + size e) a (omega arith))
    (λ s. typing_placed S tab end (s ∷ Γ) (1 + p + size e + size a) b (omega arith))
typing_placed S tab end Γ p (protect m e) l = bind (typing S tab Γ (1 + p) e) _ (typing_placed S tab end Γ (1 + p) e (omega arith)) (λ s. placed_yes)
typing_placed S tab end Γ p (mu w i e) l = mu_placed S end p (omega arith) (tab i) _ (typing S tab (tab i ∷ Γ) (1 + p) e) (typing_placed S tab end (tab i ∷ Γ) (1 + p) e (omega arith))
typing_placed S tab end Γ p (reckon o w a b) l =
    reckon_placed S end p (omega arith) w (λ s t. number_result tab o (of_both S w (top s) (top t))) (typing S tab Γ (1 + p) a) (typing S tab Γ (1 + p + size a) b)
    (typing_placed S tab end Γ (1 + p) a (omega arith)) (typing_placed S tab end Γ (1 + p + size a) b (omega arith))
typing_placed S tab end Γ p _ l = placed_yes

refused_number : {A : Type 0} {q q' p p' : ℕ} → ◌≡◌ {A = Answer A} (refused q p) (refused q' p') → q ≡ q'
refused_number e = cc

refused_place : {A : Type 0} {q q' p p' : ℕ} → ◌≡◌ {A = Answer A} (refused q p) (refused q' p') → p ≡ p'
refused_place e = cc

pub placed_refusal : {A : Type 0} {end q place : ℕ} (m : Answer A) → Placed end m → m ≡ refused q place → (of_typing q ≡ true) × (place < end)
placed_refusal m placed_yes e = let x : ◌≡◌ {A = ℕ} 0 1 = cc in absurd (omega arith)
placed_refusal {q = q} {place = place} m (placed_no {q = q'} {place = place'} x l) e =
    let y : place' ≡ place = refused_place e in
    (ap of_typing (sym (refused_number e)) ∙ x, omega arith)
