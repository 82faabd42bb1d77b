-- A relabelled term is typed and run as it was where the rules agree, numbers and places of refusals and the limits of
-- a run included.
use Rattle.std.proofs.Common.{◌≡◌, refl, sym, ap, ap₂, ◌∙◌, Bool, true, false, cond, List, [], ◌∷◌, map, ℕ, suc, zero}
use Rattle.std.proofs.Common.{◌+◌, get_or, arith}
use Rattle.std.proofs.Math.Option.{none, some, Option}
use Rattle.calculus.specs.Security.{Property, Reader, Security}
use Rattle.calculus.specs.Types.{one, Former, sum, product, function, Ty, leaf, node, top, raise_t}
use Rattle.calculus.specs.Subtyping.{below}
use Rattle.calculus.specs.Common.{nearest_type}
use Rattle.calculus.specs.Typing.{finds_own}
use Rattle.calculus.specs.Terms.{Side, first, second, choose, Operation, Term, var, unit, lam, pair, inj, app, proj}
use Rattle.calculus.specs.Terms.{case, protect, mu, literal, reckon}
use Rattle.calculus.specs.Numbers.{of_both}
use Rattle.calculus.specs.Reduction.{Outcome, value, moved, denied, stuck, step}
use Rattle.calculus.specs.Relabelling.{Labels, relabel_t, relabel}
use Rattle.calculus.proofs.RelabelledTerms.{relabel_top, relabel_value}
use Rattle.calculus.proofs.RelabelledTypes.{Agrees, relabel_size_t, relabel_found, relabel_subtype, relabel_raise_t}
use Rattle.calculus.proofs.RelabelledTypes.{relabel_common, agreed_step}
use Rattle.calculus.proofs.RelabelledOutcomes.{relabel_o}
use Rattle.rules.specs.Answer.{Answer, accepted, refused, ◌>>=◌, ◌>>◌, ask}
use Rattle.rules.specs.Types.{no_type}
use Rattle.rules.specs.Script.{size}
use Rattle.rules.specs.Typing.{has_form, is_number, left, right, q20, q20_number, q21, q22, q23, q24, q22_of_branch}
use Rattle.rules.specs.Typing.{found_or, branch_type, number_result, typing}
use Rattle.rules.specs.Step.{End, at_value, moves, may_not, wrong_kind, too_big, exceeds, end_of_outcome, step_in}
use Rattle.rules.specs.Run.{Ran, one_step_more, run}
use Rattle.promises.proofs.RelabelledBytes.{relabel_size, relabel_depth}

-- the relabelled type, or the same question and place
abbrev pub relabel_a : Labels → Answer Ty → Answer Ty
relabel_a R (accepted t) = accepted (relabel_t R t)
relabel_a R (refused q p) = refused q p

abbrev pub relabel_end : Labels → End → End
relabel_end R at_value = at_value
relabel_end R (moves e) = moves (relabel R e)
relabel_end R may_not = may_not
relabel_end R wrong_kind = wrong_kind
relabel_end R too_big = too_big

abbrev pub relabel_ran : Labels → Ran → Ran
relabel_ran R x = record { end = x.end; steps = x.steps; last = relabel R x.last }

-- a type that is found, and what is then answered
after_type : (R : Labels) (x y : Answer Ty) (f f' : Ty → Answer Ty) → y ≡ relabel_a R x → ((t : Ty) → f' (relabel_t R t) ≡ relabel_a R (f t))
    → ◌>>=◌ y f' ≡ relabel_a R (◌>>=◌ x f)
after_type R x y f f' e h = grind arith

-- a question with the same answer, and what is then answered
after_question : (R : Labels) (a b : Answer (Unit {0})) (x y : Answer Ty) → b ≡ a → y ≡ relabel_a R x → ◌>>◌ b y ≡ relabel_a R (◌>>◌ a x)
after_question R a b x y e h = grind arith

relabel_form : (R : Labels) (f : Former) (t : Ty) → has_form f (relabel_t R t) ≡ has_form f t
unfolding relabel_t
relabel_form R f t = grind arith

relabel_number : (R : Labels) (t : Ty) → is_number (relabel_t R t) ≡ is_number t
unfolding relabel_t
relabel_number R t = grind arith

module _ {R : Labels} {S S' : Security} {tab : ℕ → Ty} (agrees : Agrees R S S' tab) (fixed : (i : ℕ) → relabel_t R (tab i) ≡ tab i) where
  no_type_kept : relabel_t R no_type ≡ no_type
  unfolding relabel_t
  no_type_kept = ap (leaf one) agrees.nothing

  relabel_left : (t : Ty) → left (relabel_t R t) ≡ relabel_t R (left t)
  unfolding relabel_t
  relabel_left t = grind arith

  relabel_right : (t : Ty) → right (relabel_t R t) ≡ relabel_t R (right t)
  unfolding relabel_t
  relabel_right t = grind arith

  relabel_nearest : (Γ : List Ty) (n : ℕ) → get_or (map (relabel_t R) Γ) n no_type ≡ relabel_t R (get_or Γ n no_type)
  relabel_nearest [] n = sym no_type_kept
  relabel_nearest (t ∷ Γ) zero = refl
  relabel_nearest (t ∷ Γ) (suc n) = relabel_nearest Γ n

  same_20 : (p : ℕ) (f : Former) (s : Ty) → q20 p f (relabel_t R s) ≡ q20 p f s
  same_20 p f s = ap (ask 20 p) (relabel_form R f s)

  same_20_number : (p : ℕ) (s : Ty) → q20_number p (relabel_t R s) ≡ q20_number p s
  same_20_number p s = ap (ask 20 p) (relabel_number R s)

  same_21 : (p : ℕ) (s : Ty) (w : Reader) → q21 S' p (relabel_t R s) (R.reader w) ≡ q21 S p s w
  same_21 p s w = rw (relabel_top R s, agrees.permits (top s) w)

  same_22 : (p : ℕ) (s t : Ty) → q22 S' p (relabel_t R s) (relabel_t R t) ≡ q22 S p s t
  same_22 p s t = ap (ask 22 p) (relabel_subtype agrees below s t)

  same_23 : (p : ℕ) (s : Ty) (w : Reader) → q23 S' p (relabel_t R s) (R.reader w) ≡ q23 S p s w
  same_23 p s w = grind (arith, relabel_top, relabel_right)

  same_24 : (p : ℕ) (s : Ty) → q24 p (relabel_t R s) ≡ q24 p s
  same_24 p s = rw (relabel_size_t R s)

  -- the same of a type of the table, whose labels stay
  fixed_21 : (p i : ℕ) (w : Reader) → q21 S' p (tab i) (R.reader w) ≡ q21 S p (tab i) w
  fixed_21 p i w = ap (λ (t : Ty). q21 S' p t (R.reader w)) (sym (fixed i)) ∙ same_21 p (tab i) w

  fixed_22 : (p i : ℕ) (t : Ty) → q22 S' p (relabel_t R t) (tab i) ≡ q22 S p t (tab i)
  fixed_22 p i t = ap (q22 S' p (relabel_t R t)) (sym (fixed i)) ∙ same_22 p t (tab i)

  fixed_23 : (p i : ℕ) (w : Reader) → q23 S' p (tab i) (R.reader w) ≡ q23 S p (tab i) w
  fixed_23 p i w = ap (λ (t : Ty). q23 S' p t (R.reader w)) (sym (fixed i)) ∙ same_23 p (tab i) w

  same_branch : (p i : ℕ) (t : Ty) → q22_of_branch S' p tab i (relabel_t R t) ≡ q22_of_branch S p tab i t
  same_branch p i t = ap (λ (q : Answer (Unit {0})). cond (finds_own i) (accepted tt) q) (fixed_22 p i t)

  relabel_branches : (p i : ℕ) (t u : Ty) → branch_type S' p tab i (relabel_t R t) (relabel_t R u) ≡ relabel_a R (branch_type S p tab i t u)
  relabel_branches p i t u = rw (relabel_common agrees below t u) (go (finds_own i) (nearest_type S below t u))
    where
      go : (b : Bool) (o : Option Ty) → cond b (found_or p (relabel_found R o)) (accepted (tab i)) ≡ relabel_a R (cond b (found_or p o) (accepted (tab i)))
      go true none = refl
      go true (some s) = refl
      go false o = ap accepted (sym (fixed i))

  -- the type that a destructor labelled w gives of s, by a side t of it
  relabel_raised : (s t t' : Ty) (w : Reader) → t' ≡ relabel_t R t
      → raise_t S' t' (S'.influence (top (relabel_t R s)) (R.reader w)) ≡ relabel_t R (raise_t S t (S.influence (top s) w))
  relabel_raised s t t' w e =
      rw (e, relabel_top R s, ← agrees.influence (top s) w) (relabel_raise_t agrees t (S.influence (top s) w))

  relabel_called : (i : ℕ) (w : Reader) → S'.caller (top (tab i)) (R.recursion i w) ≡ R.reader (S.caller (top (tab i)) w)
  relabel_called i w = grind (arith, relabel_top)

  relabel_side : (d : Side) (s : Ty) → choose d (left (relabel_t R s)) (right (relabel_t R s)) ≡ relabel_t R (choose d (left s) (right s))
  relabel_side d s = grind (arith, relabel_left, relabel_right)

  fixed_side : (d : Side) (i : ℕ) → relabel_t R (choose d (left (tab i)) (right (tab i))) ≡ choose d (left (tab i)) (right (tab i))
  fixed_side d i = sym (relabel_side d (tab i)) ∙ ap (λ (t : Ty). choose d (left t) (right t)) (fixed i)

  relabel_both : (w : Reader) (s t : Ty)
      → of_both S' (R.reader w) (top (relabel_t R s)) (top (relabel_t R t)) ≡ R.property (of_both S w (top s) (top t))
  relabel_both w s t = rw (relabel_top R s, relabel_top R t) (sym (agrees.reckoning w (top s) (top t)))

  relabel_result : (o : Operation) (k k' : Property) → k' ≡ R.property k → number_result tab o k' ≡ relabel_t R (number_result tab o k)
  unfolding relabel_t
  relabel_result o k k' e = grind arith

  -- one more binder
  under : {s' : Ty} {x : Answer Ty} (s : Ty) (Γ : List Ty) (p : ℕ) (e : Term) → s' ≡ relabel_t R s
      → typing S' tab (map (relabel_t R) (s ∷ Γ)) p (relabel R e) ≡ x → typing S' tab (s' ∷ map (relabel_t R) Γ) p (relabel R e) ≡ x
  under s Γ p e h k = ap (λ (t : Ty). typing S' tab (t ∷ map (relabel_t R) Γ) p (relabel R e)) h ∙ k

  sized : (p : ℕ) (s s' : Ty) → s' ≡ relabel_t R s → ◌>>◌ (q24 p s') (accepted s') ≡ relabel_a R (◌>>◌ (q24 p s) (accepted s))
  sized p s s' e = grind (arith, after_question, same_24)

  pub relabel_typing : (Γ : List Ty) (p : ℕ) (e : Term) → typing S' tab (map (relabel_t R) Γ) p (relabel R e) ≡ relabel_a R (typing S tab Γ p e)
  unfolding typing relabel relabel_t
  relabel_typing Γ p (var n) = ap accepted (relabel_nearest Γ n)
  relabel_typing Γ p (unit k) = refl
  relabel_typing Γ p (lam k i e) =
      after_type R (typing S tab (tab i ∷ Γ) (1 + p) e) _ _ _
      (under (tab i) Γ (1 + p) e (sym (fixed i)) (relabel_typing (tab i ∷ Γ) (1 + p) e)) λ t.
      sized p (node function k (tab i) t) _ (ap (λ (s : Ty). node function (R.property k) s (relabel_t R t)) (sym (fixed i)))
  relabel_typing Γ p (pair k a b) =
      rw (relabel_size R a)
      (after_type R (typing S tab Γ (1 + p) a) _ _ _ (relabel_typing Γ (1 + p) a) λ s.
      after_type R (typing S tab Γ (1 + p + size a) b) _ _ _ (relabel_typing Γ (1 + p + size a) b) λ t.
      sized p (node product k s t) _ refl)
  relabel_typing Γ p (inj d k i e) =
      after_type R (typing S tab Γ (1 + p) e) _ _ _ (relabel_typing Γ (1 + p) e) λ t.
      let wanted = choose d (left (tab i)) (right (tab i)) in
      after_question R (q22 S p t wanted) _ (accepted (node sum k (left (tab i)) (right (tab i)))) _
      (ap (q22 S' p (relabel_t R t)) (sym (fixed_side d i)) ∙ same_22 p t wanted)
      (ap₂ (λ (a b : Ty). accepted (node sum (R.property k) a b)) (sym (fixed_side first i)) (sym (fixed_side second i)))
  relabel_typing Γ p (app w f a) =
      rw (relabel_size R f)
      (after_type R (typing S tab Γ (1 + p) f) _ _ _ (relabel_typing Γ (1 + p) f) λ s.
      after_question R (q20 p function s) _ _ _ (same_20 p function s)
      (after_question R (q21 S p s w) _ _ _ (same_21 p s w)
      (after_type R (typing S tab Γ (1 + p + size f) a) _ _ _ (relabel_typing Γ (1 + p + size f) a) λ t.
      after_question R (q22 S p t (left s)) _ (accepted (raise_t S (right s) (S.influence (top s) w))) _
      (ap (q22 S' p (relabel_t R t)) (relabel_left s) ∙ same_22 p t (left s))
      (ap accepted (relabel_raised s (right s) (right (relabel_t R s)) w (relabel_right s))))))
  relabel_typing Γ p (proj d w e) =
      after_type R (typing S tab Γ (1 + p) e) _ _ _ (relabel_typing Γ (1 + p) e) λ s.
      after_question R (q20 p product s) _ _ _ (same_20 p product s)
      (after_question R (q21 S p s w) _ (accepted (raise_t S (choose d (left s) (right s)) (S.influence (top s) w))) _ (same_21 p s w)
      (ap accepted (relabel_raised s (choose d (left s) (right s)) (choose d (left (relabel_t R s)) (right (relabel_t R s))) w (relabel_side d s))))
  relabel_typing Γ p (case w i e a b) =
      rw (relabel_size R e, relabel_size R a)
      (after_type R (typing S tab Γ (1 + p) e) _ _ _ (relabel_typing Γ (1 + p) e) λ s.
      after_question R (q20 p sum s) _ _ _ (same_20 p sum s)
      (after_question R (q21 S p s w) _ _ _ (same_21 p s w)
      (after_type R (typing S tab (left s ∷ Γ) (1 + p + size e) a) _ _ _
      (under (left s) Γ (1 + p + size e) a (relabel_left s) (relabel_typing (left s ∷ Γ) (1 + p + size e) a)) λ t.
      after_question R (q22_of_branch S p tab i t) _ _ _ (same_branch p i t)
      (after_type R (typing S tab (right s ∷ Γ) (1 + p + size e + size a) b) _ _ _
      (under (right s) Γ (1 + p + size e + size a) b (relabel_right s) (relabel_typing (right s ∷ Γ) (1 + p + size e + size a) b)) λ u.
      after_question R (q22_of_branch S p tab i u) _ _ _ (same_branch p i u)
      (after_type R (branch_type S p tab i t u) _ _ _ (relabel_branches p i t u) λ r.
      ap accepted (relabel_raised s r (relabel_t R r) w refl))))))
  relabel_typing Γ p (protect m e) =
      after_type R (typing S tab Γ (1 + p) e) _ _ _ (relabel_typing Γ (1 + p) e) λ t.
      ap accepted (relabel_raise_t agrees t m)
  relabel_typing Γ p (mu w i e) =
      rw (relabel_called i w)
      (after_question R (q21 S p (tab i) (S.caller (top (tab i)) w)) _ _ _ (fixed_21 p i (S.caller (top (tab i)) w))
      (after_question R (q23 S p (tab i) (S.caller (top (tab i)) w)) _ _ _ (fixed_23 p i (S.caller (top (tab i)) w))
      (after_type R (typing S tab (tab i ∷ Γ) (1 + p) e) _ _ _ (under (tab i) Γ (1 + p) e (sym (fixed i)) (relabel_typing (tab i ∷ Γ) (1 + p) e)) λ t.
      after_question R (q22 S p t (tab i)) _ (accepted (tab i)) _ (fixed_22 p i t) (ap accepted (sym (fixed i))))))
  relabel_typing Γ p (literal k n) = refl
  relabel_typing Γ p (reckon o w a b) =
      rw (relabel_size R a)
      (after_type R (typing S tab Γ (1 + p) a) _ _ _ (relabel_typing Γ (1 + p) a) λ s.
      after_question R (q20_number p s) _ _ _ (same_20_number p s)
      (after_question R (q21 S p s w) _ _ _ (same_21 p s w)
      (after_type R (typing S tab Γ (1 + p + size a) b) _ _ _ (relabel_typing Γ (1 + p + size a) b) λ t.
      after_question R (q20_number p t) _ _ _ (same_20_number p t)
      (after_question R (q21 S p t w) _ (accepted (number_result tab o (of_both S w (top s) (top t)))) _ (same_21 p t w)
      (ap accepted (relabel_result o (of_both S w (top s) (top t)) _ (relabel_both w s t)))))))

  relabel_exceeds : (room : ℕ) (e : Term) → exceeds room (relabel R e) ≡ exceeds room e
  unfolding exceeds
  relabel_exceeds room e = rw (relabel_size R e, relabel_depth R e)

  relabel_limited : (room : ℕ) (o : Outcome) → end_of_outcome room (relabel_o R o) ≡ relabel_end R (end_of_outcome room o)
  relabel_limited room o = grind (arith, relabel_exceeds, relabel_end)

  -- the same end, and the relabelled term where it moved
  pub relabel_step_in : (room : ℕ) (e : Term) → step_in S' tab room (relabel R e) ≡ relabel_end R (step_in S tab room e)
  unfolding step_in
  relabel_step_in room e = ap (end_of_outcome room) (agreed_step agrees tab (λ i. sym (fixed i)) e) ∙ relabel_limited room (step S tab e)

  -- the same end after as many steps, and the relabelled last term
  pub relabel_run : (room budget : ℕ) (e : Term) → run S' tab room budget (relabel R e) ≡ relabel_ran R (run S tab room budget e)
  unfolding run
  relabel_run room zero e = rw (relabel_value R e)
  relabel_run room (suc budget) e = go (step_in S tab room e) refl (λ e'. relabel_run room budget e')
    where
      same : (x : End) → step_in S tab room e ≡ x → step_in S' tab room (relabel R e) ≡ relabel_end R x
      same x h = relabel_step_in room e ∙ ap (relabel_end R) h

      go : (x : End) → step_in S tab room e ≡ x → ((e' : Term) → run S' tab room budget (relabel R e') ≡ relabel_ran R (run S tab room budget e'))
          → run S' tab room (suc budget) (relabel R e) ≡ relabel_ran R (run S tab room (suc budget) e)
      go at_value h ih = rw (same at_value h, h, run)
      go (moves e') h ih = rw (same (moves e') h, h, run) (ap one_step_more (ih e'))
      go may_not h ih = rw (same may_not h, h, run)
      go wrong_kind h ih = rw (same wrong_kind h, h, run)
      go too_big h ih = rw (same too_big h, h, run)
