-- Terms that differ only in what an observer may not see. `seen` says of which properties it sees the objects.
use Rattle.std.proofs.Common.{◌≡◌, refl, ap, Bool, not, List, [], ◌∷◌, ◌++◌, ℕ, arith, length, IsTrue}
use Rattle.std.proofs.Math.Option.{some}
use Rattle.calculus.specs.Security.{Property, Reader, Indirect, Security}
use Rattle.calculus.specs.Types.{one, number, sum, product, function, Ty, leaf, node, top, raise_t, secure_t, fits}
use Rattle.calculus.specs.Subtyping.{Subtype}
use Rattle.calculus.specs.Terms.{Side, choose, Operation, Term, var, unit, lam, pair, inj, app, proj, case, protect, mu}
use Rattle.calculus.specs.Terms.{literal, reckon, substitute}
use Rattle.calculus.specs.Numbers.{of_both, Reckons}
use Rattle.calculus.specs.Typing.{lookup, TypeOfCase, HasType, t_sub, t_var, t_unit, t_lam, t_pair, t_inj, t_app}
use Rattle.calculus.specs.Typing.{t_proj, t_case, t_protect, t_mu, t_literal, t_reckon}
use Rattle.calculus.proofs.Weakening.{lookup_longer, weakening}
use Rattle.calculus.proofs.Substitution.{outermost_or, subst_nothing}

-- The typing rules for two terms at once, and one rule more: closed terms of one type that is not seen.
pub data Related (S : Security) (tab : ℕ → Ty) (seen : Property → Bool) : List Ty → Term → Term → Ty → Type 0 where
  q_hidden : {Γ : List Ty} {e e' : Term} {t : Ty} → HasType S tab [] e t → HasType S tab [] e' t → IsTrue (not (seen (top t)))
      → Related S tab seen Γ e e' t
  q_sub : {Γ : List Ty} {e e' : Term} {s t : Ty} → Related S tab seen Γ e e' s → Subtype S s t → IsTrue (secure_t S t) → Related S tab seen Γ e e' t
  q_var : {Γ : List Ty} {n : ℕ} {t : Ty} → lookup Γ n ≡ some t → Related S tab seen Γ (var n) (var n) t
  q_unit : {Γ : List Ty} {k : Property} → IsTrue (S.secure k) → Related S tab seen Γ (unit k) (unit k) (leaf one k)
  q_lam : {Γ : List Ty} {k : Property} {i : ℕ} {e e' : Term} {t : Ty} → IsTrue (S.secure k) → Related S tab seen (tab i ∷ Γ) e e' t
      → IsTrue (fits (node function k (tab i) t)) → Related S tab seen Γ (lam k i e) (lam k i e') (node function k (tab i) t)
  q_pair : {Γ : List Ty} {k : Property} {a b a' b' : Term} {s t : Ty} → IsTrue (S.secure k) → Related S tab seen Γ a a' s → Related S tab seen Γ b b' t
      → IsTrue (fits (node product k s t)) → Related S tab seen Γ (pair k a b) (pair k a' b') (node product k s t)
  q_inj : {Γ : List Ty} {d : Side} {k l : Property} {i : ℕ} {e e' : Term} {s t : Ty} → IsTrue (S.secure k) → tab i ≡ node sum l s t
      → Related S tab seen Γ e e' (choose d s t) → Related S tab seen Γ (inj d k i e) (inj d k i e') (node sum k s t)
  q_app : {Γ : List Ty} {k : Property} {w : Reader} {f a f' a' : Term} {s t : Ty} → Related S tab seen Γ f f' (node function k s t)
      → Related S tab seen Γ a a' s → IsTrue (S.permits k w) → Related S tab seen Γ (app w f a) (app w f' a') (raise_t S t (S.influence k w))
  q_proj : {Γ : List Ty} {d : Side} {k : Property} {w : Reader} {e e' : Term} {s t : Ty} → Related S tab seen Γ e e' (node product k s t)
      → IsTrue (S.permits k w) → Related S tab seen Γ (proj d w e) (proj d w e') (raise_t S (choose d s t) (S.influence k w))
  q_case : {Γ : List Ty} {k : Property} {w : Reader} {i : ℕ} {e a b e' a' b' : Term} {s t u : Ty} → Related S tab seen Γ e e' (node sum k s t)
      → IsTrue (S.permits k w) → TypeOfCase tab i u → Related S tab seen (s ∷ Γ) a a' u → Related S tab seen (t ∷ Γ) b b' u
      → Related S tab seen Γ (case w i e a b) (case w i e' a' b') (raise_t S u (S.influence k w))
  q_protect : {Γ : List Ty} {m : Indirect} {e e' : Term} {t : Ty} → IsTrue (S.secure_i m) → Related S tab seen Γ e e' t
      → Related S tab seen Γ (protect m e) (protect m e') (raise_t S t m)
  q_mu : {Γ : List Ty} {w : Reader} {i : ℕ} {e e' : Term} {k : Property} {s t : Ty} → tab i ≡ node function k s t → IsTrue (S.permits k (S.caller k w))
      → IsTrue (S.absorbs k (S.caller k w) (top t)) → Related S tab seen (tab i ∷ Γ) e e' (tab i) → Related S tab seen Γ (mu w i e) (mu w i e') (tab i)
  q_literal : {Γ : List Ty} {k : Property} {n : ℕ} → IsTrue (S.secure k) → Related S tab seen Γ (literal k n) (literal k n) (leaf number k)
  q_reckon : {Γ : List Ty} {o : Operation} {w : Reader} {a b a' b' : Term} {k l : Property} {t : Ty} → Related S tab seen Γ a a' (leaf number k)
      → IsTrue (S.permits k w) → Related S tab seen Γ b b' (leaf number l) → IsTrue (S.permits l w) → Reckons tab o (of_both S w k l) t
      → Related S tab seen Γ (reckon o w a b) (reckon o w a' b') t

module _ {S : Security} {tab : ℕ → Ty} {seen : Property → Bool} where
  -- each of the two has the type
  pub left_typed : {Γ : List Ty} {e e' : Term} {t : Ty} → Related S tab seen Γ e e' t → HasType S tab Γ e t
  left_typed (q_hidden {Γ = Γ} p q h) = weakening Γ p
  left_typed (q_sub p b h) = t_sub (left_typed p) b h
  left_typed (q_var h) = t_var h
  left_typed (q_unit h) = t_unit h
  left_typed (q_lam h p f) = t_lam h (left_typed p) f
  left_typed (q_pair h p q f) = t_pair h (left_typed p) (left_typed q) f
  left_typed (q_inj h e p) = t_inj h e (left_typed p)
  left_typed (q_app p q m) = t_app (left_typed p) (left_typed q) m
  left_typed (q_proj p m) = t_proj (left_typed p) m
  left_typed (q_case p m r q q') = t_case (left_typed p) m r (left_typed q) (left_typed q')
  left_typed (q_protect h p) = t_protect h (left_typed p)
  left_typed (q_mu e m h p) = t_mu e m h (left_typed p)
  left_typed (q_literal h) = t_literal h
  left_typed (q_reckon p m q n x) = t_reckon (left_typed p) m (left_typed q) n x

  -- the two are of equal standing
  pub related_turned : {Γ : List Ty} {e e' : Term} {t : Ty} → Related S tab seen Γ e e' t → Related S tab seen Γ e' e t
  related_turned (q_hidden p q h) = q_hidden q p h
  related_turned (q_sub p b h) = q_sub (related_turned p) b h
  related_turned (q_var h) = q_var h
  related_turned (q_unit h) = q_unit h
  related_turned (q_lam h p f) = q_lam h (related_turned p) f
  related_turned (q_pair h p q f) = q_pair h (related_turned p) (related_turned q) f
  related_turned (q_inj h e p) = q_inj h e (related_turned p)
  related_turned (q_app p q m) = q_app (related_turned p) (related_turned q) m
  related_turned (q_proj p m) = q_proj (related_turned p) m
  related_turned (q_case p m r q q') = q_case (related_turned p) m r (related_turned q) (related_turned q')
  related_turned (q_protect h p) = q_protect h (related_turned p)
  related_turned (q_mu e m h p) = q_mu e m h (related_turned p)
  related_turned (q_literal h) = q_literal h
  related_turned (q_reckon p m q n x) = q_reckon (related_turned p) m (related_turned q) n x

  pub right_typed : {Γ : List Ty} {e e' : Term} {t : Ty} → Related S tab seen Γ e e' t → HasType S tab Γ e' t
  right_typed p = left_typed (related_turned p)

  pub related_itself : {Γ : List Ty} {e : Term} {t : Ty} → HasType S tab Γ e t → Related S tab seen Γ e e t
  related_itself (t_sub p b h) = q_sub (related_itself p) b h
  related_itself (t_var h) = q_var h
  related_itself (t_unit h) = q_unit h
  related_itself (t_lam h p f) = q_lam h (related_itself p) f
  related_itself (t_pair h p q f) = q_pair h (related_itself p) (related_itself q) f
  related_itself (t_inj h e p) = q_inj h e (related_itself p)
  related_itself (t_app p q m) = q_app (related_itself p) (related_itself q) m
  related_itself (t_proj p m) = q_proj (related_itself p) m
  related_itself (t_case p m r q q') = q_case (related_itself p) m r (related_itself q) (related_itself q')
  related_itself (t_protect h p) = q_protect h (related_itself p)
  related_itself (t_mu e m h p) = q_mu e m h (related_itself p)
  related_itself (t_literal h) = q_literal h
  related_itself (t_reckon p m q n x) = q_reckon (related_itself p) m (related_itself q) n x

  pub related_weakening : {Γ : List Ty} {e e' : Term} {t : Ty} (Δ : List Ty) → Related S tab seen Γ e e' t → Related S tab seen (Γ ++ Δ) e e' t
  related_weakening Δ (q_hidden p q h) = q_hidden p q h
  related_weakening Δ (q_sub p b h) = q_sub (related_weakening Δ p) b h
  related_weakening Δ (q_var {Γ = Γ} {n = n} h) = q_var (lookup_longer Γ Δ n h)
  related_weakening Δ (q_unit h) = q_unit h
  related_weakening Δ (q_lam h p f) = q_lam h (related_weakening Δ p) f
  related_weakening Δ (q_pair h p q f) = q_pair h (related_weakening Δ p) (related_weakening Δ q) f
  related_weakening Δ (q_inj h e p) = q_inj h e (related_weakening Δ p)
  related_weakening Δ (q_app p q m) = q_app (related_weakening Δ p) (related_weakening Δ q) m
  related_weakening Δ (q_proj p m) = q_proj (related_weakening Δ p) m
  related_weakening Δ (q_case p m r q q') = q_case (related_weakening Δ p) m r (related_weakening Δ q) (related_weakening Δ q')
  related_weakening Δ (q_protect h p) = q_protect h (related_weakening Δ p)
  related_weakening Δ (q_mu e m h p) = q_mu e m h (related_weakening Δ p)
  related_weakening Δ (q_literal h) = q_literal h
  related_weakening Δ (q_reckon p m q n x) = q_reckon (related_weakening Δ p) m (related_weakening Δ q) n x

  related_var : {v v' : Term} {s : Ty} → Related S tab seen [] v v' s → (Δ : List Ty) (n : ℕ) {t : Ty} → lookup (Δ ++ (s ∷ [])) n ≡ some t
      → Related S tab seen Δ (substitute (length Δ) v (var n)) (substitute (length Δ) v' (var n)) t
  unfolding substitute
  related_var r Δ n h = outermost_or Δ n h (λ e q. rw e (rw q at (related_weakening Δ r))) (λ e q. rw e (q_var q))

  -- in a context that equals Δ and s
  related_substitution_in : {v v' : Term} {s : Ty} → Related S tab seen [] v v' s → (Δ : List Ty) {Θ : List Ty} {e e' : Term} {t : Ty}
      → Related S tab seen Θ e e' t → Θ ≡ Δ ++ (s ∷ []) → Related S tab seen Δ (substitute (length Δ) v e) (substitute (length Δ) v' e') t
  unfolding substitute
  related_substitution_in {v} {v'} r Δ (q_hidden p q h) E =
      rw (subst_nothing (length Δ) v p (omega arith), subst_nothing (length Δ) v' q (omega arith)) (q_hidden p q h)
  related_substitution_in r Δ (q_sub p b h) E = q_sub (related_substitution_in r Δ p E) b h
  related_substitution_in {s = s} r Δ (q_var {n = n} {t = t} h) E = let g : lookup (Δ ++ (s ∷ [])) n ≡ some t = rw E at h in related_var r Δ n g
  related_substitution_in r Δ (q_unit h) E = q_unit h
  related_substitution_in r Δ (q_lam {i = i} h p f) E = q_lam h (related_substitution_in r (tab i ∷ Δ) p (ap (λ Γ. tab i ∷ Γ) E)) f
  related_substitution_in r Δ (q_pair h p q f) E = q_pair h (related_substitution_in r Δ p E) (related_substitution_in r Δ q E) f
  related_substitution_in r Δ (q_inj h e p) E = q_inj h e (related_substitution_in r Δ p E)
  related_substitution_in r Δ (q_app p q m) E = q_app (related_substitution_in r Δ p E) (related_substitution_in r Δ q E) m
  related_substitution_in r Δ (q_proj p m) E = q_proj (related_substitution_in r Δ p E) m
  related_substitution_in r Δ (q_case {s = a} {t = b} p m z q q') E =
      q_case (related_substitution_in r Δ p E) m z
      (related_substitution_in r (a ∷ Δ) q (ap (λ Γ. a ∷ Γ) E)) (related_substitution_in r (b ∷ Δ) q' (ap (λ Γ. b ∷ Γ) E))
  related_substitution_in r Δ (q_protect h p) E = q_protect h (related_substitution_in r Δ p E)
  related_substitution_in r Δ (q_mu {i = i} e m h p) E = q_mu e m h (related_substitution_in r (tab i ∷ Δ) p (ap (λ Γ. tab i ∷ Γ) E))
  related_substitution_in r Δ (q_literal h) E = q_literal h
  related_substitution_in r Δ (q_reckon p m q n x) E =
      q_reckon (related_substitution_in r Δ p E) m (related_substitution_in r Δ q E) n x

  pub related_substitution : {v v' : Term} {s : Ty} → Related S tab seen [] v v' s → (Δ : List Ty) {e e' : Term} {t : Ty}
      → Related S tab seen (Δ ++ (s ∷ [])) e e' t → Related S tab seen Δ (substitute (length Δ) v e) (substitute (length Δ) v' e') t
  related_substitution r Δ p = related_substitution_in r Δ p refl
