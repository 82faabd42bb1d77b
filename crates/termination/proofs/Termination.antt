-- A typed closed term without a recursion comes to a value after some number of steps of the rules.
use Rattle.std.proofs.Common.{◌≡◌, List, [], ◌∷◌, ℕ, zero, arith, IsTrue}
use Rattle.std.proofs.Math.Bool.{false≢true}
use Rattle.std.proofs.Math.Option.{some}
use Rattle.calculus.specs.Security.{Security, Laws}
use Rattle.calculus.specs.Types.{Ty}
use Rattle.calculus.specs.Terms.{Term, is_value, substitute}
use Rattle.calculus.specs.Runs.{Runs}
use Rattle.calculus.specs.Typing.{HasType, t_sub, t_var, t_unit, t_lam, t_pair, t_inj, t_app, t_proj, t_case, t_protect}
use Rattle.calculus.specs.Typing.{t_mu, t_literal, t_reckon, Table, infer}
use Rattle.termination.specs.Profile.{recursion_free}
use Rattle.termination.specs.Termination.{Terminates}
use Rattle.calculus.proofs.Booleans.{and_left, and_right}
use Rattle.calculus.proofs.Directed.{subtype_directed}
use Rattle.calculus.proofs.SecureTyping.{SecureContext, sc_empty, sc_extend, secure_parts, typed_secure}
use Rattle.calculus.proofs.Soundness.{infer_sound}
use Rattle.termination.proofs.Reaching.{reaches_runs}
use Rattle.termination.proofs.Closing.{close, close_unit, close_lam, close_pair, close_inj, close_app, close_proj}
use Rattle.termination.proofs.Closing.{close_case, close_protect, close_literal, close_reckon, Values, v_empty}
use Rattle.termination.proofs.Closing.{v_extend, values_map, close_typed, close_var}
use Rattle.termination.proofs.Ending.{EndsAt, ArgumentAt, value_ends, protect_ends, pair_ends, inj_ends, app_ends}
use Rattle.termination.proofs.Ending.{proj_ends, case_ends, lam_ends, unit_ends, literal_ends, reckon_ends}
use Rattle.termination.proofs.Reducibility.{ends_map, reducible_above}

module _ {S : Security} {tab : ℕ → Ty} (L : Laws S) (T : Table S tab) where
  -- a closed instance of a typed term has its type
  closed : {Γ : List Ty} {γ : List Term} {e : Term} {t : Ty} → Values (ArgumentAt L T) Γ γ → HasType S tab Γ e t → HasType S tab [] (close zero γ e) t
  closed Vs h = close_typed [] (values_map (λ t v x. x.typed) Vs) h

  -- an instance of a body, with its own variable's value first
  opened : (γ : List Term) (e : Term) (t : Ty) (v : Term) → EndsAt L T t (close zero (v ∷ γ) e) → EndsAt L T t (substitute zero v (close 1 γ e))
  unfolding close
  opened γ e t v x = x

  -- Every closed instance of a typed term without recursion ends in a reducible value.
  instance_ends : {Γ : List Ty} {γ : List Term} {e : Term} {t : Ty} → SecureContext S Γ → HasType S tab Γ e t → IsTrue (recursion_free e)
      → Values (ArgumentAt L T) Γ γ → EndsAt L T t (close zero γ e)
  unfolding recursion_free
  instance_ends C (t_sub p b h) r Vs = ends_map (reducible_above tab (subtype_directed L b) (typed_secure L T C p) h) (instance_ends C p r Vs)
  instance_ends C (t_var {n = n} {s = s} h) r Vs =
      let x = close_var (λ t v y. y.typed) zero n n Vs h (omega arith) in value_ends L T s _ x.stands x.holds
  instance_ends {γ = γ} C (t_unit {k = k} h) r Vs = rw (close_unit zero γ k) (unit_ends L T k)
  instance_ends {γ = γ} C (t_lam {k = k} {i = i} {e = e} {t = t} h p f) r Vs =
      rw (close_lam zero γ k i e)
      (lam_ends L T k i t (close 1 γ e) λ v x. opened γ e t v (instance_ends (sc_extend (T.secure i) C) p r (v_extend x Vs)))
  instance_ends {γ = γ} C (t_pair {k = k} {a = a} {b = b} {s = s} {t = t} h p q f) r Vs =
      rw (close_pair zero γ k a b)
      (pair_ends L T k s t _ _ (instance_ends C p (and_left _ _ r) Vs) (instance_ends C q (and_right (recursion_free a) _ r) Vs))
  instance_ends {γ = γ} C (t_inj {d = d} {k = k} {i = i} {e = e} {s = s} {t = t} h g p) r Vs =
      rw (close_inj zero γ d k i e) (inj_ends L T d k i s t _ (instance_ends C p r Vs))
  instance_ends {γ = γ} C (t_app {k = k} {w = w} {f = f} {a = a} {s = s} {t = t} p q m) r Vs =
      rw (close_app zero γ w f a)
      (app_ends L T k w s t _ _ m (closed Vs p) (closed Vs q)
      (instance_ends C p (and_left _ _ r) Vs) (instance_ends C q (and_right (recursion_free f) _ r) Vs))
  instance_ends {γ = γ} C (t_proj {d = d} {k = k} {w = w} {e = e} {s = s} {t = t} p m) r Vs =
      rw (close_proj zero γ d w e) (proj_ends L T d k w s t _ m (closed Vs p) (instance_ends C p r Vs))
  instance_ends {γ = γ} C (t_case {k = k} {w = w} {i = i} {e = e} {a = a} {b = b} {s = s} {t = t} {u = u} p m z q q') r Vs =
      let x = secure_parts S _ _ _ _ (typed_secure L T C p) in
      let r' = and_right (recursion_free e) _ r in
      rw (close_case zero γ w i e a b)
      (case_ends L T k w i s t u _ _ _ (rw (close_case zero γ w i e a b) at (closed Vs (t_case p m z q q'))) (closed Vs p)
      (instance_ends C p (and_left _ _ r) Vs)
      (λ v y. opened γ a u v (instance_ends (sc_extend x.left C) q (and_left _ _ r') (v_extend y Vs)))
      (λ v y. opened γ b u v (instance_ends (sc_extend x.right C) q' (and_right (recursion_free a) _ r') (v_extend y Vs))))
  instance_ends {γ = γ} C (t_protect {m = m} {e = e} {t = t} h p) r Vs =
      rw (close_protect zero γ m e) (protect_ends L T t m m (close zero γ e) (instance_ends C p r Vs))
  instance_ends C (t_mu e m h p) r Vs = absurd (false≢true r)
  instance_ends {γ = γ} C (t_literal {k = k} {n = n} h) r Vs = rw (close_literal zero γ k n) (literal_ends L T k n)
  instance_ends {γ = γ} C (t_reckon {o = o} {w = w} {a = a} {b = b} {k = k} {l = l} {t = t} p m q n x) r Vs =
      rw (close_reckon zero γ o w a b)
      (reckon_ends L T o w k l t _ _ m n x (closed Vs p) (closed Vs q)
      (instance_ends C p (and_left _ _ r) Vs) (instance_ends C q (and_right (recursion_free a) _ r) Vs))

  pub termination : (e : Term) (t : Ty) → HasType S tab [] e t → IsTrue (recursion_free e) → (n : ℕ) × (v : Term) × Runs S tab n e v × IsTrue (is_value v)
  unfolding close
  termination e t h r =
      let x = instance_ends sc_empty h r v_empty in
      let y = reaches_runs x.reaches in
      (y.0, x.value, y.1, x.stands)

  pub infer_termination : (e : Term) (t : Ty) → infer S tab [] e ≡ some t → IsTrue (recursion_free e)
      → (n : ℕ) × (v : Term) × Runs S tab n e v × IsTrue (is_value v)
  infer_termination e t h r = termination e t (infer_sound L T e t sc_empty h) r

pub terminates : Terminates
unfolding Terminates
terminates S tab L T e t h r = termination L T e t h r
