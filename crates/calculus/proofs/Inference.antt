-- The function `infer` finds what the derivations without [Sub] give, and nothing else.
use Rattle.std.proofs.Common.{◌≡◌, ◌&&◌, List, ◌∷◌, ℕ}
use Rattle.std.proofs.Math.Option.{some}
use Rattle.calculus.specs.Security.{Security}
use Rattle.calculus.specs.Types.{sum, product, function, Ty, node, fits, parts}
use Rattle.calculus.specs.Subtyping.{below, subtype}
use Rattle.calculus.specs.Terms.{choose, Term, var, unit, lam, pair, inj, app, proj, case, protect, mu, literal, reckon}
use Rattle.calculus.specs.Numbers.{of_both, reckon_type, number_property}
use Rattle.calculus.specs.Typing.{type_of_case, recurs, infer}
use Rattle.calculus.proofs.Booleans.{both, and_left, and_right}
use Rattle.calculus.proofs.Directed.{directed_test, test_directed}
use Rattle.calculus.proofs.Numbers.{number_some, reckons_type, type_reckons}
use Rattle.calculus.proofs.Answers.{when_holds, bind_some, when_some, parts_some}
use Rattle.calculus.proofs.Inferred.{Inferred, i_var, i_unit, i_lam, i_pair, i_inj, i_app, i_proj, i_case, i_protect}
use Rattle.calculus.proofs.Inferred.{i_mu, i_literal, i_reckon}

pub inferred_infer : {S : Security} {tab : ℕ → Ty} {Γ : List Ty} {e : Term} {t : Ty} → Inferred S tab Γ e t → infer S tab Γ e ≡ some t
unfolding infer
inferred_infer (i_var h) = h
inferred_infer (i_unit h) = when_holds _ h
inferred_infer (i_lam h p f) = rw (inferred_infer p) (when_holds _ (both h f))
inferred_infer (i_pair h p q f) = rw (inferred_infer p, inferred_infer q) (when_holds _ (both h f))
inferred_infer (i_inj h e p s) = rw (inferred_infer p, e) (when_holds _ (both h (directed_test s)))
inferred_infer (i_app p q s m) = rw (inferred_infer p, inferred_infer q) (when_holds _ (both m (directed_test s)))
inferred_infer (i_proj p m) = rw (inferred_infer p) (when_holds _ m)
inferred_infer (i_case p m q q' x) = rw (inferred_infer p, inferred_infer q, inferred_infer q', x) (when_holds _ m)
inferred_infer (i_protect h p) = rw (inferred_infer p) (when_holds _ h)
inferred_infer (i_mu e m h p s) = rw (inferred_infer p, e) (when_holds _ (both (both m h) (rw e at (directed_test s))))
inferred_infer (i_literal h) = when_holds _ h
inferred_infer (i_reckon p m q n x) = rw (inferred_infer p, inferred_infer q, reckons_type x) (when_holds _ (both m n))

pub infer_inferred : {S : Security} {tab : ℕ → Ty} {Γ : List Ty} (e : Term) (t : Ty) → infer S tab Γ e ≡ some t → Inferred S tab Γ e t
unfolding infer
infer_inferred (var n) t h = i_var h
infer_inferred {S} (unit k) t h =
    when_some (S.secure k) _ h λ x e.
    rw (← e) (i_unit x)
infer_inferred {S} {tab} {Γ} (lam k i b) t h =
    bind_some (infer S tab (tab i ∷ Γ) b) _ h λ s p h1.
    when_some (S.secure k && fits (node function k (tab i) s)) _ h1 λ x e.
    rw (← e) (i_lam (and_left _ _ x) (infer_inferred b s p) (and_right (S.secure k) _ x))
infer_inferred {S} {tab} {Γ} (pair k a b) t h =
    bind_some (infer S tab Γ a) _ h λ s p h1.
    bind_some (infer S tab Γ b) _ h1 λ u q h2.
    when_some (S.secure k && fits (node product k s u)) _ h2 λ x e.
    rw (← e) (i_pair (and_left _ _ x) (infer_inferred a s p) (infer_inferred b u q) (and_right (S.secure k) _ x))
infer_inferred {S} {tab} {Γ} (inj d k i b) t h =
    bind_some (infer S tab Γ b) _ h λ s p h1.
    bind_some (parts sum (tab i)) _ h1 λ z q h2.
    parts_some sum (tab i) q λ i_is.
    when_some (S.secure k && subtype S below s (choose d z.lhs z.rhs)) _ h2 λ x e.
    rw (← e) (i_inj (and_left _ _ x) i_is (infer_inferred b s p) (test_directed below _ _ (and_right (S.secure k) _ x)))
infer_inferred {S} {tab} {Γ} (app w f a) t h =
    bind_some (infer S tab Γ f) _ h λ s p h1.
    bind_some (parts function s) _ h1 λ z q h2.
    parts_some function s q λ s_is.
    bind_some (infer S tab Γ a) _ h2 λ u p2 h3.
    when_some (S.permits z.own w && subtype S below u z.lhs) _ h3 λ x e.
    rw (← e) (i_app (rw s_is at (infer_inferred {S = S} {tab = tab} {Γ = Γ} f s p)) (infer_inferred a u p2)
    (test_directed below _ _ (and_right (S.permits z.own w) _ x)) (and_left _ _ x))
infer_inferred {S} {tab} {Γ} (proj d w b) t h =
    bind_some (infer S tab Γ b) _ h λ s p h1.
    bind_some (parts product s) _ h1 λ z q h2.
    parts_some product s q λ s_is.
    when_some (S.permits z.own w) _ h2 λ x e.
    rw (← e) (i_proj (rw s_is at (infer_inferred {S = S} {tab = tab} {Γ = Γ} b s p)) x)
infer_inferred {S} {tab} {Γ} (case w i c a b) t h =
    bind_some (infer S tab Γ c) _ h λ s p h1.
    bind_some (parts sum s) _ h1 λ z q h2.
    parts_some sum s q λ s_is.
    bind_some (infer S tab (z.lhs ∷ Γ) a) _ h2 λ u p2 h3.
    bind_some (infer S tab (z.rhs ∷ Γ) b) _ h3 λ v p3 h4.
    bind_some (type_of_case S tab i u v) _ h4 λ r y h5.
    when_some (S.permits z.own w) _ h5 λ x e.
    rw (← e) (i_case (rw s_is at (infer_inferred {S = S} {tab = tab} {Γ = Γ} c s p)) x (infer_inferred a u p2) (infer_inferred b v p3) y)
infer_inferred {S} {tab} {Γ} (protect m b) t h =
    bind_some (infer S tab Γ b) _ h λ s p h1.
    when_some (S.secure_i m) _ h1 λ x e.
    rw (← e) (i_protect x (infer_inferred b s p))
infer_inferred {S} {tab} {Γ} (mu w i b) t h =
    bind_some (parts function (tab i)) _ h λ z q h1.
    parts_some function (tab i) q λ i_is.
    bind_some (infer S tab (tab i ∷ Γ) b) _ h1 λ s p h2.
    when_some (recurs S z w && subtype S below s (tab i)) _ h2 λ x e.
    let y = and_left (recurs S z w) _ x in
    rw (← e) (i_mu i_is (and_left _ _ y) (and_right (S.permits z.own (S.caller z.own w)) _ y) (infer_inferred b s p)
    (test_directed below _ _ (and_right (recurs S z w) _ x)))
infer_inferred {S} (literal k n) t h =
    when_some (S.secure k) _ h λ x e.
    rw (← e) (i_literal x)
infer_inferred {S} {tab} {Γ} (reckon o w a b) t h =
    bind_some (infer S tab Γ a) _ h λ s p h1.
    bind_some (number_property s) _ h1 λ k y h2.
    number_some s y λ s_is.
    bind_some (infer S tab Γ b) _ h2 λ u q h3.
    bind_some (number_property u) _ h3 λ l z h4.
    number_some u z λ u_is.
    bind_some (reckon_type tab o (of_both S w k l)) _ h4 λ v r h5.
    when_some (S.permits k w && S.permits l w) _ h5 λ x e.
    rw (← e) (i_reckon (rw s_is at (infer_inferred {S = S} {tab = tab} {Γ = Γ} a s p)) (and_left _ _ x)
    (rw u_is at (infer_inferred {S = S} {tab = tab} {Γ = Γ} b u q)) (and_right (S.permits k w) _ x) (type_reckons o r))
