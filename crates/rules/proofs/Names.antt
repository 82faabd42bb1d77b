-- Terms with names: the function finds what the relation says, and names by the count of binders outside give a term
-- back.
use Rattle.std.proofs.Common.{◌≡◌, refl, ap, ap₂, sym, subst, ◌∙◌, Bool, true, false, List, [], ◌∷◌, ℕ, zero, suc, ◌+◌}
use Rattle.std.proofs.Common.{◌-◌, ◌<◌, arith, eqb-true, eq-eqb, ne_eqb, nat_eq, length}
use borrow.Author.Tests.{eqb-false}
use Rattle.calculus.specs.Terms.{Term, var, unit, lam, pair, inj, app, proj, case, protect, mu, literal, reckon}
use Rattle.rules.specs.Answer.{Bytes}
use Rattle.rules.specs.Script.{size, depth}
use Rattle.rules.specs.Names.{Named, named_var, named_unit, named_lam, named_pair, named_inj, named_app, named_proj}
use Rattle.rules.specs.Names.{named_case, named_protect, named_mu, named_literal, named_reckon, Nearest, nearest_here}
use Rattle.rules.specs.Names.{nearest_further, Means, means_var, means_unit, means_lam, means_pair, means_inj}
use Rattle.rules.specs.Names.{means_app, means_proj, means_case, means_protect, means_mu, means_literal, means_reckon}
use Rattle.rules.specs.Names.{nearest, meant, level_names}
use Rattle.rules.specs.Office.{with_names}
use Rattle.rules.proofs.Nodes.{Every, every_here, every_below, every_node}
use Rattle.rules.proofs.TermCode.{term_shape}
use Rattle.rules.proofs.Scope.{Scoped}

nearest_first : (x y : ℕ) (ns : List ℕ) → x ≡ y → nearest x (y ∷ ns) ≡ 0
unfolding nearest
nearest_first x y ns e = rw (eq-eqb x y e)

nearest_later : (x y : ℕ) (ns : List ℕ) → (x ≡ y → ⊥) → nearest x (y ∷ ns) ≡ suc (nearest x ns)
unfolding nearest
nearest_later x y ns e = rw (ne_eqb x y e)

-- the nearest, where there is one
pub nearest_found : (x : ℕ) (ns : List ℕ) → nearest x ns < length ns → Nearest x ns (nearest x ns)
nearest_found x [] l = absurd (omega arith)
nearest_found x (y ∷ ns) l = go (nat_eq x y) refl (λ h. nearest_found x ns h)
  where
    go : (b : Bool) → nat_eq x y ≡ b → (nearest x ns < length ns → Nearest x ns (nearest x ns)) → Nearest x (y ∷ ns) (nearest x (y ∷ ns))
    go true e ih =
        let p = eqb-true x y e in
        subst (λ (n : ℕ). Nearest x (y ∷ ns) n) (sym (nearest_first x y ns p)) (subst (λ (z : ℕ). Nearest x (z ∷ ns) 0) p nearest_here)
    go false e ih =
        let ne = eqb-false x y e in
        let p = nearest_later x y ns ne in
        subst (λ (n : ℕ). Nearest x (y ∷ ns) n) (sym p) (nearest_further ne (ih (omega (arith, p))))

pub found_nearest : {x n : ℕ} {ns : List ℕ} → Nearest x ns n → (nearest x ns ≡ n) × (n < length ns)
found_nearest {x} (nearest_here {ns}) = (nearest_first x x ns refl, omega arith)
found_nearest {x} (nearest_further {y} {n} {ns} ne h) =
    let p = found_nearest h in
    (nearest_later x y ns ne ∙ ap suc p.0, omega (arith, p.1))

-- What is meant is found, and every variable of it has its binder.
pub means_meant : {ns : List ℕ} {e : Named} {e' : Term} → Means ns e e' → (meant ns e ≡ e') × Scoped (length ns) e'
unfolding meant
means_meant (means_var h) = let p = found_nearest h in (ap var p.0, p.1)
means_meant means_unit = (refl, tt)
means_meant (means_lam {k = k} {i = i} h) = let p = means_meant h in (ap (lam k i) p.0, p.1)
means_meant (means_pair {k = k} h g) = let p = means_meant h in let q = means_meant g in (ap₂ (pair k) p.0 q.0, (p.1, q.1))
means_meant (means_inj {d = d} {k = k} {i = i} h) = let p = means_meant h in (ap (inj d k i) p.0, p.1)
means_meant (means_app {w = w} h g) = let p = means_meant h in let q = means_meant g in (ap₂ (app w) p.0 q.0, (p.1, q.1))
means_meant (means_proj {d = d} {w = w} h) = let p = means_meant h in (ap (proj d w) p.0, p.1)
means_meant (means_case {w = w} {i = i} h g f) =
    let p = means_meant h in
    let q = means_meant g in
    let r = means_meant f in
    (rw (p.0, q.0, r.0), (p.1, q.1, r.1))
means_meant (means_protect {m = m} h) = let p = means_meant h in (ap (protect m) p.0, p.1)
means_meant (means_mu {w = w} {i = i} h) = let p = means_meant h in (ap (mu w i) p.0, p.1)
means_meant means_literal = (refl, tt)
means_meant (means_reckon {o = o} {w = w} h g) = let p = means_meant h in let q = means_meant g in (ap₂ (reckon o w) p.0 q.0, (p.1, q.1))

pub meant_means : (ns : List ℕ) (e : Named) → Scoped (length ns) (meant ns e) → Means ns e (meant ns e)
unfolding meant
meant_means ns (named_var x) h = means_var (nearest_found x ns h)
meant_means ns (named_unit k) h = means_unit
meant_means ns (named_lam k i x e) h = means_lam (meant_means (x ∷ ns) e h)
meant_means ns (named_pair k a b) h = means_pair (meant_means ns a h.0) (meant_means ns b h.1)
meant_means ns (named_inj d k i e) h = means_inj (meant_means ns e h)
meant_means ns (named_app w f a) h = means_app (meant_means ns f h.0) (meant_means ns a h.1)
meant_means ns (named_proj d w e) h = means_proj (meant_means ns e h)
meant_means ns (named_case w i x y e a b) h = means_case (meant_means ns e h.0) (meant_means (x ∷ ns) a h.1) (meant_means (y ∷ ns) b h.2)
meant_means ns (named_protect m e) h = means_protect (meant_means ns e h)
meant_means ns (named_mu w i x e) h = means_mu (meant_means (x ∷ ns) e h)
meant_means ns (named_literal k n) h = means_literal
meant_means ns (named_reckon o w a b) h = means_reckon (meant_means ns a h.0) (meant_means ns b h.1)

-- The names of n binders, each the count of those outside it.
abbrev pub outer : ℕ → List ℕ
outer zero = []
outer (suc n) = n ∷ outer n

nearest_outer : (n m : ℕ) → m < n → nearest (n - suc m) (outer n) ≡ m
nearest_outer zero m l = absurd (omega arith)
nearest_outer (suc n) zero l = nearest_first (suc n - 1) n (outer n) (omega arith)
nearest_outer (suc n) (suc m) l =
    let p : suc n - suc (suc m) ≡ n - suc m = omega arith in
    nearest_later (suc n - suc (suc m)) n (outer n) (λ e. omega arith) ∙ ap suc (ap (λ x. nearest x (outer n)) p ∙ nearest_outer n m (omega arith))

pub meant_naming : (n : ℕ) (e : Term) → Scoped n e → meant (outer n) (level_names n e) ≡ e
unfolding meant level_names
meant_naming n (var m) h = ap var (nearest_outer n m h)
meant_naming n (unit k) h = refl
meant_naming n (lam k i e) h = ap (lam k i) (meant_naming (suc n) e h)
meant_naming n (pair k a b) h = ap₂ (pair k) (meant_naming n a h.0) (meant_naming n b h.1)
meant_naming n (inj d k i e) h = ap (inj d k i) (meant_naming n e h)
meant_naming n (app w f a) h = ap₂ (app w) (meant_naming n f h.0) (meant_naming n a h.1)
meant_naming n (proj d w e) h = ap (proj d w) (meant_naming n e h)
meant_naming n (case w i e a b) h = rw (meant_naming n e h.0, meant_naming (suc n) a h.1, meant_naming (suc n) b h.2)
meant_naming n (protect m e) h = ap (protect m) (meant_naming n e h)
meant_naming n (mu w i e) h = ap (mu w i) (meant_naming (suc n) e h)
meant_naming n (literal k m) h = refl
meant_naming n (reckon o w a b) h = ap₂ (reckon o w) (meant_naming n a h.0) (meant_naming n b h.1)

-- A term whose variables all have number 0, as in an old script.
unfoldable pub blank : Term → Term
blank (var n) = var 0
blank (unit k) = unit k
blank (lam k i e) = lam k i (blank e)
blank (pair k a b) = pair k (blank a) (blank b)
blank (inj d k i e) = inj d k i (blank e)
blank (app w f a) = app w (blank f) (blank a)
blank (proj d w e) = proj d w (blank e)
blank (case w i e a b) = case w i (blank e) (blank a) (blank b)
blank (protect m e) = protect m (blank e)
blank (mu w i e) = mu w i (blank e)
blank (literal k n) = literal k n
blank (reckon o w a b) = reckon o w (blank a) (blank b)

pub blank_size : (e : Term) → size (blank e) ≡ size e
unfolding blank size
blank_size (var n) = refl
blank_size (unit k) = refl
blank_size (lam k i e) = rw (blank_size e)
blank_size (pair k a b) = rw (blank_size a, blank_size b)
blank_size (inj d k i e) = rw (blank_size e)
blank_size (app w f a) = rw (blank_size f, blank_size a)
blank_size (proj d w e) = rw (blank_size e)
blank_size (case w i e a b) = rw (blank_size e, blank_size a, blank_size b)
blank_size (protect m e) = rw (blank_size e)
blank_size (mu w i e) = rw (blank_size e)
blank_size (literal k n) = refl
blank_size (reckon o w a b) = rw (blank_size a, blank_size b)

pub blank_depth : (e : Term) → depth (blank e) ≡ depth e
unfolding blank depth
blank_depth (var n) = refl
blank_depth (unit k) = refl
blank_depth (lam k i e) = rw (blank_depth e)
blank_depth (pair k a b) = rw (blank_depth a, blank_depth b)
blank_depth (inj d k i e) = rw (blank_depth e)
blank_depth (app w f a) = rw (blank_depth f, blank_depth a)
blank_depth (proj d w e) = rw (blank_depth e)
blank_depth (case w i e a b) = rw (blank_depth e, blank_depth a, blank_depth b)
blank_depth (protect m e) = rw (blank_depth e)
blank_depth (mu w i e) = rw (blank_depth e)
blank_depth (literal k n) = refl
blank_depth (reckon o w a b) = rw (blank_depth a, blank_depth b)

-- what is meant differs in variables' numbers alone
pub blank_meant : (s : Bytes) (i : ℕ) (ns : List ℕ) (e : Term) → blank (meant ns (with_names s i e)) ≡ blank e
unfolding blank meant with_names
blank_meant s i ns (lam k t e) = rw (blank_meant s (1 + i) (_ ∷ ns) e)
blank_meant s i ns (pair k a b) = rw (blank_meant s (1 + i) ns a, blank_meant s (1 + i + size a) ns b)
blank_meant s i ns (inj d k t e) = rw (blank_meant s (1 + i) ns e)
blank_meant s i ns (app w f a) = rw (blank_meant s (1 + i) ns f, blank_meant s (1 + i + size f) ns a)
blank_meant s i ns (proj d w e) = rw (blank_meant s (1 + i) ns e)
blank_meant s i ns (case w t e a b) =
    rw (blank_meant s (1 + i) ns e, blank_meant s (1 + i + size e) (_ ∷ ns) a, blank_meant s (1 + i + size e + size a) (_ ∷ ns) b)
blank_meant s i ns (protect m e) = rw (blank_meant s (1 + i) ns e)
blank_meant s i ns (mu w t e) = rw (blank_meant s (1 + i) (_ ∷ ns) e)
blank_meant s i ns (reckon o w a b) = rw (blank_meant s (1 + i) ns a, blank_meant s (1 + i + size a) ns b)
blank_meant s i ns _ = refl

-- What doesn't look at variables' numbers holds of all nodes of both.
module _ (P : Term → Type 0) where
  pub to_blank : ((c : Term) → P c → P (blank c)) → (e : Term) → Every term_shape P e → Every term_shape P (blank e)
  unfolding blank
  to_blank f (var n) h = every_node (f (var n) (every_here h)) tt
  to_blank f (unit k) h = every_node (f (unit k) (every_here h)) tt
  to_blank f (lam k i e) h = every_node (f (lam k i e) (every_here h)) (to_blank f e (every_below h).0, tt)
  to_blank f (pair k a b) h = every_node (f (pair k a b) (every_here h)) (to_blank f a (every_below h).0, (to_blank f b (every_below h).1.0, tt))
  to_blank f (inj d k i e) h = every_node (f (inj d k i e) (every_here h)) (to_blank f e (every_below h).0, tt)
  to_blank f (app w g a) h = every_node (f (app w g a) (every_here h)) (to_blank f g (every_below h).0, (to_blank f a (every_below h).1.0, tt))
  to_blank f (proj d w e) h = every_node (f (proj d w e) (every_here h)) (to_blank f e (every_below h).0, tt)
  to_blank f (case w i e a b) h =
      every_node (f (case w i e a b) (every_here h))
      (to_blank f e (every_below h).0, (to_blank f a (every_below h).1.0, (to_blank f b (every_below h).1.1.0, tt)))
  to_blank f (protect m e) h = every_node (f (protect m e) (every_here h)) (to_blank f e (every_below h).0, tt)
  to_blank f (mu w i e) h = every_node (f (mu w i e) (every_here h)) (to_blank f e (every_below h).0, tt)
  to_blank f (literal k n) h = every_node (f (literal k n) (every_here h)) tt
  to_blank f (reckon o w a b) h = every_node (f (reckon o w a b) (every_here h)) (to_blank f a (every_below h).0, (to_blank f b (every_below h).1.0, tt))

  pub from_blank : ((c : Term) → P (blank c) → P c) → (e : Term) → Every term_shape P (blank e) → Every term_shape P e
  unfolding blank
  from_blank f (var n) h = every_node (f (var n) (every_here h)) tt
  from_blank f (unit k) h = every_node (f (unit k) (every_here h)) tt
  from_blank f (lam k i e) h = every_node (f (lam k i e) (every_here h)) (from_blank f e (every_below h).0, tt)
  from_blank f (pair k a b) h = every_node (f (pair k a b) (every_here h)) (from_blank f a (every_below h).0, (from_blank f b (every_below h).1.0, tt))
  from_blank f (inj d k i e) h = every_node (f (inj d k i e) (every_here h)) (from_blank f e (every_below h).0, tt)
  from_blank f (app w g a) h = every_node (f (app w g a) (every_here h)) (from_blank f g (every_below h).0, (from_blank f a (every_below h).1.0, tt))
  from_blank f (proj d w e) h = every_node (f (proj d w e) (every_here h)) (from_blank f e (every_below h).0, tt)
  from_blank f (case w i e a b) h =
      every_node (f (case w i e a b) (every_here h))
      (from_blank f e (every_below h).0, (from_blank f a (every_below h).1.0, (from_blank f b (every_below h).1.1.0, tt)))
  from_blank f (protect m e) h = every_node (f (protect m e) (every_here h)) (from_blank f e (every_below h).0, tt)
  from_blank f (mu w i e) h = every_node (f (mu w i e) (every_here h)) (from_blank f e (every_below h).0, tt)
  from_blank f (literal k n) h = every_node (f (literal k n) (every_here h)) tt
  from_blank f (reckon o w a b) h = every_node (f (reckon o w a b) (every_here h)) (from_blank f a (every_below h).0, (from_blank f b (every_below h).1.0, tt))
