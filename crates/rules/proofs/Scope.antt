-- Question 19 of an encoding: a term's variables against the binders over them.
use Rattle.std.proofs.Common.{◌≡◌, refl, ap, sym, subst, ◌∙◌, true, List, [], ◌∷◌, ℕ, suc, ◌<◌, arith, ltb-true, lt-ltb}
use Rattle.std.proofs.Common.{get_or}
use Rattle.rules.proofs.Prefix.{record_at}
use Rattle.calculus.specs.Terms.{first, second, plus, less, Term, var, unit, lam, pair, inj, app, proj, case, protect}
use Rattle.calculus.specs.Terms.{mu, literal, reckon}
use Rattle.rules.specs.Answer.{Bytes, accepted}
use Rattle.rules.specs.Script.{encode, records, term, binders, ok19, q19}
use Rattle.rules.specs.Limits.{script_width}
use Rattle.rules.proofs.Search.{each_all, each_accepted}
use Rattle.rules.proofs.Nodes.{Every, every_here, every_below, every_node}
use Rattle.rules.proofs.TermCode.{term_head, two_bytes}
use Rattle.rules.proofs.RecordFields.{ok19_record}
use Rattle.rules.proofs.Scripts.{records_encode, term_encode}
use Rattle.rules.proofs.Counts.{up, stay, unwidened, counted, to_counted_records, to_counted_nodes, binders_counts}

-- every variable's number is below the count of binders over it, of which n stand over the term
abbrev pub Scoped : ℕ → Term → Type 0
Scoped n (var m) = m < n
Scoped n (unit k) = Unit {0}
Scoped n (lam k i e) = Scoped (suc n) e
Scoped n (pair k a b) = Scoped n a × Scoped n b
Scoped n (inj d k i e) = Scoped n e
Scoped n (app w f a) = Scoped n f × Scoped n a
Scoped n (proj d w e) = Scoped n e
Scoped n (case w i e a b) = Scoped n e × Scoped (suc n) a × Scoped (suc n) b
Scoped n (protect m e) = Scoped n e
Scoped n (mu w i e) = Scoped (suc n) e
Scoped n (literal k m) = Unit {0}
Scoped n (reckon o w a b) = Scoped n a × Scoped n b

-- question 19 of a record with its count
abbrev Bound : ℕ → Bytes → Type 0
Bound n h = ok19 (n ∷ []) h 0 ≡ true

abbrev Bounds : ℕ → Term → Type 0
Bounds n e = Every (counted unwidened stay up) (λ p. Bound p.0 (term_head p.1)) (n, e)

bounds_scoped : (e : Term) (n : ℕ) → Bounds n e → Scoped n e
unfolding ok19
bounds_scoped (var m) n h = subst (λ x. x < n) (two_bytes m) (ltb-true _ n (every_here h))
bounds_scoped (unit k) n h = tt
bounds_scoped (lam k i e) n h = bounds_scoped e (suc n) (every_below h).0
bounds_scoped (pair k a b) n h = (bounds_scoped a n (every_below h).0, bounds_scoped b n (every_below h).1.0)
bounds_scoped (inj d k i e) n h = bounds_scoped e n (every_below h).0
bounds_scoped (app w f a) n h = (bounds_scoped f n (every_below h).0, bounds_scoped a n (every_below h).1.0)
bounds_scoped (proj d w e) n h = bounds_scoped e n (every_below h).0
bounds_scoped (case w i e a b) n h =
    (bounds_scoped e n (every_below h).0, bounds_scoped a (suc n) (every_below h).1.0, bounds_scoped b (suc n) (every_below h).1.1.0)
bounds_scoped (protect m e) n h = bounds_scoped e n (every_below h).0
bounds_scoped (mu w i e) n h = bounds_scoped e (suc n) (every_below h).0
bounds_scoped (literal k m) n h = tt
bounds_scoped (reckon o w a b) n h = (bounds_scoped a n (every_below h).0, bounds_scoped b n (every_below h).1.0)

scoped_bounds : (e : Term) (n : ℕ) → Scoped n e → Bounds n e
unfolding ok19
scoped_bounds (var m) n h = every_node (lt-ltb _ n (subst (λ x. x < n) (sym (two_bytes m)) h)) tt
scoped_bounds (unit k) n h = every_node refl tt
scoped_bounds (lam k i e) n h = every_node refl (scoped_bounds e (suc n) h, tt)
scoped_bounds (pair k a b) n h = every_node refl (scoped_bounds a n h.0, (scoped_bounds b n h.1, tt))
scoped_bounds (inj first k i e) n h = every_node refl (scoped_bounds e n h, tt)
scoped_bounds (inj second k i e) n h = every_node refl (scoped_bounds e n h, tt)
scoped_bounds (app w f a) n h = every_node refl (scoped_bounds f n h.0, (scoped_bounds a n h.1, tt))
scoped_bounds (proj first w e) n h = every_node refl (scoped_bounds e n h, tt)
scoped_bounds (proj second w e) n h = every_node refl (scoped_bounds e n h, tt)
scoped_bounds (case w i e a b) n h =
    every_node refl (scoped_bounds e n h.0, (scoped_bounds a (suc n) h.1, (scoped_bounds b (suc n) h.2, tt)))
scoped_bounds (protect m e) n h = every_node refl (scoped_bounds e n h, tt)
scoped_bounds (mu w i e) n h = every_node refl (scoped_bounds e (suc n) h, tt)
scoped_bounds (literal k m) n h = every_node refl tt
scoped_bounds (reckon plus w a b) n h = every_node refl (scoped_bounds a n h.0, (scoped_bounds b n h.1, tt))
scoped_bounds (reckon (less i) w a b) n h = every_node refl (scoped_bounds a n h.0, (scoped_bounds b n h.1, tt))

-- the same of the binders over record j
abbrev BoundAt : Term → ℕ → List ℕ → Type 0
BoundAt e j ns = Bound (get_or ns j 0) (record_at script_width (encode e) j)

pub q19_scoped : (e : Term) → q19 (encode e) ≡ accepted tt → Scoped 0 e
q19_scoped e q =
    bounds_scoped e 0
    (to_counted_nodes unwidened stay up Bound 0 e
    (λ j l. subst (BoundAt e j) (binders_counts 0 e)
    (ok19_record (encode e) j (binders e)
    ∙ ap (λ d. ok19 (binders d) (encode e) j) (sym (term_encode e))
    ∙ each_all 19 (records (encode e)) (ok19 (binders (term (encode e))) (encode e)) q j (omega (arith, records_encode e)))))

pub q19_encode : (e : Term) → Scoped 0 e → q19 (encode e) ≡ accepted tt
q19_encode e h =
    each_accepted 19 (records (encode e)) (ok19 (binders (term (encode e))) (encode e))
    (λ j l. ap (λ d. ok19 (binders d) (encode e) j) (term_encode e) ∙ sym (ok19_record (encode e) j (binders e))
    ∙ subst (BoundAt e j) (sym (binders_counts 0 e)) (to_counted_records unwidened stay up Bound 0 e (scoped_bounds e 0 h) j (omega (arith, records_encode e))))
