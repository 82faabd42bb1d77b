-- A run to a value by the form of its term: its parts come to values, and what those contract to comes to the whole's.
use Rattle.std.proofs.Common.{ℕ}
use Rattle.std.proofs.Math.Bool.{false≢true}
use Rattle.calculus.specs.Security.{Property, Reader, Indirect, Security}
use Rattle.calculus.specs.Types.{Ty}
use Rattle.calculus.specs.Terms.{Side, Operation, Term, unit, lam, pair, inj, app, proj, case, protect, mu, literal}
use Rattle.calculus.specs.Terms.{reckon, is_value}
use Rattle.calculus.specs.Reduction.{Contracts, c_app, c_proj, c_case, c_mu, c_reckon, c_protect, Context, hole}
use Rattle.calculus.specs.Reduction.{app_left, app_right, in_proj, in_inj, pair_left, pair_right, in_protect, in_case}
use Rattle.calculus.specs.Reduction.{reckon_left, reckon_right, plug}
use Rattle.calculus.specs.Runs.{Runs, runs_end, runs_on}
use Rattle.calculus.proofs.Booleans.{and_left, and_right}
use Rattle.std.specs.Prelude.{IsTrue}

pub data Evaluates (S : Security) (tab : ℕ → Ty) : Term → Term → Type 0 where
  units : {k : Property} → Evaluates S tab (unit k) (unit k)
  functions : {k : Property} {i : ℕ} {e : Term} → Evaluates S tab (lam k i e) (lam k i e)
  literals : {k : Property} {n : ℕ} → Evaluates S tab (literal k n) (literal k n)
  pairs : {k : Property} {a b u v : Term} → Evaluates S tab a u → Evaluates S tab b v → Evaluates S tab (pair k a b) (pair k u v)
  injections : {d : Side} {k : Property} {i : ℕ} {e v : Term} → Evaluates S tab e v → Evaluates S tab (inj d k i e) (inj d k i v)
  applications : {w : Reader} {f a g v c u : Term} → Evaluates S tab f g → Evaluates S tab a v → Contracts S tab (app w g v) c
      → Evaluates S tab c u → Evaluates S tab (app w f a) u
  projections : {d : Side} {w : Reader} {e v c u : Term} → Evaluates S tab e v → Contracts S tab (proj d w v) c → Evaluates S tab c u
      → Evaluates S tab (proj d w e) u
  cases : {w : Reader} {i : ℕ} {e v a b c u : Term} → Evaluates S tab e v → Contracts S tab (case w i v a b) c → Evaluates S tab c u
      → Evaluates S tab (case w i e a b) u
  protects : {m : Indirect} {e v c u : Term} → Evaluates S tab e v → Contracts S tab (protect m v) c → Evaluates S tab c u
      → Evaluates S tab (protect m e) u
  recursions : {w : Reader} {i : ℕ} {e c u : Term} → Contracts S tab (mu w i e) c → Evaluates S tab c u → Evaluates S tab (mu w i e) u
  reckonings : {o : Operation} {w : Reader} {a b m n c u : Term} → Evaluates S tab a m → Evaluates S tab b n → Contracts S tab (reckon o w m n) c
      → Evaluates S tab c u → Evaluates S tab (reckon o w a b) u

module _ {S : Security} {tab : ℕ → Ty} where
  itself : (v : Term) → IsTrue (is_value v) → Evaluates S tab v v
  unfolding is_value
  itself (unit k) h = units
  itself (lam k i e) h = functions
  itself (pair k a b) h = pairs (itself a (and_left _ _ h)) (itself b (and_right (is_value a) _ h))
  itself (inj d k i e) h = injections (itself e h)
  itself (literal k n) h = literals
  itself _ h = absurd (false≢true h)

  back : (E : Context) {e c u : Term} → Contracts S tab e c → Evaluates S tab (plug E c) u → Evaluates S tab (plug E e) u
  unfolding plug
  back hole (c_app h m) x = applications functions (itself _ h) (c_app h m) x
  back hole (c_proj h h' m) x = projections (pairs (itself _ h) (itself _ h')) (c_proj h h' m) x
  back hole (c_case h m) x = cases (injections (itself _ h)) (c_case h m) x
  back hole (c_mu y) x = recursions (c_mu y) x
  back hole (c_reckon m n) x = reckonings literals literals (c_reckon m n) x
  back hole (c_protect h) x = protects (itself _ h) (c_protect h) x
  back (app_left w E a) r (applications p q c x) = applications (back E r p) q c x
  back (app_right w v h E) r (applications p q c x) = applications p (back E r q) c x
  back (in_proj d w E) r (projections p c x) = projections (back E r p) c x
  back (in_inj d k i E) r (injections p) = injections (back E r p)
  back (pair_left k E b) r (pairs p q) = pairs (back E r p) q
  back (pair_right k v h E) r (pairs p q) = pairs p (back E r q)
  back (in_protect m E) r (protects p c x) = protects (back E r p) c x
  back (in_case w i E a b) r (cases p c x) = cases (back E r p) c x
  back (reckon_left o w E b) r (reckonings p q c x) = reckonings (back E r p) q c x
  back (reckon_right o w v h E) r (reckonings p q c x) = reckonings p (back E r q) c x

  pub evaluates : {n : ℕ} {e v : Term} → Runs S tab n e v → IsTrue (is_value v) → Evaluates S tab e v
  evaluates {v = v} runs_end h = itself v h
  evaluates (runs_on r p) h = rw r.before (back r.context r.contracts (rw r.after at (evaluates p h)))
