-- Two related values of a type that is seen: they are made alike, and what a destructor reads of them is related.
use Rattle.std.proofs.Common.{◌≡◌, Bool, true, false, not, [], ◌∷◌, ℕ, IsTrue, arith}
use Rattle.std.proofs.Math.Option.{none-ne-some}
use Rattle.std.proofs.Math.Bool.{false≢true}
use Rattle.calculus.specs.Security.{Property, Reader, Indirect, Security, Laws}
use Rattle.calculus.specs.Types.{one, number, sum, product, function, Ty, leaf, node, top, secure_t, fits}
use Rattle.calculus.specs.Subtyping.{below}
use Rattle.calculus.specs.Terms.{Side, choose, Term, unit, lam, pair, inj, literal, is_value}
use Rattle.calculus.specs.Typing.{lookup, Table}
use Rattle.calculus.proofs.Directed.{Directed, directed_refl, directed_trans, subtype_directed}
use Rattle.calculus.proofs.SecureTyping.{sc_empty, typed_secure}
use Rattle.noninterference.proofs.Related.{Related, q_hidden, q_sub, q_var, q_unit, q_lam, q_pair, q_inj, q_app, q_proj}
use Rattle.noninterference.proofs.Related.{q_case, q_protect, q_mu, q_literal, q_reckon, left_typed}

-- What an observer's sight obeys: less is seen of what is greater, and a result that is seen was read from what is
-- seen.
pub record Sight (S : Security) (seen : Property → Bool) : Type 0 where
  pub down : (k l : Property) → IsTrue (S.le k l) → IsTrue (seen l) → IsTrue (seen k)
  pub of_raised : (k : Property) (m : Indirect) → IsTrue (S.secure k) → IsTrue (S.secure_i m) → IsTrue (seen (S.raise k m)) → IsTrue (seen k)
  pub of_read : (k l : Property) (w : Reader) → IsTrue (S.secure k) → IsTrue (S.secure l) → IsTrue (S.permits l w) → IsTrue (seen (S.raise k (S.influence l w)))
      → IsTrue (seen l)

-- two values made alike, of types at or below t
pub data Alike (S : Security) (tab : ℕ → Ty) (seen : Property → Bool) : Term → Term → Ty → Type 0 where
  a_unit : {k : Property} {t : Ty} → IsTrue (S.secure k) → Directed S below (leaf one k) t → Alike S tab seen (unit k) (unit k) t
  a_literal : {k : Property} {n : ℕ} {t : Ty} → IsTrue (S.secure k) → Directed S below (leaf number k) t → Alike S tab seen (literal k n) (literal k n) t
  a_lam : {k : Property} {i : ℕ} {e e' : Term} {s t : Ty} → IsTrue (S.secure k) → Related S tab seen (tab i ∷ []) e e' s
      → IsTrue (fits (node function k (tab i) s))
      → Directed S below (node function k (tab i) s) t → Alike S tab seen (lam k i e) (lam k i e') t
  a_pair : {k : Property} {a b a' b' : Term} {r s t : Ty} → IsTrue (S.secure k) → Related S tab seen [] a a' r → Related S tab seen [] b b' s
      → IsTrue (fits (node product k r s)) → Directed S below (node product k r s) t → Alike S tab seen (pair k a b) (pair k a' b') t
  a_inj : {d : Side} {k l : Property} {i : ℕ} {e e' : Term} {r s t : Ty} → IsTrue (S.secure k) → tab i ≡ node sum l r s
      → Related S tab seen [] e e' (choose d r s) → Directed S below (node sum k r s) t → Alike S tab seen (inj d k i e) (inj d k i e') t

module _ {S : Security} {tab : ℕ → Ty} (L : Laws S) (T : Table S tab) {seen : Property → Bool} (O : Sight S seen) where
  pub related_secure : {e e' : Term} {t : Ty} → Related S tab seen [] e e' t → IsTrue (secure_t S t)
  related_secure p = typed_secure L T sc_empty (left_typed p)

  alike_above : {v v' : Term} {s t : Ty} → Alike S tab seen v v' s → Directed S below s t → Alike S tab seen v v' t
  alike_above (a_unit h u) q = a_unit h (directed_trans L u q)
  alike_above (a_literal h u) q = a_literal h (directed_trans L u q)
  alike_above (a_lam h p f u) q = a_lam h p f (directed_trans L u q)
  alike_above (a_pair h p r f u) q = a_pair h p r f (directed_trans L u q)
  alike_above (a_inj h e p u) q = a_inj h e p (directed_trans L u q)

  top_down : {s t : Ty} → Directed S below s t → IsTrue (seen (top t)) → IsTrue (seen (top s))
  top_down n x = grind arith

  not_both : {P : Type 0} (b : Bool) → IsTrue (not b) → IsTrue b → P
  not_both true x y = absurd (false≢true x)
  not_both false x y = absurd (false≢true y)

  same_type : {e e' : Term} {t : Ty} → Related S tab seen [] e e' t → Directed S below t t
  same_type p = directed_refl L below _ (related_secure p)

  pub observed : {v v' : Term} {t : Ty} → Related S tab seen [] v v' t → IsTrue (is_value v) → IsTrue (seen (top t)) → Alike S tab seen v v' t
  unfolding is_value lookup
  observed (q_hidden {t = t} p q h) x y = not_both (seen (top t)) h y
  observed (q_sub p b h) x y = let c = subtype_directed L b in alike_above (observed p x (top_down c y)) c
  observed (q_var {t = t} h) x y = absurd (none-ne-some t h)
  observed (q_unit h) x y = a_unit h (same_type (q_unit h))
  observed (q_lam h p f) x y = a_lam h p f (same_type (q_lam h p f))
  observed (q_pair h p q f) x y = a_pair h p q f (same_type (q_pair h p q f))
  observed (q_inj {d = d} h e p) x y = a_inj h e p (same_type (q_inj {d = d} h e p))
  observed (q_app p q m) x y = absurd (false≢true x)
  observed (q_proj p m) x y = absurd (false≢true x)
  observed (q_case p m r q q') x y = absurd (false≢true x)
  observed (q_protect h p) x y = absurd (false≢true x)
  observed (q_mu e m h p) x y = absurd (false≢true x)
  observed (q_literal {n = n} h) x y = a_literal h (same_type (q_literal {n = n} h))
  observed (q_reckon p m q n z) x y = absurd (false≢true x)
