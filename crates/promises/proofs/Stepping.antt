-- A step keeps what questions 15, 36, 16 and 19 ask: every term that a run reaches is formed as the script is.
use Rattle.std.proofs.Common.{◌≡◌, refl, sym, subst, Bool, true, false, cond, ℕ, suc, ◌+◌, ◌<◌, ◌≤◌, min, arith}
use Rattle.std.proofs.Common.{eqb-true, ltb-true, nat_eq, IsTrue}
use borrow.Author.Tests.{eqb-false}
use Rattle.calculus.specs.Security.{Property, Reader, Indirect, Security}
use Rattle.calculus.specs.Types.{Ty, leaf, node, top, secure_t}
use Rattle.calculus.specs.Terms.{Side, first, second, choose, Operation, plus, less, Term, var, unit, lam, pair, inj}
use Rattle.calculus.specs.Terms.{app, proj, case, protect, mu, literal, reckon, raise_value}
use Rattle.calculus.specs.Terms as terms
use Rattle.calculus.specs.Reduction.{unrolled_function, Contracts, c_app, c_proj, c_case, c_mu, c_reckon, c_protect}
use Rattle.calculus.specs.Reduction.{Context, hole, app_left, app_right, in_proj, in_inj, pair_left, pair_right}
use Rattle.calculus.specs.Reduction.{in_protect, in_case, reckon_left, reckon_right, plug, moved, step}
use Rattle.calculus.specs.Numbers.{of_both, number_limit, side, less_side, reckon_result}
use Rattle.calculus.proofs.Booleans.{and_left, and_right}
use Rattle.calculus.proofs.Properties.{properties_laws}
use Rattle.calculus.proofs.Reduction.{step_reduces}
use Rattle.calculus.proofs.SecureTyping.{table_parts}
use Rattle.rules.specs.Answer.{Bytes}
use Rattle.rules.specs.Groups.{rows, properties_of}
use Rattle.rules.specs.Types.{type_at}
use Rattle.promises.proofs.Formed.{Secure, SecureI, Formed}
use Rattle.promises.proofs.Tables.{Tables}

-- under more binders
pub formed_weaken : (g t : Bytes) (n m : ℕ) (e : Term) → n ≤ m → Formed g t n e → Formed g t m e
unfolding Formed
formed_weaken g t n m (var i) l F = omega arith
formed_weaken g t n m (unit k) l F = F
formed_weaken g t n m (lam k i e) l F = (F.0, F.1, formed_weaken g t (suc n) (suc m) e (omega arith) F.2)
formed_weaken g t n m (pair k a b) l F = (F.0, formed_weaken g t n m a l F.1, formed_weaken g t n m b l F.2)
formed_weaken g t n m (inj d k i e) l F = (F.0, F.1, F.2, formed_weaken g t n m e l F.3)
formed_weaken g t n m (app w f a) l F = (F.0, formed_weaken g t n m f l F.1, formed_weaken g t n m a l F.2)
formed_weaken g t n m (proj d w e) l F = (F.0, formed_weaken g t n m e l F.1)
formed_weaken g t n m (case w i e a b) l F =
    (F.0, F.1, formed_weaken g t n m e l F.2, formed_weaken g t (suc n) (suc m) a (omega arith) F.3, formed_weaken g t (suc n) (suc m) b (omega arith) F.4)
formed_weaken g t n m (protect i e) l F = (F.0, formed_weaken g t n m e l F.1)
formed_weaken g t n m (mu w i e) l F = (F.0, F.1, F.2, formed_weaken g t (suc n) (suc m) e (omega arith) F.3)
formed_weaken g t n m (literal k x) l F = F
formed_weaken g t n m (reckon plus w a b) l F = (F.0, formed_weaken g t n m a l F.1, formed_weaken g t n m b l F.2)
formed_weaken g t n m (reckon (less i) w a b) l F = (F.0, F.1, F.2, formed_weaken g t n m a l F.3, formed_weaken g t n m b l F.4)

-- a closed term for the last variable
pub formed_subst : (g t : Bytes) (n : ℕ) (v e : Term) → Formed g t 0 v → Formed g t (suc n) e → Formed g t n (terms.substitute n v e)
unfolding Formed terms.substitute
formed_subst g t n v (var m) H F = go (nat_eq m n) refl
  where
    go : (b : Bool) → nat_eq m n ≡ b → Formed g t n (cond b v (var m))
    go true e = formed_weaken g t 0 n v (omega arith) H
    go false e = lower (eqb-false m n e)
      where
        lower : (m ≡ n → ⊥) → m < n
        lower ne = omega (arith, F)
formed_subst g t n v (unit k) H F = F
formed_subst g t n v (lam k i e) H F = (F.0, F.1, formed_subst g t (suc n) v e H F.2)
formed_subst g t n v (pair k a b) H F = (F.0, formed_subst g t n v a H F.1, formed_subst g t n v b H F.2)
formed_subst g t n v (inj d k i e) H F = (F.0, F.1, F.2, formed_subst g t n v e H F.3)
formed_subst g t n v (app w f a) H F = (F.0, formed_subst g t n v f H F.1, formed_subst g t n v a H F.2)
formed_subst g t n v (proj d w e) H F = (F.0, formed_subst g t n v e H F.1)
formed_subst g t n v (case w i e a b) H F = (F.0, F.1, formed_subst g t n v e H F.2, formed_subst g t (suc n) v a H F.3, formed_subst g t (suc n) v b H F.4)
formed_subst g t n v (protect m e) H F = (F.0, formed_subst g t n v e H F.1)
formed_subst g t n v (mu w i e) H F = (F.0, F.1, F.2, formed_subst g t (suc n) v e H F.3)
formed_subst g t n v (literal k m) H F = F
formed_subst g t n v (reckon plus w a b) H F = (F.0, formed_subst g t n v a H F.1, formed_subst g t n v b H F.2)
formed_subst g t n v (reckon (less i) w a b) H F = (F.0, F.1, F.2, formed_subst g t n v a H F.3, formed_subst g t n v b H F.4)

formed_choose : (g t : Bytes) (n : ℕ) (d : Side) (a b : Term) → Formed g t n a → Formed g t n b → Formed g t n (choose d a b)
formed_choose g t n first a b A B = A
formed_choose g t n second a b A B = B

-- an evaluation context: what stands in it is closed, and another formed term may take its place
formed_plug : (g t : Bytes) (E : Context) (e : Term) → Formed g t 0 (plug E e) → (Formed g t 0 e) × ((e' : Term) → Formed g t 0 e' → Formed g t 0 (plug E e'))
unfolding Formed plug
formed_plug g t hole e F = (F, λ e' F'. F')
formed_plug g t (app_left w E a) e F = let x = formed_plug g t E e F.1 in (x.0, λ e' F'. (F.0, x.1 e' F', F.2))
formed_plug g t (app_right w v h E) e F = let x = formed_plug g t E e F.2 in (x.0, λ e' F'. (F.0, F.1, x.1 e' F'))
formed_plug g t (in_proj d w E) e F = let x = formed_plug g t E e F.1 in (x.0, λ e' F'. (F.0, x.1 e' F'))
formed_plug g t (in_inj d k i E) e F = let x = formed_plug g t E e F.3 in (x.0, λ e' F'. (F.0, F.1, F.2, x.1 e' F'))
formed_plug g t (pair_left k E b) e F = let x = formed_plug g t E e F.1 in (x.0, λ e' F'. (F.0, x.1 e' F', F.2))
formed_plug g t (pair_right k v h E) e F = let x = formed_plug g t E e F.2 in (x.0, λ e' F'. (F.0, F.1, x.1 e' F'))
formed_plug g t (in_protect m E) e F = let x = formed_plug g t E e F.1 in (x.0, λ e' F'. (F.0, x.1 e' F'))
formed_plug g t (in_case w i E a b) e F = let x = formed_plug g t E e F.2 in (x.0, λ e' F'. (F.0, F.1, x.1 e' F', F.3, F.4))
formed_plug g t (reckon_left plus w E b) e F = let x = formed_plug g t E e F.1 in (x.0, λ e' F'. (F.0, x.1 e' F', F.2))
formed_plug g t (reckon_left (less i) w E b) e F = let x = formed_plug g t E e F.3 in (x.0, λ e' F'. (F.0, F.1, F.2, x.1 e' F', F.4))
formed_plug g t (reckon_right plus w v h E) e F = let x = formed_plug g t E e F.2 in (x.0, λ e' F'. (F.0, F.1, x.1 e' F'))
formed_plug g t (reckon_right (less i) w v h E) e F = let x = formed_plug g t E e F.4 in (x.0, λ e' F'. (F.0, F.1, F.2, F.3, x.1 e' F'))

-- Rules by which what is made of groups of the table is one too.
pub record Stays (g : Bytes) (S : Security) : Type 0 where
  pub raise : (k : Property) (m : Indirect) → Secure g k → SecureI g m → Secure g (S.raise k m)
  pub fresh : (k : Property) (w : Reader) → IsTrue (S.permits k w) → Secure g (S.fresh w)
  pub influence : (k : Property) (w : Reader) → Secure g k → IsTrue (S.permits k w) → SecureI g (S.influence k w)
  pub caller : (k : Property) (w : Reader) → k.r < rows g → w < rows g → S.caller k w < rows g

module _ {g t : Bytes} (X : Tables g t) where
  pub properties_stay : Stays g (properties_of g)
  properties_stay =
      let laws = properties_laws X.lattice in
      record { raise = laws.raise_secure; fresh = laws.fresh_secure; influence = laws.influence_secure; caller = λ k w r l. l }

  r_group : (k : Property) → Secure g k → k.r < rows g
  r_group k h = ltb-true _ _ (X.lattice.groups_only _ _ (X.lattice.self_right _ _ (and_left _ _ h)))

  top_secure : (u : Ty) → IsTrue (secure_t (properties_of g) u) → Secure g (top u)
  unfolding secure_t
  top_secure (leaf b k) h = h
  top_secure (node f k s u) h = and_left _ _ h

  module _ {S : Security} (stays : Stays g S) where
    formed_raise : (n : ℕ) (v : Term) (m : Indirect) → SecureI g m → Formed g t n v → Formed g t n (raise_value S v m)
    unfolding Formed raise_value
    formed_raise n (unit k) m l F = stays.raise k m F l
    formed_raise n (lam k i e) m l F = (stays.raise k m F.0 l, F.1, F.2)
    formed_raise n (pair k a b) m l F = (stays.raise k m F.0 l, F.1, F.2)
    formed_raise n (inj d k i e) m l F = (stays.raise k m F.0 l, F.1, F.2, F.3)
    formed_raise n (literal k x) m l F = (stays.raise k m F.0 l, F.1)
    formed_raise n _ m l F = F

    both_secure : (k l : Property) (w : Reader) → Secure g k → Secure g l → IsTrue (S.permits k w) → IsTrue (S.permits l w) → Secure g (of_both S w k l)
    both_secure k l w h h' p p' =
        stays.raise _ _ (stays.raise _ _ (stays.fresh k w p) (stays.influence k w h p)) (stays.influence l w h' p')

    bounded : (m n : ℕ) → min (m + n) number_limit < 65536
    bounded m n = omega arith

    side_secure : (d : Side) (u : Ty) → IsTrue (secure_t (properties_of g) u) → Secure g (top (side d u))
    unfolding secure_t
    side_secure d (leaf b k) h = h
    side_secure first (node f k s u) h = top_secure s (and_left _ _ (and_right ((properties_of g).secure k) _ h))
    side_secure second (node f k s u) h = top_secure u (and_right (secure_t (properties_of g) s) _ (and_right ((properties_of g).secure k) _ h))

    formed_reckoned : (o : Operation) (w : Reader) (k l : Property) (m n : ℕ) → IsTrue (S.permits k w) → IsTrue (S.permits l w)
        → Formed g t 0 (reckon o w (literal k m) (literal l n)) → Formed g t 0 (reckon_result (type_at t) o (of_both S w k l) m n)
    unfolding Formed reckon_result
    formed_reckoned plus w k l m n p q F = (both_secure k l w F.1.0 F.2.0 p q, bounded m n)
    formed_reckoned (less i) w k l m n p q F =
        (both_secure k l w F.3.0 F.4.0 p q, F.1, eqb-true _ _ (and_left _ _ F.2), side_secure (less_side m n) (type_at t i) (X.table.secure i))

    formed_contracts : {e e' : Term} → Contracts S (type_at t) e e' → Formed g t 0 e → Formed g t 0 e'
    unfolding Formed
    formed_contracts (c_app {k = k} {e = e} {v = v} {w = w} x y) F = (stays.influence k w F.1.0 y, formed_subst g t 0 v e F.2 F.1.2)
    formed_contracts (c_proj {d = d} {k = k} {v = v} {v' = v'} {w = w} x y z) F = (stays.influence k w F.1.0 z, formed_choose g t 0 d v v' F.1.1 F.1.2)
    formed_contracts (c_case {d = d} {k = k} {v = v} {a = a} {b = b} {w = w} x y) F =
        (stays.influence k w F.2.0 y, formed_subst g t 0 v (choose d a b) F.2.3 (formed_choose g t 1 d a b F.3 F.4))
    formed_contracts (c_mu {w = w} {i = i} {e = e} {k = k} p) F =
        let own = (table_parts X.table i p).own in
        formed_subst g t 0 (unrolled_function S w i k e) e
        (own, X.next i F.1 F.2, (stays.caller k w (r_group k own) F.0, formed_weaken g t 0 1 (mu w i e) (omega arith) F, omega arith))
        F.3
    formed_contracts (c_protect {m = m} {v = v} x) F = formed_raise 0 v m F.0 F.1
    formed_contracts (c_reckon {o = o} {w = w} {k = k} {l = l} {m = m} {n = n} p q) F = formed_reckoned o w k l m n p q F

    pub formed_step : (e e' : Term) → step S (type_at t) e ≡ moved e' → Formed g t 0 e → Formed g t 0 e'
    formed_step e e' h F =
        let x = step_reduces S (type_at t) e e' h in
        let y = formed_plug g t x.context x.redex (subst (Formed g t 0) x.before F) in
        subst (Formed g t 0) (sym x.after) (y.1 x.contractum (formed_contracts x.contracts y.0))
