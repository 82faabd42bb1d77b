-- In a context of secure types, the typing rules give secure types.
use Rattle.std.proofs.Common.{◌≡◌, List, [], ◌∷◌, ℕ, suc, zero, IsTrue, arith}
use Rattle.std.proofs.Math.Option.{some, some-injective, none-ne-some}
use Rattle.calculus.specs.Security.{Property, Reader, Security, Laws}
use Rattle.calculus.specs.Types.{Leaf, Former, Ty, leaf, node, top, raise_t, secure_t}
use Rattle.calculus.specs.Terms.{Side, choose, Operation, Term}
use Rattle.calculus.specs.Numbers.{Reckons, a_number, a_flag}
use Rattle.calculus.specs.Typing.{lookup, HasType, t_sub, t_var, t_unit, t_lam, t_pair, t_inj, t_app, t_proj, t_case}
use Rattle.calculus.specs.Typing.{t_protect, t_mu, t_literal, t_reckon, Table}
use Rattle.calculus.proofs.Booleans.{both, and_left, and_right}
use Rattle.calculus.proofs.Sides.{choose_each}
use Rattle.calculus.proofs.Numbers.{of_both_secure}
use Rattle.calculus.proofs.Raising.{raise_secure}

pub data SecureContext (S : Security) : List Ty → Type 0 where
  sc_empty : SecureContext S []
  sc_extend : {t : Ty} {Γ : List Ty} → IsTrue (secure_t S t) → SecureContext S Γ → SecureContext S (t ∷ Γ)

lookup_secure : {S : Security} {Γ : List Ty} {t : Ty} (n : ℕ) → SecureContext S Γ → lookup Γ n ≡ some t → IsTrue (secure_t S t)
unfolding lookup
lookup_secure {t = t} n sc_empty h = absurd (none-ne-some t h)
lookup_secure {t = t} zero (sc_extend {t = s} g C) h = rw (some-injective s t h) at g
lookup_secure (suc n) (sc_extend g C) h = lookup_secure n C h

-- the parts of a secure type
pub record SecureParts (S : Security) (k : Property) (s t : Ty) : Type 0 where
  pub own : IsTrue (S.secure k)
  pub left : IsTrue (secure_t S s)
  pub right : IsTrue (secure_t S t)

pub secure_parts : (S : Security) (f : Former) (k : Property) (s t : Ty) → IsTrue (secure_t S (node f k s t)) → SecureParts S k s t
unfolding secure_t
secure_parts S f k s t h =
    let h1 = and_right (S.secure k) _ h in
    record { own = and_left _ _ h; left = and_left _ _ h1; right = and_right (secure_t S s) _ h1 }

pub top_secure : (S : Security) (t : Ty) → IsTrue (secure_t S t) → IsTrue (S.secure (top t))
unfolding secure_t
top_secure S t h = grind arith

pub side_secure : {S : Security} {k : Property} {s t : Ty} (d : Side) → SecureParts S k s t → IsTrue (secure_t S (choose d s t))
side_secure {S} d x = choose_each (λ u. IsTrue (secure_t S u)) d x.left x.right

secure_leaf : (S : Security) (b : Leaf) (k : Property) → IsTrue (S.secure k) → IsTrue (secure_t S (leaf b k))
unfolding secure_t
secure_leaf S b k h = h

secure_node : (S : Security) (f : Former) (k : Property) (s t : Ty) → IsTrue (S.secure k) → IsTrue (secure_t S s) → IsTrue (secure_t S t)
    → IsTrue (secure_t S (node f k s t))
unfolding secure_t
secure_node S f k s t h p q = both h (both p q)

pub table_parts : {S : Security} {tab : ℕ → Ty} {f : Former} {k : Property} {s t : Ty} → Table S tab → (i : ℕ) → tab i ≡ node f k s t
    → SecureParts S k s t
table_parts {S} T i e = secure_parts S _ _ _ _ (rw e at (T.secure i))

module _ {S : Security} {tab : ℕ → Ty} (L : Laws S) (T : Table S tab) where
  -- what a destructor gives of a part of what it reads
  pub read_secure : (k : Property) (w : Reader) (t : Ty) → IsTrue (S.secure k) → IsTrue (S.permits k w) → IsTrue (secure_t S t)
      → IsTrue (secure_t S (raise_t S t (S.influence k w)))
  read_secure k w t h m g = raise_secure L t _ g (L.influence_secure k w h m)

  reckons_secure : {o : Operation} {k : Property} {t : Ty} → IsTrue (S.secure k) → Reckons tab o k t → IsTrue (secure_t S t)
  reckons_secure h a_number = secure_leaf S _ _ h
  reckons_secure h (a_flag {i = i} e) = let x = table_parts T i e in secure_node S _ _ _ _ h x.left x.right

  pub typed_secure : {Γ : List Ty} {e : Term} {t : Ty} → SecureContext S Γ → HasType S tab Γ e t → IsTrue (secure_t S t)
  typed_secure C (t_sub p b h) = h
  typed_secure C (t_var {n = n} h) = lookup_secure n C h
  typed_secure C (t_unit h) = secure_leaf S _ _ h
  typed_secure C (t_lam {i = i} h p f) = secure_node S _ _ _ _ h (T.secure i) (typed_secure (sc_extend (T.secure i) C) p)
  typed_secure C (t_pair h p q f) = secure_node S _ _ _ _ h (typed_secure C p) (typed_secure C q)
  typed_secure C (t_inj {i = i} h e p) = let x = table_parts T i e in secure_node S _ _ _ _ h x.left x.right
  typed_secure C (t_app {w = w} p q m) = let x = secure_parts S _ _ _ _ (typed_secure C p) in read_secure _ w _ x.own m x.right
  typed_secure C (t_proj {d = d} {w = w} p m) = grind (arith, typed_secure C p, secure_parts, read_secure, side_secure)
  typed_secure C (t_case {w = w} p m r q q') =
      let x = secure_parts S _ _ _ _ (typed_secure C p) in read_secure _ w _ x.own m (typed_secure (sc_extend x.left C) q)
  typed_secure C (t_protect h p) = raise_secure L _ _ (typed_secure C p) h
  typed_secure C (t_mu {i = i} e m h p) = T.secure i
  typed_secure C (t_literal h) = secure_leaf S _ _ h
  typed_secure C (t_reckon {w = w} {k = k} {l = l} p m q n x) =
      reckons_secure (of_both_secure L w k l (top_secure S _ (typed_secure C p)) m (top_secure S _ (typed_secure C q)) n) x
