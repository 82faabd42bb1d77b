-- Properties over a lattice of groups obey the calculus's laws.
use Rattle.std.proofs.Common.{Bool, ◌&&◌, IsTrue}
use Rattle.calculus.specs.Security.{Property, Indirect, Laws}
use Rattle.calculus.specs.Groups.{Groups, Lattice, properties}
use Rattle.calculus.proofs.Booleans.{both, and_left, and_right}
use Rattle.calculus.proofs.Lattices.{join_mono, join_comm, meet_mono, meet_comm}

four : {a b c d : Bool} → IsTrue a → IsTrue b → IsTrue c → IsTrue d → IsTrue (a && (b && (c && d)))
four p q r s = both p (both q (both r s))

module _ {G : Groups} (X : Lattice G) where
  -- the four parts of κ ≤ κ'
  le_parts : {P : Type 0} (k l : Property) → IsTrue ((properties G).le k l)
      → (IsTrue (G.leq k.r l.r) → IsTrue (G.leq k.ir l.ir) → IsTrue (G.leq l.c k.c) → IsTrue (G.leq l.ic k.ic) → P) → P
  le_parts k l p f =
      let q = and_right (G.leq k.r l.r) _ p in
      let s = and_right (G.leq k.ir l.ir) _ q in
      f (and_left _ _ p) (and_left _ _ q) (and_left _ _ s) (and_right (G.leq l.c k.c) _ s)

  -- each group of a secure property
  own_groups : {P : Type 0} (k : Property) → IsTrue ((properties G).secure k)
      → (IsTrue (G.leq k.r k.r) → IsTrue (G.leq k.ir k.ir) → IsTrue (G.leq k.c k.c) → IsTrue (G.leq k.ic k.ic) → P) → P
  own_groups k h f =
      let p = and_left _ _ h in
      let q = and_right (G.leq k.ir k.r) _ h in
      f (X.self_right _ _ p) (X.self_left _ _ p) (X.self_right _ _ q) (X.self_left _ _ q)

  r_secure : (k : Property) → IsTrue ((properties G).secure k) → IsTrue (G.leq k.ir k.r)
  r_secure k h = and_left _ _ h

  c_secure : (k : Property) → IsTrue ((properties G).secure k) → IsTrue (G.leq k.ic k.c)
  c_secure k h = and_right (G.leq k.ir k.r) _ h

  ir_group : (m : Indirect) → IsTrue ((properties G).secure_i m) → IsTrue (G.leq m.ir m.ir)
  ir_group m h = X.in_table _ (and_left _ _ h)

  ic_group : (m : Indirect) → IsTrue ((properties G).secure_i m) → IsTrue (G.leq m.ic m.ic)
  ic_group m h = X.in_table _ (and_right (G.group m.ir) _ h)

  pub properties_laws : Laws (properties G)
  properties_laws = record {
    le_refl = λ k h. own_groups k h four;
    le_trans = λ k l m p q.
        le_parts k l p λ a b c d.
        le_parts l m q λ a' b' c' d'.
        four (X.trans _ _ _ a a') (X.trans _ _ _ b b') (X.trans _ _ _ c' c) (X.trans _ _ _ d' d);
    le_antisym = λ k l p q.
        le_parts k l p λ a b c d.
        le_parts l k q λ a' b' c' d'.
        λ i. record { r = X.antisym _ _ a a' i; ir = X.antisym _ _ b b' i; c = X.antisym _ _ c' c i; ic = X.antisym _ _ d' d i };
    join_left = λ k l h g.
        own_groups k h λ a b c d.
        own_groups l g λ a' b' c' d'.
        four (X.upper_left _ _ a a') (X.upper_left _ _ b b') (X.lower_left _ _ c c') (X.lower_left _ _ d d');
    join_right = λ k l h g.
        own_groups k h λ a b c d.
        own_groups l g λ a' b' c' d'.
        four (X.upper_right _ _ a a') (X.upper_right _ _ b b') (X.lower_right _ _ c c') (X.lower_right _ _ d d');
    join_least = λ k l m p q.
        le_parts k m p λ a b c d.
        le_parts l m q λ a' b' c' d'.
        four (X.least _ _ _ a a') (X.least _ _ _ b b') (X.greatest _ _ _ c c') (X.greatest _ _ _ d d');
    join_secure = λ k l h g. both (join_mono X _ _ _ _ (r_secure k h) (r_secure l g)) (meet_mono X _ _ _ _ (c_secure k h) (c_secure l g));
    meet_left = λ k l h g.
        own_groups k h λ a b c d.
        own_groups l g λ a' b' c' d'.
        four (X.lower_left _ _ a a') (X.lower_left _ _ b b') (X.upper_left _ _ c c') (X.upper_left _ _ d d');
    meet_right = λ k l h g.
        own_groups k h λ a b c d.
        own_groups l g λ a' b' c' d'.
        four (X.lower_right _ _ a a') (X.lower_right _ _ b b') (X.upper_right _ _ c c') (X.upper_right _ _ d d');
    meet_greatest = λ k l m p q.
        le_parts m k p λ a b c d.
        le_parts m l q λ a' b' c' d'.
        four (X.greatest _ _ _ a a') (X.greatest _ _ _ b b') (X.least _ _ _ c c') (X.least _ _ _ d d');
    meet_secure = λ k l h g. both (meet_mono X _ _ _ _ (r_secure k h) (r_secure l g)) (join_mono X _ _ _ _ (c_secure k h) (c_secure l g));
    le_i_refl = λ m h. both (ir_group m h) (ic_group m h);
    raise_mono = λ k l m n p q.
        let x = and_left _ _ q in
        let y = and_right (G.leq m.ir n.ir) _ q in
        le_parts k l p λ a b c d.
        four (join_mono X _ _ _ _ a x) (join_mono X _ _ _ _ b x) (meet_mono X _ _ _ _ c y) (meet_mono X _ _ _ _ d y);
    raise_secure = λ k m h g. both (join_mono X _ _ _ _ (r_secure k h) (ir_group m g)) (meet_mono X _ _ _ _ (c_secure k h) (ic_group m g));
    raise_comm = λ k m n h x y.
        own_groups k h λ a b c d.
        λ i. record {
          r = join_comm X k.r m.ir n.ir a (ir_group m x) (ir_group n y) i;
          ir = join_comm X k.ir m.ir n.ir b (ir_group m x) (ir_group n y) i;
          c = meet_comm X k.c m.ic n.ic c (ic_group m x) (ic_group n y) i;
          ic = meet_comm X k.ic m.ic n.ic d (ic_group m x) (ic_group n y) i;
        };
    fresh_secure = λ k w m.
        let g = X.self_right _ _ m in
        both (X.self_left _ _ (X.bottom _ g)) g;
    permits_mono = λ k l w p q. le_parts k l p λ a b c d. X.trans _ _ _ a q;
    influence_mono = λ k l w p q. le_parts k l p λ a b c d. both b (meet_mono X _ _ _ _ d (X.self_right _ _ q));
    influence_secure = λ k w h q.
        own_groups k h λ a b c d.
        both (X.groups_only _ _ b) (X.groups_only _ _ (X.lower_left _ _ d (X.self_right _ _ q)));
    absorption = λ k l w h g m x.
        let y = and_left _ _ x in
        let z = and_right (G.leq k.ir l.ir) _ x in
        own_groups l g λ a b c d.
        four (X.least _ _ _ a (X.trans _ _ _ y (r_secure l g))) (X.least _ _ _ b y) (X.greatest _ _ _ c z)
        (X.greatest _ _ _ d (X.trans _ _ _ (c_secure l g) z));
  }
