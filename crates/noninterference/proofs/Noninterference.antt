-- Nothing is learned from what you may not see, nor from what others made than those whom you trust.
use Rattle.std.proofs.Common.{◌≡◌, refl, sym, ap, Bool, ◌&&◌, not, [], ℕ, arith, false, IsTrue}
use Rattle.std.proofs.Math.Bool.{false≢true}
use Rattle.calculus.specs.Security.{Property, Security, Laws}
use Rattle.calculus.specs.Groups.{Groups, Lattice, properties}
use Rattle.calculus.specs.Types.{Leaf, sum, product, function, Ty, leaf, node, top}
use Rattle.calculus.specs.Subtyping.{below}
use Rattle.calculus.specs.Terms.{Term, is_value}
use Rattle.calculus.specs.Typing.{Table}
use Rattle.noninterference.specs.Places.{Place, put, shown_records, plain}
use Rattle.noninterference.specs.Noninterference.{Exchanged, EndsInValue, NothingLearned, OneValue, OneMade}
use Rattle.calculus.proofs.Booleans.{and_left, and_right}
use Rattle.calculus.proofs.Sides.{choose_each, choose_both}
use Rattle.calculus.proofs.Directed.{Directed, d_node, directed_formed}
use Rattle.calculus.proofs.Inference.{infer_inferred}
use Rattle.calculus.proofs.SecureTyping.{sc_empty, SecureParts, secure_parts, side_secure, typed_secure}
use Rattle.calculus.proofs.Completeness.{n_empty, typed_inferred}
use Rattle.calculus.proofs.Properties.{properties_laws}
use Rattle.noninterference.proofs.Related.{Related}
use Rattle.noninterference.proofs.Observing.{Sight, Alike, a_unit, a_literal, a_lam, a_pair, a_inj, related_secure}
use Rattle.noninterference.proofs.Observing.{observed}
use Rattle.noninterference.proofs.Reading.{lifted}
use Rattle.noninterference.proofs.PlacedTerms.{place_related}
use Rattle.noninterference.proofs.Indistinguishable.{related_ends}

node_plain : (f : Property → Bool) (l : Property) (s t : Ty) → IsTrue (f l && (plain f s && plain f t)) → IsTrue (f l) × IsTrue (plain f s) × IsTrue (plain f t)
node_plain f l s t g = grind (arith, g)

-- What is seen of a value of a type that an observer reads whole: all of it.
module _ {S : Security} {tab : ℕ → Ty} (L : Laws S) (T : Table S tab) {seen : Property → Bool} (O : Sight S seen) where
  -- two related values of this type are one
  abbrev One : Ty → Type 0
  One t = (v v' : Term) → Related S tab seen [] v v' t → IsTrue (is_value v) → v ≡ v'

  one_leaf : (b : Leaf) {v v' : Term} {k : Property} → Alike S tab seen v v' (leaf b k) → v ≡ v'
  one_leaf b (a_unit h u) = refl
  one_leaf b (a_literal h u) = refl
  one_leaf b (a_lam h p f u) = absurd (false≢true (sym (directed_formed function u)))
  one_leaf b (a_pair h p q f u) = absurd (false≢true (sym (directed_formed product u)))
  one_leaf b (a_inj h e p u) = absurd (false≢true (sym (directed_formed sum u)))

  one_pair : {v v' : Term} {k : Property} {s t : Ty} → Alike S tab seen v v' (node product k s t) → SecureParts S k s t → IsTrue (is_value v)
      → One s → One t → v ≡ v'
  unfolding is_value
  one_pair (a_unit h u) y x f g = absurd (false≢true (directed_formed product u))
  one_pair (a_literal h u) y x f g = absurd (false≢true (directed_formed product u))
  one_pair (a_lam h p o u) y x f g = absurd (false≢true (directed_formed product u))
  one_pair (a_pair {a = a} h p q o (d_node z m n)) y x f g =
      rw (f _ _ (lifted L T p m y.left) (and_left _ _ x), g _ _ (lifted L T q n y.right) (and_right (is_value a) _ x))
  one_pair (a_inj h e p u) y x f g = absurd (false≢true (directed_formed product u))

  one_injection : {v v' : Term} {k : Property} {s t : Ty} → Alike S tab seen v v' (node sum k s t) → SecureParts S k s t → IsTrue (is_value v)
      → One s → One t → v ≡ v'
  unfolding is_value
  one_injection (a_unit h u) y x f g = absurd (false≢true (directed_formed sum u))
  one_injection (a_literal h u) y x f g = absurd (false≢true (directed_formed sum u))
  one_injection (a_lam h p o u) y x f g = absurd (false≢true (directed_formed sum u))
  one_injection (a_pair h p q o u) y x f g = absurd (false≢true (directed_formed sum u))
  one_injection (a_inj {d = d} h e p (d_node z m n)) y x f g =
      rw (choose_each One d f g _ _ (lifted L T p (choose_both (Directed S below) d m n) (side_secure d y)) x)

  -- what passes the test is seen
  whole : {f : Property → Bool} → ((l : Property) → IsTrue (f l) → IsTrue (seen l)) → (t : Ty) → IsTrue (plain f t) → One t
  unfolding plain
  whole i (leaf b l) g v v' r x = one_leaf b (observed L T O r x (i l g))
  whole i (node function l s t) g v v' r x = absurd (false≢true g)
  whole {f} i (node sum l s t) g v v' r x =
      let y = node_plain f l s t g in
      one_injection (observed L T O r x (i l y.0)) (secure_parts _ _ _ _ _ (related_secure L T O r)) x (whole i s y.1) (whole i t y.2)
  whole {f} i (node product l s t) g v v' r x =
      let y = node_plain f l s t g in
      one_pair (observed L T O r x (i l y.0)) (secure_parts _ _ _ _ _ (related_secure L T O r)) x (whole i s y.1) (whole i t y.2)

-- A part that isn't seen may be exchanged.
one_end : {G : Groups} {tab : ℕ → Ty} {seen f : Property → Bool} {P : Place} {a b v v' : Term} {s t : Ty} → Lattice G → Table (properties G) tab
    → Sight (properties G) seen → ((l : Property) → IsTrue (f l) → IsTrue (seen l)) → Exchanged G tab P a b s t → IsTrue (plain f t) → seen (top s) ≡ false
    → EndsInValue (properties G) tab (put P a) v → EndsInValue (properties G) tab (put P b) v' → v ≡ v'
one_end {seen = seen} {P = P} {a = a} {b = b} {v = v} {v' = v'} {s = s} {t = t} X T O i h g u x x' =
    let L = properties_laws X in
    let l = typed_inferred L T h.first_typed n_empty in
    let p = infer_inferred a s h.first_reported in
    let q = infer_inferred b s h.second_reported in
    let r = lifted L T (place_related L T {seen = seen} p q (ap not u) P sc_empty l.inferred) l.below (typed_secure L T sc_empty h.first_typed) in
    whole L T O i t g v v' (related_ends L T O _ _ v v' t _ _ r x.runs x.ended x'.runs x'.ended) x.ended

-- Over groups: what an observer with the indirect readers of κ sees. Creators play no part in it.
abbrev pub seen_by : Groups → Property → Property → Bool
seen_by G k l = G.leq l.ir k.ir

module _ {G : Groups} (X : Lattice G) (k : Property) where
  ir_below : (l m : Property) → IsTrue ((properties G).le l m) → IsTrue (G.leq l.ir m.ir)
  ir_below l m p = and_left _ _ (and_right (G.leq l.r m.r) _ p)

  ir_secure : (l : Property) → IsTrue ((properties G).secure l) → IsTrue (G.leq l.ir l.ir)
  ir_secure l h = X.self_left _ _ (and_left (G.leq l.ir l.r) _ h)

  pub by_ir : Sight (properties G) (seen_by G k)
  by_ir = record {
    down = λ l m p x. X.trans _ _ _ (ir_below l m p) x;
    of_raised = λ l m h g x. X.trans _ _ _ (X.upper_left _ _ (ir_secure l h) (X.in_table _ (and_left (G.group m.ir) _ g))) x;
    of_read = λ l m w h g n x. X.trans _ _ _ (X.upper_right _ _ (ir_secure l h) (ir_secure m g)) x;
  }

-- and what is made by h and those above it
abbrev pub made_by : Groups → ℕ → Property → Bool
made_by G h l = G.leq h l.ic

module _ {G : Groups} (X : Lattice G) (h : ℕ) where
  ic_group : (l : Property) → IsTrue ((properties G).secure l) → IsTrue (G.leq l.ic l.ic)
  ic_group l p = X.self_left _ _ (and_right (G.leq l.ir l.r) _ p)

  by_ic : Sight (properties G) (made_by G h)
  by_ic = record {
    down = λ l m p x. X.trans _ _ _ x (and_right (G.leq m.c l.c) _ (and_right (G.leq l.ir m.ir) _ (and_right (G.leq l.r m.r) _ p)));
    of_raised = λ l m p g x. X.trans _ _ _ x (X.lower_left _ _ (ic_group l p) (X.in_table _ (and_right (G.group m.ir) _ g)));
    of_read = λ l m w p g n x.
        let w_group = X.self_right _ _ n in
        let inner = X.lower_left _ _ (ic_group m g) w_group in
        X.trans _ _ _ x (X.trans _ _ _ (X.lower_right _ _ (ic_group l p) (X.self_left _ _ inner)) inner);
  }

pub one_value : OneValue
unfolding OneValue
one_value G tab P a b v v' s t X T h = one_end X T (by_ir X (top t)) (λ l g. and_left _ _ g) h.exchanged h.read_whole h.not_seen

pub nothing_learned : NothingLearned
unfolding NothingLearned OneValue
nothing_learned G tab P a b v v' s t X T h x x' = ap shown_records (one_value G tab P a b v v' s t X T h x x')

pub one_made : OneMade
unfolding OneMade
one_made G tab P a b v v' s t X T h = one_end X T (by_ic X (top t).ic) (λ l g. g) h.exchanged h.made_whole h.not_made
