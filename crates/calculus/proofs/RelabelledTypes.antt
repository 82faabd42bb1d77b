-- Relabelling goes with typing and with a step where every operation goes with the labels and every test answers as
-- before.
use Rattle.std.proofs.Common.{◌≡◌, refl, sym, ◌∙◌, Bool, true, false, ℕ, arith}
use Rattle.std.proofs.Math.Option.{none, some, Option}
use Rattle.calculus.specs.Security.{Property, Reader, Indirect, Security}
use Rattle.calculus.specs.Types.{Leaf, Former, Ty, leaf, node, top, same_leaf, equal_formers, raise_t, size_t, when}
use Rattle.calculus.specs.Types.{◌>>=◌}
use Rattle.calculus.specs.Subtyping.{Direction, below, above, leftward, le_toward, subtype}
use Rattle.calculus.specs.Common.{nearest_property, nearest_type}
use Rattle.calculus.specs.Terms.{Term}
use Rattle.calculus.specs.Numbers.{of_both}
use Rattle.calculus.specs.Reduction.{step}
use Rattle.calculus.specs.Relabelling.{Labels, relabel_t, relabel}
use Rattle.calculus.proofs.Relabelling.{Keeps, relabel_denied, relabel_step}
use Rattle.calculus.proofs.Erased.{public}
use Rattle.calculus.proofs.RelabelledOutcomes.{relabel_o}

-- What the operations of S do to labels, those of S' do to the new ones, and S' answers of the new ones what S answers.
pub record Agrees (R : Labels) (S S' : Security) (tab : ℕ → Ty) : Type 0 where
  pub le : (k l : Property) → S'.le (R.property k) (R.property l) ≡ S.le k l
  pub permits : (k : Property) (w : Reader) → S'.permits (R.property k) (R.reader w) ≡ S.permits k w
  pub absorbs : (k : Property) (w : Reader) (l : Property) → S'.absorbs (R.property k) (R.reader w) (R.property l) ≡ S.absorbs k w l
  pub join : (k l : Property) → R.property (S.join k l) ≡ S'.join (R.property k) (R.property l)
  pub meet : (k l : Property) → R.property (S.meet k l) ≡ S'.meet (R.property k) (R.property l)
  pub raise : (k : Property) (m : Indirect) → R.property (S.raise k m) ≡ S'.raise (R.property k) (R.indirect m)
  pub influence : (k : Property) (w : Reader) → R.indirect (S.influence k w) ≡ S'.influence (R.property k) (R.reader w)
  pub reckoning : (w : Reader) (k l : Property) → R.property (of_both S w k l) ≡ of_both S' (R.reader w) (R.property k) (R.property l)
  pub caller : (i : ℕ) (w : Reader) → R.reader (S.caller (top (tab i)) w) ≡ S'.caller (R.property (top (tab i))) (R.recursion i w)
  pub nothing : R.property public ≡ public

pub relabel_size_t : (R : Labels) (t : Ty) → size_t (relabel_t R t) ≡ size_t t
unfolding size_t relabel_t
relabel_size_t R (leaf b k) = refl
relabel_size_t R (node f k s t) = rw (relabel_size_t R s, relabel_size_t R t)

-- the relabelled type, if there is one
abbrev pub relabel_found : Labels → Option Ty → Option Ty
relabel_found R none = none
relabel_found R (some t) = some (relabel_t R t)

leaf_found : (R : Labels) (b : Leaf) (x : Bool) (k : Property) → when x (leaf b (R.property k)) ≡ relabel_found R (when x (leaf b k))
unfolding relabel_t
leaf_found R b x k = grind arith

both_found : (R : Labels) (f : Former) (b : Bool) (k : Property) (x y : Option Ty)
    → ◌>>=◌ (relabel_found R x) (λ s. ◌>>=◌ (relabel_found R y) (λ t. when b (node f (R.property k) s t)))
    ≡ relabel_found R (◌>>=◌ x (λ s. ◌>>=◌ y (λ t. when b (node f k s t))))
unfolding relabel_t
both_found R f b k x y = grind arith

module _ {R : Labels} {S S' : Security} {tab : ℕ → Ty} (agrees : Agrees R S S' tab) where
  relabel_le : (d : Direction) (k l : Property) → le_toward S' d (R.property k) (R.property l) ≡ le_toward S d k l
  relabel_le d k l = grind arith

  pub relabel_subtype : (d : Direction) (s t : Ty) → subtype S' d (relabel_t R s) (relabel_t R t) ≡ subtype S d s t
  unfolding subtype relabel_t
  relabel_subtype d (leaf b k) (leaf b' l) = rw (relabel_le d k l)
  relabel_subtype d (leaf b k) (node f l s t) = refl
  relabel_subtype d (node f k s t) (leaf b l) = refl
  relabel_subtype d (node f k s t) (node g l s' t') = rw (relabel_le d k l, relabel_subtype (leftward f d) s s', relabel_subtype d t t')

  pub relabel_raise_t : (t : Ty) (m : Indirect) → raise_t S' (relabel_t R t) (R.indirect m) ≡ relabel_t R (raise_t S t m)
  unfolding relabel_t
  relabel_raise_t t m = grind arith

  relabel_bound : (d : Direction) (k l : Property) → nearest_property S' d (R.property k) (R.property l) ≡ R.property (nearest_property S d k l)
  relabel_bound d k l = grind arith

  pub relabel_common : (d : Direction) (s t : Ty) → nearest_type S' d (relabel_t R s) (relabel_t R t) ≡ relabel_found R (nearest_type S d s t)
  unfolding nearest_type relabel_t
  relabel_common d (leaf b k) (leaf b' l) = rw (relabel_bound d k l) (leaf_found R b (same_leaf b b') (nearest_property S d k l))
  relabel_common d (leaf b k) (node f l s t) = refl
  relabel_common d (node f k s t) (leaf b l) = refl
  relabel_common d (node f k s t) (node g l s' t') =
      rw (relabel_bound d k l, relabel_common (leftward f d) s s', relabel_common d t t')
      (both_found R f (equal_formers f g) (nearest_property S d k l) (nearest_type S (leftward f d) s s') (nearest_type S d t t'))

  -- whatever the step's end
  pub agreed_step : (tab' : ℕ → Ty) → ((i : ℕ) → tab' i ≡ relabel_t R (tab i)) → (e : Term) → step S' tab' (relabel R e) ≡ relabel_o R (step S tab e)
  agreed_step tab' relabelled e = grind (arith, relabel_step, relabel_denied)
