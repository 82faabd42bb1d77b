-- Literals in hand, and the property and the type of what is reckoned.
use Rattle.std.proofs.Common.{◌≡◌, refl, ap, ◌&&◌, ℕ, IsTrue, arith}
use Rattle.std.proofs.Math.Option.{some, some-injective, none-ne-some}
use Rattle.std.proofs.Math.Bool.{false≢true}
use Rattle.calculus.specs.Security.{Property, Reader, Security, Laws}
use Rattle.calculus.specs.Types.{one, number, sum, Ty, leaf, node, parts}
use Rattle.calculus.specs.Terms.{Operation, plus, less, Term, literal}
use Rattle.calculus.specs.Numbers.{Literal, literal_of, of_both, Reckons, a_number, a_flag, is_unit, reckon_type}
use Rattle.calculus.specs.Numbers.{number_property}
use Rattle.calculus.proofs.Booleans.{and_left, and_right}
use Rattle.calculus.proofs.Answers.{bind_some, when_some, parts_some}

pub literal_some : {P : Type 0} (e : Term) {x : Literal} → literal_of e ≡ some x → (e ≡ literal x.own x.value → P) → P
unfolding literal_of
literal_some (literal l n) {x} h k = k (ap (λ (y : Literal). literal y.own y.value) (some-injective _ x h))
literal_some _ {x} h k = absurd (none-ne-some x h)

pub number_some : {P : Type 0} (t : Ty) {k : Property} → number_property t ≡ some k → (t ≡ leaf number k → P) → P
number_some (leaf one l) {k} h f = absurd (none-ne-some k h)
number_some (leaf number l) {k} h f = f (ap (leaf number) (some-injective l k h))
number_some (node g l s t) {k} h f = absurd (none-ne-some k h)

-- The relation and the function.

pub reckons_type : {tab : ℕ → Ty} {o : Operation} {k : Property} {t : Ty} → Reckons tab o k t → reckon_type tab o k ≡ some t
reckons_type n = grind arith

unit_some : {P : Type 0} (t : Ty) → IsTrue (is_unit t) → ((k : Property) → t ≡ leaf one k → P) → P
unit_some (leaf one k) h f = f k refl
unit_some (leaf number k) h f = absurd (false≢true h)
unit_some (node g k s t) h f = absurd (false≢true h)

pub type_reckons : {tab : ℕ → Ty} (o : Operation) {k : Property} {t : Ty} → reckon_type tab o k ≡ some t → Reckons tab o k t
type_reckons plus {k} {t} h = rw (← some-injective (leaf number k) t h) a_number
type_reckons {tab} (less i) {k} h =
    bind_some (parts sum (tab i)) _ h λ p x h1.
    parts_some sum (tab i) x λ e.
    when_some (is_unit p.lhs && is_unit p.rhs) _ h1 λ y z.
    unit_some p.lhs (and_left _ _ y) λ a a_is.
    unit_some p.rhs (and_right (is_unit p.lhs) _ y) λ b b_is.
    rw (← z, a_is, b_is) (a_flag (rw (a_is, b_is) at e))

module _ {S : Security} (L : Laws S) where
  pub of_both_secure : (w : Reader) (k l : Property) → IsTrue (S.secure k) → IsTrue (S.permits k w) → IsTrue (S.secure l) → IsTrue (S.permits l w)
      → IsTrue (S.secure (of_both S w k l))
  of_both_secure w k l h m g n = grind arith

  -- what reckoning gives is lower where its operands are
  pub of_both_mono : (w : Reader) (k l k' l' : Property) → IsTrue (S.le k k') → IsTrue (S.permits k' w) → IsTrue (S.le l l') → IsTrue (S.permits l' w)
      → IsTrue (S.le (of_both S w k l) (of_both S w k' l'))
  of_both_mono w k l k' l' p m q n =
      L.raise_mono _ _ _ _
      (L.raise_mono _ _ _ _ (L.le_refl _ (L.fresh_secure k' w m)) (L.influence_mono k k' w p m)) (L.influence_mono l l' w q n)
