-- What an answer says of the questions before it, in continuation form: what is found is then a variable.
use Rattle.std.proofs.Common.{◌≡◌, refl, ap, Bool, true, false, IsTrue}
use Rattle.std.proofs.Math.Option.{none, some, some-injective, none-ne-some, Option}
use Rattle.calculus.specs.Types.{Former, Ty, leaf, node, equal_formers, when, ◌>>=◌, Parts, parts}
use Rattle.calculus.proofs.Directed.{same_eq}

pub when_holds : {A : Type 0} {c : Bool} (a : A) → IsTrue c → when c a ≡ some a
when_holds a h = rw h

pub bind_some : {A B P : Type 0} (m : Option A) (f : A → Option B) {b : B} → ◌>>=◌ m f ≡ some b → ((a : A) → m ≡ some a → f a ≡ some b → P) → P
bind_some none f {b} h k = absurd (none-ne-some b h)
bind_some (some a) f h k = k a refl h

pub when_some : {A P : Type 0} (c : Bool) (a : A) {b : A} → when c a ≡ some b → (IsTrue c → a ≡ b → P) → P
when_some true a {b} h k = k refl (some-injective a b h)
when_some false a {b} h k = absurd (none-ne-some b h)

pub parts_some : {P : Type 0} (f : Former) (t : Ty) {p : Parts} → parts f t ≡ some p → (t ≡ node f p.own p.lhs p.rhs → P) → P
parts_some f (leaf b k) {p} h κ = absurd (none-ne-some p h)
parts_some f (node g k s t) h κ =
    when_some (equal_formers f g) _ h λ x e.
    κ (rw (← same_eq f g x) (ap (λ (q : Parts). node f q.own q.lhs q.rhs) e))
