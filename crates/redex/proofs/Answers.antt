-- The answers that are read off records: whether a type is a function, and the fate of a node.
use Rattle.std.proofs.Common.{◌≡◌, refl, sym, ap, ap₂, subst, ◌∙◌, Bool, cond, ◌∷◌, ℕ, zero, suc, ◌+◌, ◌*◌, ◌≤◌, ◌<◌}
use Rattle.std.proofs.Common.{arith, nat_eq, nat_lt, ◌&&◌, length, get_or, drop, length-drop, get_or-drop, ne_eqb}
use Rattle.std.proofs.Common.{lt-ltb, le-ltb, IsTrue}
use Rattle.std.proofs.lemmas.Bool.{false≢true}
use Rattle.std.proofs.Math.Decide.{dec_lt}
use Rattle.calculus.specs.Security.{Property, Security}
use Rattle.calculus.specs.Types.{Ty, top}
use Rattle.calculus.specs.Terms.{Term}
use Rattle.rules.specs.Answer.{Bytes, byte}
use Rattle.rules.specs.Limits.{type_width}
use Rattle.rules.specs.Groups.{leq, properties_of}
use Rattle.rules.specs.Types.{type_count, type_kind, type_at, parse_types, make_type, no_type}
use Rattle.rules.specs.Script.{kind, r, number}
use Rattle.records.specs.Kinds as kinds
use Rattle.records.specs.Place.{At, Here}
use Rattle.records.proofs.Stands.{kind_of, stands_kind, at_first, here}
use Rattle.rules.proofs.TypePlaces.{type_at_outside}
use Rattle.types.specs.Held.{type_property}
use Rattle.redex.specs.Fates.{reduces, no_rule, is_function, reading_fate, fate}
use Rattle.records.specs.Operands.{first_operand, second_operand}
use Rattle.redex.specs.Found.{answer, is_destructor, is_reckoning, ReckonAt, takes_apart}
use Rattle.records.proofs.Made.{number_at}
use Rattle.redex.proofs.Places.{reader_at}
use Rattle.redex.proofs.Forms.{recursion_fate, destructor_operand, reading_is, reckoning_is}

-- a type is a function by its first byte
made_function : (k : ℕ) (p : Property) (s t : Ty) → nat_eq k 3 ≡ is_function (make_type k p s t)
made_function (suc (suc (suc (suc (suc k))))) p s t = ne_eqb (suc (suc (suc (suc (suc k))))) 3 (λ e. omega arith)
made_function _ p s t = refl

first_function : (b : Bytes) → type_width ≤ length b → nat_eq (byte b 0) 3 ≡ is_function (get_or (parse_types b) 0 no_type)
unfolding parse_types
first_function (k ∷ r ∷ ir ∷ z ∷ c ∷ ic ∷ b) l = made_function k _ _ _
first_function _ l = absurd (omega arith)

function_at : (t : Bytes) (i : ℕ) → i < type_count t → nat_eq (type_kind t i) 3 ≡ is_function (type_at t i)
unfolding type_at
function_at t i l =
    let z : type_width * i + 0 ≡ type_width * i = omega arith in
    ap (λ n. nat_eq (byte t n) 3) (sym z) ∙ ap (λ n. nat_eq n 3) (sym (get_or-drop (type_width * i) t 0 0))
    ∙ first_function (drop (type_width * i) t) (omega (arith, length-drop (type_width * i) t))

-- as the code asks it: of any index
pub function_of_kind : (t : Bytes) (i : ℕ) → (nat_lt i (type_count t) && nat_eq (type_kind t i) 3) ≡ is_function (type_at t i)
function_of_kind t i = by (dec_lt i (type_count t))
  where
    by : Dec (i < type_count t) → (nat_lt i (type_count t) && nat_eq (type_kind t i) 3) ≡ is_function (type_at t i)
    by (yes l) = ap (λ b. b && nat_eq (type_kind t i) 3) (lt-ltb i (type_count t) l) ∙ function_at t i l
    by (no n) =
        ap (λ b. b && nat_eq (type_kind t i) 3) (le-ltb i (type_count t) (omega arith))
        ∙ sym (ap is_function (type_at_outside t i (omega arith)))

-- A function type is in the table, and its first record has its groups.
pub function_inside : (t : Bytes) (i : ℕ) → IsTrue (is_function (type_at t i)) → i < type_count t
function_inside t i h = by (dec_lt i (type_count t))
  where
    by : Dec (i < type_count t) → i < type_count t
    by (yes l) = l
    by (no n) = absurd (false≢true (sym (ap is_function (type_at_outside t i (omega arith))) ∙ h))

made_top : (k : ℕ) (p : Property) (s t : Ty) → IsTrue (is_function (make_type k p s t)) → top (make_type k p s t) ≡ p
made_top (suc (suc (suc zero))) p s t h = refl
made_top (suc (suc (suc (suc zero)))) p s t h = absurd (false≢true h)
made_top _ p s t h = absurd (false≢true h)

first_top : (b : Bytes) → IsTrue (is_function (get_or (parse_types b) 0 no_type))
    → top (get_or (parse_types b) 0 no_type) ≡ type_property b 0
unfolding parse_types
first_top (k ∷ r ∷ ir ∷ z ∷ c ∷ ic ∷ b) h = made_top k _ _ _ h
first_top _ h = absurd (false≢true h)

pub function_top : (t : Bytes) (i : ℕ) → IsTrue (is_function (type_at t i)) → top (type_at t i) ≡ type_property t i
unfolding type_at
function_top t i h =
    let b = drop (type_width * i) t in
    let past : (n : ℕ) → byte b n ≡ byte t (type_width * i + n) = λ n. get_or-drop (type_width * i) t n 0 in
    first_top b h ∙ (λ j. record { r = past 1 j; ir = past 2 j; c = past 4 j; ic = past 5 j })

-- what a destructor reads stands after it
pub operand_here : {s : Bytes} {i : ℕ} → Here s i → IsTrue (is_destructor (kind s i)) → Here s (i + 1)
operand_here {s} {i} q h =
    let d : IsTrue (is_destructor (kind_of q.tree)) = subst (λ n. IsTrue (is_destructor n)) (stands_kind s i q.tree q.at) h in
    here (at_first s i q.tree q.at (destructor_operand q.tree d))

module _ {s : Bytes} {i : ℕ} {e : Term} (a : At s i e) where
  -- of a recursion, by the kind of the type that it names
  pub recursion_answer : (S : Security) (t : Bytes) (n d : ℕ) (b : Bool) → kind s i ≡ kinds.recursion → n ≡ number s i → is_function (type_at t n) ≡ b
      → answer (cond b reduces no_rule) i d ≡ answer (fate S (type_at t) e) i d
  recursion_answer S t n d b h p q =
      ap (λ x. answer x i d)
      (ap (λ x. cond x reduces no_rule) (sym q) ∙ ap (λ m. cond (is_function (type_at t m)) reduces no_rule) (p ∙ number_at a)
      ∙ sym (recursion_fate S (type_at t) e (sym (stands_kind s i e a) ∙ h)))

  -- of a destructor, by its own record and that of the operand after it
  pub reading_answer : (g : Bytes) (tab : ℕ → Ty) (d : ℕ) (fits may : Bool) → IsTrue (is_destructor (kind s i))
      → takes_apart (kind s i) (kind s (i + 1)) ≡ fits → leq g (r s (i + 1)) (r s i) ≡ may
      → answer (reading_fate fits may) i d ≡ answer (fate (properties_of g) tab e) i d
  reading_answer g tab d fits may h p q =
      let k = stands_kind s i e a in
      let x : IsTrue (is_destructor (kind_of e)) = subst (λ n. IsTrue (is_destructor n)) k h in
      let z = reading_is (properties_of g) tab e x in
      let o = at_first s i e a (destructor_operand e x) in
      ap (λ x. answer x i d)
      (ap₂ reading_fate (sym p) (sym q)
      ∙ ap₂ reading_fate (ap₂ takes_apart k (stands_kind s (i + 1) (first_operand e) o)) (ap₂ (leq g) (reader_at o) (reader_at a))
      ∙ sym z)

  -- of a sum or a comparison, by its own record and those of its two operands
  pub reckoning_answer : (g : Bytes) (tab : ℕ → Ty) (j d : ℕ) (fits may : Bool) → ReckonAt s i j e
      → (nat_eq (kind s (i + 1)) kinds.literal && nat_eq (kind s j) kinds.literal) ≡ fits → (leq g (r s (i + 1)) (r s i) && leq g (r s j) (r s i)) ≡ may
      → answer (reading_fate fits may) i d ≡ answer (fate (properties_of g) tab e) i d
  reckoning_answer g tab j d fits may q p m =
      let x : IsTrue (is_reckoning (kind_of e)) = subst (λ n. IsTrue (is_reckoning n)) (stands_kind s i e a) q.reckons in
      rw (
        ← p,
        ← m,
        reckoning_is (properties_of g) tab e x,
        stands_kind s (i + 1) (first_operand e) q.left,
        stands_kind s j (second_operand e) q.right,
        reader_at q.left,
        reader_at q.right,
        reader_at a,
      )
