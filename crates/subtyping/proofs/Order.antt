-- The order on types as a walk sees it: the first records, the left sides, the right sides. Once for both directions.
use Rattle.std.proofs.Common.{◌≡◌, ℕ, ◌+◌, ◌*◌, ◌≤◌, ◌<◌, Bool, true, false, cond, ◌&&◌, Option, Some, None, nat_eq}
use Rattle.std.proofs.Common.{length, refl, ap, ap₂, sym, ◌∙◌, arith, eqb-true, eq-eqb, ne_eqb, true≢false}
use Rattle.std.proofs.Math.Bool.{and-eq-true_iff}
use Rattle.calculus.specs.Security.{Security}
use Rattle.calculus.specs.Types.{one, number, sum, product, function, Ty, leaf, node, top, size_t}
use Rattle.calculus.specs.Subtyping.{Direction, below, above, opposite, leftward, le_toward, subtype}
use Rattle.calculus.proofs.Subtyping.{subtype_sound, subtype_opposite, subtype_size}
use Rattle.rules.specs.Answer.{Bytes}
use Rattle.rules.specs.Limits.{type_width}
use Rattle.rules.specs.Types.{former_kind, leaf_kind, sides}
use Rattle.rules.specs.Comparison.{equal_properties, equal_types}
use Rattle.subtyping.specs.declared.Related.{Related}
use Rattle.types.specs.declared.Kind.{Kind}
use Rattle.types.specs.declared.Kind.TheVariants.{Function}
use Rattle.types.specs.Kinds.{type_kind_number}
use Rattle.types.specs.Held.{Held, Starts, TwoSided, LeftSize, kind_of_type, left_of, right_of}
use Rattle.subtyping.specs.Compared.{relation_of}
use Rattle.types.proofs.Formers.{former_not_leaf, same_leaves, same_former}
use Rattle.types.proofs.Numbered.{same_kind, eqb_comm}
use Rattle.types.proofs.Parts.{held_length, two_of, sideless}

-- the direction of the left sides
abbrev pub turned : Ty → Direction → Direction
turned (leaf b k) d = d
turned (node f k s t) d = leftward f d

-- it turns round at a function, and nowhere else
pub turned_round : (d : Direction) {k : Kind} → k ≡ Function → (s : Ty) → type_kind_number k ≡ kind_of_type s → opposite d ≡ turned s d
turned_round d f (leaf one k) e = absurd (omega (arith, ap type_kind_number f))
turned_round d f (node function k s t) e = refl
turned_round d f _ e = absurd (omega (arith, ap type_kind_number f))

pub straight_on : (d : Direction) {k : Kind} → (k ≡ Function → ⊥) → (s : Ty) → type_kind_number k ≡ kind_of_type s → d ≡ turned s d
straight_on d n (leaf b k) e = refl
straight_on d n (node sum k s t) e = refl
straight_on d n (node product k s t) e = refl
straight_on d {k} n (node function l s t) e = absurd (n (same_kind k Function e))

abbrev pub walked : Bool → ℕ → Option Related
walked b n = Some (record { same = b; records = n })

-- the first records', which are the same or not, and both sides' answers as one
abbrev pub both : Bool → Option Related → Option Related → Option Related
both b (Some p) (Some q) = walked (b && (p.same && q.same)) (1 + (p.records + q.records))
both b (Some p) None = None
both b None x = None

module _ (S : Security) where
  -- what is left once the first records are compared
  sides_below : Direction → Ty → Ty → Bool
  sides_below d (leaf b k) t = true
  sides_below d (node f k s s') t = subtype S (leftward f d) s (left_of t) && subtype S d s' (right_of t)

  sides_equal : Ty → Ty → Bool
  sides_equal (leaf b k) t = true
  sides_equal (node f k s s') t = equal_types s (left_of t) && equal_types s' (right_of t)

  abbrev pub firsts : Direction → Ty → Ty → Bool
  firsts d s t = nat_eq (kind_of_type s) (kind_of_type t) && le_toward S d (top s) (top t)

  -- at or above is at or below of the two exchanged
  pub firsts_above : (s t : Ty) → firsts above s t ≡ firsts below t s
  firsts_above s t = ap (λ b. b && S.le (top t) (top s)) (eqb_comm (kind_of_type s) (kind_of_type t))

  and_assoc : (a b c : Bool) → a && (b && c) ≡ (a && b) && c
  and_assoc true b c = refl
  and_assoc false b c = refl

  and_true : (a : Bool) → a ≡ a && true
  and_true true = refl
  and_true false = refl

  subtype_is : (d : Direction) (s t : Ty) → subtype S d s t ≡ firsts d s t && sides_below d s t
  unfolding subtype sides_below
  subtype_is d (leaf b k) (leaf b' l) = ap (λ c. c && le_toward S d k l) (same_leaves b b') ∙ and_true (nat_eq (leaf_kind b) (leaf_kind b') && le_toward S d k l)
  subtype_is d (leaf b k) (node g l t t') = rw (ne_eqb _ _ (λ z. former_not_leaf g b (sym z)))
  subtype_is d (node f k s s') (leaf b' l) = rw (ne_eqb _ _ (former_not_leaf f b'))
  subtype_is d (node f k s s') (node g l t t') =
      ap (λ b. b && (le_toward S d k l && (subtype S (leftward f d) s t && subtype S d s' t'))) (same_former f g)
      ∙ and_assoc (nat_eq (former_kind f) (former_kind g)) (le_toward S d k l) _

  equal_is : (s t : Ty) → equal_types s t ≡ nat_eq (kind_of_type s) (kind_of_type t) && (equal_properties (top s) (top t) && sides_equal s t)
  unfolding equal_types sides_equal
  equal_is (leaf b k) (leaf b' l) =
      ap (λ c. c && equal_properties k l) (same_leaves b b') ∙ ap (λ c. nat_eq (leaf_kind b) (leaf_kind b') && c) (and_true (equal_properties k l))
  equal_is (leaf b k) (node g l t t') = rw (ne_eqb _ _ (λ z. former_not_leaf g b (sym z)))
  equal_is (node f k s s') (leaf b' l) = rw (ne_eqb _ _ (former_not_leaf f b'))
  equal_is (node f k s s') (node g l t t') =
      ap (λ b. b && (equal_properties k l && (equal_types s t && equal_types s' t'))) (same_former f g)

  -- related types have as many records
  related_size : (d : Direction) (s t : Ty) → subtype S d s t ≡ true → size_t s ≡ size_t t
  related_size below s t h = subtype_size (subtype_sound s t h)
  related_size above s t h = sym (subtype_size (subtype_sound t s (subtype_opposite S above s t h)))

  not_related : (d : Direction) (s t : Ty) → firsts d s t ≡ false → None ≡ relation_of S d s t
  not_related d s t e =
      ap (λ b. cond b (walked (equal_types s t) (size_t s)) None) (sym (subtype_is d s t ∙ ap (λ b. b && sides_below d s t) e))

  of_sides : (d : Direction) (s t : Ty) → firsts d s t ≡ true
      → cond (sides_below d s t) (walked (equal_properties (top s) (top t) && sides_equal s t) (size_t s)) None ≡ relation_of S d s t
  of_sides d s t e =
      let k = ((and-eq-true_iff (nat_eq (kind_of_type s) (kind_of_type t)) (le_toward S d (top s) (top t))).0 e).0 in
      ap₂ (λ b c. cond b (walked c (size_t s)) None)
      (sym (subtype_is d s t ∙ ap (λ b. b && sides_below d s t) e))
      (sym (equal_is s t ∙ ap (λ b. b && (equal_properties (top s) (top t) && sides_equal s t)) k))

  pub of_leaf : (d : Direction) (s t : Ty) (x : Bool) → (sides (kind_of_type s) ≡ 2 → ⊥) → firsts d s t ≡ true → x ≡ equal_properties (top s) (top t)
      → walked x 1 ≡ relation_of S d s t
  unfolding sides_below sides_equal size_t
  of_leaf d (leaf b k) t x n e f = ap (λ c. walked c 1) (f ∙ and_true (equal_properties k (top t))) ∙ of_sides d (leaf b k) t e
  of_leaf d (node sum k s s') t x n e f = absurd (n refl)
  of_leaf d _ t x n e f = absurd (n refl)

  both_cond : (b p q x y : Bool) (n m : ℕ)
      → both b (cond p (walked x n) None) (cond q (walked y m) None) ≡ cond (p && q) (walked (b && (x && y)) (1 + (n + m))) None
  both_cond b true true x y n m = refl
  both_cond b true false x y n m = refl
  both_cond b false q x y n m = refl

  pub of_both : (d : Direction) (s t : Ty) → sides (kind_of_type s) ≡ 2 → firsts d s t ≡ true
      → both (equal_properties (top s) (top t)) (relation_of S (turned s d) (left_of s) (left_of t)) (relation_of S d (right_of s) (right_of t))
      ≡ relation_of S d s t
  unfolding sides_below sides_equal size_t
  of_both d (leaf b k) t two e = absurd (sideless b two)
  of_both d (node f k s s') t two e =
      both_cond (equal_properties k (top t)) (subtype S (leftward f d) s (left_of t)) (subtype S d s' (right_of t))
      (equal_types s (left_of t)) (equal_types s' (right_of t)) (size_t s) (size_t s')
      ∙ of_sides d (node f k s s') t e

  count_of : (d : Direction) (s t : Ty) (x y : Bool) (n : ℕ) (b : Bool) → subtype S d s t ≡ b
      → walked x n ≡ cond b (walked y (size_t s)) None → (n ≡ size_t s) × (n ≡ size_t t)
  count_of d s t x y n true h e =
      let r : ◌≡◌ {A = Related} (record { same = x; records = n }) (record { same = y; records = size_t s }) = cc in
      let p = ap (λ (r : Related). r.records) r in
      (p, p ∙ related_size d s t h)
  count_of d s t x y n false h e = absurd cc

  pub counts : (d : Direction) (s t : Ty) (x : Bool) (n : ℕ) → walked x n ≡ relation_of S d s t → (n ≡ size_t s) × (n ≡ size_t t)
  counts d s t x n e = count_of d s t x (equal_types s t) n (subtype S d s t) refl e

-- whether it is so of three, as the code asks for one after the other
pub first_decides : {f z : Bool} (b : Bool) → f ≡ false → z ≡ f → z ≡ f && b
first_decides b e g = g ∙ e ∙ ap (λ f. f && b) (sym e)

pub second_decides : {f v z : Bool} (b : Bool) → f ≡ true → v ≡ false → z ≡ v → z ≡ f && (v && b)
second_decides b e g h = h ∙ g ∙ ap₂ (λ f v. f && (v && b)) (sym e) (sym g)

pub third_decides : {f v w z : Bool} → f ≡ true → v ≡ true → z ≡ w → z ≡ f && (v && w)
third_decides {w = w} e g h = h ∙ ap₂ (λ f v. f && (v && w)) (sym e) (sym g)

-- The first records are compared: x says whether they are the same, and k is the kind of both.
pub record Alike (S : Security) (d : Direction) (a b : Bytes) (x : Bool) (k : Kind) : Type 0 where
  pub sa : Starts a
  pub sb : Starts b
  pub ka : (s : Ty) → Held a s → type_kind_number k ≡ kind_of_type s
  pub ok : (s t : Ty) → Held a s → Held b t → firsts S d s t ≡ true
  pub same_first : (s t : Ty) → Held a s → Held b t → x ≡ equal_properties (top s) (top t)

-- The code compares them the same way round for both directions.
abbrev pub Asked : Security → Direction → Bytes → Bytes → Bool → Type 0
Asked S below a b z = (s t : Ty) → Held a s → Held b t → z ≡ firsts S below s t
Asked S above a b z = (s t : Ty) → Held b s → Held a t → z ≡ firsts S below s t

pub asked : (S : Security) (d : Direction) {a b : Bytes} {z : Bool} → Asked S d a b z → (s t : Ty) → Held a s → Held b t → firsts S d s t ≡ z
asked S below o s t p q = sym (o s t p q)
asked S above o s t p q = firsts_above S s t ∙ sym (o t s q p)

pub apart : (S : Security) (d : Direction) {a b : Bytes} → Asked S d a b false → (s t : Ty) → Held a s → Held b t → None ≡ relation_of S d s t
apart S d o s t p q = not_related S d s t (asked S d o s t p q)

abbrev pub alike : (S : Security) (d : Direction) {a b : Bytes} {x : Bool} {k : Kind} → Starts a → Starts b → Asked S d a b true
    → ((s t : Ty) → Held a s → Held b t → x ≡ equal_properties (top s) (top t))
    → ((s : Ty) → Held a s → type_kind_number k ≡ kind_of_type s)
    → Alike S d a b x k
alike S d v w o f k = record { sa = v; sb = w; ka = k; ok = asked S d o; same_first = f }

-- Where they have sides the left ones are compared too, with the answer x; then the right sides.
pub record Lefts (S : Security) (d : Direction) (a b : Bytes) (f : Bool) (x : Option Related) : Type 0 where
  pub sided_l : TwoSided a
  pub sided_r : TwoSided b
  pub ok : (s t : Ty) → Held a s → Held b t → firsts S d s t ≡ true
  pub same_first : (s t : Ty) → Held a s → Held b t → f ≡ equal_properties (top s) (top t)
  pub said : (s t : Ty) → Held a s → Held b t → x ≡ relation_of S (turned s d) (left_of s) (left_of t)

module _ {S : Security} {d : Direction} {a b : Bytes} {f : Bool} {k : Kind} (h : Alike S d a b f k) where
  pub at_leaf : false ≡ nat_eq (sides (type_kind_number k)) 2 → (s t : Ty) → Held a s → Held b t → walked f 1 ≡ relation_of S d s t
  at_leaf e s t p q =
      of_leaf S d s t f (λ two. true≢false (sym (eq-eqb _ _ (ap sides (h.ka s p) ∙ two)) ∙ sym e)) (h.ok s t p q) (h.same_first s t p q)

  pub kb : (t : Ty) → Held b t → type_kind_number k ≡ kind_of_type t
  kb t q =
      h.ka h.sa.type h.sa.held
      ∙ eqb-true _ _ ((and-eq-true_iff (nat_eq (kind_of_type h.sa.type) (kind_of_type t)) _).0 (h.ok h.sa.type t h.sa.held q)).0

  module _ (e : true ≡ nat_eq (sides (type_kind_number k)) 2) where
    pub two : sides (type_kind_number k) ≡ 2
    two = eqb-true _ _ (sym e)

    abbrev pub sided_a : TwoSided a
    sided_a = record { type = h.sa.type; held = h.sa.held; two = ap sides (sym (h.ka h.sa.type h.sa.held)) ∙ two }

    abbrev pub sided_b : TwoSided b
    sided_b = record { type = h.sb.type; held = h.sb.held; two = ap sides (sym (kb h.sb.type h.sb.held)) ∙ two }

    -- the answer, in one way or the other
    abbrev pub lefts : (x : Option Related) → Lefts S d a b f x → Lefts S d a b f x
    lefts x l = l

    abbrev pub walk : {l r : Bytes} {x y : Option Related} {d' : Direction} → ((s : Ty) → type_kind_number k ≡ kind_of_type s → d' ≡ turned s d) → y ≡ x
        → ((s t : Ty) → Held l s → Held r t → x ≡ relation_of S d' s t)
        → ((t : Ty) → Held a t → Held l (left_of t)) → ((t : Ty) → Held b t → Held r (left_of t))
        → Lefts S d a b f y
    walk turn g c u v = record {
      sided_l = sided_a;
      sided_r = sided_b;
      ok = h.ok;
      same_first = h.same_first;
      said = λ s t p q.
          g ∙ c (left_of s) (left_of t) (u s p) (v t q)
          ∙ ap (λ (d' : Direction). relation_of S d' (left_of s) (left_of t)) (turn s (h.ka s p));
    }

-- what the right sides' walk says
abbrev pub rights : (S : Security) (d : Direction) {a b l r : Bytes} {x : Option Related}
    → ((s t : Ty) → Held l s → Held r t → x ≡ relation_of S d s t)
    → ((t : Ty) → Held a t → Held l (right_of t)) → ((t : Ty) → Held b t → Held r (right_of t))
    → (s t : Ty) → Held a s → Held b t → x ≡ relation_of S d (right_of s) (right_of t)
rights S d e u v s t p q = e (right_of s) (right_of t) (u s p) (v t q)

abbrev pub Rights : Security → Direction → Bytes → Bytes → Option Related → Type 0
Rights S d a b x = (s t : Ty) → Held a s → Held b t → x ≡ relation_of S d (right_of s) (right_of t)

-- Both sides are walked, with the answers u and v.
pub record Done (S : Security) (d : Direction) (a b : Bytes) (f : Bool) (u v : Related) : Type 0 where
  pub room : type_width * (1 + (u.records + v.records)) ≤ length a
  pub says : {z : Bool} → z ≡ f && (u.same && v.same) → (s t : Ty) → Held a s → Held b t → walked z (1 + (u.records + v.records)) ≡ relation_of S d s t

module _ {S : Security} {d : Direction} {a b : Bytes} {f : Bool} {x : Option Related} (h : Lefts S d a b f x) where
  answer : {y : Option Related} (s t : Ty) → Held a s → Held b t → y ≡ relation_of S d (right_of s) (right_of t) → both f x y ≡ relation_of S d s t
  answer {y} s t p q e =
      ap (λ c. both c x y) (h.same_first s t p q)
      ∙ ap₂ (both (equal_properties (top s) (top t))) (h.said s t p q) e
      ∙ of_both S d s t (two_of h.sided_l s p) (h.ok s t p q)

  pub no_left : x ≡ None → (s t : Ty) → Held a s → Held b t → None ≡ relation_of S d s t
  no_left e s t p q = ap (λ z. both f z (relation_of S d (right_of s) (right_of t))) (sym e) ∙ answer s t p q refl

  module _ {u : Related} (e : x ≡ Some u) where
    pub sizes : (u.records ≡ size_t (left_of h.sided_l.type)) × (u.records ≡ size_t (left_of h.sided_r.type))
    sizes =
        let l = h.sided_l in
        let r = h.sided_r in
        counts S (turned l.type d) (left_of l.type) (left_of r.type) u.same u.records (sym e ∙ h.said l.type r.type l.held r.held)

    abbrev pub counted_a : LeftSize a u.records
    counted_a = let l = h.sided_l in record { type = l.type; held = l.held; two = l.two; count = sizes.0 }

    abbrev pub counted_b : LeftSize b u.records
    counted_b = let r = h.sided_r in record { type = r.type; held = r.held; two = r.two; count = sizes.1 }

    module _ {y : Option Related} (r : Rights S d a b y) where
      pub no_right : y ≡ None → (s t : Ty) → Held a s → Held b t → None ≡ relation_of S d s t
      no_right g s t p q = ap₂ (both f) (sym e) (sym g) ∙ answer s t p q (r s t p q)

      module _ {v : Related} (g : y ≡ Some v) where
        related : {z : Bool} → z ≡ f && (u.same && v.same) → (s t : Ty) → Held a s → Held b t → walked z (1 + (u.records + v.records)) ≡ relation_of S d s t
        related k s t p q = ap (λ b. walked b (1 + (u.records + v.records))) k ∙ ap₂ (both f) (sym e) (sym g) ∙ answer s t p q (r s t p q)

        pub done : Done S d a b f u v
        done =
            let l = h.sided_l in
            let k = h.sided_r in
            let c = counts S d l.type k.type (f && (u.same && v.same)) (1 + (u.records + v.records)) (related refl l.type k.type l.held k.held) in
            record { room = omega (arith, c.0, held_length l.held); says = related }
