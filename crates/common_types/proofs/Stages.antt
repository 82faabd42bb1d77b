-- A walk over two types, stage by stage: the kinds compared, the first record written, the left sides walked, the right
-- sides walked. Once for both directions.
use Rattle.std.proofs.Common.{◌≡◌, ℕ, ◌+◌, ◌*◌, ◌≤◌, Option, Some, None, [], ◌++◌, true, false, nat_eq, length, drop}
use Rattle.std.proofs.Common.{ap, ap₂, sym, ◌∙◌, subst, arith, append_assoc, length-append, true≢false, eqb-true}
use Rattle.std.proofs.Common.{eq-eqb}
use Rattle.std.proofs.Math.Option as math
use Rattle.std.proofs.Math.Option.{none, some, none-ne-some}
use Rattle.calculus.specs.Security.{Property, Security}
use Rattle.calculus.specs.Types.{Ty, top, size_t}
use Rattle.calculus.specs.Subtyping.{Direction, opposite}
use Rattle.calculus.specs.Common.{nearest_property, nearest_type}
use Rattle.rules.specs.Answer.{Bytes}
use Rattle.rules.specs.Limits.{type_width}
use Rattle.rules.specs.Types.{encode_type, sides}
use Rattle.memory.specs.Splice.{splice}
use Rattle.memory.proofs.Laws.{splice_none, drop_past, join_after}
use Rattle.types.specs.declared.Kind.{Kind}
use Rattle.types.specs.declared.Kind.TheVariants.{Function}
use Rattle.types.specs.Kinds.{type_kind_number}
use Rattle.types.specs.Held.{kind_of_type, left_of, right_of}
use Rattle.types.proofs.Parts.{type_length, type_positive, sides_size}
use Rattle.subtyping.proofs.Order.{turned, turned_round, straight_on}
use Rattle.common_types.specs.Walks.{TypeAt, TwoTypes, common_record, walk_answer, Walked}
use Rattle.common_types.proofs.Answers.{found_is, apart_is}
use Rattle.common_types.proofs.Trees.{remade, remade_size, remade_records, remade_leaf, with_sides, kinds_apart}
use Rattle.common_types.proofs.Trees.{of_leaves, of_sides, common_size}
use Rattle.common_types.proofs.Places.{at_same, room, left_at, right_at}

-- no common type, whatever is written over the first
apart : {o : math.Option Ty} {s : Ty} {at : ℕ} {w w' : Bytes} (x : Bytes) → o ≡ none → length x ≤ type_width * size_t s → w' ≡ splice (type_width * at) x w
    → Walked o s at w None w'
apart x e l g = record { says = ap walk_answer (sym e); piece = x; within = l; wrote = g; is = λ u f. absurd (none-ne-some u (sym e ∙ f)) }

-- the common type over the first
found : {o : math.Option Ty} {s u : Ty} {at n : ℕ} {w w' : Bytes} → o ≡ some u → n ≡ size_t u → size_t u ≤ size_t s → w' ≡ splice (type_width * at) (encode_type u) w
    → Walked o s at w (Some n) w'
found {u = u} e c l g = record {
  says = ap Some c ∙ ap walk_answer (sym e);
  piece = encode_type u;
  within = omega (arith, type_length u);
  wrote = g;
  is = λ v f. let h : u ≡ v = cc in ap encode_type h;
}

module _ (S : Security) (d : Direction) {w : Bytes} {at other : ℕ} (p : TwoTypes w at other) where
  -- the walk's answer and the buffer it leaves
  abbrev pub WalkResult : Option ℕ → Bytes → Type 0
  WalkResult x w' = Walked (nearest_type S d p.first p.second) p.first at w x w'

  -- the common types of the left sides and of the right sides, and the common first property
  abbrev pub left_common : math.Option Ty
  left_common = nearest_type S (turned p.first d) (left_of p.first) (left_of p.second)

  abbrev pub right_common : math.Option Ty
  right_common = nearest_type S d (right_of p.first) (right_of p.second)

  abbrev pub own : Property
  own = nearest_property S d (top p.first) (top p.second)

  pub at_once : false ≡ nat_eq (kind_of_type p.first) (kind_of_type p.second) → WalkResult None w
  at_once e =
      let n : kind_of_type p.first ≡ kind_of_type p.second → ⊥ = λ h. true≢false (sym (eq-eqb _ _ h) ∙ sym e) in
      apart [] (kinds_apart S d p.first p.second n) (omega arith) (sym (splice_none (type_width * at) w))

  -- the types have sides, and d' is the direction of their left ones
  pub record Sided (d' : Direction) : Type 0 where
    pub two : sides (kind_of_type p.first) ≡ 2
    pub is : d' ≡ turned p.first d

  module _ (k : Kind) (kind_is : type_kind_number k ≡ kind_of_type p.first) where
    pub no_sides : false ≡ nat_eq (sides (type_kind_number k)) 2 → sides (kind_of_type p.first) ≡ 2 → ⊥
    no_sides e two = true≢false (sym (eq-eqb _ _ (ap sides kind_is ∙ two)) ∙ sym e)

    both_sides : true ≡ nat_eq (sides (type_kind_number k)) 2 → sides (kind_of_type p.first) ≡ 2
    both_sides e = ap sides (sym kind_is) ∙ eqb-true _ _ (sym e)

    pub at_function : true ≡ nat_eq (sides (type_kind_number k)) 2 → {d' : Direction} → k ≡ Function → d' ≡ opposite d → Sided d'
    at_function e f g = record { two = both_sides e; is = g ∙ turned_round d f p.first kind_is }

    pub at_other : true ≡ nat_eq (sides (type_kind_number k)) 2 → {d' : Direction} → (k ≡ Function → ⊥) → d' ≡ d → Sided d'
    at_other e n g = record { two = both_sides e; is = g ∙ straight_on d n p.first kind_is }

  -- the types are of one kind, and their common first record is written
  pub record First (w₁ : Bytes) : Type 0 where
    pub same : kind_of_type p.first ≡ kind_of_type p.second
    pub wrote : w₁ ≡ splice (type_width * at) (common_record S d p) w

  -- and their left sides are walked
  pub record Lefts (w₁ : Bytes) (x : Option ℕ) (w₂ : Bytes) : Type 0 where
    pub firsts : First w₁
    pub two : sides (kind_of_type p.first) ≡ 2
    pub walked : Walked left_common (left_of p.first) (at + 1) w₁ x w₂

abbrev pub firsts : {w : Bytes} {at other : ℕ} (p : TwoTypes w at other) (S : Security) (d : Direction) {w₁ : Bytes}
    → true ≡ nat_eq (kind_of_type p.first) (kind_of_type p.second)
    → ((p : TwoTypes w at other) → w₁ ≡ splice (type_width * at) (common_record S d p) w)
    → First S d p w₁
firsts p S d e f = record { same = eqb-true _ _ (sym e); wrote = f p }

abbrev pub walked_lefts : {S : Security} {d : Direction} {w : Bytes} {at other : ℕ} {p : TwoTypes w at other} {w₁ : Bytes} {d' : Direction}
    → First S d p w₁ → Sided S d p d' → {x : Option ℕ} {w₂ : Bytes}
    → Walked (nearest_type S d' (left_of p.first) (left_of p.second)) (left_of p.first) (at + 1) w₁ x w₂
    → Lefts S d p w₁ x w₂
walked_lefts {S = S} {at = at} {p = p} {w₁ = w₁} f s {x} {w₂} l = record {
  firsts = f;
  two = s.two;
  walked = subst (λ (d' : Direction). Walked (nearest_type S d' (left_of p.first) (left_of p.second)) (left_of p.first) (at + 1) w₁ x w₂) s.is l;
}

module _ {S : Security} {d : Direction} {w : Bytes} {at other : ℕ} {p : TwoTypes w at other} {w₁ : Bytes} (f : First S d p w₁) where
  pub at_leaves : (sides (kind_of_type p.first) ≡ 2 → ⊥) → WalkResult S d p (Some 1) w₁
  at_leaves n =
      let r = remade_leaf p.first (own S d p) p.first p.second n in
      found (of_leaves S d p.first p.second n f.same) r.0 (omega (arith, r.0, type_positive p.first))
      (f.wrote ∙ ap (λ (b : Bytes). splice (type_width * at) b w) r.1)

  module _ (two : sides (kind_of_type p.first) ≡ 2) where
    past_first : (k : ℕ) → type_width * (at + 1) ≤ k → drop k w₁ ≡ drop k w
    past_first k l =
        ap (drop k) f.wrote
        ∙ drop_past (type_width * at) k (common_record S d p) w (omega arith) (omega (arith, room p.first_at, type_positive p.first))

    pub first_left : TypeAt w₁ (at + 1) (left_of p.first)
    first_left = at_same (past_first (type_width * (at + 1)) (omega arith)) (left_at p.first_at two)

    pub second_left : TypeAt w₁ (other + 1) (left_of p.second)
    second_left =
        at_same (past_first (type_width * (other + 1)) (omega (arith, p.past)))
        (left_at p.second_at (ap sides (sym f.same) ∙ two))

    pub left_past : at + 1 + size_t (left_of p.first) ≤ other + 1
    left_past = omega (arith, p.past, sides_size p.first two)

    -- the left sides, as their walk takes them
    abbrev pub lefts : TwoTypes w₁ (at + 1) (other + 1)
    lefts = record { first = left_of p.first; second = left_of p.second; first_at = first_left; second_at = second_left; past = left_past }

module _ {S : Security} {d : Direction} {w : Bytes} {at other : ℕ} {p : TwoTypes w at other} {w₁ : Bytes} {x : Option ℕ} {w₂ : Bytes} (l : Lefts S d p w₁ x w₂) where
  split : nearest_type S d p.first p.second ≡ with_sides p.first (own S d p) (left_common S d p) (right_common S d p)
  split = of_sides S d p.first p.second l.two l.firsts.same

  sizes : size_t p.first ≡ 1 + (size_t (left_of p.first) + size_t (right_of p.first))
  sizes = sides_size p.first l.two

  fits : type_width * at + type_width * size_t p.first ≤ length w
  fits = room p.first_at

  -- the bytes written so far
  abbrev front : Bytes
  front = common_record S d p ++ l.walked.piece

  front_length : length front ≡ type_width + length l.walked.piece
  front_length = length-append (common_record S d p) l.walked.piece

  front_wrote : w₂ ≡ splice (type_width * at) front w
  front_wrote =
      let e : type_width * (at + 1) ≡ type_width * at + length (common_record S d p) = omega arith in
      l.walked.wrote ∙ ap (splice (type_width * (at + 1)) l.walked.piece) l.firsts.wrote
      ∙ join_after (type_width * at) (type_width * (at + 1)) (common_record S d p) l.walked.piece w e (omega (arith, fits, sizes))

  pub no_left : x ≡ None → WalkResult S d p None w₂
  no_left e =
      apart front
      (split ∙ ap (λ o. with_sides p.first (own S d p) o (right_common S d p)) (apart_is (left_common S d p) (sym e ∙ l.walked.says)))
      (omega (arith, front_length, l.walked.within, sizes)) front_wrote

  module _ {n : ℕ} (e : x ≡ Some n) where
    left_type : (u : Ty) × (left_common S d p ≡ some u) × (n ≡ size_t u)
    left_type = found_is (left_common S d p) (sym e ∙ l.walked.says)

    count : (n ≡ size_t (left_of p.first)) × (n ≡ size_t (left_of p.second))
    count =
        let u = left_type in
        let c = common_size S (turned p.first d) (left_of p.first) (left_of p.second) u.1 in
        (u.2 ∙ c.0, u.2 ∙ c.1)

    piece_length : length l.walked.piece ≡ type_width * n
    piece_length = let u = left_type in ap length (l.walked.is u.0 u.1) ∙ omega (arith, type_length u.0, u.2)

    front_fits : type_width * at + length front ≤ length w
    front_fits = omega (arith, front_length, piece_length, count.0, fits, sizes)

    past_front : (k : ℕ) → type_width * (at + 1 + n) ≤ k → drop k w₂ ≡ drop k w
    past_front k h = ap (drop k) front_wrote ∙ drop_past (type_width * at) k front w (omega (arith, front_length, piece_length)) front_fits

    pub first_right : TypeAt w₂ (at + 1 + n) (right_of p.first)
    first_right = at_same (past_front (type_width * (at + 1 + n)) (omega arith)) (right_at p.first_at l.two n count.0)

    pub second_right : TypeAt w₂ (other + 1 + n) (right_of p.second)
    second_right =
        at_same (past_front (type_width * (other + 1 + n)) (omega (arith, p.past)))
        (right_at p.second_at (ap sides (sym l.firsts.same) ∙ l.two) n count.1)

    pub right_past : at + 1 + n + size_t (right_of p.first) ≤ other + 1 + n
    right_past = omega (arith, p.past, sizes)

    -- the right sides, as their walk takes them
    abbrev pub rights : TwoTypes w₂ (at + 1 + n) (other + 1 + n)
    rights = record { first = right_of p.first; second = right_of p.second; first_at = first_right; second_at = second_right; past = right_past }

    module _ {y : Option ℕ} {w₃ : Bytes} (r : Walked (right_common S d p) (right_of p.first) (at + 1 + n) w₂ y w₃) where
      all_wrote : w₃ ≡ splice (type_width * at) (front ++ r.piece) w
      all_wrote =
          r.wrote ∙ ap (splice (type_width * (at + 1 + n)) r.piece) front_wrote
          ∙ join_after (type_width * at) (type_width * (at + 1 + n)) front r.piece w (omega (arith, front_length, piece_length)) front_fits

      pub no_right : y ≡ None → WalkResult S d p None w₃
      no_right g =
          apart (front ++ r.piece)
          (split ∙ ap₂ (with_sides p.first (own S d p)) left_type.1 (apart_is (right_common S d p) (sym g ∙ r.says)))
          (omega (arith, length-append front r.piece, front_length, l.walked.within, r.within, sizes)) all_wrote

      module _ {m : ℕ} (g : y ≡ Some m) where
        right_type : (u : Ty) × (right_common S d p ≡ some u) × (m ≡ size_t u)
        right_type = found_is (right_common S d p) (sym g ∙ r.says)

        whole : Ty
        whole = remade p.first (own S d p) left_type.0 right_type.0

        whole_is : nearest_type S d p.first p.second ≡ some whole
        unfolding whole
        whole_is = split ∙ ap₂ (with_sides p.first (own S d p)) left_type.1 right_type.1

        whole_records : front ++ r.piece ≡ encode_type whole
        unfolding whole
        whole_records = grind (arith, left_type, right_type, append_assoc, remade_records)

        whole_size : (1 + (n + m) ≡ size_t whole) × (size_t whole ≡ size_t p.first)
        unfolding whole
        whole_size = (
          omega (arith, remade_size p.first (own S d p) left_type.0 right_type.0 l.two, left_type.2, right_type.2),
          (common_size S d p.first p.second whole_is).0,
        )

        pub both_found : WalkResult S d p (Some (1 + (n + m))) w₃
        both_found =
            found whole_is whole_size.0 (omega (arith, whole_size.1))
            (all_wrote ∙ ap (λ (x : Bytes). splice (type_width * at) x w) whole_records)

        -- the count is within the buffer
        pub few : type_width * (1 + (n + m)) ≤ length w
        few = omega (arith, whole_size, fits)
