-- A types table that passes questions 8, 9 and 11: every record starts a type, which is written out there.
use Rattle.std.proofs.Common.{◌≡◌, refl, ap, sym, subst, ◌∙◌, true, not, List, [], ◌∷◌, ◌++◌, ℕ, zero, suc, ◌+◌, ◌*◌}
use Rattle.std.proofs.Common.{◌-◌, ◌%◌, ◌≤◌, ◌<◌, arith, eqb-true, leb-true, nat_eq, nat_le, length, drop}
use Rattle.std.proofs.Common.{drop_of_length-le}
use Rattle.std.proofs.Math.Bool.{and-eq-true_iff, false≢true}
use Rattle.std.proofs.Math.Option.{none, some, Option}
use Rattle.std.proofs.Math.Decide.{dec_lt}
use Rattle.calculus.specs.Types.{Ty, size_t, type_limit}
use Rattle.rules.specs.Answer.{Bytes, accepted, is_absent}
use Rattle.rules.specs.Limits.{type_width}
use Rattle.rules.specs.Groups.{rows}
use Rattle.rules.specs.Types.{type_count, type_kind, type_zero, sides, encode_type, type_at, type_end, pending, short}
use Rattle.rules.specs.Types.{ok9, ok11, ok12, q8, q9, q11, q12}
use Rattle.rules.proofs.Search.{each_all}
use Rattle.rules.proofs.Asked.{ask_true}
use Rattle.rules.proofs.Prefix.{All, joined, total}
use Rattle.rules.proofs.Parts.{all_at, total_append, joined_append}
use Rattle.rules.proofs.PrefixLaws.{size_positive, joined_length, past_trees}
use Rattle.rules.proofs.WayBack.{Tree, way_back, one_tree, end_bound}
use Rattle.rules.proofs.TypePlaces.{type_at_is, Standing, stands}
use Rattle.rules.proofs.Pending.{settle}
use Rattle.rules.proofs.Nodes.{NodeAt, Within, within, node_at, at_size, at_bytes}
use Rattle.rules.proofs.TypeCode.{type_shape, type_code, type_prefix}
use Rattle.rules.proofs.RecordFields.{type_kind_is, type_zero_is}

-- The outermost types of a table, from an outermost record on; Q is what is known of each.
record Forest (Q : Ty → Type 0) (t : Bytes) (i : ℕ) : Type 0 where
  trees : List Ty
  bytes : drop (type_width * i) t ≡ joined encode_type trees
  all : All Q trees

-- what questions 8, 9 and 11 say
pub record Passes (t : Bytes) : Type 0 where
  pub whole : length t % type_width ≡ 0
  pub known : (i : ℕ) → i < type_count t → type_kind t i ≤ 4
  pub unnamed : (i : ℕ) → i < type_count t → type_zero t i ≡ 0
  pub ends : (i : ℕ) → i < type_count t → ok11 t i ≡ true

-- question 9 of one record
pub record Fields9 (t : Bytes) (i : ℕ) : Type 0 where
  pub known : type_kind t i ≤ 4
  pub unnamed : type_zero t i ≡ 0

pub fields9 : (n : ℕ) (t : Bytes) (i : ℕ) → ok9 n t i ≡ true → Fields9 t i
unfolding ok9
fields9 n t i h =
    let a = (and-eq-true_iff _ _).0 h in
    let b = (and-eq-true_iff _ _).0 a.1 in
    record { known = leb-true (type_kind t i) 4 a.0; unnamed = eqb-true (type_zero t i) 0 b.0 }

pub passes : (g t : Bytes) → q8 t ≡ accepted tt → q9 g t ≡ accepted tt → q11 t ≡ accepted tt → Passes t
passes g t q8_yes q9_yes q11_yes =
    let each9 = each_all 9 (type_count t) (ok9 (rows g) t) q9_yes in
    record {
      whole = eqb-true _ 0 ((and-eq-true_iff _ _).0 (ask_true 8 0 _ q8_yes)).0;
      known = λ i l. (fields9 (rows g) t i (each9 i l)).known;
      unnamed = λ i l. (fields9 (rows g) t i (each9 i l)).unnamed;
      ends = each_all 11 (type_count t) (ok11 t) q11_yes;
    }

is_some : (o : Option ℕ) → not (is_absent o) ≡ true → (e : ℕ) × (o ≡ some e)
is_some none h = absurd (false≢true h)
is_some (some e) h = (e, refl)

module _ (t : Bytes) (P : Passes t) where
  outermost_end : (i : ℕ) → i < type_count t → pending t i ≡ 0 → (e : ℕ) × (type_end t i ≡ some e)
  unfolding ok11
  outermost_end i l p = is_some (type_end t i) (rw (ap (λ n. nat_eq n 0) p) at (P.ends i l))

  outermost_tree : (i e : ℕ) → i < type_count t → type_end t i ≡ some e → Tree type_code t i e
  unfolding type_end
  outermost_tree i e l h =
      one_tree
      (way_back type_prefix t (type_count t - i) 1 i e (omega arith) h
      (λ j a b.
      let m = end_bound (λ k. sides (type_kind t k)) (type_count t - i) 1 i e h in
      record {
        known = subst (λ k. k ≤ 4) (sym (type_kind_is t j)) (P.known j (omega arith));
        zero_is = type_zero_is t j ∙ P.unnamed j (omega arith);
      }))

  module _ (Q : Ty → Type 0) (KnownOf : (i : ℕ) (e : Ty) → i < type_count t → pending t i ≡ 0 → type_end t i ≡ some (i + size_t e) → Q e) where
    nothing_left : (i : ℕ) → type_count t ≤ i → Forest Q t i
    nothing_left i l = record { trees = []; bytes = drop_of_length-le t {i = type_width * i} (omega (arith, P.whole)); all = tt }

    in_front : (i e : ℕ) → i < type_count t → pending t i ≡ 0 → type_end t i ≡ some e → Tree type_code t i e → Forest Q t e → Forest Q t i
    in_front i e l p h d f =
        record {
          trees = d.tree ∷ f.trees;
          bytes = d.bytes ∙ ap (λ b. encode_type d.tree ++ b) f.bytes;
          all = (KnownOf i d.tree l p (h ∙ ap some d.end), f.all);
        }

    -- `fuel` bounds the records that are left
    forest : (fuel i : ℕ) → type_count t ≤ i + fuel → pending t i ≡ 0 → Forest Q t i
    forest zero i l p = nothing_left i (omega arith)
    forest (suc fuel) i l p = split (dec_lt i (type_count t)) (λ e b q. forest fuel e b q)
      where
        split : Dec (i < type_count t) → ((e : ℕ) → type_count t ≤ e + fuel → pending t e ≡ 0 → Forest Q t e) → Forest Q t i
        split (no n) ih = nothing_left i (omega arith)
        split (yes b) ih =
            let e = outermost_end i b p in
            let d = outermost_tree i e.0 b e.1 in
            let s = settle t d.tree i _ d.bytes in
            in_front i e.0 b p e.1 d
            (ih e.0 (omega (arith, d.end, size_positive type_code d.tree)) (ap (pending t) d.end ∙ omega arith))

-- record i of a table, in the outermost type that it belongs to
record Part (Q : Ty → Type 0) (t : Bytes) (i : ℕ) : Type 0 where
  outer : Ty
  own : Ty
  place : ℕ
  at : NodeAt type_shape outer place own
  known : Q outer
  rest : Bytes
  bytes : drop (type_width * i) t ≡ encode_type own ++ rest
  fits : i + size_t own ≤ type_count t

outer_bytes : (t : Bytes) (ts : List Ty) (i : ℕ) → drop (type_width * 0) t ≡ joined encode_type ts → (w : Within size_t ts i)
    → drop (type_width * (0 + total size_t w.before)) t ≡ encode_type w.tree ++ joined encode_type w.after
outer_bytes t ts i h w =
    past_trees type_code t 0 w.before (encode_type w.tree ++ joined encode_type w.after)
    (h ∙ ap (joined encode_type) w.is ∙ joined_append encode_type w.before (w.tree ∷ w.after))

part_in : (Q : Ty → Type 0) (t : Bytes) (i : ℕ) (f : Forest Q t 0) (w : Within size_t f.trees i) (c : Ty) → NodeAt type_shape w.tree w.place c
    → Part Q t i
part_in Q t i f w c a =
    let b = total size_t w.before in
    let own = at_bytes type_code a t (0 + b) (joined encode_type w.after) (outer_bytes t f.trees i f.bytes w) in
    let z : i ≡ 0 + b + w.place = omega (arith, w.place_is) in
    let n : length t ≡ type_width * total size_t f.trees = ap length f.bytes ∙ joined_length type_code f.trees in
    record {
      outer = w.tree;
      own = c;
      place = w.place;
      at = a;
      known = all_at Q w.before w.tree w.after (subst (All Q) w.is f.all);
      rest = own.0;
      bytes = subst (λ k. drop (type_width * k) t ≡ encode_type c ++ own.0) (sym z) own.1;
      fits = omega (arith, at_size type_shape a, ap (total size_t) w.is, total_append size_t w.before (w.tree ∷ w.after));
    }

part_of : (Q : Ty → Type 0) (t : Bytes) (i : ℕ) → i < type_count t → Forest Q t 0 → Part Q t i
part_of Q t i l f =
    let n : length t ≡ type_width * total size_t f.trees = ap length f.bytes ∙ joined_length type_code f.trees in
    let w = within size_t f.trees i (omega arith) in
    let c = node_at type_shape w.tree w.place w.inside in
    part_in Q t i f w c.0 c.1

pub standing : (t : Bytes) → Passes t → (i : ℕ) → i < type_count t → Standing t i
unfolding pending
standing t P i l =
    let p = part_of (λ e. Unit {0}) t i l (forest t P (λ e. Unit {0}) (λ j e a b c. tt) (type_count t) 0 (omega arith) refl) in
    stands t i p.own p.rest p.bytes p.fits

-- With question 12 every type is short, inner ones too.
outermost_short : (t : Bytes) → q12 t ≡ accepted tt → (i : ℕ) (e : Ty) → i < type_count t → pending t i ≡ 0 → type_end t i ≡ some (i + size_t e)
    → size_t e ≤ type_limit
unfolding ok12
outermost_short t q i e l p h =
    let r : short (type_end t i) i ≡ true = rw (ap (λ n. nat_eq n 0) p) at (each_all 12 (type_count t) (ok12 t) q i l) in
    let m : nat_le (i + size_t e - i) type_limit ≡ true = ap (λ o. short o i) (sym h) ∙ r in
    omega (arith, leb-true (i + size_t e - i) type_limit m)

pub every_short : (t : Bytes) → Passes t → q12 t ≡ accepted tt → (i : ℕ) → i < type_count t → size_t (type_at t i) ≤ type_limit
unfolding pending
every_short t P q i l =
    let Q : Ty → Type 0 = λ e. size_t e ≤ type_limit in
    let p = part_of Q t i l (forest t P Q (outermost_short t q) (type_count t) 0 (omega arith) refl) in
    omega (arith, p.known, at_size type_shape p.at, ap size_t (type_at_is t i p.own p.rest p.bytes))
