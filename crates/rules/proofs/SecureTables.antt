-- A types table that passes questions 8 to 12 is a table as the theory needs it.
use Rattle.std.proofs.Common.{◌≡◌, refl, sym, ◌∙◌, true, ℕ, suc, ◌<◌, arith, le-leb, IsTrue}
use Rattle.std.proofs.Math.Bool.{and-eq-true_iff}
use Rattle.std.proofs.Math.Decide.{dec_lt}
use Rattle.calculus.specs.Security.{Property}
use Rattle.calculus.specs.Types.{Leaf, Former, Ty, leaf, node, size_t, secure_t, fits, type_limit}
use Rattle.calculus.specs.Typing.{Table}
use Rattle.rules.specs.Answer.{Bytes, accepted}
use Rattle.rules.specs.Groups.{leq, properties_of}
use Rattle.rules.specs.Types.{type_count, no_type, type_at, ok10, ok36_type, q10, q36_types, q12}
use Rattle.rules.proofs.Search.{each_all}
use Rattle.rules.proofs.Nodes.{Every, every_here, every_below}
use Rattle.rules.proofs.TypeCode.{type_shape, type_head}
use Rattle.rules.proofs.RecordFields.{ok10_record, ok36_type_record}
use Rattle.rules.proofs.TypePlaces.{type_at_outside, left_side, asked_of_type}
use Rattle.rules.proofs.TypeTables.{Passes, standing, every_short}

-- questions 10 and 36 of every record
pub nodes_secure : (g : Bytes) (e : Ty) → Every type_shape (λ c. ok10 g (type_head c) 0 ≡ true) e
    → Every type_shape (λ c. ok36_type g (type_head c) 0 ≡ true) e → IsTrue (secure_t (properties_of g) e)
unfolding ok10 ok36_type secure_t
nodes_secure g (leaf b k) h x = (and-eq-true_iff _ _).1 (every_here h, every_here x)
nodes_secure g (node f k s t) h x = grind (arith, nodes_secure g s (every_below h).0 (every_below x).0, nodes_secure g t (every_below h).1.0 (every_below x).1.0, and-eq-true_iff, every_here, every_below)

-- a fact of every record and of what stands outside
inside_or_out : (P : Ty → Type 0) (t : Bytes) → ((i : ℕ) → i < type_count t → P (type_at t i)) → P no_type → (i : ℕ) → P (type_at t i)
inside_or_out P t f o i =
    elim (dec_lt i (type_count t)) [
      | yes l ↦ f i l
      | no n ↦ rw (type_at_outside t i (omega arith)) o
    ]

leaf≢node : {b : Leaf} {k k' : Property} {f : Former} {s t : Ty} → leaf b k ≡ node f k' s t → ⊥
leaf≢node e = let x : ◌≡◌ {A = ℕ} 0 1 = cc in omega arith

left_of : (t : Bytes) → Passes t → (f : Former) (k : Property) (a b : Ty) (i : ℕ) → type_at t i ≡ node f k a b → type_at t (suc i) ≡ a
left_of t P f k a b i h =
    elim (dec_lt i (type_count t)) [
      | yes l ↦ left_side t i (standing t P i l) f k a b h
      | no n ↦ absurd (leaf≢node (sym (type_at_outside t i (omega arith)) ∙ h))
    ]

-- `bottom`: row 0 of the groups table holds its own bit, as questions 2 and 4 ask.
pub secure_table : (g t : Bytes) → Passes t → q10 g t ≡ accepted tt → q36_types g t ≡ accepted tt → q12 t ≡ accepted tt → IsTrue (leq g 0 0)
    → Table (properties_of g) (type_at t)
unfolding secure_t size_t
secure_table g t P q10_yes q36_yes q12_yes bottom =
    record {
      secure =
          inside_or_out (λ e. IsTrue (secure_t (properties_of g) e)) t
          (λ i l. nodes_secure g (type_at t i)
          (asked_of_type (ok10 g) (λ s j. ok10_record s j g) t (each_all 10 (type_count t) (ok10 g t) q10_yes) i (standing t P i l))
          (asked_of_type (ok36_type g) (λ s j. ok36_type_record s j g) t (each_all 36 (type_count t) (ok36_type g t) q36_yes) i (standing t P i l)))
          ((and-eq-true_iff _ _).1 (bottom, bottom));
      small = inside_or_out (λ e. IsTrue (fits e)) t (λ i l. le-leb (size_t (type_at t i)) type_limit (every_short t P q12_yes i l)) refl;
      left = λ {f} {k} {s} {t = b} i. left_of t P f k s b i;
    }
