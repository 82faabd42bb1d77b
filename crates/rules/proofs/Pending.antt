-- How many sides are pending before and after a type of a types table: after it one less.
use Rattle.std.proofs.Common.{◌≡◌, refl, ap, ◌∙◌, List, [], ◌∷◌, ◌++◌, append_assoc, ℕ, suc, ◌+◌, ◌*◌, ◌-◌, arith}
use Rattle.std.proofs.Common.{length, drop}
use Rattle.calculus.specs.Types.{Ty, size_t}
use Rattle.rules.specs.Answer.{Bytes}
use Rattle.rules.specs.Limits.{type_width}
use Rattle.rules.specs.Types.{encode_type, pending}
use Rattle.rules.proofs.Prefix.{All, joined, total}
use Rattle.rules.proofs.PrefixLaws.{after_head, past_tree, ops, ops_at}
use Rattle.rules.proofs.TypeCode.{type_shape, type_code, type_prefix, type_operands}

module _ (t : Bytes) where
  Settles : Ty → Type 0
  Settles e = (i : ℕ) (rest : Bytes) → drop (type_width * i) t ≡ encode_type e ++ rest → pending t (i + size_t e) ≡ pending t i - 1

  settle_all : (es : List Ty) → All Settles es → (i p : ℕ) (rest : Bytes) → drop (type_width * i) t ≡ joined encode_type es ++ rest
      → pending t i ≡ length es + p → pending t (i + total size_t es) ≡ p
  unfolding Settles
  settle_all [] h i p rest b q = let z : i + 0 ≡ i = omega arith in ap (pending t) z ∙ omega arith
  settle_all (e ∷ es) h i p rest b q =
      let b' = b ∙ append_assoc (encode_type e) (joined encode_type es) rest in
      let z : i + (size_t e + total size_t es) ≡ i + size_t e + total size_t es = omega arith in
      ap (pending t) z
      ∙ settle_all es h.1 (i + size_t e) p rest (past_tree type_code t i e _ b') (omega (arith, h.0 i (joined encode_type es ++ rest) b'))

  next : (i : ℕ) → pending t (suc i) ≡ (pending t i - 1) + ops type_prefix t i
  unfolding pending
  next i = refl

  settle_node : (e : Ty) → All Settles (type_operands e) → Settles e
  unfolding Settles
  settle_node e h i rest b =
      let z : i + size_t e ≡ suc i + total size_t (type_operands e) = omega (arith, type_shape.size_is e) in
      ap (pending t) z
      ∙ settle_all (type_operands e) h (suc i) (pending t i - 1) rest (after_head type_code t i e rest b)
      (omega (arith, next i, ops_at type_prefix t i e rest b))

  pub settle : (e : Ty) (i : ℕ) (rest : Bytes) → drop (type_width * i) t ≡ encode_type e ++ rest → pending t (i + size_t e) ≡ pending t i - 1
  unfolding Settles
  settle = type_shape.induction Settles settle_node
