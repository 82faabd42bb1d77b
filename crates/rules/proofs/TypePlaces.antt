-- What stands at a place of a types table.
use Rattle.std.proofs.Common.{◌≡◌, refl, ap, sym, ◌∙◌, Bool, true, [], ◌∷◌, ◌++◌, ℕ, suc, ◌+◌, ◌*◌, ◌-◌, ◌≤◌, ◌<◌}
use Rattle.std.proofs.Common.{arith, length, get_or, drop, length-drop}
use Rattle.std.proofs.Math.Option.{some}
use Rattle.calculus.specs.Security.{Property}
use Rattle.calculus.specs.Types.{one, number, Former, Parts, Ty, leaf, node, top, size_t}
use Rattle.rules.specs.Answer.{Bytes, byte}
use Rattle.rules.specs.Limits.{type_width}
use Rattle.rules.specs.Types.{type_count, type_kind, type_r, type_ir, type_c, type_ic, former_kind, encode_type}
use Rattle.rules.specs.Types.{no_type, parse_types, type_at, type_end}
use Rattle.rules.proofs.Prefix.{record_at}
use Rattle.rules.proofs.PrefixLaws.{record_is, round_trip, tree_end}
use Rattle.rules.proofs.Nodes.{Every, to_nodes, operand_at}
use Rattle.rules.proofs.TypeCode.{type_shape, type_code, type_prefix, type_head}
use Rattle.rules.proofs.RecordFields.{type_kind_is, type_r_is, type_ir_is, type_c_is, type_ic_is}

-- the type at a place where one is written
pub type_at_is : (t : Bytes) (i : ℕ) (e : Ty) (rest : Bytes) → drop (type_width * i) t ≡ encode_type e ++ rest → type_at t i ≡ e
unfolding type_at
type_at_is t i e rest h = ap (λ b. get_or (parse_types b) 0 no_type) h ∙ ap (λ ts. get_or ts 0 no_type) (round_trip type_prefix e rest)

-- outside the table
too_short : (b : Bytes) → length b < 6 → parse_types b ≡ []
unfolding parse_types
too_short b l = grind arith

pub type_at_outside : (t : Bytes) (i : ℕ) → type_count t ≤ i → type_at t i ≡ no_type
unfolding type_at
type_at_outside t i l = grind (arith, too_short, length-drop)

-- The type that record i starts: its bytes stand there, and it ends within the table.
pub record Standing (t : Bytes) (i : ℕ) : Type 0 where
  pub rest : Bytes
  pub bytes : drop (type_width * i) t ≡ encode_type (type_at t i) ++ rest
  pub end : type_end t i ≡ some (i + size_t (type_at t i))
  pub inside : i + size_t (type_at t i) ≤ type_count t

pub stands : (t : Bytes) (i : ℕ) (e : Ty) (rest : Bytes) → drop (type_width * i) t ≡ encode_type e ++ rest → i + size_t e ≤ type_count t → Standing t i
unfolding type_end
stands t i e rest h l =
    let p = type_at_is t i e rest h in
    record {
      rest = rest;
      bytes = h ∙ ap (λ x. encode_type x ++ rest) (sym p);
      end = tree_end type_prefix e t i (type_count t - i) rest (omega arith) h ∙ ap (λ x. some (i + size_t x)) (sym p);
      inside = omega (arith, ap size_t p);
    }

-- The sides of a type: the left one starts at the next record, the right one after it.
pub left_side : (t : Bytes) (i : ℕ) → Standing t i → (f : Former) (k : Property) (a b : Ty) → type_at t i ≡ node f k a b → type_at t (suc i) ≡ a
left_side t i st f k a b p =
    let z : suc i + 0 ≡ suc i = omega arith in
    cc (z, type_at_is t (suc i + 0) a _ (operand_at type_code t i (node f k a b) st.rest (st.bytes ∙ ap (λ e. encode_type e ++ st.rest) p) [] a (b ∷ []) refl))

pub right_side : (t : Bytes) (i : ℕ) → Standing t i → (f : Former) (k : Property) (a b : Ty) → type_at t i ≡ node f k a b
    → type_at t (suc i + size_t a) ≡ b
right_side t i st f k a b p =
    let z : suc i + (size_t a + 0) ≡ suc i + size_t a = omega arith in
    cc (z, type_at_is t (suc i + (size_t a + 0)) b _ (operand_at type_code t i (node f k a b) st.rest (st.bytes ∙ ap (λ e. encode_type e ++ st.rest) p) (a ∷ []) b [] refl))

-- the record of the type that stands at i
pub own_record : (t : Bytes) (i : ℕ) → Standing t i → record_at type_width t i ≡ type_head (type_at t i)
own_record t i st = record_is type_code t i (type_at t i) st.rest st.bytes

-- its fields
pub kind_at : (t : Bytes) (i : ℕ) → Standing t i → type_kind t i ≡ byte (type_head (type_at t i)) 0
kind_at t i st = sym (type_kind_is t i) ∙ ap (λ h. byte h 0) (own_record t i st)

abbrev property : Bytes → Property
property h = record { r = byte h 1; ir = byte h 2; c = byte h 4; ic = byte h 5 }

top_of_head : (e : Ty) → property (type_head e) ≡ top e
top_of_head e = grind arith

module _ (t : Bytes) (i : ℕ) (st : Standing t i) where
  own_property : property (record_at type_width t i) ≡ top (type_at t i)
  own_property = ap property (own_record t i st) ∙ top_of_head (type_at t i)

  pub r_at : type_r t i ≡ (top (type_at t i)).r
  r_at = sym (type_r_is t i) ∙ ap (λ (k : Property). k.r) own_property

  pub ir_at : type_ir t i ≡ (top (type_at t i)).ir
  ir_at = sym (type_ir_is t i) ∙ ap (λ (k : Property). k.ir) own_property

  pub c_at : type_c t i ≡ (top (type_at t i)).c
  c_at = sym (type_c_is t i) ∙ ap (λ (k : Property). k.c) own_property

  pub ic_at : type_ic t i ≡ (top (type_at t i)).ic
  ic_at = sym (type_ic_is t i) ∙ ap (λ (k : Property). k.ic) own_property

-- what one record's question says of every node of the type that stands at i
pub asked_of_type : (ok : Bytes → ℕ → Bool) → ((t : Bytes) (i : ℕ) → ok (record_at type_width t i) 0 ≡ ok t i) → (t : Bytes)
    → ((j : ℕ) → j < type_count t → ok t j ≡ true) → (i : ℕ) → Standing t i → Every type_shape (λ c. ok (type_head c) 0 ≡ true) (type_at t i)
asked_of_type ok own t h i st =
    to_nodes type_code (λ b. ok b 0 ≡ true) t i (type_at t i) st.rest st.bytes
    (λ j l. own t (i + j) ∙ h (i + j) (omega (arith, st.inside)))

-- a kind with two sides, against the type
former_injective : (f f' : Former) → former_kind f ≡ former_kind f' → f ≡ f'
former_injective f f' h = grind arith

former_between : (f : Former) → (1 ≤ former_kind f) × (former_kind f ≤ 3)
former_between f = grind arith

pub of_kind : (f : Former) (e : Ty) → byte (type_head e) 0 ≡ former_kind f → (p : Parts) × (e ≡ node f p.own p.lhs p.rhs)
of_kind f (leaf one k) h = absurd (omega (arith, (former_between f).0))
of_kind f (leaf number k) h = absurd (omega (arith, (former_between f).1))
of_kind f (node f' k s t) h = (record { own = k; lhs = s; rhs = t }, ap (λ x. node x k s t) (former_injective f' f h))
