-- Types as a prefix code.
use Rattle.std.proofs.Common.{◌≡◌, ap, sym, ◌∙◌, List, [], ◌∷◌, ◌++◌, ℕ, suc, ◌≤◌, arith, length, get_or}
use Rattle.calculus.specs.Security.{Property}
use Rattle.calculus.specs.Types.{Ty, leaf, node, size_t}
use Rattle.rules.specs.Answer.{Bytes, byte}
use Rattle.rules.specs.Limits.{type_width}
use Rattle.rules.specs.Types.{sides, leaf_kind, former_kind, type_record, encode_type, no_type, make_type, parse_types}
use Rattle.rules.proofs.Prefix.{All, joined, total, Shape, Code, Prefix}
use Rattle.std.proofs.lemmas.Grind.{common_steps}

abbrev pub type_operands : Ty → List Ty
type_operands (leaf b k) = []
type_operands (node f k s t) = s ∷ t ∷ []

abbrev pub type_head : Ty → Bytes
type_head (leaf b k) = type_record (leaf_kind b) k
type_head (node f k s t) = type_record (former_kind f) k

pub type_size_is : (e : Ty) → size_t e ≡ suc (total size_t (type_operands e))
unfolding size_t
type_size_is e = grind arith

pub type_induction : (P : Ty → Type 0) → ((e : Ty) → All P (type_operands e) → P e) → (e : Ty) → P e
type_induction P f (leaf b k) = f (leaf b k) tt
type_induction P f (node c k s t) = f (node c k s t) (type_induction P f s, (type_induction P f t, tt))

abbrev pub type_shape : Shape Ty
type_shape = record { operands = type_operands; size = size_t; size_is = type_size_is; induction = type_induction }

pub type_head_length : (e : Ty) → length (type_head e) ≡ type_width
type_head_length e = grind arith

pub type_encode_is : (e : Ty) → encode_type e ≡ type_head e ++ joined encode_type (type_operands e)
unfolding encode_type
type_encode_is e = grind (arith, common_steps)

abbrev pub type_code : Code type_shape
type_code =
    record { width = type_width; head = type_head; encode = encode_type; head_length = type_head_length; encode_is = type_encode_is }

pub type_head_arity : (e : Ty) → sides (byte (type_head e) 0) ≡ length (type_operands e)
type_head_arity e = grind arith

pub type_parse_node : (e : Ty) (s : Bytes) (ts : List Ty) → parse_types s ≡ type_operands e ++ ts → parse_types (type_head e ++ s) ≡ e ∷ ts
unfolding parse_types
type_parse_node e s ts h = grind arith

no_types : (ts : List Ty) → length ts ≡ 0 → [] ≡ ts
no_types ts h = grind (arith, common_steps)

two_types : (ts : List Ty) → length ts ≡ 2 → get_or ts 0 no_type ∷ get_or ts 1 no_type ∷ [] ≡ ts
two_types ts h = grind (arith, common_steps)

abbrev made : ℕ → Property → List Ty → Ty
made k p ts = make_type k p (get_or ts 0 no_type) (get_or ts 1 no_type)

node_of : (k : ℕ) (p : Property) (ts : List Ty) → k ≤ 4 → length ts ≡ sides k
    → (type_head (made k p ts) ≡ type_record k p) × (type_operands (made k p ts) ≡ ts)
node_of k p ts l m = grind (arith, no_types, two_types)

-- the part of question 9 that the format asks
pub record GoodType (h : Bytes) : Type 0 where
  pub known : byte h 0 ≤ 4
  pub zero_is : byte h 3 ≡ 0

pub type_node : (h : Bytes) (ts : List Ty) → length h ≡ type_width → GoodType h → length ts ≡ sides (byte h 0)
    → (e : Ty) × (type_head e ≡ h) × (type_operands e ≡ ts)
type_node (k ∷ r ∷ ir ∷ z ∷ c ∷ ic ∷ []) ts l g m =
    let p : Property = record { r = r; ir = ir; c = c; ic = ic } in
    let q = node_of k p ts g.known m in
    (made k p ts, q.0 ∙ ap (λ x. k ∷ r ∷ ir ∷ x ∷ c ∷ ic ∷ []) (sym g.zero_is), q.1)
type_node _ ts l g m = absurd (omega arith)

abbrev pub type_prefix : Prefix type_code
type_prefix =
    record {
      wide = omega arith;
      arity = sides;
      parse = parse_types;
      Good = GoodType;
      head_arity = type_head_arity;
      parse_node = type_parse_node;
      node = type_node;
    }
