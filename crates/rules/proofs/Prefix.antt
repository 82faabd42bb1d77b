-- Prefix codes: a tree is written as a record, then its operands in order. Types and terms are both such codes, so what
-- follows from that form alone is stated over it and proved once.
use Rattle.std.proofs.Common.{◌≡◌, List, [], ◌∷◌, ◌++◌, ℕ, suc, ◌+◌, ◌*◌, ◌≤◌, length, take, drop}
use Rattle.rules.specs.Answer.{Bytes, byte}

abbrev pub All : {T : Type 0} → (T → Type 0) → List T → Type 0
All P [] = Unit {0}
All P (e ∷ es) = P e × All P es

abbrev pub joined : {T : Type 0} → (T → Bytes) → List T → Bytes
joined f [] = []
joined f (e ∷ es) = f e ++ joined f es

abbrev pub total : {T : Type 0} → (T → ℕ) → List T → ℕ
total f [] = 0
total f (e ∷ es) = f e + total f es

-- how trees branch, and the number of their nodes
pub record Shape (T : Type 0) : Type 1 where
  pub operands : T → List T
  pub size : T → ℕ
  pub size_is : (e : T) → size e ≡ suc (total size (operands e))
  pub induction : (P : T → Type 0) → ((e : T) → All P (operands e) → P e) → (e : T) → P e

-- a record for each node, in front of its operands
pub record Code {T : Type 0} (S : Shape T) : Type 0 where
  pub width : ℕ
  pub head : T → Bytes
  pub encode : T → Bytes
  pub head_length : (e : T) → length (head e) ≡ width
  pub encode_is : (e : T) → encode e ≡ head e ++ joined encode (S.operands e)

-- A code that is read back: the first byte of a record tells the number of its operands.
pub record Prefix {T : Type 0} {S : Shape T} (C : Code S) : Type 1 where
  pub wide : 1 ≤ C.width
  pub arity : ℕ → ℕ
  pub parse : Bytes → List T
  -- what the format asks of a record's bytes
  pub Good : Bytes → Type 0
  pub head_arity : (e : T) → arity (byte (C.head e) 0) ≡ length (S.operands e)
  pub parse_node : (e : T) (s : Bytes) (ts : List T) → parse s ≡ S.operands e ++ ts → parse (C.head e ++ s) ≡ e ∷ ts
  -- a good record and as many trees as its kind asks for are a tree
  pub node : (h : Bytes) (ts : List T) → length h ≡ C.width → Good h → length ts ≡ arity (byte h 0)
      → (e : T) × (C.head e ≡ h) × (S.operands e ≡ ts)

-- record i of s
abbrev pub record_at : ℕ → Bytes → ℕ → Bytes
record_at width s i = take width (drop (width * i) s)
