-- Terms as a prefix code.
use Rattle.std.proofs.Common.{◌≡◌, refl, ap, sym, Bool, true, false, not, ◌&&◌, List, [], ◌∷◌, ◌++◌, append-nil, ℕ, zero, suc, ◌+◌, ◌*◌, ◌/◌, ◌%◌, ◌≤◌, ◌<◌, arith, eqb-true, leb-true, nat_eq, nat_le, length, get_or}
use Rattle.std.proofs.Math.Bool.{and-eq-true_iff, false≢true}
use Rattle.calculus.specs.Terms.{first, second, choose, plus, less, Term, var, unit, lam, pair, inj, app, proj, case, protect, mu, literal, reckon}
use Rattle.rules.specs.Answer.{Bytes, byte, ◌⇒◌}
use Rattle.rules.specs.Limits.{script_width}
use Rattle.rules.specs.Script.{full_record, object_record, encode, size, parse, make, no_term, arity, script_record}
use Rattle.rules.specs.Script.{Signature, signature_of, ok14}
use Rattle.rules.proofs.Prefix.{All, joined, total, Shape, Code, Prefix}
use Rattle.std.proofs.lemmas.Grind.{common_steps}

abbrev pub term_operands : Term → List Term
term_operands (var n) = []
term_operands (unit k) = []
term_operands (lam k i e) = e ∷ []
term_operands (pair k a b) = a ∷ b ∷ []
term_operands (inj d k i e) = e ∷ []
term_operands (app w f a) = f ∷ a ∷ []
term_operands (proj d w e) = e ∷ []
term_operands (case w i e a b) = e ∷ a ∷ b ∷ []
term_operands (protect m e) = e ∷ []
term_operands (mu w i e) = e ∷ []
term_operands (literal k n) = []
term_operands (reckon o w a b) = a ∷ b ∷ []

abbrev pub term_head : Term → Bytes
term_head (var n) = script_record 0 0 0 n
term_head (unit k) = object_record 1 k 0
term_head (lam k i e) = object_record 2 k i
term_head (pair k a b) = object_record 3 k 0
term_head (inj d k i e) = object_record (choose d 4 5) k i
term_head (app w f a) = script_record 6 w 0 0
term_head (proj d w e) = script_record (choose d 7 8) w 0 0
term_head (case w i e a b) = script_record 9 w 0 i
term_head (protect m e) = full_record 10 0 m.ir 0 0 m.ic
term_head (mu w i e) = script_record 11 w 0 i
term_head (literal k n) = object_record 12 k n
term_head (reckon plus w a b) = script_record 13 w 0 0
term_head (reckon (less i) w a b) = script_record 14 w 0 i

pub term_size_is : (e : Term) → size e ≡ suc (total size (term_operands e))
unfolding size
term_size_is e = grind arith

pub term_induction : (P : Term → Type 0) → ((e : Term) → All P (term_operands e) → P e) → (e : Term) → P e
term_induction P f (var n) = f (var n) tt
term_induction P f (unit k) = f (unit k) tt
term_induction P f (lam k i e) = f (lam k i e) (term_induction P f e, tt)
term_induction P f (pair k a b) = f (pair k a b) (term_induction P f a, (term_induction P f b, tt))
term_induction P f (inj d k i e) = f (inj d k i e) (term_induction P f e, tt)
term_induction P f (app w g a) = f (app w g a) (term_induction P f g, (term_induction P f a, tt))
term_induction P f (proj d w e) = f (proj d w e) (term_induction P f e, tt)
term_induction P f (case w i e a b) = f (case w i e a b) (term_induction P f e, (term_induction P f a, (term_induction P f b, tt)))
term_induction P f (protect m e) = f (protect m e) (term_induction P f e, tt)
term_induction P f (mu w i e) = f (mu w i e) (term_induction P f e, tt)
term_induction P f (literal k n) = f (literal k n) tt
term_induction P f (reckon o w a b) = f (reckon o w a b) (term_induction P f a, (term_induction P f b, tt))

abbrev pub term_shape : Shape Term
term_shape = record { operands = term_operands; size = size; size_is = term_size_is; induction = term_induction }

pub term_head_length : (e : Term) → length (term_head e) ≡ script_width
term_head_length e = grind arith

pub term_encode_is : (e : Term) → encode e ≡ term_head e ++ joined encode (term_operands e)
unfolding encode
term_encode_is e = grind (arith, common_steps)

abbrev pub term_code : Code term_shape
term_code =
    record { width = script_width; head = term_head; encode = encode; head_length = term_head_length; encode_is = term_encode_is }

pub term_head_arity : (e : Term) → arity (byte (term_head e) 0) ≡ length (term_operands e)
unfolding arity
term_head_arity e = grind arith

-- a number from its two bytes
pub two_bytes : (n : ℕ) → n % 256 + 256 * (n / 256) ≡ n
two_bytes n = omega arith

pub term_parse_node : (e : Term) (s : Bytes) (ts : List Term) → parse s ≡ term_operands e ++ ts → parse (term_head e ++ s) ≡ e ∷ ts
unfolding parse
term_parse_node e s ts h = grind arith

-- What question 14 says of a record's fields.
record Fields (f : Signature) (k r ir z n c ic : ℕ) : Type 0 where
  known : k ≤ 14
  zero_is : z ≡ 0
  r_unnamed : f.r ≡ false → r ≡ 0
  ir_unnamed : f.ir ≡ false → ir ≡ 0
  number_unnamed : f.number ≡ false → n ≡ 0
  c_unnamed : f.c ≡ false → c ≡ 0
  ic_unnamed : f.ic ≡ false → ic ≡ 0

unless : (b : Bool) (x : ℕ) → (not b ⇒ nat_eq x 0) ≡ true → b ≡ false → x ≡ 0
unless b x h e = grind arith

fields : (f : Signature) (k r ir z n c ic : ℕ)
    → (nat_le k 14 && (nat_eq z 0 && ((not f.r ⇒ nat_eq r 0) && ((not f.ir ⇒ nat_eq ir 0)
    && ((not f.number ⇒ nat_eq n 0) && ((not f.c ⇒ nat_eq c 0) && (not f.ic ⇒ nat_eq ic 0))))))) ≡ true → Fields f k r ir z n c ic
fields f k r ir z n c ic h =
    let a = (and-eq-true_iff _ _).0 h in
    let b = (and-eq-true_iff _ _).0 a.1 in
    let p = (and-eq-true_iff _ _).0 b.1 in
    let d = (and-eq-true_iff _ _).0 p.1 in
    let x = (and-eq-true_iff _ _).0 d.1 in
    let y = (and-eq-true_iff _ _).0 x.1 in
    record {
      known = leb-true k 14 a.0;
      zero_is = eqb-true z 0 b.0;
      r_unnamed = unless f.r r p.0;
      ir_unnamed = unless f.ir ir d.0;
      number_unnamed = unless f.number n x.0;
      c_unnamed = unless f.c c y.0;
      ic_unnamed = unless f.ic ic y.1;
    }

-- lists of a known length
no_terms : (ts : List Term) → length ts ≡ 0 → [] ≡ ts
no_terms ts h = grind (arith, common_steps)

one_term : (ts : List Term) → length ts ≡ 1 → get_or ts 0 no_term ∷ [] ≡ ts
one_term ts h = grind (arith, common_steps)

two_terms : (ts : List Term) → length ts ≡ 2 → get_or ts 0 no_term ∷ get_or ts 1 no_term ∷ [] ≡ ts
two_terms ts h = grind (arith, common_steps)

three_terms : (ts : List Term) → length ts ≡ 3 → get_or ts 0 no_term ∷ get_or ts 1 no_term ∷ get_or ts 2 no_term ∷ [] ≡ ts
three_terms ts h = grind (arith, common_steps)

abbrev made : ℕ → ℕ → ℕ → ℕ → ℕ → ℕ → List Term → Term
made k r ir n c ic ts = make k r ir n c ic (get_or ts 0 no_term) (get_or ts 1 no_term) (get_or ts 2 no_term)

node_of : (k r ir z lo hi c ic : ℕ) (ts : List Term) → Fields (signature_of k) k r ir z (lo + 256 * hi) c ic → lo < 256 → length ts ≡ arity k
    → (term_head (made k r ir (lo + 256 * hi) c ic ts) ≡ k ∷ r ∷ ir ∷ z ∷ lo ∷ hi ∷ c ∷ ic ∷ []) × (term_operands (made k r ir (lo + 256 * hi) c ic ts) ≡ ts)
unfolding arity
node_of k r ir z lo hi c ic ts n l m = grind (arith, no_terms, one_term, two_terms, three_terms)

-- A record passes question 14, and its bytes are bytes.
pub record GoodRecord (h : Bytes) : Type 0 where
  pub passes : ok14 h 0 ≡ true
  pub low : byte h 4 < 256

pub term_node : (h : Bytes) (ts : List Term) → length h ≡ script_width → GoodRecord h → length ts ≡ arity (byte h 0)
    → (e : Term) × (term_head e ≡ h) × (term_operands e ≡ ts)
unfolding ok14
term_node (k ∷ r ∷ ir ∷ z ∷ lo ∷ hi ∷ c ∷ ic ∷ []) ts l g m =
    let p = node_of k r ir z lo hi c ic ts (fields (signature_of k) k r ir z (lo + 256 * hi) c ic g.passes) g.low m in
    (made k r ir (lo + 256 * hi) c ic ts, p.0, p.1)
term_node _ ts l g m = absurd (omega arith)

abbrev pub term_prefix : Prefix term_code
term_prefix =
    record {
      wide = omega arith;
      arity = arity;
      parse = parse;
      Good = GoodRecord;
      head_arity = term_head_arity;
      parse_node = term_parse_node;
      node = term_node;
    }
