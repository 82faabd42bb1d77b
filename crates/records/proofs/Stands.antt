-- A term that stands at a record: its record's kind, and where its operands stand.
use Rattle.std.proofs.Common.{◌≡◌, refl, ap, sym, ◌∙◌, List, [], ◌∷◌, ◌++◌, append_assoc, append-nil, ℕ, suc, ◌+◌, ◌*◌}
use Rattle.std.proofs.Common.{◌-◌, ◌≤◌, ◌<◌, arith, length, take, drop, length-append, length-drop}
use Rattle.std.proofs.Math.Option.{some}
use Rattle.calculus.specs.Terms.{first, second, plus, less, Term, var, unit, lam, pair, inj, app, proj, case, protect}
use Rattle.calculus.specs.Terms.{mu, literal, reckon}
use Rattle.rules.specs.Answer.{Bytes, byte}
use Rattle.rules.specs.Limits.{script_width}
use Rattle.rules.specs.Script.{kind, records, encode, size, term, term_end, arity}
use Rattle.rules.proofs.Prefix.{joined}
use Rattle.rules.proofs.Parts.{first_byte}
use Rattle.rules.proofs.PrefixLaws.{size_positive, encode_length, ops_at, tree_end}
use Rattle.rules.proofs.Nodes.{operand_at}
use Rattle.rules.proofs.TermCode.{term_code, term_prefix, term_head, term_operands, term_head_length, term_encode_is}
use Rattle.rules.proofs.Scripts.{records_encode}
use Rattle.records.specs.Kinds as kinds
use Rattle.records.specs.Place.{At, Here}
use Rattle.records.specs.Operands.{first_operand, second_operand}
use Rattle.records.proofs.ThirdOperand.{third_operand}

abbrev pub operands : Term → ℕ
operands e = length (term_operands e)

abbrev pub kind_of : Term → ℕ
kind_of e = byte (term_head e) 0

pub here : {s : Bytes} {i : ℕ} {e : Term} → At s i e → Here s i
here {e = e} w = record { tree = e; at = w }

-- a term's bytes are within its script
pub room : (s : Bytes) (i : ℕ) (e : Term) → At s i e → script_width * i + script_width * size e ≤ length s
room s i e w =
    omega (
      arith,
      ap length w.stands,
      length-drop (script_width * i) s,
      length-append (encode e) w.rest,
      encode_length term_code e,
      size_positive
          term_code e,
    )

-- a term's records are within its script, and so its first record is there
pub inside : (s : Bytes) (i : ℕ) (e : Term) → At s i e → i + size e ≤ records s
inside s i e w = omega (arith, room s i e w)

pub there : (s : Bytes) (i : ℕ) (e : Term) → At s i e → i < records s
there s i e w = omega (arith, inside s i e w, size_positive term_code e)

pub stands_arity : (s : Bytes) (i : ℕ) (e : Term) → At s i e → arity (kind s i) ≡ operands e
stands_arity s i e w = ops_at term_prefix s i e w.rest w.stands

pub stands_kind : (s : Bytes) (i : ℕ) (e : Term) → At s i e → kind s i ≡ kind_of e
stands_kind s i e w =
    first_byte s (script_width * i) (term_head e) (joined encode (term_operands e) ++ w.rest) (omega (arith, term_head_length e))
    (w.stands ∙ ap (λ b. b ++ w.rest) (term_encode_is e) ∙ append_assoc (term_head e) (joined encode (term_operands e)) w.rest)

module _ (a b c : Term) where
  -- as many of the three as the list is long
  abbrev Starts : List Term → Type 0
  Starts ts = ts ≡ take (length ts) (a ∷ b ∷ c ∷ [])

  one_up : (ts : List Term) → Starts ts → 1 ≤ length ts → ts ≡ a ∷ drop 1 ts
  one_up [] h l = absurd (omega arith)
  one_up (x ∷ ts) h l = cc

  two_up : (ts : List Term) → Starts ts → 2 ≤ length ts → ts ≡ a ∷ b ∷ drop 2 ts
  two_up [] h l = absurd (omega arith)
  two_up (x ∷ []) h l = absurd (omega arith)
  two_up (x ∷ y ∷ ts) h l = cc

  three_up : (ts : List Term) → Starts ts → 3 ≤ length ts → ts ≡ a ∷ b ∷ c ∷ drop 3 ts
  three_up (x ∷ y ∷ z ∷ ts) h l = cc
  three_up _ h l = absurd (omega arith)

-- A term's operands are the first of the three that stand for them.
listed : (e : Term) → term_operands e ≡ take (operands e) (first_operand e ∷ second_operand e ∷ third_operand e ∷ [])
listed (var n) = refl
listed _ = refl

moved : {s : Bytes} {e : Term} (i j : ℕ) (rest : Bytes) → i ≡ j → drop (script_width * i) s ≡ encode e ++ rest → At s j e
moved {s} i j rest p h = record { rest = rest; stands = ap (λ n. drop (script_width * n) s) (sym p) ∙ h }

module _ (s : Bytes) (i : ℕ) (e : Term) (w : At s i e) where
  pub at_first : 1 ≤ operands e → At s (i + 1) (first_operand e)
  at_first h =
      moved (suc i + 0) (i + 1) _ (omega arith)
      (operand_at term_code s i e w.rest w.stands [] (first_operand e) (drop 1 (term_operands e)) (one_up _ _ _ _ (listed e) h))

  pub at_second : (j : ℕ) → 2 ≤ operands e → j ≡ i + 1 + size (first_operand e) → At s j (second_operand e)
  at_second j h p =
      moved (suc i + (size (first_operand e) + 0)) j _ (omega arith)
      (operand_at term_code s i e w.rest w.stands (first_operand e ∷ []) (second_operand e) (drop 2 (term_operands e)) (two_up _ _ _ _ (listed e) h))

  pub at_third : (j : ℕ) → 3 ≤ operands e → j ≡ i + 1 + size (first_operand e) + size (second_operand e) → At s j (third_operand e)
  at_third j h p =
      moved (suc i + (size (first_operand e) + (size (second_operand e) + 0))) j _ (omega arith)
      (operand_at term_code s i e w.rest w.stands (first_operand e ∷ second_operand e ∷ []) (third_operand e) (drop 3 (term_operands e))
      (three_up _ _ _ _ (listed e) h))

-- a whole script
pub at_start : (s : Bytes) → encode (term s) ≡ s → At s 0 (term s)
at_start s h = record { rest = []; stands = sym h ∙ sym (append-nil (encode (term s))) }

pub start_records : (s : Bytes) → encode (term s) ≡ s → records s ≡ size (term s)
start_records s h = ap records (sym h) ∙ records_encode (term s)

-- a term ends size e records on
pub stands_end : (s : Bytes) (i : ℕ) (e : Term) → At s i e → term_end s i ≡ some (i + size e)
unfolding term_end
stands_end s i e w = tree_end term_prefix e s i (records s - i) w.rest (omega (arith, room s i e w)) w.stands

-- every term's record has a kind
known : (e : Term) → kind_of e ≤ kinds.less
known (inj first k i e) = omega arith
known (proj first w e) = omega arith
known (reckon plus w a b) = omega arith
known _ = omega arith

pub stands_known : (s : Bytes) (i : ℕ) (e : Term) → At s i e → kind s i ≤ kinds.less
stands_known s i e w = omega (arith, stands_kind s i e w, known e)
