-- The numbers that questions 18 and 19 give to records, depths and counts of binders, are a code of their own: a term
-- together with its number is a tree, whose records are one number wide. So each record's number is that of its node.
use Rattle.std.proofs.Common.{◌≡◌, refl, ap, sym, ◌∙◌, List, [], ◌∷◌, ◌++◌, append-nil, ℕ, suc, ◌+◌, ◌*◌, ◌<◌, arith}
use Rattle.std.proofs.Common.{length, get_or, Bool, true, false, cond, if◌then◌else◌}
use Rattle.calculus.specs.Terms.{Term, var, unit, lam, pair, inj, app, proj, case, protect, mu, literal, reckon}
use Rattle.rules.specs.Answer.{Bytes, byte}
use Rattle.rules.specs.Limits.{script_width}
use Rattle.calculus.specs.Typing.{finds_own}
use Rattle.rules.specs.Script.{encode, size, weight, depths_from, binders_from}
use Rattle.rules.proofs.Prefix.{All, joined, total, Shape, Code, record_at}
use Rattle.rules.proofs.Parts.{record_first}
use Rattle.rules.proofs.PrefixLaws.{encode_length, alone}
use Rattle.rules.proofs.Nodes.{NodeAt, Every, node_at, at_size, at_record}
use Rattle.rules.proofs.TermCode.{term_shape, term_code, term_operands, term_head}

-- the numbers of depths and of binders: one more, and the same
abbrev pub up : ℕ → ℕ
up n = suc n

abbrev pub stay : ℕ → ℕ
stay n = n

-- A number for each record, in the records' order: n at the node, `deeper n` at an operand, and `bound n` at one that a
-- binder stands over; a case with number i passes on `wide i n` in the place of n.
unfoldable pub counts : (ℕ → ℕ → ℕ) → (ℕ → ℕ) → (ℕ → ℕ) → ℕ → Term → List ℕ
counts wide deeper bound n (lam k i e) = n ∷ counts wide deeper bound (bound n) e
counts wide deeper bound n (pair k a b) = n ∷ (counts wide deeper bound (deeper n) a ++ counts wide deeper bound (deeper n) b)
counts wide deeper bound n (inj d k i e) = n ∷ counts wide deeper bound (deeper n) e
counts wide deeper bound n (app w f a) = n ∷ (counts wide deeper bound (deeper n) f ++ counts wide deeper bound (deeper n) a)
counts wide deeper bound n (proj d w e) = n ∷ counts wide deeper bound (deeper n) e
counts wide deeper bound n (case w i e a b) =
    n ∷ (counts wide deeper bound (deeper (wide i n)) e
    ++ (counts wide deeper bound (bound (wide i n)) a ++ counts wide deeper bound (bound (wide i n)) b))
counts wide deeper bound n (protect m e) = n ∷ counts wide deeper bound (deeper n) e
counts wide deeper bound n (mu w i e) = n ∷ counts wide deeper bound (bound n) e
counts wide deeper bound n (reckon o w a b) = n ∷ (counts wide deeper bound (deeper n) a ++ counts wide deeper bound (deeper n) b)
counts wide deeper bound n _ = n ∷ []

-- one deeper still, where the case finds its own type
abbrev pub widened : ℕ → ℕ → ℕ
widened i n = if finds_own i then suc n else n

abbrev pub unwidened : ℕ → ℕ → ℕ
unwidened i n = n

abbrev pub zip : {T : Type 0} → List ℕ → List T → List (ℕ × T)
zip [] [] = []
zip [] (e ∷ es) = []
zip (m ∷ ms) [] = []
zip (m ∷ ms) (e ∷ es) = (m, e) ∷ zip ms es

zip_total : {T : Type 0} (f : T → ℕ) (ms : List ℕ) (es : List T) → length ms ≡ length es → total (λ p. f p.1) (zip ms es) ≡ total f es
zip_total f [] [] h = refl
zip_total f [] (e ∷ es) h = absurd (omega arith)
zip_total f (m ∷ ms) [] h = absurd (omega arith)
zip_total f (m ∷ ms) (e ∷ es) h = ap (λ n. f e + n) (zip_total f ms es (omega arith))

zip_joined : {T : Type 0} (f : T → Bytes) (ms : List ℕ) (es : List T) → length ms ≡ length es → joined (λ p. f p.1) (zip ms es) ≡ joined f es
zip_joined f [] [] h = refl
zip_joined f [] (e ∷ es) h = absurd (omega arith)
zip_joined f (m ∷ ms) [] h = absurd (omega arith)
zip_joined f (m ∷ ms) (e ∷ es) h = ap (λ b. f e ++ b) (zip_joined f ms es (omega arith))

zip_all : {T : Type 0} (P : ℕ × T → Type 0) (ms : List ℕ) (es : List T) → All (λ e. (n : ℕ) → P (n, e)) es → All P (zip ms es)
zip_all P [] [] h = tt
zip_all P [] (e ∷ es) h = tt
zip_all P (m ∷ ms) [] h = tt
zip_all P (m ∷ ms) (e ∷ es) h = (h.0 m, zip_all P ms es h.1)

module _ (wide : ℕ → ℕ → ℕ) (deeper bound : ℕ → ℕ) where
  -- the operands' numbers
  abbrev pub under : ℕ → Term → List ℕ
  under n (lam k i e) = bound n ∷ []
  under n (pair k a b) = deeper n ∷ deeper n ∷ []
  under n (inj d k i e) = deeper n ∷ []
  under n (app w f a) = deeper n ∷ deeper n ∷ []
  under n (proj d w e) = deeper n ∷ []
  under n (case w i e a b) = deeper (wide i n) ∷ bound (wide i n) ∷ bound (wide i n) ∷ []
  under n (protect m e) = deeper n ∷ []
  under n (mu w i e) = bound n ∷ []
  under n (reckon o w a b) = deeper n ∷ deeper n ∷ []
  under n _ = []

  under_length : (n : ℕ) (e : Term) → length (under n e) ≡ length (term_operands e)
  under_length n e = grind arith

  abbrev pub numbered : ℕ × Term → List (ℕ × Term)
  numbered p = zip (under p.0 p.1) (term_operands p.1)

  pub numbered_size_is : (p : ℕ × Term) → size p.1 ≡ suc (total (λ (q : ℕ × Term). size q.1) (numbered p))
  numbered_size_is p = term_shape.size_is p.1 ∙ ap suc (sym (zip_total size (under p.0 p.1) (term_operands p.1) (under_length p.0 p.1)))

  pub numbered_induction : (P : ℕ × Term → Type 0) → ((p : ℕ × Term) → All P (numbered p) → P p) → (p : ℕ × Term) → P p
  numbered_induction P f p =
      term_shape.induction (λ e. (n : ℕ) → P (n, e)) (λ e h n. f (n, e) (zip_all P (under n e) (term_operands e) h)) p.1 p.0

  abbrev pub counted : Shape (ℕ × Term)
  counted = record { operands = numbered; size = λ p. size p.1; size_is = numbered_size_is; induction = numbered_induction }

  pub counts_is : (n : ℕ) (e : Term) → counts wide deeper bound n e ≡ n ∷ joined (λ (q : ℕ × Term). counts wide deeper bound q.0 q.1) (numbered (n, e))
  unfolding counts
  counts_is n (lam k i e) = rw (append-nil (counts wide deeper bound (bound n) e))
  counts_is n (pair k a b) = rw (append-nil (counts wide deeper bound (deeper n) b))
  counts_is n (inj d k i e) = rw (append-nil (counts wide deeper bound (deeper n) e))
  counts_is n (app w f a) = rw (append-nil (counts wide deeper bound (deeper n) a))
  counts_is n (proj d w e) = rw (append-nil (counts wide deeper bound (deeper n) e))
  counts_is n (case w i e a b) = rw (append-nil (counts wide deeper bound (bound (wide i n)) b))
  counts_is n (protect m e) = rw (append-nil (counts wide deeper bound (deeper n) e))
  counts_is n (mu w i e) = rw (append-nil (counts wide deeper bound (bound n) e))
  counts_is n (reckon o w a b) = rw (append-nil (counts wide deeper bound (deeper n) b))
  counts_is n _ = refl

  abbrev pub count_code : Code counted
  count_code =
      record {
        width = 1;
        head = λ p. p.0 ∷ [];
        encode = λ p. counts wide deeper bound p.0 p.1;
        head_length = λ p. refl;
        encode_is = λ p. counts_is p.0 p.1;
      }

  pub numbered_encode_is : (p : ℕ × Term) → encode p.1 ≡ term_head p.1 ++ joined (λ (q : ℕ × Term). encode q.1) (numbered p)
  numbered_encode_is p =
      term_code.encode_is p.1
      ∙ ap (λ b. term_head p.1 ++ b) (sym (zip_joined encode (under p.0 p.1) (term_operands p.1) (under_length p.0 p.1)))

  abbrev pub numbered_code : Code counted
  numbered_code =
      record {
        width = script_width;
        head = λ p. term_head p.1;
        encode = λ p. encode p.1;
        head_length = λ p. term_code.head_length p.1;
        encode_is = numbered_encode_is;
      }

  pub counts_length : (n : ℕ) (e : Term) → length (counts wide deeper bound n e) ≡ size e
  counts_length n e = omega (arith, encode_length count_code (n, e))

  -- the number and the record of a node
  pub count_at : {n m : ℕ} {e c : Term} {j : ℕ} → NodeAt counted (n, e) j (m, c) → get_or (counts wide deeper bound n e) j 0 ≡ m
  count_at {n} {m} {e} {c} {j} a =
      let s = counts wide deeper bound n e in
      let z : j ≡ 1 * (0 + j) = omega arith in
      cc (z, record_first 1 s (0 + j) (omega arith), at_record count_code a s 0 [] (alone count_code (n, e)))

  pub head_at : {n m : ℕ} {e c : Term} {j : ℕ} → NodeAt counted (n, e) j (m, c) → record_at script_width (encode e) j ≡ term_head c
  head_at {n} {m} {e} {c} {j} a =
      let z : j ≡ 0 + j = omega arith in
      ap (λ k. record_at script_width (encode e) k) z ∙ at_record numbered_code a (encode e) 0 [] (alone numbered_code (n, e))

  -- What holds of the number and the record of every node holds of every record with its number, and back.
  module _ (R : ℕ → Bytes → Type 0) (n : ℕ) (e : Term) where
    pub to_counted_records : Every counted (λ p. R p.0 (term_head p.1)) (n, e)
        → (j : ℕ) → j < size e → R (get_or (counts wide deeper bound n e) j 0) (record_at script_width (encode e) j)
    to_counted_records h j l =
        let c = node_at counted (n, e) j l in
        rw (count_at c.1, head_at c.1) (h.at j c.0 c.1)

    pub to_counted_nodes : ((j : ℕ) → j < size e → R (get_or (counts wide deeper bound n e) j 0) (record_at script_width (encode e) j))
        → Every counted (λ p. R p.0 (term_head p.1)) (n, e)
    to_counted_nodes h =
        record { at = λ j c a. rw (count_at a, head_at a) at (h j (omega (arith, at_size counted a, term_shape.size_is c.1))) }

-- what a case adds to its operands' depth
pub wide_weight : (i n : ℕ) → suc (widened i n) ≡ n + weight i
wide_weight i n = go (finds_own i)
  where
    go : (b : Bool) → suc (cond b (suc n) n) ≡ n + cond b 2 1
    go true = omega arith
    go false = omega arith

pub depths_counts : (n : ℕ) (e : Term) → depths_from n e ≡ counts widened up up n e
unfolding depths_from counts
depths_counts n (lam k i e) = rw (depths_counts (suc n) e)
depths_counts n (pair k a b) = rw (depths_counts (suc n) a, depths_counts (suc n) b)
depths_counts n (inj d k i e) = rw (depths_counts (suc n) e)
depths_counts n (app w f a) = rw (depths_counts (suc n) f, depths_counts (suc n) a)
depths_counts n (proj d w e) = rw (depths_counts (suc n) e)
depths_counts n (case w i e a b) =
    let m = suc (widened i n) in
    ap (λ j. n ∷ (depths_from j e ++ (depths_from j a ++ depths_from j b))) (sym (wide_weight i n))
    ∙ rw (depths_counts m e, depths_counts m a, depths_counts m b)
depths_counts n (protect m e) = rw (depths_counts (suc n) e)
depths_counts n (mu w i e) = rw (depths_counts (suc n) e)
depths_counts n (reckon o w a b) = rw (depths_counts (suc n) a, depths_counts (suc n) b)
depths_counts n _ = refl

pub binders_counts : (n : ℕ) (e : Term) → binders_from n e ≡ counts unwidened stay up n e
unfolding binders_from counts
binders_counts n (lam k i e) = rw (binders_counts (suc n) e)
binders_counts n (pair k a b) = rw (binders_counts n a, binders_counts n b)
binders_counts n (inj d k i e) = rw (binders_counts n e)
binders_counts n (app w f a) = rw (binders_counts n f, binders_counts n a)
binders_counts n (proj d w e) = rw (binders_counts n e)
binders_counts n (case w i e a b) = rw (binders_counts n e, binders_counts (suc n) a, binders_counts (suc n) b)
binders_counts n (protect m e) = rw (binders_counts n e)
binders_counts n (mu w i e) = rw (binders_counts (suc n) e)
binders_counts n (reckon o w a b) = rw (binders_counts n a, binders_counts n b)
binders_counts n _ = refl

pub depths_length : (n : ℕ) (e : Term) → length (depths_from n e) ≡ size e
depths_length n e = ap length (depths_counts n e) ∙ counts_length widened up up n e

pub binders_length : (n : ℕ) (e : Term) → length (binders_from n e) ≡ size e
binders_length n e = ap length (binders_counts n e) ∙ counts_length unwidened stay up n e
