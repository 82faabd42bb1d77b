-- One pass over a types table with a pending count: questions 11 and 12.
use Rattle.std.proofs.Common.{◌≡◌, ℕ, ◌+◌, ◌-◌, ◌≤◌, ◌<◌, Bool, true, false, cond, nat_eq, nat_le, refl, ap, sym, ◌∙◌}
use Rattle.std.proofs.Common.{arith, add-one, eq-eqb, ne_eqb}
use Rattle.std.proofs.Math.Decide.{ℕ_discrete, dec_lt}
use Rattle.std.proofs.Math.Option.{none, some}
use Rattle.calculus.specs.Types.{type_limit}
use Rattle.rules.specs.Answer.{Bytes, accepted, ask, each, ◌⇒◌, ◌>>◌}
use Rattle.rules.specs.Types.{type_count, type_kind, type_end, pending, ok11, ok12}
use Rattle.rules.proofs.Asked.{ask_true, implied}
use Rattle.rules.proofs.Search.{each_accepted, each_refused}
use Rattle.rules.proofs.PrefixLaws.{next_record, runs_out, comes_to_end}
use Rattle.types.proofs.Counting.{ops, walk, at_most_two}

-- After record i - 1, with `p` sides to come, in the outermost type that starts at `start`.
pub record Inside (ok : ℕ → Bool) (t : Bytes) (start p i : ℕ) : Type 0 where
  pub count : p ≡ pending t i
  pub small : p ≤ i + 1
  pub started : start < i
  pub before : (k : ℕ) → k < start → ok k ≡ true
  pub outer : pending t start ≡ 0
  pub inner : (k : ℕ) → start < k → k < i → pending t k ≡ 0 → ⊥
  pub rest : type_end t start ≡ walk t p i

-- What the pass knows before record i: where no side is to come, every record before it passes.
pub record Passing (ok : ℕ → Bool) (t : Bytes) (start p i : ℕ) : Type 0 where
  pub count : p ≡ pending t i
  pub small : p ≤ i + 1
  pub passed : p ≡ 0 → (k : ℕ) → k < i → ok k ≡ true
  pub within : 0 < p → Inside ok t start p i

abbrev pub next_start : ℕ → ℕ → ℕ → ℕ
next_start start p i = cond (nat_eq p 0) i start

abbrev pub next_pending : Bytes → ℕ → ℕ → ℕ
next_pending t p i = (p - 1) + ops t i

pending_next : (t : Bytes) (i : ℕ) → pending t (i + 1) ≡ (pending t i - 1) + ops t i
unfolding pending
pending_next t i = ap (pending t) (add-one i)

pub nothing_read : (ok : ℕ → Bool) (t : Bytes) (start : ℕ) {p : ℕ} → p ≡ 0 → Passing ok t start p 0
unfolding pending
nothing_read ok t start e = record { count = e; small = omega arith; passed = λ e k l. absurd (omega arith); within = λ l. absurd (omega arith) }

module _ (ok : ℕ → Bool) (t : Bytes) (start p i : ℕ) (l : i < type_count t) (h : Passing ok t start p i) where
  counted : next_pending t p i ≡ pending t (i + 1)
  counted = ap (λ n. (n - 1) + ops t i) h.count ∙ sym (pending_next t i)

  stays_small : next_pending t p i ≤ i + 1 + 1
  stays_small = omega (arith, h.small, at_most_two (type_kind t i))

  begun : p ≡ 0 → Inside ok t i (next_pending t p i) (i + 1)
  unfolding type_end
  begun e =
      record {
        count = counted;
        small = stays_small;
        started = omega arith;
        before = h.passed e;
        outer = sym h.count ∙ e;
        inner = λ k a b c. omega arith;
        rest = sym (next_record (ops t) (type_count t) 1 i (ops t i) l (omega arith) refl) ∙ ap (λ n. walk t (n + ops t i) (i + 1)) (omega arith);
      }

  onward : 0 < p → Inside ok t start (next_pending t p i) (i + 1)
  onward q =
      let w = h.within q in
      record {
        count = counted;
        small = stays_small;
        started = omega (arith, w.started);
        before = w.before;
        outer = w.outer;
        inner = λ k a b c. last k (ℕ_discrete k i) a b c;
        rest = w.rest ∙ sym (next_record (ops t) (type_count t) p i (ops t i) l q refl);
      }
    where
      last : (k : ℕ) → Dec (k ≡ i) → start < k → k < i + 1 → pending t k ≡ 0 → ⊥
      last k (yes e) a b c = omega (arith, h.count, ap (pending t) e)
      last k (no n) a b c = (h.within q).inner k a (omega arith) c

  read_there : Inside ok t (next_start start p i) (next_pending t p i) (i + 1)
  read_there = by (ℕ_discrete p 0)
    where
      by : Dec (p ≡ 0) → Inside ok t (next_start start p i) (next_pending t p i) (i + 1)
      by (yes e) = rw (eq-eqb p 0 e) (begun e)
      by (no n) = rw (ne_eqb p 0 n) (onward (omega arith))

  -- record i is read
  pub read : (start' p' : ℕ) → start' ≡ next_start start p i → p' ≡ next_pending t p i → Inside ok t start' p' (i + 1)
  read start' p' a b = rw (a, b) read_there

-- a record that starts no outermost type passes
abbrev pub Skips : (ℕ → Bool) → Bytes → Type 0
Skips ok t = (k : ℕ) → (pending t k ≡ 0 → ⊥) → ok k ≡ true

-- where the type that the pass is in has passed too, all records have
pub all_passed : (ok : ℕ → Bool) (t : Bytes) (start p i : ℕ) → Skips ok t → Inside ok t start p i → ok start ≡ true
    → (k : ℕ) → k < i → ok k ≡ true
all_passed ok t start p i skips w o k l = by (ℕ_discrete k start)
  where
    by : Dec (k ≡ start) → ok k ≡ true
    by (yes e) = ap ok e ∙ o
    by (no n) = side (dec_lt k start) n
      where
        side : Dec (k < start) → (k ≡ start → ⊥) → ok k ≡ true
        side (yes b) n = w.before k b
        side (no b) n = skips k (w.inner k (omega arith) l)

pub again : (ok : ℕ → Bool) (t : Bytes) (start p i : ℕ) → Skips ok t → Inside ok t start p i → (p ≡ 0 → ok start ≡ true)
    → Passing ok t start p i
again ok t start p i skips w o =
    record { count = w.count; small = w.small; passed = λ e. all_passed ok t start p i skips w (o e); within = λ q. w }

-- a type that ends, and one that doesn't
pub ended : (ok : ℕ → Bool) (t : Bytes) (start p i : ℕ) → Inside ok t start p i → p ≡ 0 → type_end t start ≡ some i
ended ok t start p i w e = w.rest ∙ comes_to_end (ops t) (type_count t - i) p i e

pub unended : (ok : ℕ → Bool) (t : Bytes) (start p i : ℕ) → Inside ok t start p i → 0 < p → type_count t ≤ i → type_end t start ≡ none
unended ok t start p i w q l = w.rest ∙ runs_out (ops t) (type_count t - i) p i (omega arith) q

module _ (t : Bytes) where
  -- Question 11.
  pub skips_11 : Skips (ok11 t) t
  unfolding ok11
  skips_11 k n = rw (ne_eqb (pending t k) 0 n)

  pub ends_11 : (start p i : ℕ) → Inside (ok11 t) t start p i → p ≡ 0 → ok11 t start ≡ true
  unfolding ok11
  ends_11 start p i w e = rw (eq-eqb (pending t start) 0 w.outer, ended (ok11 t) t start p i w e)

  -- what is answered after the last record
  pub asked_11 : (start p i : ℕ) → Passing (ok11 t) t start p i → type_count t ≤ i → i ≤ type_count t
      → ask 11 start (nat_eq p 0) ≡ each 11 (type_count t) (ok11 t)
  unfolding ok11
  asked_11 start p i h l m = by (ℕ_discrete p 0)
    where
      by : Dec (p ≡ 0) → ask 11 start (nat_eq p 0) ≡ each 11 (type_count t) (ok11 t)
      by (yes e) = rw (eq-eqb p 0 e) (sym (each_accepted 11 (type_count t) (ok11 t) (λ k b. h.passed e k (omega arith))))
      by (no n) =
          let q : 0 < p = omega arith in
          let w = h.within q in
          rw (ne_eqb p 0 n)
          (sym
          (each_refused 11 (type_count t) (ok11 t) start (omega (arith, w.started)) w.before
          (rw (eq-eqb (pending t start) 0 w.outer, unended (ok11 t) t start p i w q l))))

  -- Question 12.
  pub skips_12 : Skips (ok12 t) t
  unfolding ok12
  skips_12 k n = rw (ne_eqb (pending t k) 0 n)

  pub short_12 : (start p i : ℕ) → Inside (ok12 t) t start p i → accepted tt ≡ ask 12 start (nat_eq p 0 ⇒ nat_le (i - start) type_limit) → p ≡ 0 → ok12 t start ≡ true
  unfolding ok12
  short_12 start p i w a e =
      rw (eq-eqb (pending t start) 0 w.outer, ended (ok12 t) t start p i w e)
      (implied (nat_eq p 0) (nat_le (i - start) type_limit) (ask_true 12 start _ (sym a)) (eq-eqb p 0 e))

  -- asked of the type that the pass is in, it gives the table's answer
  pub asked_12 : (start p i : ℕ) → Inside (ok12 t) t start p i → i ≤ type_count t
      → ◌>>◌ (ask 12 start (nat_eq p 0 ⇒ nat_le (i - start) type_limit)) (each 12 (type_count t) (ok12 t)) ≡ each 12 (type_count t) (ok12 t)
  unfolding ok12
  asked_12 start p i w m = by (ℕ_discrete p 0)
    where
      long : p ≡ 0 → (b : Bool) → nat_le (i - start) type_limit ≡ b → ◌>>◌ (ask 12 start b) (each 12 (type_count t) (ok12 t)) ≡ each 12 (type_count t) (ok12 t)
      long e true l = refl
      long e false l =
          sym
          (each_refused 12 (type_count t) (ok12 t) start (omega (arith, w.started)) w.before
          (rw (eq-eqb (pending t start) 0 w.outer, ended (ok12 t) t start p i w e) l))

      by : Dec (p ≡ 0) → ◌>>◌ (ask 12 start (nat_eq p 0 ⇒ nat_le (i - start) type_limit)) (each 12 (type_count t) (ok12 t)) ≡ each 12 (type_count t) (ok12 t)
      by (yes e) = rw (eq-eqb p 0 e) (long e (nat_le (i - start) type_limit) refl)
      by (no n) = rw (ne_eqb p 0 n)

  -- an unfinished last type is question 11's
  pub accepted_12 : (start p i : ℕ) → Passing (ok12 t) t start p i → type_count t ≤ i → (k : ℕ) → k < i → ok12 t k ≡ true
  unfolding ok12
  accepted_12 start p i h l = by (ℕ_discrete p 0)
    where
      last : 0 < p → ok12 t start ≡ true
      last q = let w = h.within q in rw (eq-eqb (pending t start) 0 w.outer, unended (ok12 t) t start p i w q l)

      by : Dec (p ≡ 0) → (k : ℕ) → k < i → ok12 t k ≡ true
      by (yes e) = h.passed e
      by (no n) =
          let q : 0 < p = omega arith in
          all_passed (ok12 t) t start p i skips_12 (h.within q) (last q)
