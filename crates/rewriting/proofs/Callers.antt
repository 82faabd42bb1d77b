-- A loop that writes the callers, a record a turn, in records of any width.
use Rattle.std.proofs.Common.{◌≡◌, refl, sym, ap, ap₂, ◌∙◌, Bool, true, false, cond, ◌&&◌, ◌++◌, append_assoc, ℕ, zero}
use Rattle.std.proofs.Common.{suc, ◌+◌, ◌*◌, ◌-◌, ◌/◌, ◌≤◌, ◌<◌, arith, ltb-true, nat_eq, nat_lt, length, take, drop}
use Rattle.std.proofs.Common.{set, take-append-drop}
use mir.Val.{bool_byte}
use Rattle.std.proofs.Math.Seq.{set-get_or, get_or-drop}
use Rattle.rules.specs.Answer.{Bytes, byte}
use Rattle.rules.specs.Callers.{recursion_of_type, caller, first_number, put_callers, count_callers, write_callers_of}
use Rattle.rules.specs.Callers.{callers_written_of}
use Rattle.rules.proofs.Prefix.{record_at}
use Rattle.rewriting.specs.Caller.{record_number_at, recursion_at, caller_at, WrittenAt}
use Rattle.rewriting.proofs.SetByte.{set_up_to, set_past}

and_second : (a b : Bool) → a && b ≡ true → b ≡ true
and_second a b h = grind arith

-- what the test is as a number
pub counted : (b : Bool) → bool_byte b ≡ cond b 1 0
counted b = grind arith

pub at_most_one : (b : Bool) → bool_byte b ≤ 1
at_most_one b = grind arith

-- a record that is there is there whole
pub there : (width n i : ℕ) → 1 ≤ width → i < n / width → width * i + width ≤ n
there width n i w l = grind arith

pub names_type : (width : ℕ) (t : Bytes) (k n : ℕ) → recursion_of_type width t k n ≡ true → n < length t / width
names_type width t k n h = ltb-true n (length t / width) (and_second (nat_eq k 11) (nat_lt n (length t / width)) h)

module _ (type_bytes width : ℕ) where
  -- the test, made with what was read of record i
  pub tested : (t s : Bytes) (i : ℕ) {k n : ℕ} {b : Bool} → k ≡ byte s (width * i) → n ≡ record_number_at width s i → b ≡ recursion_of_type type_bytes t k n
      → recursion_at type_bytes width t s i ≡ b
  tested t s i p q e = sym (e ∙ ap₂ (recursion_of_type type_bytes t) p q)

  module _ (t s : Bytes) (i : ℕ) where
    -- a record that is no recursion of a type is left as it is
    pub left_as_is : recursion_at type_bytes width t s i ≡ false → WrittenAt type_bytes width t s i false s
    left_as_is h = record { wrote = sym h; script = rw h (sym (set-get_or s (width * i + 1) 0)) }

    -- in one that is, byte 1 is set
    pub set_in : (v : ℕ) → recursion_at type_bytes width t s i ≡ true → v ≡ byte t (type_bytes * record_number_at width s i + 1)
        → WrittenAt type_bytes width t s i true (set s (width * i + 1) v)
    set_in v h e = record { wrote = sym h; script = rw h (ap (set s (width * i + 1)) e) }

module _ (type_bytes width : ℕ) (wide : 6 ≤ width) (t : Bytes) where
  abbrev put : ℕ → Bytes → Bytes
  put = put_callers type_bytes width t

  abbrev count : ℕ → Bytes → ℕ
  count = count_callers type_bytes width t

  -- the first record is written, and then those after it
  abbrev first_caller : Bytes → ℕ
  first_caller s = caller type_bytes t (byte s 0) (byte s 1) (first_number s)

  first : (m : ℕ) (s : Bytes)
      → (put (suc m) s ≡ set (take width s) 1 (first_caller s) ++ put m (drop width s))
      × (count (suc m) s ≡ cond (recursion_of_type type_bytes t (byte s 0) (first_number s)) 1 0 + count m (drop width s))
  unfolding put_callers count_callers
  first m s = (refl, refl)

  none : (s : Bytes) → (put zero s ≡ s) × (count zero s ≡ 0)
  unfolding put_callers count_callers
  none s = (refl, refl)

  -- record i is the first of those that follow the ones before it
  module _ (s : Bytes) (i : ℕ) where
    rest_byte : (j : ℕ) → byte (drop (width * i) s) j ≡ byte s (width * i + j)
    rest_byte j = get_or-drop (width * i) s j 0

    rest_first : byte (drop (width * i) s) 0 ≡ byte s (width * i)
    rest_first = let p : width * i + 0 ≡ width * i = omega arith in rest_byte 0 ∙ ap (byte s) p

    same_caller : first_caller (drop (width * i) s) ≡ caller_at type_bytes width t s i
    same_caller = rw (rest_first, rest_byte 1, rest_byte 4, rest_byte 5) refl

    same_test : recursion_of_type type_bytes t (byte (drop (width * i) s) 0) (first_number (drop (width * i) s)) ≡ recursion_at type_bytes width t s i
    same_test = rw (rest_first, rest_byte 4, rest_byte 5) refl

  -- Of s₀, what is left to write when s is reached: the callers of the records from i on. n were written before.
  pub record Passed (s₀ s : Bytes) (i n : ℕ) : Type 0 where
    pub script : write_callers_of type_bytes width t s₀ ≡ take (width * i) s ++ put (length s₀ / width - i) (drop (width * i) s)
    pub count : callers_written_of type_bytes width t s₀ ≡ n + count (length s₀ / width - i) (drop (width * i) s)

  pub none_passed : (s : Bytes) → Passed s s 0 0
  none_passed s =
      let p : width * 0 ≡ 0 = omega arith in
      let q : length s / width - 0 ≡ length s / width = omega arith in
      record { script = rw (p, q) refl; count = rw (p, q) (omega arith) }

  pub one_more : {s₀ s s' : Bytes} {i n : ℕ} {b : Bool} → i < length s₀ / width → WrittenAt type_bytes width t s i b s' → Passed s₀ s i n
      → Passed s₀ s' (i + 1) (n + bool_byte b)
  one_more {s₀} {s} {s'} {i} {n} {b} l w p =
      let rest = drop (width * i) s in
      let m = length s₀ / width - (i + 1) in
      let v = caller_at type_bytes width t s i in
      let step : length s₀ / width - i ≡ suc m = omega arith in
      let one = first m rest in
      let front : take (width * i) s ++ set (record_at width s i) 1 v ≡ take (width * (i + 1)) s' =
      sym (ap (take (width * (i + 1))) w.script ∙ set_up_to width s i 1 v (omega arith)) in
      let past : drop width rest ≡ drop (width * (i + 1)) s' = sym (ap (drop (width * (i + 1))) w.script ∙ set_past width s i 1 v (omega arith)) in
      let more : count (length s₀ / width - i) rest ≡ bool_byte b + count m (drop (width * (i + 1)) s') =
      ap (λ k. count k rest) step ∙ one.1
      ∙ ap₂ (λ x d. cond x 1 0 + count m d) (same_test s i ∙ sym w.wrote) past ∙ ap (λ k. k + count m (drop (width * (i + 1)) s')) (sym (counted b)) in
      record {
        script =
            p.script
            ∙ ap (λ d. take (width * i) s ++ d)
            (ap (λ k. put k rest) step ∙ one.0 ∙ ap (λ x. set (take width rest) 1 x ++ put m (drop width rest)) (same_caller s i))
            ∙ sym (append_assoc (take (width * i) s) (set (take width rest) 1 v) (put m (drop width rest)))
            ∙ ap₂ (λ a d. a ++ put m d) front past;
        count = omega (arith, p.count, more);
      }

  pub all_passed : {s₀ s : Bytes} {i n : ℕ} → length s₀ / width ≤ i → Passed s₀ s i n
      → (n ≡ callers_written_of type_bytes width t s₀) × (s ≡ write_callers_of type_bytes width t s₀)
  all_passed {s₀} {s} {i} {n} l p =
      let done : length s₀ / width - i ≡ 0 = omega arith in
      let left = none (drop (width * i) s) in (
        omega (arith, p.count, ap (λ k. count k (drop (width * i) s)) done, left.1),
        sym (p.script ∙ ap (λ b. take (width * i) s ++ b) (ap (λ k. put k (drop (width * i) s)) done ∙ left.0) ∙ take-append-drop (width * i) s),
      )
