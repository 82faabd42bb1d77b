-- What writing the callers does to each byte of a script: byte 1 of a recursion of a type is r of that type, and every
-- other byte stays.
use Rattle.std.proofs.Common.{◌≡◌, refl, ap, sym, ◌∙◌, Bool, true, false, cond, [], ◌∷◌, ℕ, zero, suc, ◌+◌, ◌*◌, ◌≤◌}
use Rattle.std.proofs.Common.{◌<◌, arith, zero-add, length, take, drop, set, length-append, length-drop, get_or-drop}
use Rattle.std.proofs.Common.{get_or-take, length-take-le}
use Rattle.std.proofs.Math.ListN.{get_or-append}
use Rattle.std.proofs.lemmas.List.{get_or-append-add, get_or-set_same, get_or-set_other, length-set}
use Rattle.std.proofs.Math.Nat.{mul-add, mul-one}
use Rattle.rules.specs.Answer.{Bytes, byte, Octets}
use Rattle.rules.specs.Limits.{old_type_width, old_script_width}
use Rattle.rules.specs.Callers.{old_records, old_r, recursion_of_type, caller, first_number, put_callers, write_callers}
use Rattle.rules.proofs.Octets.{octets_append, octets_take, octets_drop}
use Rattle.std.proofs.lemmas.Grind.{common_steps}

pub next_record : (width i : ℕ) → width * suc i ≡ width + width * i
next_record width i = grind arith

-- the caller of record i, in records of this width
abbrev pub caller_of : ℕ → ℕ → Bytes → Bytes → ℕ → ℕ
caller_of type_bytes width t s i =
    caller type_bytes t (byte s (width * i)) (byte s (width * i + 1)) (byte s (width * i + 4) + 256 * byte s (width * i + 5))

module _ (type_bytes width : ℕ) (wide : 6 ≤ width) (t : Bytes) where
  abbrev put : ℕ → Bytes → Bytes
  put = put_callers type_bytes width t

  -- the first record, written
  abbrev front : Bytes → Bytes
  front s = set (take width s) 1 (caller type_bytes t (byte s 0) (byte s 1) (first_number s))

  front_length : (n : ℕ) (s : Bytes) → width * suc n ≤ length s → length (front s) ≡ width
  front_length n s l = length-set (take width s) 1 _ ∙ length-take-le width s (omega (arith, next_record width n))

  later : (n : ℕ) (s : Bytes) → width * suc n ≤ length s → width * n ≤ length (drop width s)
  later n s l = omega (arith, next_record width n, length-drop width s)

  pub put_length : (n : ℕ) (s : Bytes) → width * n ≤ length s → length (put n s) ≡ length s
  unfolding put_callers
  put_length zero s l = refl
  put_length (suc n) s l =
      length-append (front s) (put n (drop width s))
      ∙ omega (arith, front_length n s l, put_length n (drop width s) (later n s l), length-drop width s, next_record width n)

  -- a byte of a later record
  put_later : (n : ℕ) (s : Bytes) (i m : ℕ) → width * suc n ≤ length s → byte (put (suc n) s) (width * suc i + m) ≡ byte (put n (drop width s)) (width * i + m)
  unfolding put_callers
  put_later n s i m l = grind (arith, common_steps)

  was_later : (s : Bytes) (i m : ℕ) → byte (drop width s) (width * i + m) ≡ byte s (width * suc i + m)
  was_later s i m = grind (arith, common_steps)

  was_first : (s : Bytes) (i : ℕ) → byte (drop width s) (width * i) ≡ byte s (width * suc i)
  was_first s i = grind (arith, common_steps)

  at_front : (n : ℕ) (s : Bytes) (m : ℕ) → width * suc n ≤ length s → m < width → byte (put (suc n) s) m ≡ byte (front s) m
  unfolding put_callers
  at_front n s m l d = get_or-append (front s) (put n (drop width s)) 0 m (omega (arith, front_length n s l))

  -- every byte of a record but byte 1
  pub put_byte : (n : ℕ) (s : Bytes) (i m : ℕ) → width * n ≤ length s → m < width → (m ≡ 1 → ⊥) → byte (put n s) (width * i + m) ≡ byte s (width * i + m)
  unfolding put_callers
  put_byte zero s i m l d e = refl
  put_byte (suc n) s (suc i) m l d e = put_later n s i m l ∙ put_byte n (drop width s) i m (later n s l) d e ∙ was_later s i m
  put_byte (suc n) s zero m l d e = grind (arith, at_front, get_or-set_other, get_or-take)

  -- byte 1
  pub put_r : (n : ℕ) (s : Bytes) (i : ℕ) → width * n ≤ length s → i < n → byte (put n s) (width * i + 1) ≡ caller_of type_bytes width t s i
  put_r zero s i l a = absurd (omega arith)
  put_r (suc n) s (suc i) l a =
      put_later n s i 1 l ∙ put_r n (drop width s) i (later n s l) (omega arith) ∙ rw (was_first s i, was_later s i 1, was_later s i 4, was_later s i 5) refl
  put_r (suc n) s zero l a = grind (arith, at_front, get_or-set_same, length-take-le, next_record, zero-add)

-- The same of a whole script.
module _ (t s : Bytes) where
  whole : old_script_width * old_records s ≤ length s
  whole = omega arith

  pub callers_length : length (write_callers t s) ≡ length s
  callers_length = put_length old_type_width old_script_width (omega arith) t (old_records s) s whole

  pub callers_byte : (i n : ℕ) → n < 6 → (n ≡ 1 → ⊥) → byte (write_callers t s) (6 * i + n) ≡ byte s (6 * i + n)
  callers_byte i n l d = put_byte old_type_width old_script_width (omega arith) t (old_records s) s i n whole l d

  pub callers_r : (i : ℕ) → i < old_records s → old_r (write_callers t s) i ≡ caller_of old_type_width old_script_width t s i
  callers_r i l = put_r old_type_width old_script_width (omega arith) t (old_records s) s i whole l

-- record by record
pub callers_first : (t : Bytes) (k r ir z lo hi : ℕ) (s : Bytes)
    → write_callers t (k ∷ r ∷ ir ∷ z ∷ lo ∷ hi ∷ s) ≡ k ∷ caller old_type_width t k r (lo + 256 * hi) ∷ ir ∷ z ∷ lo ∷ hi ∷ write_callers t s
unfolding put_callers
callers_first t k r ir z lo hi s = grind arith

-- a byte past the first record
pub record_past : (a b c d e f : ℕ) (s : Bytes) (x y : ℕ) → x ≡ 6 + y → byte (a ∷ b ∷ c ∷ d ∷ e ∷ f ∷ s) x ≡ byte s y
record_past a b c d e f s x y p = grind arith

either_octet : (b : Bool) (m n : ℕ) → m < 256 → n < 256 → cond b m n < 256
either_octet b m n p q = grind arith

octets_set : (s : Bytes) (i v : ℕ) → v < 256 → Octets s → Octets (set s i v)
octets_set [] i v l p j = omega arith
octets_set (x ∷ s) zero v l p zero = l
octets_set (x ∷ s) zero v l p (suc j) = p (suc j)
octets_set (x ∷ s) (suc i) v l p zero = p zero
octets_set (x ∷ s) (suc i) v l p (suc j) = octets_set s i v l (λ k. p (suc k)) j

-- bytes are below 256
pub put_octets : (type_bytes width : ℕ) (t : Bytes) (n : ℕ) (s : Bytes) → Octets t → Octets s → Octets (put_callers type_bytes width t n s)
unfolding put_callers
put_octets type_bytes width t zero s p q = q
put_octets type_bytes width t (suc n) s p q =
    octets_append _ _
    (octets_set (take width s) 1 _
    (either_octet (recursion_of_type type_bytes t (byte s 0) (first_number s)) _ _ (p (type_bytes * first_number s + 1)) (q 1))
    (octets_take width s q))
    (put_octets type_bytes width t n (drop width s) p (octets_drop width s q))

pub callers_octets : (t s : Bytes) → Octets t → Octets s → Octets (write_callers t s)
callers_octets t s p q = put_octets old_type_width old_script_width t (old_records s) s p q
