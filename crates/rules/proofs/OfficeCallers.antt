-- Callers in old office scripts: brought to the present form they are those that are put into the present form, and on
-- terms they are the labels of its recursions.
use Rattle.std.proofs.Common.{◌≡◌, refl, ap, ap₂, sym, ◌∙◌, [], ◌∷◌, ◌++◌, append_assoc, append-nil, ℕ, zero, suc, ◌+◌}
use Rattle.std.proofs.Common.{◌*◌, ◌≤◌, arith, length}
use Rattle.calculus.specs.Terms.{first, second, plus, less, Term, var, unit, lam, pair, inj, app, proj, case, protect}
use Rattle.calculus.specs.Terms.{mu, literal, reckon}
use Rattle.calculus.specs.Relabelling.{Labels, relabel}
use Rattle.rules.specs.Answer.{Bytes, Octets}
use Rattle.rules.specs.Limits.{type_width, script_width, office_width}
use Rattle.rules.specs.Script.{full_record, encode, size, records}
use Rattle.rules.specs.Callers.{caller, put_callers, write_callers_of, write_office_callers}
use Rattle.rules.specs.Rewriting.{widen_script}
use Rattle.rules.specs.Office.{office_records, first_six, nameless}
use Rattle.rules.proofs.TermCode.{two_bytes}
use Rattle.rules.proofs.Scripts.{records_encode}
use Rattle.rules.proofs.Callers.{put_length, put_octets}
use Rattle.rules.proofs.Office.{nameless_records}
use Rattle.rules.proofs.Exports.{present}

module _ (type_bytes : ℕ) (t : Bytes) where
  put_present : (n : ℕ) (s : Bytes) → office_width * n ≤ length s
      → present n (put_callers type_bytes office_width t n s) ≡ put_callers type_bytes script_width t n (present n s)
  unfolding first_six widen_script put_callers
  put_present zero s l = refl
  put_present (suc n) [] l = absurd (omega arith)
  put_present (suc n) (a ∷ []) l = absurd (omega arith)
  put_present (suc n) (a ∷ b ∷ []) l = absurd (omega arith)
  put_present (suc n) (a ∷ b ∷ c ∷ []) l = absurd (omega arith)
  put_present (suc n) (a ∷ b ∷ c ∷ d ∷ []) l = absurd (omega arith)
  put_present (suc n) (a ∷ b ∷ c ∷ d ∷ e ∷ []) l = absurd (omega arith)
  put_present (suc n) (a ∷ b ∷ c ∷ d ∷ e ∷ f ∷ []) l = absurd (omega arith)
  put_present (suc n) (a ∷ b ∷ c ∷ d ∷ e ∷ f ∷ g ∷ []) l = absurd (omega arith)
  put_present (suc n) (a ∷ b ∷ c ∷ d ∷ e ∷ f ∷ g ∷ h ∷ []) l = absurd (omega arith)
  put_present (suc n) (a ∷ b ∷ c ∷ d ∷ e ∷ f ∷ g ∷ h ∷ i ∷ []) l = absurd (omega arith)
  put_present (suc n) (a ∷ b ∷ c ∷ d ∷ e ∷ f ∷ g ∷ h ∷ i ∷ j ∷ s) l = grind (arith, put_present n s (omega arith))

-- the callers in a script's terms
abbrev pub called : ℕ → Bytes → Labels
called type_bytes t = record { property = λ k. k; reader = λ w. w; indirect = λ m. m; recursion = λ i w. caller type_bytes t 11 w i }

-- `count` records b become the bytes a, whatever follows
pub record Puts (type_bytes : ℕ) (t : Bytes) (count : ℕ) (b a : Bytes) : Type 0 where
  pub puts : (m : ℕ) (rest : Bytes) → put_callers type_bytes script_width t (count + m) (b ++ rest) ≡ a ++ put_callers type_bytes script_width t m rest

module _ {type_bytes : ℕ} {t : Bytes} where
  puts_record : (k r ir n c ic : ℕ) → Puts type_bytes t 1 (full_record k r ir n c ic) (full_record k (caller type_bytes t k r n) ir n c ic)
  unfolding put_callers
  puts_record k r ir n c ic = record {
    puts = λ m rest.
        let p : 1 + m ≡ suc m = omega arith in
        ap (λ j. put_callers type_bytes script_width t j (full_record k r ir n c ic ++ rest)) p
        ∙ ap (λ x. full_record k (caller type_bytes t k r x) ir n c ic ++ put_callers type_bytes script_width t m rest) (two_bytes n);
  }

  puts_then : {m n : ℕ} {b b' a a' : Bytes} → Puts type_bytes t m b a → Puts type_bytes t n b' a' → Puts type_bytes t (m + n) (b ++ b') (a ++ a')
  puts_then {m} {n} {b} {b'} {a} {a'} h g = record {
    puts = λ j rest.
        let p : m + n + j ≡ m + (n + j) = omega arith in
        ap₂ (put_callers type_bytes script_width t) p (append_assoc b b' rest) ∙ h.puts (n + j) (b' ++ rest) ∙ ap (λ z. a ++ z) (g.puts j rest)
        ∙ sym (append_assoc a a' (put_callers type_bytes script_width t j rest));
  }

  pub puts_encode : (e : Term) → Puts type_bytes t (size e) (encode e) (encode (relabel (called type_bytes t) e))
  unfolding size encode relabel
  puts_encode (var n) = puts_record 0 0 0 n 0 0
  puts_encode (unit k) = puts_record 1 k.r k.ir 0 k.c k.ic
  puts_encode (lam k i e) = puts_then (puts_record 2 k.r k.ir i k.c k.ic) (puts_encode e)
  puts_encode (pair k a b) = puts_then (puts_record 3 k.r k.ir 0 k.c k.ic) (puts_then (puts_encode a) (puts_encode b))
  puts_encode (inj first k i e) = puts_then (puts_record 4 k.r k.ir i k.c k.ic) (puts_encode e)
  puts_encode (inj second k i e) = puts_then (puts_record 5 k.r k.ir i k.c k.ic) (puts_encode e)
  puts_encode (app w f a) = puts_then (puts_record 6 w 0 0 0 0) (puts_then (puts_encode f) (puts_encode a))
  puts_encode (proj first w e) = puts_then (puts_record 7 w 0 0 0 0) (puts_encode e)
  puts_encode (proj second w e) = puts_then (puts_record 8 w 0 0 0 0) (puts_encode e)
  puts_encode (case w i e a b) = puts_then (puts_record 9 w 0 i 0 0) (puts_then (puts_encode e) (puts_then (puts_encode a) (puts_encode b)))
  puts_encode (protect m e) = puts_then (puts_record 10 0 m.ir 0 0 m.ic) (puts_encode e)
  puts_encode (mu w i e) = puts_then (puts_record 11 w 0 i 0 0) (puts_encode e)
  puts_encode (literal k n) = puts_record 12 k.r k.ir n k.c k.ic
  puts_encode (reckon plus w a b) = puts_then (puts_record 13 w 0 0 0 0) (puts_then (puts_encode a) (puts_encode b))
  puts_encode (reckon (less i) w a b) = puts_then (puts_record 14 w 0 i 0 0) (puts_then (puts_encode a) (puts_encode b))

nothing : (type_bytes : ℕ) (t : Bytes) → put_callers type_bytes script_width t 0 [] ≡ []
unfolding put_callers
nothing type_bytes t = refl

-- a whole script
pub callers_encode : (type_bytes : ℕ) (t : Bytes) (e : Term)
    → write_callers_of type_bytes script_width t (encode e) ≡ encode (relabel (called type_bytes t) e)
callers_encode type_bytes t e =
    let p : records (encode e) ≡ size e + 0 = omega (arith, records_encode e) in
    let new = encode (relabel (called type_bytes t) e) in
    ap₂ (put_callers type_bytes script_width t) p (sym (append-nil (encode e))) ∙ (puts_encode {type_bytes = type_bytes} {t = t} e).puts 0 [] ∙ ap (λ z. new ++ z) (nothing type_bytes t)
    ∙ append-nil new

module _ (t s : Bytes) where
  whole : office_width * office_records s ≤ length s
  whole = omega arith

  pub office_callers_length : length (write_office_callers t s) ≡ length s
  office_callers_length = put_length type_width office_width (omega arith) t (office_records s) s whole

  -- the present form of a script with its callers
  pub nameless_callers : nameless (write_office_callers t s) ≡ write_callers_of type_width script_width t (nameless s)
  unfolding nameless
  nameless_callers = grind (arith, office_callers_length, put_present, nameless_records)
