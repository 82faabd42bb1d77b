-- Question 13: the lengths of a run's buffers, and a script that fits them.
use Rattle.std.proofs.Common.{◌≡◌, refl, ap, sym, ◌∙◌, ℕ, suc, ◌+◌, ◌/◌, ◌%◌, Bool, true, false, not, ◌&&◌, List, []}
use Rattle.std.proofs.Common.{◌∷◌, length, get_or, nat_eq, nat_le, arith}
use Rattle.std.specs.List.{list_all}
use Rattle.std.proofs.Math.Bool.{and_assoc}
use Rattle.rules.specs.Answer.{Bytes, ask, accepted, first_from, is_absent, all_below}
use Rattle.rules.specs.Limits.{script_width, script_limit}
use Rattle.rules.specs.Script.{q13_of, q13}
use Rattle.rules.proofs.Asked.{ask_true}

-- a test of all elements is one of all indexes
from : (test : ℕ → Bool) (xs : List ℕ) (at : ℕ → ℕ) (i : ℕ) → ((k : ℕ) → at (i + k) ≡ get_or xs k 0)
    → list_all test xs ≡ is_absent (first_from (λ j. not (test (at j))) (length xs) i)
unfolding first_from
from test [] at i h = refl
from test (x ∷ xs) at i h = go (test x) refl (from test xs at (suc i) (λ k. let p : suc i + k ≡ i + suc k = omega arith in ap at p ∙ h (suc k)))
  where
    here : test (at i) ≡ test x
    here = let p : i ≡ i + 0 = omega arith in ap (λ j. test (at j)) p ∙ ap test (h 0)

    go : (b : Bool) → test x ≡ b → list_all test xs ≡ is_absent (first_from (λ j. not (test (at j))) (length xs) (suc i))
        → list_all test (x ∷ xs) ≡ is_absent (first_from (λ j. not (test (at j))) (length (x ∷ xs)) i)
    go true e ih = rw (here, e, first_from) ih
    go false e ih = rw (here, e, first_from)

pub all_rooms : (rooms : List ℕ) (n : ℕ) → list_all (nat_le n) rooms ≡ all_below (λ i. nat_le n (get_or rooms i 0)) (length rooms)
all_rooms rooms n = from (nat_le n) rooms (λ i. get_or rooms i 0) 0 (λ k. let p : 0 + k ≡ k = omega arith in ap (λ j. get_or rooms j 0) p)

-- whole records of this width, 1 to 8,192
abbrev pub whole_records : ℕ → Bytes → Bool
whole_records width s = nat_eq (length s % width) 0 && (nat_le 1 (length s / width) && nat_le (length s / width) script_limit)

pub asked : (width : ℕ) (rooms : List ℕ) (s : Bytes) {w f : Bool} → w ≡ whole_records width s → f ≡ list_all (nat_le (length s)) rooms
    → ask 13 0 (w && f) ≡ q13_of width rooms s
unfolding first_from
asked width rooms s ew ef = rw (ew, ef, all_rooms rooms (length s)) (ap (ask 13 0) (simp and_assoc))

and_first : (a b : Bool) → (a && b) ≡ true → a ≡ true
and_first true b e = refl
and_first false b e = e

-- a script that fits its run's buffers is whole
pub alone : (rooms : List ℕ) (s : Bytes) → q13 rooms s ≡ accepted tt → q13 [] s ≡ accepted tt
alone rooms s e =
    let f = list_all (nat_le (length s)) rooms in
    let w : whole_records script_width s ≡ true = and_first (whole_records script_width s) f (ask_true 13 0 _ (asked script_width rooms s refl refl ∙ e)) in
    sym (asked script_width [] s refl refl) ∙ ap (λ b. ask 13 0 (b && true)) w
