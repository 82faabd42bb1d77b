-- Parts of lists: what stands at a place, and what follows it.
use Rattle.std.proofs.Common.{◌≡◌, refl, ap, sym, ◌∙◌, List, [], ◌∷◌, ◌++◌, append_assoc, ℕ, ◌+◌, ◌*◌, ◌≤◌, ◌<◌, arith}
use Rattle.std.proofs.Common.{add-zero, length, drop, drop-drop, drop_at, get_or-drop, get_or-take}
use Rattle.std.proofs.Math.ListN.{get_or-append}
use Rattle.rules.specs.Answer.{Bytes, byte}
use Rattle.rules.proofs.Prefix.{All, joined, total, record_at}
use Rattle.std.proofs.lemmas.Grind.{common_steps}

pub all_of : {T : Type 0} (P : T → Type 0) → ((e : T) → P e) → (es : List T) → All P es
all_of P f [] = tt
all_of P f (e ∷ es) = (f e, all_of P f es)

pub all_at : {T : Type 0} (P : T → Type 0) (before : List T) (d : T) (after : List T) → All P (before ++ d ∷ after) → P d
all_at P [] d after h = h.0
all_at P (e ∷ before) d after h = all_at P before d after h.1

pub joined_append : {T : Type 0} (f : T → Bytes) (xs ys : List T) → joined f (xs ++ ys) ≡ joined f xs ++ joined f ys
joined_append f [] ys = refl
joined_append f (x ∷ xs) ys = ap (λ b. f x ++ b) (joined_append f xs ys) ∙ sym (append_assoc (f x) (joined f xs) (joined f ys))

pub total_append : {T : Type 0} (f : T → ℕ) (xs ys : List T) → total f (xs ++ ys) ≡ total f xs + total f ys
total_append f [] ys = omega arith
total_append f (x ∷ xs) ys = omega (arith, total_append f xs ys)

-- what follows `front` where it stands at n
pub past : (s : Bytes) (n m k : ℕ) (front rest : Bytes) → length front ≡ m → k ≡ n + m → drop n s ≡ front ++ rest → drop k s ≡ rest
past s n m k front rest l e h = ap (λ x. drop x s) e ∙ sym (drop-drop m n s) ∙ ap (drop m) h ∙ drop_at front rest m l

-- the first byte of `front` where it stands at n
pub first_byte : (s : Bytes) (n : ℕ) (front rest : Bytes) → 1 ≤ length front → drop n s ≡ front ++ rest → byte s n ≡ byte front 0
first_byte s n front rest l h = grind (arith, common_steps)

-- byte j of record i
pub record_byte : (width : ℕ) (s : Bytes) (i j : ℕ) → j < width → byte (record_at width s i) j ≡ byte s (width * i + j)
record_byte width s i j l = get_or-take width (drop (width * i) s) j 0 l ∙ get_or-drop (width * i) s j 0

pub record_first : (width : ℕ) (s : Bytes) (i : ℕ) → 1 ≤ width → byte (record_at width s i) 0 ≡ byte s (width * i)
record_first width s i l = record_byte width s i 0 l ∙ ap (λ x. byte s x) (add-zero (width * i))
