-- A loop that strips a list from the front, one store a turn.
use Rattle.std.proofs.Common.{◌≡◌, sym, ap, ◌∙◌, cond, [], ◌∷◌, ◌++◌, append_assoc, append-nil, ℕ, zero, suc, ◌+◌, ◌%◌}
use Rattle.std.proofs.Common.{◌<◌, add-one, add-zero, zero-add, arith, length, take, drop, set, get_or, take-suc}
use Rattle.std.proofs.Common.{drop-cons, length-take-le, take_all}
use Rattle.std.proofs.Math.Seq.{set_at, get_or_at, drop-length}
use Rattle.rules.specs.Answer.{Bytes}
use Rattle.rules.specs.Strip.{group_byte, strip_from}
use Rattle.rules.proofs.Strip.{strip_length}

strip_at_from : (w j : ℕ) (s : Bytes) (i : ℕ) → i < length s
    → get_or (strip_from w j s) i 0 ≡ cond (group_byte w ((j + i) % w)) 0 (get_or s i 0)
unfolding strip_from
strip_at_from w j [] i l = absurd (omega arith)
strip_at_from w j (b ∷ s) zero l = ap (λ x. cond (group_byte w (x % w)) 0 b) (sym (add-zero j))
strip_at_from w j (b ∷ s) (suc i) l =
    let p : suc j + i ≡ j + suc i = omega arith in
    strip_at_from w (suc j) s i (omega arith) ∙ ap (λ x. cond (group_byte w (x % w)) 0 (get_or s i 0)) p

strip_at : (w : ℕ) (s : Bytes) (i : ℕ) → i < length s → get_or (strip_from w 0 s) i 0 ≡ cond (group_byte w (i % w)) 0 (get_or s i 0)
strip_at w s i l = strip_at_from w 0 s i l ∙ ap (λ x. cond (group_byte w (x % w)) 0 (get_or s i 0)) (zero-add i)

-- the bytes before n are those of t, the others those of d
abbrev pub stored : ℕ → Bytes → Bytes → Bytes
stored n t d = take n t ++ drop n d

not_yet : (n : ℕ) (t d : Bytes) → length t ≡ length d → n < length d → get_or (stored n t d) n 0 ≡ get_or d n 0
not_yet n t d e l =
    ap (λ x. get_or (take n t ++ x) n 0) (drop-cons d n 0 l)
    ∙ get_or_at (take n t) (get_or d n 0) (drop (suc n) d) 0 n (length-take-le n t (omega arith))

store_more : (n : ℕ) (t d : Bytes) → length t ≡ length d → n < length d → set (stored n t d) n (get_or t n 0) ≡ stored (n + 1) t d
store_more n t d e l =
    rw (add-one, take-suc t n 0 (omega arith), append_assoc, drop-cons d n 0 l)
    (set_at (take n t) (get_or d n 0) (drop (suc n) d) (get_or t n 0) n (length-take-le n t (omega arith)))

-- one store
pub strip_more : (w n v : ℕ) (s d : Bytes) → n < length d → s ≡ stored n (strip_from w 0 d) d
    → v ≡ cond (group_byte w (n % w)) 0 (get_or s n 0) → set s n v ≡ stored (n + 1) (strip_from w 0 d) d
strip_more w n v s d l p q =
    let t = strip_from w 0 d in
    let e = strip_length w 0 d in
    let same : v ≡ get_or t n 0 =
    q ∙ ap (λ x. cond (group_byte w (n % w)) 0 x) (ap (λ x. get_or x n 0) p ∙ not_yet n t d e l) ∙ sym (strip_at w d n l)
    in
    ap (λ x. set x n v) p ∙ ap (λ x. set (stored n t d) n x) same ∙ store_more n t d e l

pub all_stored : (w n : ℕ) (s d : Bytes) → n ≡ length d → s ≡ stored n (strip_from w 0 d) d → s ≡ strip_from w 0 d
all_stored w n s d e p =
    p ∙ ap (λ x. take n (strip_from w 0 d) ++ drop x d) e ∙ ap (λ x. take n (strip_from w 0 d) ++ x) (drop-length d) ∙ append-nil _
    ∙ take_all n (strip_from w 0 d) (omega (arith, strip_length w 0 d))
