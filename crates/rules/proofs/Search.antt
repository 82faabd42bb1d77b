-- The search in rising order: what a loop over rows or records needs, whichever the question.
use Rattle.std.proofs.Common.{◌≡◌, refl, ap, sym, ◌∙◌, Bool, true, false, not, ℕ, zero, suc, ◌+◌, ◌≤◌, ◌<◌, arith}
use Rattle.std.proofs.Math.Option.{none, some, Option}
use Rattle.std.proofs.Math.Bool.{false≢true}
use Rattle.std.proofs.Math.Decide.{ℕ_discrete}
use Rattle.rules.specs.Answer.{accepted, refused, first_from, last_below, all_below, is_absent, refused_at, each}

pub from_none : (test : ℕ → Bool) (n i : ℕ) → ((k : ℕ) → i ≤ k → k < i + n → test k ≡ false) → first_from test n i ≡ none
unfolding first_from
from_none test zero i h = refl
from_none test (suc n) i h =
    rw (h i (omega arith) (omega arith), first_from) (from_none test n (suc i) (λ k a b. h k (omega arith) (omega arith)))

pub from_some : (test : ℕ → Bool) (n i j : ℕ) → i ≤ j → j < i + n → ((k : ℕ) → i ≤ k → k < j → test k ≡ false) → test j ≡ true
    → first_from test n i ≡ some j
unfolding first_from
from_some test zero i j a b h e = absurd (omega arith)
from_some test (suc n) i j a b h e =
    elim (ℕ_discrete i j) [
      | yes p ↦ rw (ap test p ∙ e, first_from) (ap some p)
      | no ne ↦ rw (h i (omega arith) (omega arith), first_from) (from_some test n (suc i) j (omega arith) (omega arith) (λ k c d. h k (omega arith) d) e)
    ]

-- every record passes
pub each_accepted : (q n : ℕ) (ok : ℕ → Bool) → ((k : ℕ) → k < n → ok k ≡ true) → each q n ok ≡ accepted tt
each_accepted q n ok h = ap (refused_at q) (from_none (λ i. not (ok i)) n 0 (λ k a b. ap not (h k (omega arith))))

-- two tests that say the same of every record
pub from_same : (test test' : ℕ → Bool) (n i : ℕ) → ((k : ℕ) → i ≤ k → k < i + n → test k ≡ test' k) → first_from test n i ≡ first_from test' n i
unfolding first_from
from_same test test' zero i h = refl
from_same test test' (suc n) i h =
    let rest = from_same test test' n (suc i) (λ k a b. h k (omega arith) (omega arith)) in
    λ j. elim (h i (omega arith) (omega arith) j) [ true ↦ some i | false ↦ rest j ]

pub each_same : (q n : ℕ) (ok ok' : ℕ → Bool) → ((k : ℕ) → k < n → ok k ≡ ok' k) → each q n ok ≡ each q n ok'
each_same q n ok ok' h = grind (arith, from_same)

-- record i is the first that fails
pub each_refused : (q n : ℕ) (ok : ℕ → Bool) (i : ℕ) → i < n → ((k : ℕ) → k < i → ok k ≡ true) → ok i ≡ false → each q n ok ≡ refused q i
each_refused q n ok i l h e =
    ap (refused_at q) (from_some (λ i. not (ok i)) n 0 i (omega arith) (omega arith) (λ k a b. ap not (h k b)) (ap not e))

-- The other way: what an accepted question says of each record.
split : (test : ℕ → Bool) (n i : ℕ) (b : Bool) → test i ≡ b → first_from test (suc n) i ≡ none → (test i ≡ false) × (first_from test n (suc i) ≡ none)
unfolding first_from
split test n i b e q = grind arith

pub from_all : (test : ℕ → Bool) (n i : ℕ) → first_from test n i ≡ none → (k : ℕ) → i ≤ k → k < i + n → test k ≡ false
from_all test zero i q k a b = absurd (omega arith)
from_all test (suc n) i q k a b =
    let p = split test n i (test i) refl q in
    elim (ℕ_discrete i k) [
      | yes e ↦ ap test (sym e) ∙ p.0
      | no ne ↦ from_all test n (suc i) p.1 k (omega arith) (omega arith)
    ]

refused_none : (q : ℕ) (o : Option ℕ) → refused_at q o ≡ accepted tt → o ≡ none
refused_none q o e = grind arith

not-false : (b : Bool) → not b ≡ false → b ≡ true
not-false b e = grind arith

pub each_all : (q n : ℕ) (ok : ℕ → Bool) → each q n ok ≡ accepted tt → (k : ℕ) → k < n → ok k ≡ true
each_all q n ok e k l = not-false (ok k) (from_all (λ i. not (ok i)) n 0 (refused_none q _ e) k (omega arith) (omega arith))

-- The same for a test of all numbers below n.
pub all_below_true : (n : ℕ) (ok : ℕ → Bool) → ((k : ℕ) → k < n → ok k ≡ true) → all_below ok n ≡ true
all_below_true n ok h = ap is_absent (from_none (λ i. not (ok i)) n 0 (λ k a b. ap not (h k (omega arith))))

is_none_none : (o : Option ℕ) → is_absent o ≡ true → o ≡ none
is_none_none o e = grind arith

pub all_below_all : (n : ℕ) (ok : ℕ → Bool) → all_below ok n ≡ true → (k : ℕ) → k < n → ok k ≡ true
all_below_all n ok e k l = not-false (ok k) (from_all (λ i. not (ok i)) n 0 (is_none_none _ e) k (omega arith) (omega arith))

-- A number that the search finds passes the test, stands in the range, and none before it passes.
pub record IsFirst (test : ℕ → Bool) (n i j : ℕ) : Type 0 where
  pub passes : test j ≡ true
  pub low : i ≤ j
  pub high : j < i + n
  pub least : (k : ℕ) → i ≤ k → k < j → test k ≡ false

pub some_inj : {A : Type 0} {a b : A} → some a ≡ some b → a ≡ b
some_inj e = cc

pub none≢some : {A : Type 0} {a : A} → none ≡ some a → ⊥
none≢some p = let x : ◌≡◌ {A = ℕ} 0 1 = cc in omega arith

pub found : (test : ℕ → Bool) (n i j : ℕ) → first_from test n i ≡ some j → IsFirst test n i j
unfolding first_from
found test zero i j e = let x : ◌≡◌ {A = ℕ} 0 1 = cc in absurd (omega arith)
found test (suc n) i j e = here (test i) refl (λ h. found test n (suc i) j h)
  where
    later : test i ≡ false → IsFirst test n (suc i) j → IsFirst test (suc n) i j
    later p f =
        let l = f.low in
        let h = f.high in
        record { passes = f.passes; low = omega arith; high = omega arith; least = λ k a b. before k (ℕ_discrete i k) a b }
      where
        before : (k : ℕ) → Dec (i ≡ k) → i ≤ k → k < j → test k ≡ false
        before k (yes q) a b = ap test (sym q) ∙ p
        before k (no ne) a b = f.least k (omega arith) b

    here : (b : Bool) → test i ≡ b → (first_from test n (suc i) ≡ some j → IsFirst test n (suc i) j) → IsFirst test (suc n) i j
    here true p ih =
        let q : i ≡ j = some_inj (rw (p, first_from) at e) in
        record { passes = ap test (sym q) ∙ p; low = omega arith; high = omega arith; least = λ k a b. absurd (omega arith) }
    here false p ih = later p (ih (rw (p, first_from) at e))

-- The last number that passes: it passes, stands in the range, and none after it passes.
pub record Last (test : ℕ → Bool) (n j : ℕ) : Type 0 where
  pub passes : test j ≡ true
  pub high : j < n
  pub greatest : (k : ℕ) → k < n → test k ≡ true → k ≤ j

-- where some number passes, there is a last one
pub last : {P : Type 0} (test : ℕ → Bool) (n i : ℕ) → i < n → test i ≡ true → ((j : ℕ) → last_below test n ≡ some j → Last test n j → P) → P
unfolding last_below
last test zero i l e κ = absurd (omega arith)
last {P} test (suc n) i l e κ = here (test n) refl (λ a k. last test n i a e k)
  where
    here : (b : Bool) → test n ≡ b → (i < n → ((j : ℕ) → last_below test n ≡ some j → Last test n j → P) → P) → P
    here true p ih = κ n (rw (p, last_below)) (record { passes = p; high = omega arith; greatest = λ k a q. omega arith })
    here false p ih = ih (inside (ℕ_discrete i n)) λ j q x. κ j (rw (p, last_below) q) (wider j x)
      where
        inside : Dec (i ≡ n) → i < n
        inside (yes q) = absurd (false≢true (sym p ∙ (ap test (sym q) ∙ e)))
        inside (no ne) = omega arith

        wider : (j : ℕ) → Last test n j → Last test (suc n) j
        wider j x = let h = x.high in record { passes = x.passes; high = omega arith; greatest = λ k a q. bounded k (ℕ_discrete k n) a q }
          where
            bounded : (k : ℕ) → Dec (k ≡ n) → k < suc n → test k ≡ true → k ≤ j
            bounded k (yes r) a q = absurd (false≢true (sym p ∙ (ap test (sym r) ∙ q)))
            bounded k (no ne) a q = x.greatest k (omega arith) q
