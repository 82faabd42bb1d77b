-- Lists of scripts and of amendments: what the entries that pass say, and how many there can be.
use Rattle.std.proofs.Common.{◌≡◌, refl, sym, ap, ◌∙◌, Bool, true, false, not, ◌&&◌, ◌||◌, ℕ, zero, suc, ◌+◌, ◌≤◌, ◌<◌}
use Rattle.std.proofs.Common.{arith, add-one, nat_eq, nat_lt, eqb-true, eq-eqb, ne_eqb, ltb-true, List, [], ◌∷◌, length}
use Rattle.std.proofs.Math.Bool.{false≢true}
use Rattle.std.proofs.Math.Decide.{ℕ_discrete}
use Rattle.std.specs.List.{AllByRecursion, IsDistinct, list_any}
use Rattle.std.proofs.lemmas.Map.Steps.{length-le_from_distinct_below}
use Rattle.calculus.specs.Security.{Security}
use Rattle.calculus.specs.Types.{Ty}
use Rattle.calculus.specs.Subtyping.{subtype}
use Rattle.calculus.specs.Subtyping as directions
use Rattle.rules.specs.Answer.{Bytes, accepted, refused, ◌>>◌, ask}
use Rattle.rules.specs.Limits.{no_script}
use Rattle.rules.specs.Comparison.{same, strictly_below, neither, equal_types, comparison}
use Rattle.rules.specs.InForce.{script_count, entry_first, entry_replaced, among, is_listed, is_replaced, ok40, ok41, ok42, same_or_below, scripts_compared, entry_check, entries_check}
use Rattle.rules.proofs.Asked.{ask_true, and_then}

or_true : (b : Bool) {c : Bool} → c ≡ true → b || c ≡ true
or_true b h = grind arith

-- Is a number among the first n of a column?
module _ (column : ℕ → ℕ) where
  pub among_these : (n i e : ℕ) → e < n → column e ≡ i → among column n i ≡ true
  unfolding among
  among_these zero i e l h = absurd (omega arith)
  among_these (suc n) i e l h =
      elim (ℕ_discrete e n) [
        | yes p ↦ rw (eq-eqb (column n) i (ap column (sym p) ∙ h), among)
        | no d ↦ or_true (nat_eq (column n) i) (among_these n i e (omega arith) h)
      ]

  -- the one that is it
  pub record ColumnEntry (n i : ℕ) : Type 0 where
    pub entry : ℕ
    pub there : entry < n
    pub is : column entry ≡ i

  pub among_at : (n i : ℕ) → among column n i ≡ true → ColumnEntry n i
  unfolding among
  among_at zero i h = absurd (false≢true h)
  among_at (suc n) i h = by (nat_eq (column n) i) refl (among_at n i)
    where
      by : (b : Bool) → nat_eq (column n) i ≡ b → (among column n i ≡ true → ColumnEntry n i) → ColumnEntry (suc n) i
      by true p ih = record { entry = n; there = omega arith; is = eqb-true (column n) i p }
      by false p ih =
          let x = ih (rw (p, among) at h) in
          let l = x.there in
          record { entry = x.entry; there = omega arith; is = x.is }

  pub not_among : (n i e : ℕ) → among column n i ≡ false → e < n → column e ≡ i → ⊥
  not_among n i e h l p = false≢true (sym h ∙ among_these n i e l p)

  pub none_among : (n i : ℕ) → ((e : ℕ) → e < n → column e ≡ i → ⊥) → among column n i ≡ false
  none_among n i h = by (among column n i) refl
    where
      by : (b : Bool) → among column n i ≡ b → among column n i ≡ false
      by true p = let x = among_at n i p in absurd (h x.entry x.there x.is)
      by false p = p

  -- Numbers below a limit of which no two are equal are no more than the limit.
  abbrev taken : ℕ → List ℕ
  taken zero = []
  taken (suc n) = column n ∷ taken n

  taken_length : (n : ℕ) → length (taken n) ≡ n
  taken_length zero = refl
  taken_length (suc n) = ap suc (taken_length n)

  apart : (n q : ℕ) → among column n q ≡ false → AllByRecursion (λ y. nat_eq q y ≡ false) (taken n)
  apart zero q h = tt
  apart (suc n) q h = (ne_eqb q (column n) (λ e. not_among (suc n) q n h (omega arith) (sym e)), apart n q (none_among n q (λ e l p. not_among (suc n) q e h (omega arith) p)))

  distinct : (n : ℕ) → ((e : ℕ) → e < n → among column e (column e) ≡ false) → IsDistinct nat_eq (taken n)
  unfolding IsDistinct
  distinct zero h = tt
  distinct (suc n) h = (apart n (column n) (h n (omega arith)), distinct n (λ e l. h e (omega arith)))

  taken_below : (n limit q : ℕ) → ((e : ℕ) → e < n → column e < limit) → list_any (nat_eq q) (taken n) ≡ true → q < limit
  taken_below zero limit q h p = absurd (false≢true p)
  taken_below (suc n) limit q h p = by (nat_eq q (column n)) refl (taken_below n limit q (λ e l. h e (omega arith)))
    where
      by : (b : Bool) → nat_eq q (column n) ≡ b → (list_any (nat_eq q) (taken n) ≡ true → q < limit) → q < limit
      by true e ih = omega (arith, eqb-true q (column n) e, h n (omega arith))
      by false e ih = ih (rw e at p)

  pub no_more : (n limit : ℕ) → ((e : ℕ) → e < n → column e < limit) → ((e : ℕ) → e < n → among column e (column e) ≡ false) → n ≤ limit
  no_more n limit h d = omega (arith, taken_length n, length-le_from_distinct_below (taken n) limit (distinct n d) (λ q p. taken_below n limit q h p))

-- Neither same nor below is to fail the test of at or below.
pub usable_is : (S : Security) (s t : Ty) → same_or_below (comparison S s t) ≡ subtype S directions.below s t
usable_is S s t = grind arith

both : (a b : Bool) → a && b ≡ true → (a ≡ true) × (b ≡ true)
both a b e = grind arith

not_true : (b : Bool) → not b ≡ true → b ≡ false
not_true b h = grind arith

-- where an entry replaces a script
replacing : (n : ℕ) (b : Bool) → nat_eq n no_script || b ≡ true → (n ≡ no_script → ⊥) → b ≡ true
replacing n b h d = rw (ne_eqb n no_script d) at h

-- What an entry says that passes 40,
pub record Ordered (l a : Bytes) (e : ℕ) : Type 0 where
  pub inside : entry_first a e < script_count l
  pub new : is_listed a e (entry_first a e) ≡ false
  pub older : (entry_replaced a e ≡ no_script → ⊥) → (entry_replaced a e < script_count l) × (is_listed a e (entry_replaced a e) ≡ true)

pub ordered : (l a : Bytes) (e : ℕ) → ok40 l a e ≡ true → Ordered l a e
unfolding ok40
ordered l a e h =
    let first = entry_first a e in
    let old = entry_replaced a e in
    let p = both (nat_lt first (script_count l)) (not (is_listed a e first) && (nat_eq old no_script || nat_lt old (script_count l) && is_listed a e old)) h in
    let q = both (not (is_listed a e first)) (nat_eq old no_script || nat_lt old (script_count l) && is_listed a e old) p.1 in
    record {
      inside = ltb-true first (script_count l) p.0;
      new = not_true (is_listed a e first) q.0;
      older = λ d.
          let x = both (nat_lt old (script_count l)) (is_listed a e old) (replacing old (nat_lt old (script_count l) && is_listed a e old) q.1 d) in
          (ltb-true old (script_count l) x.0, x.1);
    }

-- and one that passes 41 and 42 too
pub record EntryPasses (g t l a : Bytes) (e : ℕ) : Type 0 where
  pub in_order : Ordered l a e
  pub once : (entry_replaced a e ≡ no_script → ⊥) → is_replaced a e (entry_replaced a e) ≡ false
  pub lower : (entry_replaced a e ≡ no_script → ⊥) → same_or_below (scripts_compared g t l (entry_first a e) (entry_replaced a e)) ≡ true

module _ (g t l a : Bytes) where
  pub entry_passes : (e : ℕ) → entry_check g t l a e ≡ accepted tt → EntryPasses g t l a e
  unfolding entry_check ok41 ok42
  entry_passes e h =
      let old = entry_replaced a e in
      let p = and_then (ask 40 e (ok40 l a e)) (◌>>◌ (ask 41 e (ok41 a e)) (ask 42 e (ok42 g t l a e))) h in
      let q = and_then (ask 41 e (ok41 a e)) (ask 42 e (ok42 g t l a e)) p.1 in
      record {
        in_order = ordered l a e (ask_true 40 e (ok40 l a e) p.0);
        once = λ d. not_true (is_replaced a e old) (replacing old (not (is_replaced a e old)) (ask_true 41 e (ok41 a e) q.0) d);
        lower = λ d. replacing old (same_or_below (scripts_compared g t l (entry_first a e) old)) (ask_true 42 e (ok42 g t l a e) q.1) d;
      }

  -- all of the first n pass
  pub all_pass : (n e : ℕ) → entries_check g t l a n ≡ accepted tt → e < n → EntryPasses g t l a e
  unfolding entries_check
  all_pass zero e h m = absurd (omega arith)
  all_pass (suc n) e h m =
      let p = and_then (entries_check g t l a n) (entry_check g t l a n) h in
      elim (ℕ_discrete e n) [
        | yes q ↦ entry_passes e (ap (entry_check g t l a) q ∙ p.1)
        | no d ↦ all_pass n e p.0 (omega arith)
      ]

  -- one more
  pub one_passes : (n : ℕ) → entries_check g t l a n ≡ accepted tt → entry_check g t l a n ≡ accepted tt → entries_check g t l a (n + 1) ≡ accepted tt
  unfolding entries_check
  one_passes n h k = rw (add-one, h) k

  -- and then they are no more than the scripts
  pub few_entries : (n : ℕ) → entries_check g t l a n ≡ accepted tt → n ≤ script_count l
  few_entries n h = no_more (entry_first a) n (script_count l) (λ e m. (all_pass n e h m).in_order.inside) (λ e m. (all_pass n e h m).in_order.new)

  -- A refusal stops the pass: it is that of the entry, which is one of them, and those before it pass.
  pub stopped_at : (n e : ℕ) {q p : ℕ} → e < n → entries_check g t l a e ≡ accepted tt → entry_check g t l a e ≡ refused q p → entries_check g t l a n ≡ refused q p
  unfolding entries_check
  stopped_at zero e m h k = absurd (omega arith)
  stopped_at (suc n) e m h k =
      elim (ℕ_discrete e n) [
        | yes r ↦ rw (sym (ap (entries_check g t l a) r) ∙ h) (sym (ap (entry_check g t l a) r) ∙ k)
        | no d ↦ rw (stopped_at n e (omega arith) h k) refl
      ]
