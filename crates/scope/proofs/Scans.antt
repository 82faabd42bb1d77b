-- A scan of what is given of each record: what a walk over a term needs, whichever the question.
use Rattle.std.proofs.Common.{◌≡◌, refl, ap, sym, ◌∙◌, Bool, true, false, not, List, [], ◌∷◌, ◌++◌, ℕ, suc, ◌+◌, length}
use Rattle.std.proofs.Common.{get_or, arith}
use Rattle.std.proofs.Math.Nat.{add-zero, zero-add}
use Rattle.rules.specs.Answer.{Answer, accepted, refused, ask, ◌>>=◌, ◌>>◌, first_from, refused_at, each}
use Rattle.scope.specs.Walk.{scan_records}

abbrev pub then : Answer ℕ → (ℕ → Answer ℕ) → Answer ℕ
then a k = ◌>>=◌ a k

-- a walk's answer, as the answer to its question
abbrev pub finish : Answer ℕ → Answer (Unit {0})
finish (accepted i) = accepted tt
finish (refused q p) = refused q p

pub past_then : (a : Answer ℕ) (j : ℕ) (k : ℕ → Answer ℕ) → a ≡ accepted j → then a k ≡ k j
past_then a j k e = ap (λ x. then x k) e

module _ {A : Type 0} (q : ℕ) (ok : ℕ → A → Bool) where
  scan_yes : (i : ℕ) (n : A) (ns : List A) → ok i n ≡ true → scan_records q ok i (n ∷ ns) ≡ scan_records q ok (suc i) ns
  unfolding scan_records
  scan_yes i n ns p = rw (p, scan_records)

  scan_no : (i : ℕ) (n : A) (ns : List A) → ok i n ≡ false → scan_records q ok i (n ∷ ns) ≡ refused q i
  unfolding scan_records
  scan_no i n ns p = rw (p, scan_records)

  -- the first record is asked, and then those after it
  pub scan_first : (i : ℕ) (n : A) (ns : List A) → scan_records q ok i (n ∷ ns) ≡ ◌>>◌ (ask q i (ok i n)) (scan_records q ok (suc i) ns)
  unfolding scan_records
  scan_first i n ns = go (ok i n)
    where
      go : (b : Bool) → elim b [ true ↦ scan_records q ok (suc i) ns | false ↦ refused q i ] ≡ ◌>>◌ (ask q i b) (scan_records q ok (suc i) ns)
      go true = refl
      go false = refl

  pub scan_nothing : (i : ℕ) → scan_records q ok i [] ≡ accepted i
  unfolding scan_records
  scan_nothing i = refl

  pub scan_append : (i : ℕ) (ns ms : List A) → scan_records q ok i (ns ++ ms) ≡ then (scan_records q ok i ns) (λ j. scan_records q ok j ms)
  unfolding scan_records
  scan_append i [] ms = refl
  scan_append i (n ∷ ns) ms = go (ok i n) refl (scan_append (suc i) ns ms)
    where
      go : (b : Bool) → ok i n ≡ b → scan_records q ok (suc i) (ns ++ ms) ≡ then (scan_records q ok (suc i) ns) (λ j. scan_records q ok j ms)
          → scan_records q ok i (n ∷ (ns ++ ms)) ≡ then (scan_records q ok i (n ∷ ns)) (λ j. scan_records q ok j ms)
      go true p ih = scan_yes i n (ns ++ ms) p ∙ ih ∙ ap (λ x. then x (λ j. scan_records q ok j ms)) (sym (scan_yes i n ns p))
      go false p ih = scan_no i n (ns ++ ms) p ∙ ap (λ x. then x (λ j. scan_records q ok j ms)) (sym (scan_no i n ns p))

  accepted_inj : {a b : ℕ} → accepted a ≡ accepted b → a ≡ b
  accepted_inj e = cc

  refused≢accepted : {p r j : ℕ} → refused p r ≡ accepted j → ⊥
  refused≢accepted e = let x : ◌≡◌ {A = ℕ} 0 1 = cc in omega arith

  pub scan_end : (i j : ℕ) (ns : List A) → scan_records q ok i ns ≡ accepted j → j ≡ i + length ns
  unfolding scan_records
  scan_end i j [] h = let p : i ≡ j = accepted_inj h in omega arith
  scan_end i j (n ∷ ns) h = go (ok i n) refl (λ x. scan_end (suc i) j ns x)
    where
      go : (b : Bool) → ok i n ≡ b → (scan_records q ok (suc i) ns ≡ accepted j → j ≡ suc i + length ns) → j ≡ i + suc (length ns)
      go true p ih = omega (arith, ih (sym (scan_yes i n ns p) ∙ h))
      go false p ih = absurd (refused≢accepted (sym (scan_no i n ns p) ∙ h))

  -- a scan from the first record is a question of each record
  scan_each_from : (d : A) (okk : ℕ → Bool) (ns : List A) (i : ℕ) → ((k : ℕ) → okk (i + k) ≡ ok (i + k) (get_or ns k d))
      → finish (scan_records q ok i ns) ≡ refused_at q (first_from (λ j. not (okk j)) (length ns) i)
  unfolding scan_records first_from
  scan_each_from d okk [] i h = refl
  scan_each_from d okk (n ∷ ns) i h =
      go (ok i n) refl (scan_each_from d okk ns (suc i) (λ k. later k))
    where
      later : (k : ℕ) → okk (suc i + k) ≡ ok (suc i + k) (get_or ns k d)
      later k =
          let p : suc i + k ≡ i + suc k = omega arith in
          ap okk p ∙ h (suc k) ∙ ap (λ x. ok x (get_or ns k d)) (sym p)

      first : okk i ≡ ok i n
      first = ap okk (sym (add-zero i)) ∙ h 0 ∙ ap (λ x. ok x n) (add-zero i)

      go : (b : Bool) → ok i n ≡ b → finish (scan_records q ok (suc i) ns) ≡ refused_at q (first_from (λ j. not (okk j)) (length ns) (suc i))
          → finish (scan_records q ok i (n ∷ ns)) ≡ refused_at q (first_from (λ j. not (okk j)) (suc (length ns)) i)
      go true p ih = ap finish (scan_yes i n ns p) ∙ ih ∙ rw (first ∙ p, first_from)
      go false p ih = ap finish (scan_no i n ns p) ∙ rw (first ∙ p, first_from)

  pub scan_each : (d : A) (o : Answer ℕ) (ns : List A) (n : ℕ) → o ≡ scan_records q ok 0 ns → n ≡ length ns → finish o ≡ each q n (λ k. ok k (get_or ns k d))
  scan_each d o ns n h l =
      ap finish h ∙ scan_each_from d (λ k. ok k (get_or ns k d)) ns 0 (λ k. ap (λ x. ok (0 + k) (get_or ns x d)) (zero-add k))
      ∙ ap (λ x. each q x (λ k. ok k (get_or ns k d))) (sym l)
